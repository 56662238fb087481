use Rattle.std.proofs.Common.{◌≡◌, ◌≢◌, ◌∙◌, ◌∷◌, ◌++◌, [], ℕ, List, Option, Some, None, inr, ⊎_elim, refl, sym, ap, subst, string_bytes, unwrap_or}
use Rattle.std.specs.Prelude.{Vec, String}
use Rattle.std.specs.declared.alloc.Global.{Global}
use Rattle.store_folder.specs.Folder.{Look, LeadsTo}
use Rattle.store_folder.proofs.NamesLemmas.{decided}
use Rattle.torn_folder.specs.Torn.{seen_by, held_by, left_by, moved_holds, or_else, put, put_there, put_elsewhere, new_holds, possible_look}
use Rattle.torn_folder.specs.Kept.{leads_some}
use Rattle.torn_folder.specs.declared.Event.{Event}
use Rattle.torn_folder.specs.declared.Event.TheVariants.{Created, Appended, Moved, FolderSynced}
use Rattle.torn_folder.proofs.wrong.folder_sync_alone_tears.Goals as goal

module _ (events : List Event) (beside name : String Global) (bytes : Vec ℕ Global) (torn : List ℕ) (apart : string_bytes beside ≢ string_bytes name) where
  abbrev b : List ℕ
  b = string_bytes beside

  abbrev n : List ℕ
  n = string_bytes name

  abbrev made : List Event
  made = Created beside ∷ events

  abbrev before : List Event
  before = FolderSynced ∷ Appended beside bytes ∷ made

  abbrev moved : List Event
  moved = Moved beside name ∷ before

  abbrev whole : List ℕ
  whole = unwrap_or (seen_by made b) [] ++ bytes.items

  abbrev rest : Look
  rest = put b None (seen_by before)

  abbrev file : Option (List ℕ)
  file = or_else (seen_by before b) (seen_by before n)

  abbrev left : Look
  left = put n (Some torn) (seen_by moved)

  beside_is : seen_by before b ≡ Some whole
  beside_is = put_there b (Some whole) (seen_by made)

  name_is : seen_by moved n ≡ Some whole
  name_is = put_there n file rest ∙ ap (λ (o : Option (List ℕ)). or_else o (seen_by before n)) beside_is

  holds : held_by moved n torn
  holds = (
    λ _. subst (λ (o : Option (List ℕ)). moved_holds o (held_by before b torn) (held_by before n torn)) (sym beside_is) (new_holds beside bytes events torn),
    λ ne. absurd (ne refl),
  )

  at_name : LeadsTo (seen_by moved n) (held_by moved n) (left n)
  at_name = leads_some (seen_by moved n) (left n) (held_by moved n) whole torn name_is holds (put_there n (Some torn) (seen_by moved))

  at_each : (m : List ℕ) → LeadsTo (seen_by moved m) (held_by moved m) (left m)
  at_each m = ⊎_elim
      (λ e. subst (λ (k : List ℕ). LeadsTo (seen_by moved k) (held_by moved k) (left k)) e at_name)
      (λ ne. subst (λ (o : Option (List ℕ)). LeadsTo (seen_by moved m) (held_by moved m) o) (sym (put_elsewhere n (Some torn) (seen_by moved) m (λ e. ne (sym e))))
      ((possible_look (FolderSynced ∷ moved)).1 m))
      (decided n m)

  all : (c : Look) × left_by (FolderSynced ∷ moved) c × (c n ≡ Some torn)
  all = (
    left,
    (
      (
        seen_by before,
        possible_look before,
        record {
          at_new_name = inr (torn, new_holds beside bytes events torn, put_there n (Some torn) (seen_by moved));
          elsewhere = λ m nf nt.
              put_elsewhere n (Some torn) (seen_by moved) m nt
              ∙ put_elsewhere n file rest m nt
              ∙ put_elsewhere b None (seen_by before) m nf;
        },
      ),
      at_each,
    ),
    put_there n (Some torn) (seen_by moved),
  )

pub returns : goal.returns
returns c = λ events beside name bytes torn apart. all events beside name bytes torn apart
