-- What a look sees after the calls are made again in a folder in memory.
use Rattle.std.proofs.Common.{◌≡◌, ℕ, List, [], ◌∷◌, ◌++◌, Option, Some, inl, inr, sym, ◌∙◌, ap, subst, string_bytes, nat_eq}
use Rattle.std.specs.Prelude.{if◌then◌else◌, unwrap_or, String, Vec}
use Rattle.std.specs.declared.alloc.Global.{Global}
use lib.Pointwise.{pointwise}
use Rattle.store_folder.specs.Folder.{Look, Elsewhere}
use Rattle.store_folder.specs.Changes.{Is}
use Rattle.store_folder.proofs.NamesLemmas.{decided}
use Rattle.torn_folder.specs.Torn.{put, put_there, put_elsewhere, seen_by}
use Rattle.torn_folder.specs.declared.Event.{Event}
use Rattle.torn_folder.specs.declared.Event.TheVariants.{Appended}

-- a file is put under one name
pub placed : (name : List ℕ) (file : Option (List ℕ)) (old new : Look) → new name ≡ file → Elsewhere name old new → Is (put name file old) new
placed name file old new at elsewhere n = elim (decided n name) [
  | inl e ↦ subst (λ (k : List ℕ). new k ≡ put name file old k) (sym e) (at ∙ sym (put_there name file old))
  | inr ne ↦ elsewhere n ne ∙ sym (put_elsewhere name file old n ne)
]

-- an appending that is made again
pub appended_again : (name : String Global) (more : Vec ℕ Global) (events : List Event) (m bytes : List ℕ) (old new : Look) → m ≡ string_bytes name → bytes ≡ more.items
    → Is (put m (Some (unwrap_or (old m) [] ++ bytes)) old) new → Is (seen_by events) old → Is (seen_by (Appended name more ∷ events)) new
appended_again name more events m bytes old new name_is bytes_is put_is was n =
    let k = string_bytes name in
    put_is n
    ∙ ap (λ (x : List ℕ). put x (Some (unwrap_or (old x) [] ++ bytes)) old n) name_is
    ∙ ap (λ (xs : List ℕ). put k (Some (unwrap_or (old k) [] ++ xs)) old n) bytes_is
    ∙ ap (λ (o : Option (List ℕ)). put k (Some (unwrap_or o [] ++ more.items)) old n) (was k)
    ∙ ap (λ (o : Option (List ℕ)). if pointwise nat_eq k n then Some (unwrap_or (seen_by events k) [] ++ more.items) else o) (was n)
