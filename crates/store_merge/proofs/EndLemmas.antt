-- What a merge that ended has put after.
use Rattle.std.proofs.Common.{◌≡◌, ℕ, ◌⊎◌, inl, inr, Bool, List, ◌++◌, length, take, Option, Some, refl, sym, ◌∙◌, ap, subst}
use Rattle.std.proofs.lemmas.Bool.{cases_lt}
use Rattle.std.proofs.lemmas.Option.{get_or_from_slice_get, slice_get_past}
use Rattle.std.specs.Prelude.{IfSome, slice_get}
use Rattle.std.specs.List.{AllByRecursion}
use Rattle.store_base.proofs.ListLemmas.{all_take}
use Rattle.store_base.specs.declared.error.StoreError.{StoreError}
use Rattle.store_base.specs.declared.error.StoreError.TheVariants.{ShortFile, BadVersion, BadBlockKind, BadOffset, BadIndex, InvalidArgument, DamagedDocument, BadDocument, Read, Memory, OldVersion}
use Rattle.store_base.specs.declared.error.StoreError.TheVariants.{Unserializable, BlockTooLarge, TooManyDocs, Failed, BadPeriod}
use Rattle.store_format.specs.Block.{Slot}
use Rattle.docstore.specs.Laws.{taken, StackedSlotsAreCounted}
use Rattle.store_reader.specs.Reading.{Reading}
use Rattle.docstore.specs.Writer.{Writing}
use Rattle.store_merge.specs.declared.input.MergeInput.{MergeInput}
use Rattle.store_merge.specs.declared.merge_error.MergeError.{MergeError}
use Rattle.store_merge.specs.declared.stacking.Stacking.{Stacking}
use Rattle.store_merge.specs.declared.stacking.Stacking.TheVariants.{Whole, InParts}
use Rattle.store_merge.specs.Stacking.{Leaves}
use Rattle.store_merge.specs.Choice.{alive_slots}
use Rattle.store_reader.specs.Iteration.{flags_of}
use Rattle.store_merge.specs.Refusals.{RefusesBytes, RefusesStore, RefusesInput, StopsAt}
use Rattle.store_merge.specs.Merge.{IsHonest, IsEnded, IsFailed, HasBegun}
use Rattle.store_merge.proofs.CopyLemmas.{same_failure}
use Rattle.store_merge.proofs.HonestLemmas.{all_slots}
use Rattle.store_merge.proofs.MergeLemmas.{all_at, merged_failure}

-- ---- refusals that leave the writer as failed as it was

abbrev pub IsUnfailed : StoreError → Writing → Writing → Type 0
IsUnfailed e old new = IsFailed e ⊎ (new.output.failure ≡ old.output.failure)

failure_of : (old new : Writing) → new ≡ old → new.output.failure ≡ old.output.failure
failure_of old new same = ap (λ (w : Writing). w.output.failure) same

unfailed_bytes : (bytes : List ℕ) (old new : Writing) (e : StoreError) → RefusesBytes bytes old new e → IsUnfailed e old new
unfailed_bytes bytes old new Memory h = inr (failure_of old new h.1)
unfailed_bytes bytes old new TooManyDocs h = inr (failure_of old new h.2)
unfailed_bytes bytes old new BlockTooLarge h = inr (failure_of old new h.1)
unfailed_bytes bytes old new (Failed cause) h = inl (cause, refl)
unfailed_bytes bytes old new (ShortFile k) h = absurd h
unfailed_bytes bytes old new (BadVersion k) h = absurd h
unfailed_bytes bytes old new (BadBlockKind k) h = absurd h
unfailed_bytes bytes old new BadOffset h = absurd h
unfailed_bytes bytes old new BadIndex h = absurd h
unfailed_bytes bytes old new (InvalidArgument k) h = absurd h
unfailed_bytes bytes old new (DamagedDocument k) h = absurd h
unfailed_bytes bytes old new BadDocument h = absurd h
unfailed_bytes bytes old new OldVersion h = absurd h
unfailed_bytes bytes old new Unserializable h = absurd h
unfailed_bytes bytes old new (BadPeriod k) h = absurd h
unfailed_bytes bytes old new Read h = absurd h

unfailed_left : (stacking : Stacking) (reader : Reading) (old new : Writing) → Leaves stacking reader old new → new.output.failure ≡ old.output.failure
unfailed_left Whole reader old new h = ap (λ (w : Writing). w.output.failure) h.1
unfailed_left (InParts size) reader old new h = ap (λ (w : Writing). w.output.failure) h.after

unfailed_store : (stacking : Stacking) (reader read : Reading) (old new : Writing) (e : StoreError) → RefusesStore (Leaves stacking) reader read old new e → IsUnfailed e old new
unfailed_store stacking reader read old new TooManyDocs h = inr (failure_of old new h.1)
unfailed_store stacking reader read old new Memory h = inr (unfailed_left stacking reader old new h.0)
unfailed_store stacking reader read old new Read h = inr (unfailed_left stacking reader old new h.0)
unfailed_store stacking reader read old new (Failed cause) h = inl (cause, refl)
unfailed_store stacking reader read old new (ShortFile k) h = absurd h
unfailed_store stacking reader read old new (BadVersion k) h = absurd h
unfailed_store stacking reader read old new (BadBlockKind k) h = absurd h
unfailed_store stacking reader read old new BadOffset h = absurd h
unfailed_store stacking reader read old new BadIndex h = absurd h
unfailed_store stacking reader read old new (InvalidArgument k) h = absurd h
unfailed_store stacking reader read old new (DamagedDocument k) h = absurd h
unfailed_store stacking reader read old new BadDocument h = absurd h
unfailed_store stacking reader read old new OldVersion h = absurd h
unfailed_store stacking reader read old new Unserializable h = absurd h
unfailed_store stacking reader read old new (BadPeriod k) h = absurd h
unfailed_store stacking reader read old new BlockTooLarge h = absurd h

unfailed_stop : (set : Option (ℕ → Bool)) (reader read : Reading) (old new : Writing) (e : StoreError) → StopsAt set reader read old new e → IsUnfailed e old new
unfailed_stop set reader read old new e s =
    let before_is : s.before.output.failure ≡ old.output.failure = ap (λ (w : Writing). w.output.failure) s.copied.after ∙ same_failure old s.copied.docs in
    elim s.cause [
      | inl c ↦ inr (failure_of s.before new c.1 ∙ before_is)
      | inr c ↦ elim (unfailed_bytes c.bytes s.before new e c.refused) [
        | inl failed ↦ inl failed
        | inr same ↦ inr (same ∙ before_is)
      ]
    ]

unfailed_input : {H : Type 0} (stacking : Stacking) (x left : MergeInput H) (old new : Writing) (e : StoreError) → RefusesInput (Leaves stacking) x left old new e → IsUnfailed e old new
unfailed_input stacking x left old new e h = elim h [
  | inl s ↦ unfailed_store stacking x.reader left.reader old new e s.1
  | inr s ↦ unfailed_stop (flags_of x.alive) x.reader left.reader old new e s.1
]

pub unfailed_end : {H : Type 0} (stacking : Stacking) (inputs left : List (MergeInput H)) (old new : Writing) (e : MergeError) → IsEnded (Leaves stacking) inputs left old new e
    → IsUnfailed e.error old new
unfailed_end stacking inputs left old new e h = elim (unfailed_input stacking h.named h.rest h.before new e.error h.refused) [
  | inl failed ↦ inl failed
  | inr same ↦ inr (same ∙ merged_failure old h.before (take e.input inputs) h.taken_before)
]

-- ---- what has come of honest files

all_get : {A : Type 0} (P : A → Type 0) (xs : List A) (i : ℕ) (x : A) → slice_get xs i ≡ Some x → AllByRecursion P xs → P x
all_get P xs i x is h = elim (cases_lt i (length xs)) [
  | inl lt ↦ subst P (get_or_from_slice_get xs i x x is) (all_at P xs i x h lt)
  | inr le ↦ absurd (let none = slice_get_past xs i le in let p = sym none ∙ is in cc)
]

pub begun : {H : Type 0} → StackedSlotsAreCounted → (stacking : Stacking) (inputs left : List (MergeInput H)) (old new : Writing) (e : MergeError) → AllByRecursion IsHonest inputs
    → IsEnded (Leaves stacking) inputs left old new e
    → IsFailed e.error ⊎ HasBegun inputs e.input old new
begun law stacking inputs left old new e honest h = elim (unfailed_input stacking h.named h.rest h.before new e.error h.refused) [
  | inl failed ↦ inl failed
  | inr same ↦
      let grown = h.more same in
      let front = take e.input inputs in
      inr (record {
        more = grown.more;
        grown = grown.grown ∙ ap (λ (ss : List Slot). ss ++ grown.more) (h.taken_before.grown
            ∙ ap (λ (ss : List Slot). taken old ++ ss) (all_slots law front h.taken_before.parts (all_take IsHonest e.input inputs honest) h.taken_before.came));
        front = subst (λ x. IfSome x (λ x. (rest : List Slot) × (alive_slots x ≡ grown.more ++ rest))) (sym h.is_named) (grown.front (all_get IsHonest inputs e.input h.named h.is_named honest));
      })
]
