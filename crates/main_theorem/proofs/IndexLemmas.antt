-- Checkpoints that are taken one by one, and what an index part gives.
use Rattle.std.proofs.Common.{◌≡◌, ℕ, ◌+◌, List, [], ◌∷◌, ◌++◌, take, Some, sym, ap, ◌∙◌, subst}
use Rattle.std.specs.Prelude.{slice_get}
use Rattle.store_base.proofs.ListLemmas.{take_next}
use Rattle.layered_index.specs.declared.checkpoint.Checkpoint.{Checkpoint}
use Rattle.layered_index.specs.Checkpoint.{IsInLine}
use Rattle.layered_index.specs.Layers.{Index}
use Rattle.layered_index.proofs.LineLemmas.{in_line_take}

-- it can be put after the front
pub take_next_in_line : (cs xs : List Checkpoint) (i : ℕ) (c : Checkpoint) → xs ≡ take i cs → slice_get cs i ≡ Some c → IsInLine cs → IsInLine (xs ++ c ∷ [])
take_next_in_line cs xs i c front is h =
    subst IsInLine (take_next cs i c is ∙ ap (λ (ys : List Checkpoint). ys ++ c ∷ []) (sym front)) (in_line_take (i + 1) cs h)

-- an index of the front of a list takes the next
pub index_took : (period : ℕ) (cs : List Checkpoint) (i : ℕ) (c : Checkpoint) (old new : Index) → slice_get cs i ≡ Some c → old ≡ record { period = period; checkpoints = take i cs }
    → new ≡ record old { checkpoints = old.checkpoints ++ c ∷ [] } → new ≡ record { period = period; checkpoints = take (i + 1) cs }
index_took period cs i c old new is front put =
    put
    ∙ ap (λ (index : Index). record index { checkpoints = index.checkpoints ++ c ∷ [] }) front
    ∙ ap (λ (xs : List Checkpoint). let index : Index = record { period = period; checkpoints = xs } in index) (sym (take_next cs i c is))
