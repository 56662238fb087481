-- Reading checkpoints one after the other, as a loop does.
use Rattle.std.proofs.Common.{◌≡◌, ℕ, suc, ◌-◌, ◌+◌, ◌≤◌, ◌<◌, List, [], ◌∷◌, ◌++◌, Option, Some, None, refl, sym, ap, ◌∙◌, arith}
use Rattle.std.proofs.lemmas.List.{append-nil}
use Rattle.layered_index.specs.declared.checkpoint.Checkpoint.{Checkpoint}
use Rattle.layered_index.specs.BlockReading.{step_at, steps_at}
use Rattle.layered_index.proofs.FrontLemmas.{with_front, regroup}

pub goes_on : (front : List Checkpoint) (count i doc byte : ℕ) (bytes : List ℕ) (c : Checkpoint) (after : List ℕ) (total : Option (List Checkpoint × List ℕ)) → i < count
    → step_at doc byte bytes ≡ Some (c, after)
    → with_front front (steps_at (count - i) doc byte bytes) ≡ total → with_front (front ++ c ∷ []) (steps_at (count - (i + 1)) c.doc_range.end c.byte_range.end after) ≡ total
unfolding steps_at
goes_on front count i doc byte bytes c after total lt h so_far =
    let k : count - i ≡ suc (count - (i + 1)) = omega arith in
    let one : with_front front (steps_at (count - i) doc byte bytes) ≡ with_front (front ++ c ∷ []) (steps_at (count - (i + 1)) c.doc_range.end c.byte_range.end after) =
    rw (k, h) (regroup front c (steps_at (count - (i + 1)) c.doc_range.end c.byte_range.end after)) in
    sym one ∙ so_far

pub ends : (front : List Checkpoint) (count i doc byte : ℕ) (bytes : List ℕ) (total : Option (List Checkpoint × List ℕ)) → i < count → step_at doc byte bytes ≡ None
    → with_front front (steps_at (count - i) doc byte bytes) ≡ total → total ≡ None
unfolding steps_at
ends front count i doc byte bytes total lt h so_far =
    let k : count - i ≡ suc (count - (i + 1)) = omega arith in
    let one : with_front front (steps_at (count - i) doc byte bytes) ≡ None = rw (k, h) refl in
    sym so_far ∙ one

pub is_done : (front : List Checkpoint) (count i doc byte : ℕ) (bytes : List ℕ) (total : Option (List Checkpoint × List ℕ)) → count ≤ i → with_front front (steps_at (count - i) doc byte bytes) ≡ total
    → total ≡ Some (front, bytes)
unfolding steps_at
is_done front count i doc byte bytes total le so_far =
    let k : count - i ≡ 0 = omega arith in
    let one : with_front front (steps_at (count - i) doc byte bytes) ≡ Some (front, bytes) = rw k (ap (λ (cs : List Checkpoint). Some (cs, bytes)) (append-nil front)) in
    sym so_far ∙ one
