-- Passing over checkpoints one after the other, as a loop does.
use Rattle.std.proofs.Common.{◌≡◌, ℕ, suc, ◌-◌, ◌+◌, ◌≤◌, ◌<◌, List, ◌∷◌, Option, Some, None, refl, sym, ◌∙◌, arith}
use Rattle.store_base.specs.VInt.{◌>>=◌}
use Rattle.layered_index.specs.declared.checkpoint.Checkpoint.{Checkpoint}
use Rattle.layered_index.specs.BlockReading.{step_at, steps_at}
use Rattle.layered_index.specs.BlockReading.{ends_of}

regroup : (doc byte : ℕ) (c : Checkpoint) (read : Option (List Checkpoint × List ℕ)) → ends_of doc byte (read >>= λ x. Some (c ∷ x.0, x.1)) ≡ ends_of c.doc_range.end c.byte_range.end read
regroup doc byte c (Some x) = refl
regroup doc byte c None = refl

pub goes_on : (count i doc byte : ℕ) (bytes : List ℕ) (c : Checkpoint) (after : List ℕ) (total : Option (ℕ × ℕ × List ℕ)) → i < count → step_at doc byte bytes ≡ Some (c, after)
    → ends_of doc byte (steps_at (count - i) doc byte bytes) ≡ total → ends_of c.doc_range.end c.byte_range.end (steps_at (count - (i + 1)) c.doc_range.end c.byte_range.end after) ≡ total
unfolding steps_at
goes_on count i doc byte bytes c after total lt h so_far =
    let k : count - i ≡ suc (count - (i + 1)) = omega arith in
    let one : ends_of doc byte (steps_at (count - i) doc byte bytes) ≡ ends_of c.doc_range.end c.byte_range.end (steps_at (count - (i + 1)) c.doc_range.end c.byte_range.end after) =
    rw (k, h) (regroup doc byte c (steps_at (count - (i + 1)) c.doc_range.end c.byte_range.end after)) in
    sym one ∙ so_far

pub ends : (count i doc byte : ℕ) (bytes : List ℕ) (total : Option (ℕ × ℕ × List ℕ)) → i < count → step_at doc byte bytes ≡ None → ends_of doc byte (steps_at (count - i) doc byte bytes) ≡ total
    → total ≡ None
unfolding steps_at
ends count i doc byte bytes total lt h so_far =
    let k : count - i ≡ suc (count - (i + 1)) = omega arith in
    let one : ends_of doc byte (steps_at (count - i) doc byte bytes) ≡ None = rw (k, h) refl in
    sym so_far ∙ one

pub is_done : (count i doc byte : ℕ) (bytes : List ℕ) (total : Option (ℕ × ℕ × List ℕ)) → count ≤ i → ends_of doc byte (steps_at (count - i) doc byte bytes) ≡ total → total ≡ Some (doc, byte, bytes)
unfolding steps_at
is_done count i doc byte bytes total le so_far =
    let k : count - i ≡ 0 = omega arith in
    let one : ends_of doc byte (steps_at (count - i) doc byte bytes) ≡ Some (doc, byte, bytes) = rw k refl in
    sym so_far ∙ one
