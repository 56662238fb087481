-- Lists in line, seen as a block of checkpoints.
use Rattle.std.proofs.Common.{◌≡◌, ℕ, ◌-◌, List, [], ◌∷◌, length, Some, slice_get, ap, subst, arith}
use Rattle.layered_index.specs.declared.checkpoint.Checkpoint.{Checkpoint}
use Rattle.layered_index.specs.Checkpoint.{docs_end, doc_interval}

docs_end_last : (doc : ℕ) (c : Checkpoint) (cs : List Checkpoint) (last : Checkpoint) → slice_get (c ∷ cs) (length cs) ≡ Some last → docs_end doc (c ∷ cs) ≡ last.doc_range.end
docs_end_last doc c [] last e = let same : c ≡ last = cc in ap (λ (x : Checkpoint). x.doc_range.end) same
docs_end_last doc c (x ∷ xs) last e = docs_end_last c.doc_range.end x xs last e

-- the documents of a block by its first and its last checkpoint
pub interval_is : (cs : List Checkpoint) (first last : Checkpoint) → slice_get cs 0 ≡ Some first → slice_get cs (length cs - 1) ≡ Some last
    → doc_interval cs ≡ Some (record { start = first.doc_range.start; end = last.doc_range.end })
interval_is [] first last e f = cc
interval_is (c ∷ cs) first last e f =
    let here : c ≡ first = cc in
    let place : length (c ∷ cs) - 1 ≡ length cs = omega arith in
    let end = docs_end_last 0 c cs last (subst (λ (n : ℕ). slice_get (c ∷ cs) n ≡ Some last) place f) in
    λ i. Some (record { start = (here i).doc_range.start; end = end i })
