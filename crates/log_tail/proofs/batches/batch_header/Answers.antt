use Rattle.std.proofs.Common.{◌≡◌, ◌+◌, ◌++◌, ◌∷◌, length, ◌∙◌, ap, arith, length-append}
use Rattle.std.specs.Prelude.{slice_index_or}
use Rattle.log_tail.specs.Tail.{four, eight, sum_of}
use Rattle.log_tail.proofs.batches.batch_header.Goals as goal

pub returns-clause-header : goal.returns-clause-header
unfolding four eight
returns-clause-header c =
    let body = c.args.body.now in
    let sum = c.to_le_bytes-sum.result in
    let whole : 8 + length body ≡ length (eight (sum_of body) ++ body) = omega (arith, length-append (eight (sum_of body)) body) in
    ap (λ l. 1 ∷ slice_index_or l 0 0 ∷ slice_index_or l 1 0 ∷ slice_index_or l 2 0 ∷ slice_index_or l 3 0
    ∷ slice_index_or sum 0 0 ∷ slice_index_or sum 1 0 ∷ slice_index_or sum 2 0 ∷ slice_index_or sum 3 0
    ∷ slice_index_or sum 4 0 ∷ slice_index_or sum 5 0 ∷ slice_index_or sum 6 0 ∷ slice_index_or sum 7 0 ∷ body) c.to_le_bytes-len.ensures
    ∙ ap (λ s. 1 ∷ four (8 + length body) ++ slice_index_or s 0 0 ∷ slice_index_or s 1 0 ∷ slice_index_or s 2 0 ∷ slice_index_or s 3 0
    ∷ slice_index_or s 4 0 ∷ slice_index_or s 5 0 ∷ slice_index_or s 6 0 ∷ slice_index_or s 7 0 ∷ body) (c.to_le_bytes-sum.ensures ∙ ap eight c.sum_over.ensures)
    ∙ ap (λ n. 1 ∷ four n ++ eight (sum_of body) ++ body) whole
