use Rattle.std.proofs.Common.{◌++◌, ◌∷◌, [], ◌∙◌, ap, slice_index_or}
use Rattle.log_tail.specs.Tail.{four, eight}
use Rattle.log_tail.proofs.heads.head_body.Goals as goal

pub returns : goal.returns
unfolding four eight
returns c =
    let place = c.to_le_bytes-place.result in
    let len = c.to_le_bytes-len.result in
    ap (λ f. 255 ∷ 255 ∷ 255 ∷ 255 ∷ slice_index_or f 0 0 ∷ slice_index_or f 1 0 ∷ slice_index_or f 2 0 ∷ slice_index_or f 3 0
    ∷ slice_index_or f 4 0 ∷ slice_index_or f 5 0 ∷ slice_index_or f 6 0 ∷ slice_index_or f 7 0
    ∷ slice_index_or place 0 0 ∷ slice_index_or place 1 0 ∷ slice_index_or place 2 0 ∷ slice_index_or place 3 0
    ∷ slice_index_or place 4 0 ∷ slice_index_or place 5 0 ∷ slice_index_or place 6 0 ∷ slice_index_or place 7 0
    ∷ slice_index_or len 0 0 ∷ slice_index_or len 1 0 ∷ slice_index_or len 2 0 ∷ slice_index_or len 3 0 ∷ []) c.to_le_bytes-first.ensures
    ∙ ap (λ p. 255 ∷ 255 ∷ 255 ∷ 255 ∷ eight c.args.first ++ slice_index_or p 0 0 ∷ slice_index_or p 1 0 ∷ slice_index_or p 2 0 ∷ slice_index_or p 3 0
    ∷ slice_index_or p 4 0 ∷ slice_index_or p 5 0 ∷ slice_index_or p 6 0 ∷ slice_index_or p 7 0
    ∷ slice_index_or len 0 0 ∷ slice_index_or len 1 0 ∷ slice_index_or len 2 0 ∷ slice_index_or len 3 0 ∷ []) c.to_le_bytes-place.ensures
    ∙ ap (λ l. 255 ∷ 255 ∷ 255 ∷ 255 ∷ eight c.args.first
    ++ (eight c.args.place ++ slice_index_or l 0 0 ∷ slice_index_or l 1 0 ∷ slice_index_or l 2 0 ∷ slice_index_or l 3 0 ∷ [])) c.to_le_bytes-len.ensures
