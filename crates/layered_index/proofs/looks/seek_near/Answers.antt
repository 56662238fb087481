use Rattle.std.proofs.Common.{◌≡◌, ◌<◌, List, length, sym, ap, ◌∙◌, arith}
use Rattle.layered_index.specs.declared.checkpoint.Checkpoint.{Checkpoint}
use Rattle.layered_index.specs.Checkpoint.{first_past}
use Rattle.layered_index.proofs.HalvingLemmas.{none_following}
use Rattle.layered_index.proofs.NearLemmas.{near_looks, near_looks_but_one}
use Rattle.layered_index.proofs.looks.seek_near.Goals as goal

pub returns-then-place-len-clause-most : goal.returns-then-place-len-clause-most
returns-then-place-len-clause-most g c =
    let n = length (g.S.Looks.list c.args.source.now) in
    let some : 0 < n = omega (arith, c.if-place-len.true, c.len-len.ensures.len) in
    λ p two. omega (arith, near_looks p n two some, c.look.ensures.looks, c.halve-place.ensures.most, c.narrow_near-between.ensures.most)

pub returns-else-place-len-clause-answer : goal.returns-else-place-len-clause-answer
returns-else-place-len-clause-answer g c =
    let s = g.S.Looks in
    let between = c.narrow_near-between in
    let cs = s.list between.new.source in
    let cs_len : length cs ≡ c.len-len.result = ap (λ (xs : List Checkpoint). length xs) between.ensures.list ∙ sym c.len-len.ensures.len in
    sym (none_following cs c.halve-place.result.place (omega (arith, cs_len, c.if-place-len.false)))
    ∙ c.halve-place.ensures.answer
    ∙ ap (λ (xs : List Checkpoint). first_past xs c.args.target) between.ensures.list

pub returns-else-place-len-clause-most : goal.returns-else-place-len-clause-most
returns-else-place-len-clause-most g c =
    let n = length (g.S.Looks.list c.args.source.now) in
    λ p two. omega (arith, near_looks_but_one p n two, c.halve-place.ensures.most, c.narrow_near-between.ensures.most)
