use Rattle.std.proofs.Common.{◌≡◌, ◌-◌, length, inl, inr, sym, ap, ◌∙◌, arith}
use Rattle.std.proofs.lemmas.Bool.{cases_lt}
use Rattle.layered_index.specs.Layers.{digit_count}
use Rattle.layered_index.proofs.DigitLemmas.{binary_digits}
use Rattle.layered_index.proofs.HalvingLemmas.{all_between, none_following}
use Rattle.layered_index.proofs.looks.seek_over.Goals as goal

pub halve-requires-clause-between : goal.halve-requires-clause-between
halve-requires-clause-between g c = all_between (g.S.Looks.list c.args.source.now) c.args.target _ c.len-len.ensures.len

pub returns-clause-answer : goal.returns-clause-answer
returns-clause-answer g c =
    let cs = g.S.Looks.list c.args.source.now in
    let halved = c.halve.result in
    elim (cases_lt halved.place (length cs)) [
      | inl below ↦ c.halve.ensures.found (omega (arith, below, c.len-len.ensures.len)) ∙ c.halve.ensures.answer
      | inr past ↦
          let last : halved.place ≡ c.len-len.result = omega (arith, past, c.len-len.ensures.len, c.halve.ensures.few) in
          c.halve.ensures.none last ∙ sym (none_following cs halved.place (omega (arith, past))) ∙ c.halve.ensures.answer
    ]

pub returns-clause-most : goal.returns-clause-most
returns-clause-most g c =
    let n = length (g.S.Looks.list c.args.source.now) in
    let all : c.len-len.result - 0 ≡ n = omega (arith, c.len-len.ensures.len) in
    λ p two. omega (arith, c.halve.ensures.most, binary_digits p n two, ap (digit_count 2) all)
