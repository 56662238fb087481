use Rattle.std.proofs.Common.{length, refl, sym, ◌∙◌, arith}
use Rattle.std.proofs.lemmas.Bool.{eqb-false}
use Rattle.layered_index.specs.Rows.{lower_texts}
use Rattle.layered_index.proofs.IndexHeadLemmas.{none_left}
use Rattle.layered_index.proofs.index_slice.IndexSlice.checkpoints.Goals as goal

pub returns-then-not-is_empty-clause-answer : goal.returns-then-not-is_empty-clause-answer
returns-then-not-is_empty-clause-answer c cs is =
    let p = c.in_ok-passed.passed in
    let none = none_left p.place p.ends.now p.texts.now (lower_texts c.args.self.now.period 0 cs) (c.in_ok-passed.ensures.left cs is (omega arith)) in
    absurd (eqb-false (length p.texts.now) 0 (sym c.if-not-is_empty.ensures) none.1)

pub returns-clause-answer : goal.returns-clause-answer
returns-clause-answer c cs is = c.new.ensures ∙ c.in_ok-passed.ensures.bottom cs is refl
