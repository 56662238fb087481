use Rattle.std.proofs.Common.{length, arith}
use Rattle.layered_index.proofs.NearLemmas.{near_looks_but_one}
use Rattle.layered_index.proofs.rows.seek_near.Goals as goal

pub returns-clause-answer : goal.returns-clause-answer
returns-clause-answer c cs is line = c.halve.ensures.answer cs is line (c.narrow_near-between.ensures.between cs is line)

pub returns-clause-most : goal.returns-clause-most
returns-clause-most c p two = omega (arith, near_looks_but_one p (length c.args.rows.now) two, c.halve.ensures.most, c.narrow_near-between.ensures.most)
