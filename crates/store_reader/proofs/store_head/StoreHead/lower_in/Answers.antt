use Rattle.std.proofs.Common.{arith}
use Rattle.store_reader.proofs.RefusedLemmas.{parts_of}
use Rattle.store_reader.proofs.StoreOutlineLemmas.{lower_is, data_within}
use Rattle.store_reader.proofs.store_head.StoreHead.lower_in.Goals as goal
use Rattle.store_reader.proofs.store_head.StoreHead.lower_in.Goals.{in_default-via-in-Some+else-self-end, in_default-via-in_default}

pub returns-in-Some-clause-answer : goal.returns-in-Some-clause-answer
returns-in-Some-clause-answer c s rows is = lower_is _ s c.args.self.now rows _ _ _ is c.part.ensures c.in-Some.ensures.1 c.at.ensures

pub returns-in_default-clause-answer : goal.returns-in_default-clause-answer
returns-in_default-clause-answer c s rows is =
    let size = (parts_of _ s).size in
    let fits = data_within _ s c.args.self.now rows is in
    elim c.in_default.branch [
      | in_default-via-in-Some+else-self-end w ↦ let end = w.in-Some.ensures.1 in omega (arith, fits, end, w.if-self-end.false)
      | in_default-via-in_default w ↦ let short = w.in_default.ensures in omega (arith, size, short)
    ]
