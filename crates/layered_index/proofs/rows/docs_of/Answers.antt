use Rattle.std.proofs.Common.{sym}
use Rattle.layered_index.proofs.RowLemmas.{docs_of_is}
use Rattle.layered_index.proofs.rows.docs_of.Goals as goal

pub returns-in-Some : goal.returns-in-Some
returns-in-Some c cs is = docs_of_is c.args.rows.now cs c.in-Some.last.now is (sym c.in-Some.ensures.value)
