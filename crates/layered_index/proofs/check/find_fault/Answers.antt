use Rattle.std.proofs.Common.{sym, arith}
use Rattle.layered_index.proofs.CutLemmas.{no_head, no_ends}
use Rattle.layered_index.proofs.OpenLemmas.{opens_fail}
use Rattle.layered_index.proofs.check.find_fault.Goals as goal

pub returns-in_default-clause-broken : goal.returns-in_default-clause-broken
returns-in_default-clause-broken c = λ _. (opens_fail c.args.period c.args.bytes.now c.requires.least c.requires.most (omega arith) (no_head c.args.bytes.now (sym c.in_default.ensures.read))).0

pub returns-in_default-clause-first : goal.returns-in_default-clause-first
returns-in_default-clause-first c = (opens_fail c.args.period c.args.bytes.now c.requires.least c.requires.most (omega arith) (no_head c.args.bytes.now (sym c.in_default.ensures.read))).1

pub returns-in_default-pass_numbers-clause-broken : goal.returns-in_default-pass_numbers-clause-broken
returns-in_default-pass_numbers-clause-broken c = λ _. (opens_fail c.args.period c.args.bytes.now c.requires.least c.requires.most (omega arith)
    (no_ends c.args.bytes.now c.in-Some.count c.in-Some.ends.now (sym c.in-Some.ensures.read) (sym c.in_default-pass_numbers.ensures))).0

pub returns-in_default-pass_numbers-clause-first : goal.returns-in_default-pass_numbers-clause-first
returns-in_default-pass_numbers-clause-first c = (opens_fail c.args.period c.args.bytes.now c.requires.least c.requires.most (omega arith)
    (no_ends c.args.bytes.now c.in-Some.count c.in-Some.ends.now (sym c.in-Some.ensures.read) (sym c.in_default-pass_numbers.ensures))).1
