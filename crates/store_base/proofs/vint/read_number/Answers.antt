use Rattle.std.proofs.Common.{◌+◌, sym, arith}
use Rattle.store_base.specs.ReadingLemmas.{bytes_from}
use Rattle.store_base.proofs.NumberReads.{reads_found, reads_short, reads_malformed}
use Rattle.store_base.proofs.vint.read_number.Goals as goal

pub returns-in-Some-clause-text : goal.returns-in-Some-clause-text
returns-in-Some-clause-text c =
    reads_found (c.args.most + 1) c.args.bytes.now c.in-Some.value c.in-Some.rest.now (bytes_from c.args.bytes.now (λ i. omega (arith, c.type_inv.bytes i))) (sym c.in-Some.ensures.read)

pub returns-then-begins_number-clause-text : goal.returns-then-begins_number-clause-text
returns-then-begins_number-clause-text c = reads_short (c.args.most + 1) c.args.bytes.now (sym c.in_default.ensures.read) (c.begins_number.ensures.0 c.if-begins_number.true)

pub returns-else-begins_number-clause-text : goal.returns-else-begins_number-clause-text
returns-else-begins_number-clause-text c = reads_malformed (c.args.most + 1) c.args.bytes.now (sym c.in_default.ensures.read)
    (λ cut. absurd (let yes = c.begins_number.ensures.1 cut in cc (yes, c.if-begins_number.false)))
