use Rattle.layered_index.proofs.ShortNumberLemmas.{longer_read}
use Rattle.layered_index.proofs.short_number.split_longer.Goals as goal

pub returns-else-high-eq0-clause-read : goal.returns-else-high-eq0-clause-read
returns-else-high-eq0-clause-read c =
    longer_read c.args.bytes.now c.in_ok-high-in-len1-up.rest.now c.from.result c.in_ok-high-in-len1-up.high c.in-len1-up.len_at_least c.if-first-lt-STOP_BIT.true c.from.ensures c.if-high-eq0.false
    c.in_ok-high-in-len1-up.ensures.read
