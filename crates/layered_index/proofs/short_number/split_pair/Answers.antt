use Rattle.std.proofs.Common.{get_or, nat_lt, refl, arith}
use Rattle.layered_index.proofs.ShortNumberLemmas.{pair_read}
use Rattle.layered_index.proofs.short_number.split_pair.Goals as goal

pub returns-clause-read : goal.returns-clause-read
returns-clause-read c =
    let bytes = c.args.bytes.now in
    pair_read bytes (nat_lt (get_or bytes 0 0) 128) c.from.result c.from-high.result refl c.in-len2-up.len_at_least c.if-last-more.false (omega (arith, c.type_inv.bytes 0))
    (omega (arith, c.type_inv.bytes 1)) c.from.ensures c.from-high.ensures
