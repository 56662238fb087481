use Rattle.std.proofs.Common.{◌^◌, refl}
use Rattle.std.proofs.lemmas.Result.{err_from_is_err_and}
use Rattle.std.specs.Int.{w64}
use Rattle.store_base.proofs.FixedReads.{wide64, found_reads, short_reads}
use Rattle.store_base.proofs.serialize.U64BinarySerializable.deserialize.Goals as goal

pub returns-in_err-front-clause-reads : goal.returns-in_err-front-clause-reads
returns-in_err-front-clause-reads c =
    let p = err_from_is_err_and c.from_residual.result c.from_residual.ensures.1 in
    rw (p.1, p.2, c.in_err-front.ensures.cause) (short_reads w64 (2 ^ 64) wide64 c.args.bytes.now.now c.args.bytes.now.now c.split_front.ensures.octets c.in_err-front.ensures.short refl)

pub returns-clause-reads : goal.returns-clause-reads
returns-clause-reads c =
    let e = c.in_ok-front.ensures in
    found_reads w64 (2 ^ 64) wide64 c.args.bytes.now.now c.in_ok-front.front c.in_ok-front.rest.now c.from_le_bytes.result c.split_front.ensures.octets e.enough e.front e.rest c.from_le_bytes.ensures
