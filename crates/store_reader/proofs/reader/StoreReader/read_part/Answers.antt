use Rattle.std.proofs.Common.{refl, sym, arith}
use Rattle.std.proofs.lemmas.Result.{err_from_is_err_and}
use Rattle.store_reader.proofs.PartLemmas.{block_at, byte_order, byte_within, part_from, once_read}
use Rattle.store_reader.proofs.reader.StoreReader.read_part.Goals as goal

pub read_data-requires-clause-order : goal.read_data-requires-clause-order
read_data-requires-clause-order g c =
    let first = block_at _ _ _ _ c.in-Some.ensures.covers (sym c.in-Some.ensures.checkpoint) in
    let following = byte_order _ _ _ _ _ c.in-Some.ensures.covers (sym c.in-Some.ensures.checkpoint) c.end_of_part-end.ensures.part.some in
    omega (arith, first.some_bytes, following, c.end_of_part-end.ensures.byte)

pub read_data-requires-clause-within : goal.read_data-requires-clause-within
read_data-requires-clause-within g c =
    omega (arith, byte_within _ _ c.end_of_part-end.result.block c.in-Some.ensures.covers, c.end_of_part-end.ensures.byte)

pub returns-in_err-bytes-clause-once : goal.returns-in_err-bytes-clause-once
returns-in_err-bytes-clause-once g c below =
    let first = block_at _ _ _ _ c.in-Some.ensures.covers (sym c.in-Some.ensures.checkpoint) in
    let given = err_from_is_err_and c.from_residual.result c.from_residual.ensures.1 in
    rw given.1 (record {
      end = c.end_of_part-end.result.block;
      ends = c.end_of_part-end.ensures.part;
      once = once_read _ _ _ _ _ _ c.end_of_part-end.ensures.byte first.byte_start c.in_err-bytes.ensures.once;
      came = tt;
    })

pub returns-clause-part : goal.returns-clause-part
returns-clause-part g c =
    part_from c.args.part_bytes c.args.self.now c.args.number c.end_of_part-end.result.block c.in-Some.first c.in_ok-bytes.bytes c.in-Some.ensures.covers (sym c.in-Some.ensures.checkpoint)
    c.end_of_part-end.ensures.part
    (rw (← c.end_of_part-end.ensures.byte) c.in_ok-bytes.ensures.length)
    (rw (← c.end_of_part-end.ensures.byte) c.in_ok-bytes.ensures.bytes)

pub returns-clause-once : goal.returns-clause-once
returns-clause-once g c below =
    let first = block_at _ _ _ _ c.in-Some.ensures.covers (sym c.in-Some.ensures.checkpoint) in
    record {
      end = c.end_of_part-end.result.block;
      ends = c.end_of_part-end.ensures.part;
      once = once_read _ _ _ _ _ _ c.end_of_part-end.ensures.byte first.byte_start c.in_ok-bytes.ensures.once;
      came = refl;
    }
