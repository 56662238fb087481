use Rattle.std.proofs.Common.{◌≤◌, length, ap, arith}
use Rattle.std.proofs.lemmas.Result.{err_from_is_err_and}
use Rattle.store_base.proofs.Steady.{still}
use Rattle.docstore.proofs.OutputLemmas.{length-blocks_at}
use Rattle.docstore.proofs.ReadInPartsLemmas.{CanBePut, part_taken, can_be_put, stacked_more, refused_taken, read_at_most, fails_after, all_stacked, none_came, some_left, same_checkpoints}
use Rattle.docstore.proofs.store_compressor.BlockCompressor.stack_reader_in_parts.Goals.{In-Some}
use Rattle.docstore.proofs.store_compressor.BlockCompressor.stack_reader_in_parts.Goals as goal

-- the part that was read, and the blocks before it
part_is : (g : _) (c : In-Some g) → CanBePut c.args.part_bytes c.loop-part.next_block c.args.reader.now c.loop-part.reader c.read_part.new.self c.in-Some.part c.loop-part.self
part_is g c =
    let e = c.in_ok-part.ensures in
    let inv = c.loop-part.invariant in
    can_be_put _ _ _ _ c.read_part.new.self c.in-Some.part _ c.loop-part.self
    (part_taken _ _ _ _ c.read_part.new.self _ c.in-Some.part e.covers inv.read c.in-Some.is e.part e.once) inv.read inv.put c.requires.few_docs

pub returns-in_err-part-clause-kept : goal.returns-in_err-part-clause-kept
returns-in_err-part-clause-kept g c =
    let e = c.in_err-part.ensures in
    refused_taken _ _ _ _ _ _ e.covers c.loop-part.invariant.read (some_left _ _ (λ le. e.none.1 le)) e.once

pub write_blocks-requires-clause-cut : goal.write_blocks-requires-clause-cut
write_blocks-requires-clause-cut g c =
    let taken = part_is g (goal.at.write_blocks-requires-clause-cut g c).In-Some in
    rw (c.checkpoints_in.ensures, c.as_slice.ensures) taken.cut

pub write_blocks-requires-clause-few_docs : goal.write_blocks-requires-clause-few_docs
write_blocks-requires-clause-few_docs g c =
    let taken = part_is g (goal.at.write_blocks-requires-clause-few_docs g c).In-Some in
    rw c.checkpoints_in.ensures taken.few

pub returns-in_err-write_blocks-clause-err : goal.returns-in_err-write_blocks-clause-err
returns-in_err-write_blocks-clause-err g c =
    let inv = c.loop-part.invariant in
    let given = err_from_is_err_and c.from_residual-in_err-write_blocks.result c.from_residual-in_err-write_blocks.ensures.1 in
    rw (given.1, given.2) (fails_after c.args.reader.now c.loop-part.next_block c.in_err-write_blocks.field-0.0 c.args.self.now c.loop-part.self c.write_blocks.new.self
    c.in_ok-check_works.ensures.works inv.put inv.count c.in_err-write_blocks.ensures.err)

pub returns-in_err-write_blocks-clause-kept : goal.returns-in_err-write_blocks-clause-kept
returns-in_err-write_blocks-clause-kept g c =
    let taken = part_is g (goal.at.returns-in_err-write_blocks-clause-kept g c).In-Some in
    read_at_most _ _ _ _ taken.taken.covers taken.taken.up

pub loop-part-preserved-in_ok-write_blocks : goal.loop-part-preserved-in_ok-write_blocks
loop-part-preserved-in_ok-write_blocks g c =
    let taken = part_is g (goal.at.loop-part-preserved-in_ok-write_blocks g c).In-Some in
    let w = c.in_ok-write_blocks.ensures in
    stacked_more _ _ _ _ _ _ _ _ _ _ _ c.loop-part.invariant taken.taken c.checkpoints_in.ensures c.as_slice.ensures w.written (still c.in_ok-part.ensures.steady) w.termination
    (still w.steady) w.sound

pub loop-part-preserved : goal.loop-part-preserved
loop-part-preserved g c =
    let taken = part_is g (goal.at.loop-part-preserved g c).In-Some in
    let w = c.in_ok-write_blocks.ensures in
    stacked_more _ _ _ _ _ _ _ _ _ _ _ c.loop-part.invariant taken.taken c.checkpoints_in.ensures c.as_slice.ensures w.written (still c.in_ok-part.ensures.steady) w.termination
    (still w.steady) w.sound

pub returns-clause-stacked : goal.returns-clause-stacked
returns-clause-stacked g c =
    let e = c.in_ok-part.ensures in
    let inv = c.loop-part.invariant in
    let reader = c.args.reader.now in
    let same = same_checkpoints _ _ _ _ inv.read.read in
    let past = none_came _ (length c.loop-part.reader.checkpoints) c.loop-part.next_block c.in_default.is e.none.0 in
    let all : length reader.checkpoints ≤ c.loop-part.next_block = omega (arith, past, ap length same) in
    (inv.put.blocks, all_stacked reader c.loop-part.next_block c.args.self.now c.loop-part.self all inv.put (length-blocks_at reader.checkpoints reader.file.content), inv.put.after)
