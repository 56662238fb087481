use Rattle.store_base.proofs.Steady.{still}
use Rattle.docstore.proofs.ReadInPartsLemmas.{IsPartTaken, part_taken, refused_taken, read_at_most, some_left}
use Rattle.tantivy_export.proofs.ExportLemmas.{copied_more}
use Rattle.tantivy_export.proofs.export.copy_blocks.Goals.{In-Some}
use Rattle.tantivy_export.proofs.export.copy_blocks.Goals as goal

-- the part that was read
part_is : (g : _) (c : In-Some g) → IsPartTaken c.args.part_bytes c.loop-part.next_block c.args.reader.now c.loop-part.reader c.read_part.new.self c.in-Some.part
part_is g c =
    let e = c.in_ok-part.ensures in
    part_taken _ _ _ _ c.read_part.new.self _ c.in-Some.part e.covers c.loop-part.invariant.read c.in-Some.is e.part e.once

pub returns-in_err-part-clause-kept : goal.returns-in_err-part-clause-kept
returns-in_err-part-clause-kept g c =
    let e = c.in_err-part.ensures in
    refused_taken _ _ _ _ _ _ e.covers c.loop-part.invariant.read (some_left _ _ (λ le. e.none.1 le)) e.once

pub returns-in_err-write_all-clause-kept : goal.returns-in_err-write_all-clause-kept
returns-in_err-write_all-clause-kept g c =
    let taken = part_is g (goal.at.returns-in_err-write_all-clause-kept g c).In-Some in
    read_at_most _ _ _ _ taken.covers taken.up

pub loop-part-preserved-in_ok-write_all : goal.loop-part-preserved-in_ok-write_all
loop-part-preserved-in_ok-write_all g c =
    let w = c.in_ok-write_all.ensures in
    copied_more _ _ _ _ _ _ _ _ _ _ c.loop-part.invariant (part_is g (goal.at.loop-part-preserved-in_ok-write_all g c).In-Some) c.as_slice.ensures w.ok
    (still c.in_ok-part.ensures.steady) w.termination w.steady

pub loop-part-preserved : goal.loop-part-preserved
loop-part-preserved g c =
    let w = c.in_ok-write_all.ensures in
    copied_more _ _ _ _ _ _ _ _ _ _ c.loop-part.invariant (part_is g (goal.at.loop-part-preserved g c).In-Some) c.as_slice.ensures w.ok (still c.in_ok-part.ensures.steady) w.termination w.steady
