use Rattle.store_reader.proofs.StoreSliceLemmas.{found_in_block, damaged_in_block}
use Rattle.store_reader.proofs.block_slice.BlockSlice.locate.Goals as goal

pub returns-in-Some-clause-document : goal.returns-in-Some-clause-document
returns-in-Some-clause-document c file s is =
    let b = c.args.self.now in
    let r = c.in-Some in
    found_in_block file s c.args.doc_id b.first b.end b.start r.range.start r.range.end b.bytes.now is r.ensures.slot r.ensures.order r.ensures.within

pub returns-in-None-clause-document : goal.returns-in-None-clause-document
returns-in-None-clause-document c file s is =
    let b = c.args.self.now in
    damaged_in_block file s c.args.doc_id b.first b.end b.start b.bytes.now is c.in-None.ensures.slot
