use Rattle.std.proofs.lemmas.Result.{on_ok_weaker}
use Rattle.log_tail.specs.Place.{contents}
use Rattle.store_published.proofs.CutLemmas.{documents_are_cut}
use Rattle.segmented_log.proofs.sealing.TailRecordsFilling.fill.Goals as goal

pub returns-clause-cut : goal.returns-clause-cut
returns-clause-cut g c =
    let records = contents c.args.self.now.tail.now c.args.self.now.places.now in
    on_ok_weaker c.store_records.result (documents_are_cut records c.args.writer.now c.store_records.new.writer c.requires.new c.requires.no_blocks) c.store_records.ensures.stored
