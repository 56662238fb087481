use Rattle.std.proofs.lemmas.Result.{on_ok_weaker}
use Rattle.tantivy_export.proofs.ExportLemmas.{exported, offset_is}
use Rattle.tantivy_export.proofs.export.export_store.Goals as goal

pub returns-clause-exported : goal.returns-clause-exported
returns-clause-exported g c =
    let at = offset_is _ _ _ c.args.reader.now _ _ _ c.data_usage-offset.ensures c.space_usage.ensures c.in_ok-copy_blocks.ensures.read in
    on_ok_weaker c.write_end.result (λ written.
    let all = exported c.args.reader.now _ _ _ _ _ c.in_ok-index.ensures.index c.in_ok-index.ensures.covers c.in_ok-copy_blocks.ensures.copied at written in
    (all.blocks, all.came, all.store, all.content)) c.write_end.ensures.ok
