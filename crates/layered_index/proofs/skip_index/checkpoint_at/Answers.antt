use Rattle.std.proofs.Common.{Some, sym, ◌∙◌}
use Rattle.layered_index.specs.Checkpoint.{checkpoint}
use Rattle.layered_index.proofs.RowListLemmas.{row_from}
use Rattle.layered_index.proofs.skip_index.checkpoint_at.Goals as goal

pub returns : goal.returns
returns c =
    let start = c.start_at-start.result in
    let end = sym c.end-end.ensures in
    row_from c.args.start start c.args.rows.now c.args.at _ c.start_at-start.ensures c.requires
    ∙ (λ i. Some (checkpoint start.end_doc (end i).end_doc start.end_byte (end i).end_byte))
