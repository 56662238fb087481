use Rattle.std.proofs.Common.{ℕ, ◌∙◌, ap, subst}
use Rattle.docstore.specs.Writer.{Writing, blocks_in}
use Rattle.store_published.proofs.Results.{on_ok_is}
use Rattle.store_published.proofs.StoreLemmas.{filled_store}
use Rattle.store_published.proofs.publishing.write_beside.Goals as goal

pub returns-in-Ok-finish-clause-stored : goal.returns-in-Ok-finish-clause-stored
returns-in-Ok-finish-clause-stored g c =
    let brought = g.S.Filling.brings c.args.filling.now c.fill-filled.new.self in
    let cut = g.S.Filling.cuts c.args.filling.now c.args.block_size in
    let size = ap (λ (v : Writing). v.block_size) c.with_period-writer.ensures.writer in
    let empty = ap (λ (v : Writing). v.output.before) c.with_period-writer.ensures.writer ∙ c.in-Ok.ensures.content in
    let store = filled_store brought cut c.with_period-writer.result c.fill-filled.new.writer c.args.period c.in-Ok-end_store.output.content c.in-Ok-end_store.written
    (on_ok_is c.fill-filled.result _ c.in-Ok-end_store.ensures.filled c.fill-filled.ensures.brought)
    (subst (λ (n : ℕ). g.S.Filling.cuts c.args.filling.now n (blocks_in c.fill-filled.new.writer)) size (on_ok_is c.fill-filled.result _ c.in-Ok-end_store.ensures.filled c.fill-filled.ensures.cut))
    (on_ok_is c.fill-filled.result _ c.in-Ok-end_store.ensures.filled c.fill-filled.ensures.file) empty
    (ap (λ (v : Writing). v.output.period) c.with_period-writer.ensures.writer) c.in-Ok-end_store.ensures.stored in
    (c.in-Ok-end_store.output.content, store, c.in-Ok-finish.ensures.file)
