use Rattle.std.proofs.Common.{◌≡◌, sym, ◌∙◌, ap, arith}
use Rattle.std.proofs.lemmas.Option.{IfSome_then}
use Rattle.std.proofs.lemmas.Result.{err_from_is_err_and}
use Rattle.store_base.specs.declared.error.StoreError.TheVariants.{BlockTooLarge}
use Rattle.docstore.specs.Writer.{Writing}
use Rattle.docstore.proofs.PendingLemmas.{limit_of}
use Rattle.docstore.proofs.writer.StoreWriter.store.Goals as goal

pub returns-in_err-push_document-clause-limit : goal.returns-in_err-push_document-clause-limit
returns-in_err-push_document-clause-limit g c =
    let size : c.self.inside.block_size ≡ c.args.self.now.block_size = ap (λ (w : Writing). w.block_size) c.self.view_is in
    let h = limit_of (g.D.Document.doc_bytes c.args.document.now c.args.schema.now) c.self.inside.current_block c.self.inside.block_size _ c.self.invariant.light c.in_err-push_document.ensures.cause
    in
    IfSome_then (g.D.Document.doc_bytes c.args.document.now c.args.schema.now) h (λ bytes small is.
    let given = err_from_is_err_and c.from_residual-in_err-push_document.result c.from_residual-in_err-push_document.ensures.1 in
    let same : given.0 ≡ BlockTooLarge = cc in
    let cause : c.in_err-push_document.field-0.0 ≡ BlockTooLarge = sym given.2 ∙ same in
    omega (arith, size, small cause))
