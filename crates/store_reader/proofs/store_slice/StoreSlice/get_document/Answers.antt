use Rattle.std.proofs.Common.{◌≡◌, List, ℕ, sym, ◌∙◌, subst}
use Rattle.std.specs.Prelude.{Result, slice_get}
use Rattle.store_base.specs.declared.error.StoreError.{StoreError}
use Rattle.store_format.specs.declared.version.DocStoreVersion.{DocStoreVersion}
use Rattle.store_format.specs.Slots.{slots}
use Rattle.store_reader.specs.Documents.{document_version, ReadsFrom}
use Rattle.store_reader.specs.StoreSlices.{document_in}
use Rattle.store_reader.proofs.StoreSliceLemmas.{seen_laid, same_version, exactly_true}
use Rattle.store_reader.proofs.WalkingLemmas.{read_truly}
use Rattle.store_reader.proofs.store_slice.StoreSlice.get_document.Goals as goal

pub returns-clause-got : goal.returns-clause-got
returns-clause-got g c s version same =
    let laid_out = seen_laid _ _ _ _ _ c.self.view_is c.self.invariant in
    let is : c.self.inside.version ≡ version = same_version _ _ ((laid_out s).version_is ∙ sym same) in
    subst (λ (v : DocStoreVersion). ReadsFrom (g.D.DocumentDeserialize.reading (document_version v)) (document_in c.args.self.now s c.args.doc_id) c.read_bytes.result) is
    (subst (λ (answer : Result (List ℕ) StoreError). ReadsFrom (g.D.DocumentDeserialize.reading (document_version c.self.inside.version)) answer c.read_bytes.result)
    (c.in_ok-bytes.ensures.document s) c.read_bytes.ensures)

pub returns-clause-truly : goal.returns-clause-truly
returns-clause-truly g c s version same =
    read_truly (g.D.DocumentDeserialize.reading (document_version version)) c.args.doc_id (slice_get (slots s.blocks) c.args.doc_id) _ c.read_bytes.result
    (exactly_true c.args.doc_id (slice_get (slots s.blocks) c.args.doc_id)) (returns-clause-got g c s version same)
