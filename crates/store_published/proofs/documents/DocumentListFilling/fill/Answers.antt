use Rattle.std.proofs.Common.{◌≡◌, ℕ, ◌+◌, List, [], ◌∷◌, ◌++◌, map, take, sym, ◌∙◌, ap, subst, arith}
use Rattle.std.proofs.lemmas.List.{map-append, take_all, take_more}
use Rattle.store_published.specs.Filling.{AddsDocuments}
use Rattle.store_published.proofs.FileLemmas.{adds_more}
use Rattle.store_published.proofs.CutLemmas.{documents_are_cut}
use Rattle.store_published.proofs.documents.DocumentListFilling.fill.Goals as goal

pub loop-document-preserved : goal.loop-document-preserved
loop-document-preserved g c =
    let before : List (List ℕ) = map (λ d. d.items) (take c.loop-document.document-index c.args.self.now.documents.now) in
    let document = c.deref.result.now in
    let next : before ++ document ∷ [] ≡ map (λ d. d.items) (take (c.loop-document.document-index + 1) c.args.self.now.documents.now) =
    ap (λ (d : List ℕ). before ++ d ∷ []) (c.deref.ensures.value ∙ ap (λ v. v.items) c.document-item.is)
    ∙ sym (ap (map (λ d. d.items)) (take_more c.args.self.now.documents.now c.loop-document.document-index c.document-item.result c.loop-document-test.true)
    ∙ map-append (λ d. d.items) (take c.loop-document.document-index c.args.self.now.documents.now) _) in
    subst (λ (documents : List (List ℕ)). AddsDocuments documents c.args.writer.now c.store_document.new.writer) next
    (adds_more before (document ∷ []) c.args.writer.now c.loop-document.writer c.store_document.new.writer c.loop-document.invariant c.in_ok-store_document.ensures.stored)

pub returns-clause-cut : goal.returns-clause-cut
returns-clause-cut g c =
    let all : map (λ d. d.items) (take c.loop-document.document-index c.args.self.now.documents.now) ≡ map (λ d. d.items) c.args.self.now.documents.now =
    ap (map (λ d. d.items)) (take_all c.loop-document.document-index c.args.self.now.documents.now (omega (arith, c.loop-document-test.false))) in
    documents_are_cut (map (λ d. d.items) c.args.self.now.documents.now) c.args.writer.now c.loop-document.writer c.requires.new c.requires.no_blocks
    (subst (λ (documents : List (List ℕ)). AddsDocuments documents c.args.writer.now c.loop-document.writer) all c.loop-document.invariant)
