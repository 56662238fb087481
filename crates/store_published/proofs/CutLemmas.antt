-- How the documents are cut that were put into a new writer.
use Rattle.std.proofs.Common.{◌≡◌, ℕ, List, [], ◌∷◌, ◌++◌, map, sym, ap, subst, append_assoc}
use Rattle.std.proofs.lemmas.List.{append-nil}
use Rattle.store_format.specs.StoreFile.{StoreBlock}
use Rattle.docstore.specs.Trace.{took, AreFlushed, BlocksFrom}
use Rattle.docstore.specs.Laws.{taken}
use Rattle.docstore.specs.Writer.{Writing, with_documents, blocks_in}
use Rattle.docstore.proofs.RunSoFarLemmas.{run_of_new, run_documents, run_closes}
use Rattle.store_published.specs.Filling.{AddsDocuments}

-- the blocks of calls that took documents are those of the documents
cut_by : (size : ℕ) (before documents : List (List ℕ)) (bs : List StoreBlock) → BlocksFrom size before (map took documents) bs → AreFlushed size (before ++ documents) bs
cut_by size before [] bs h = subst (λ (ds : List (List ℕ)). AreFlushed size ds bs) (sym (append-nil before)) h
cut_by size before (document ∷ documents) bs h =
    subst (λ (ds : List (List ℕ)). AreFlushed size ds bs) (append_assoc before (document ∷ []) documents) (cut_by size (before ++ document ∷ []) documents bs h)

pub documents_are_cut : (documents : List (List ℕ)) (old new : Writing) → taken old ≡ [] → old.output.finished ≡ [] → AddsDocuments documents old new
    → AreFlushed old.block_size documents (blocks_in new)
documents_are_cut documents old new empty none adds =
    let run = run_documents old.block_size old.output.period old.output.before [] old documents (run_of_new old empty none) in
    let blocks = run_closes old.block_size old.output.period old.output.before (map took documents) (with_documents old documents) run in
    subst (AreFlushed old.block_size documents) (sym (ap blocks_in adds.stored)) (cut_by old.block_size [] documents (blocks_in (with_documents old documents)) blocks)
