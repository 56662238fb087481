-- What a merge leaves of a writer: its file, its block size, and the blocks of a new store.
use Rattle.std.proofs.Common.{◌≡◌, ℕ, Bool, true, false, List, [], ◌∷◌, ◌++◌, map, refl, sym, ◌∙◌, ap, subst, append_assoc}
use Rattle.std.specs.Prelude.{if◌then◌else◌}
use Rattle.std.specs.List.{flat_map}
use Rattle.std.proofs.lemmas.List.{append-nil}
use Rattle.docstore.specs.Laws.{taken}
use Rattle.docstore.specs.Trace.{Step, stack, accepted, Blocks}
use Rattle.docstore.specs.Stacking.{with_store}
use Rattle.docstore.specs.Writer.{Writing, flushed, with_document, with_documents, blocks_in, with_failures, IsSameFile}
use Rattle.docstore.proofs.FileLemmas.{same_file, file_goes_on, documents_in_file, counted_in_file}
use Rattle.docstore.proofs.RunSoFarLemmas.{IsRunSoFar, run_of_new, run_step, run_documents, run_closes}
use Rattle.store_merge.specs.Bringing.{Brought, stacked, copied, with_brought, merged, calls_of}

-- ---- the file

brought_in_file : (w : Writing) (part : Brought) → IsSameFile w (with_brought w part)
brought_in_file w (stacked bs) = record { before = refl; period = refl }
brought_in_file w (copied docs) = documents_in_file w docs

parts_in_file : (w : Writing) (parts : List Brought) → IsSameFile w (merged w parts)
parts_in_file w [] = same_file w
parts_in_file w (part ∷ parts) = file_goes_on w (with_brought w part) (merged (with_brought w part) parts) (brought_in_file w part) (parts_in_file (with_brought w part) parts)

pub merged_in_file : (old new : Writing) (parts : List Brought) → new ≡ with_failures new.output.failures (merged old parts) → IsSameFile old new
merged_in_file old new parts after =
    subst (IsSameFile old) (sym after) (counted_in_file new.output.failures old (merged old parts) (parts_in_file old parts))

-- ---- the block size

size_flushed : (w : Writing) (full : Bool) → (if full then flushed w else w).block_size ≡ w.block_size
size_flushed w true = refl
size_flushed w false = refl

pub size_documents : (w : Writing) (docs : List (List ℕ)) → (with_documents w docs).block_size ≡ w.block_size
size_documents w [] = refl
size_documents w (d ∷ docs) = size_documents (with_document w d) docs ∙ size_flushed (record w { pending = w.pending ++ d ∷ [] }) _

size_brought : (w : Writing) (part : Brought) → (with_brought w part).block_size ≡ w.block_size
size_brought w (stacked bs) = refl
size_brought w (copied docs) = size_documents w docs

pub size_merged : (w : Writing) (parts : List Brought) → (merged w parts).block_size ≡ w.block_size
size_merged w [] = refl
size_merged w (part ∷ parts) = size_merged (with_brought w part) parts ∙ size_brought w part

-- ---- the blocks

module _ (size period : ℕ) (held : List ℕ) where
  run_brought : (trace : List Step) (w : Writing) (part : Brought) → IsRunSoFar size period held trace w → IsRunSoFar size period held (trace ++ calls_of part) (with_brought w part)
  run_brought trace w (stacked bs) run = run_step size period held trace (record { call = stack bs; answer = accepted }) w (with_store w bs) refl run
  run_brought trace w (copied docs) run = run_documents size period held trace w docs run

  run_parts : (trace : List Step) (w : Writing) (parts : List Brought) → IsRunSoFar size period held trace w → IsRunSoFar size period held (trace ++ flat_map calls_of parts) (merged w parts)
  run_parts trace w [] run = subst (λ (t : List Step). IsRunSoFar size period held t w) (sym (append-nil trace)) run
  run_parts trace w (part ∷ parts) run =
      subst (λ (t : List Step). IsRunSoFar size period held t (merged (with_brought w part) parts)) (append_assoc trace (calls_of part) (flat_map calls_of parts))
      (run_parts (trace ++ calls_of part) (with_brought w part) parts (run_brought trace w part run))

pub merged_blocks : (old new : Writing) (parts : List Brought) → taken old ≡ [] → old.output.finished ≡ [] → new ≡ with_failures new.output.failures (merged old parts)
    → Blocks old.block_size (flat_map calls_of parts) (blocks_in new)
merged_blocks old new parts empty none after =
    let run = run_parts old.block_size old.output.period old.output.before [] old parts (run_of_new old empty none) in
    subst (Blocks old.block_size (flat_map calls_of parts)) (sym (ap blocks_in after)) (run_closes old.block_size old.output.period old.output.before (flat_map calls_of parts) (merged old parts) run)
