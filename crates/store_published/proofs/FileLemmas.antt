-- Documents that are put after those of a writer.
use Rattle.std.proofs.Common.{List, ◌++◌, map, sym, ◌∙◌, ap, append_assoc, ℕ}
use Rattle.std.proofs.lemmas.List.{map-append}
use Rattle.std.proofs.lemmas.List.Sums.{fold-append}
use Rattle.docstore.specs.Laws.{taken}
use Rattle.docstore.specs.Writer.{Writing, with_document, with_documents, with_failures}
use Rattle.docstore.proofs.FileLemmas.{file_goes_on, counted_documents}
use Rattle.store_format.specs.Block.{Slot, doc}
use Rattle.store_published.specs.Filling.{AddsDocuments, AddsSome}

pub adds_more : (first second : List (List ℕ)) (old mid new : Writing) → AddsDocuments first old mid → AddsDocuments second mid new → AddsDocuments (first ++ second) old new
adds_more first second old mid new one two = record {
  grown = two.grown
      ∙ ap (λ (xs : List Slot). xs ++ map doc second) one.grown
      ∙ append_assoc (taken old) (map doc first) (map doc second)
      ∙ ap (λ (xs : List Slot). taken old ++ xs) (sym (map-append doc first second));
  file = file_goes_on old mid new one.file two.file;
  stored = two.stored
      ∙ ap (λ (v : Writing). with_failures new.output.failures (with_documents v second)) one.stored
      ∙ ap (with_failures new.output.failures) (counted_documents mid.output.failures (with_documents old first) second)
      ∙ ap (with_failures new.output.failures) (sym (fold-append with_document old first second));
}

pub some_more : (old mid new : Writing) → AddsSome old mid → AddsSome mid new → AddsSome old new
some_more old mid new one two = (one.0 ++ two.0, adds_more one.0 two.0 old mid new one.1 two.1)
