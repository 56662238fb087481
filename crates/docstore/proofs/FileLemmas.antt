-- Documents that are put into a writer: its file goes on, and the output's count of failures changes nothing.
use Rattle.std.proofs.Common.{◌≡◌, ℕ, Bool, true, false, List, [], ◌∷◌, ◌++◌, refl, ◌∙◌, ap}
use Rattle.std.specs.Prelude.{if◌then◌else◌, nat_lt}
use Rattle.docstore.specs.Trace.{weight}
use Rattle.docstore.specs.Writer.{Writing, flushed, with_document, with_documents, with_failures, IsSameFile}

pub same_file : (w : Writing) → IsSameFile w w
same_file w = record { before = refl; period = refl }

pub file_goes_on : (old mid new : Writing) → IsSameFile old mid → IsSameFile mid new → IsSameFile old new
file_goes_on old mid new first second = record { before = second.before ∙ first.before; period = second.period ∙ first.period }

pub document_in_file : (w : Writing) (document : List ℕ) → IsSameFile w (with_document w document)
document_in_file w document = by (nat_lt w.block_size (weight (w.pending ++ document ∷ [])))
  where
    more : Writing
    more = record w { pending = w.pending ++ document ∷ [] }

    by : (full : Bool) → IsSameFile w (if full then flushed more else more)
    by true = record { before = refl; period = refl }
    by false = record { before = refl; period = refl }

pub documents_in_file : (w : Writing) (documents : List (List ℕ)) → IsSameFile w (with_documents w documents)
documents_in_file w [] = same_file w
documents_in_file w (document ∷ documents) =
    file_goes_on w (with_document w document) (with_documents (with_document w document) documents) (document_in_file w document) (documents_in_file (with_document w document) documents)

pub counted_in_file : (n : ℕ) (old w : Writing) → IsSameFile old w → IsSameFile old (with_failures n w)
counted_in_file n old w same = record { before = same.before; period = same.period }

pub counted_document : (n : ℕ) (w : Writing) (document : List ℕ) → with_document (with_failures n w) document ≡ with_failures n (with_document w document)
counted_document n w document = by (nat_lt w.block_size (weight (w.pending ++ document ∷ [])))
  where
    more : Writing
    more = record w { pending = w.pending ++ document ∷ [] }

    by : (full : Bool) → (if full then flushed (with_failures n more) else with_failures n more) ≡ with_failures n (if full then flushed more else more)
    by true = refl
    by false = refl

pub counted_documents : (n : ℕ) (w : Writing) (documents : List (List ℕ)) → with_documents (with_failures n w) documents ≡ with_failures n (with_documents w documents)
counted_documents n w [] = refl
counted_documents n w (document ∷ documents) =
    ap (λ (v : Writing). with_documents v documents) (counted_document n w document) ∙ counted_documents n (with_document w document) documents
