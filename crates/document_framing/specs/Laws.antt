-- What is written and read again, and what is read and written again.
use Rattle.std.specs.Prelude.{◌≡◌, ◌≢◌, ℕ, ◌^◌, ◌<◌, All, List, [], ◌∷◌, ◌++◌, length, Some}
use Rattle.document_framing.specs.declared.framing.Framing.{Framing}
use Rattle.document_framing.specs.declared.framing.Framing.TheVariants.{Lines, Text, Nul, Lengths, Files}
use Rattle.document_framing.specs.Framings.{documents_of, end_of, framed}

-- A framing can hold a document: its end byte is not in it, or four bytes hold its length.
abbrev pub Frames : Framing → List ℕ → Type 0
Frames Lines document = All (λ x. x ≢ 10) document
Frames Text document = (line : List ℕ) × All (λ x. x ≢ 10) line × (document ≡ line ++ 10 ∷ [])
Frames Nul document = All (λ x. x ≢ 0) document
Frames Lengths document = length document < 2 ^ 32
Frames Files document = ⊥

-- It can hold each of them.
abbrev pub FramesEach : Framing → List (List ℕ) → Type 0
FramesEach framing [] = Unit {0}
FramesEach framing (document ∷ documents) = Frames framing document × FramesEach framing documents

-- Documents that are framed are those of the bytes.
abbrev pub DocumentsAreReadAgain : Type 0
DocumentsAreReadAgain = (framing : Framing) (documents : List (List ℕ)) → framing ≢ Files → FramesEach framing documents
    → documents_of framing (framed framing documents) ≡ documents

-- Bytes that end with the end byte are those of their documents, framed.
abbrev pub LinesAreWrittenAgain : Type 0
LinesAreWrittenAgain = (framing : Framing) (end : ℕ) (bytes : List ℕ) → end_of framing ≡ Some end
    → framed framing (documents_of framing (bytes ++ end ∷ [])) ≡ bytes ++ end ∷ []
