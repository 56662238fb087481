-- How documents are delimited in the bytes of an input or an output.
use Rattle.std.specs.Prelude.{◌≡◌, ◌≢◌, ℕ, zero, suc, ◌+◌, Bool, false, ◌==◌, nat_le, if◌then◌else◌, All, List, [], ◌∷◌}
use Rattle.std.specs.Prelude.{◌++◌, length, map, take, drop, Option, None, Some}
use Rattle.std.specs.Int.{w32, to_le_bytes, from_le_bytes}
use Rattle.std.specs.Io.BufRead.{strip_last}
use Rattle.document_framing.specs.declared.framing.Framing.{Framing}
use Rattle.document_framing.specs.declared.framing.Framing.TheVariants.{Lines, Text, Nul, Lengths, Files}

-- a byte is put before the first of some pieces
abbrev pub put_before : ℕ → List (List ℕ) → List (List ℕ)
put_before x [] = (x ∷ []) ∷ []
put_before x (piece ∷ others) = (x ∷ piece) ∷ others

-- the pieces of some bytes: each goes up to and with the next `end`, which the last may lack
abbrev pub pieces : ℕ → List ℕ → List (List ℕ)
pieces end [] = []
pieces end (x ∷ xs) = if x == end then (x ∷ []) ∷ pieces end xs else put_before x (pieces end xs)

-- These bytes are a piece, which its end closes, and then the rest.
pub record IsPiece (end : ℕ) (bytes piece rest : List ℕ) : Type 0 where
  pub front : List ℕ
  pub none : All (λ x. x ≢ end) front
  pub closed : piece ≡ front ++ end ∷ []
  pub whole : bytes ≡ piece ++ rest

-- how many bytes a document has whose length comes first
abbrev pub measure : List ℕ → ℕ
measure bytes = from_le_bytes w32 (take 4 bytes)

-- whether some bytes begin with a length and a document of that length
abbrev pub is_measured : List ℕ → Bool
is_measured bytes = if nat_le 4 (length bytes) then nat_le (4 + measure bytes) (length bytes) else false

-- the documents of some bytes, each after its length, up to the first that is cut; this many at most
abbrev pub measured : ℕ → List ℕ → List (List ℕ)
measured zero bytes = []
measured (suc most) bytes = if is_measured bytes
    then take (measure bytes) (drop 4 bytes) ∷ measured most (drop (4 + measure bytes) bytes)
    else []

-- the byte that ends each document, where one does
abbrev pub end_of : Framing → Option ℕ
end_of Lines = Some 10
end_of Text = Some 10
end_of Nul = Some 0
end_of Lengths = None
end_of Files = None

-- the document in a piece
abbrev pub document_in : Framing → List ℕ → List ℕ
document_in Lines piece = strip_last 10 piece
document_in Text piece = piece
document_in Nul piece = strip_last 0 piece
document_in Lengths piece = piece
document_in Files piece = piece

-- the documents of an input
abbrev pub documents_of : Framing → List ℕ → List (List ℕ)
documents_of Lines bytes = map (document_in Lines) (pieces 10 bytes)
documents_of Text bytes = pieces 10 bytes
documents_of Nul bytes = map (document_in Nul) (pieces 0 bytes)
documents_of Lengths bytes = measured (length bytes) bytes
documents_of Files bytes = bytes ∷ []

-- a document as it is in an output
abbrev pub frame : Framing → List ℕ → List ℕ
frame Lines document = document ++ 10 ∷ []
frame Text document = document
frame Nul document = document ++ 0 ∷ []
frame Lengths document = to_le_bytes w32 (length document) ++ document
frame Files document = document

-- documents as they are in an output, one after another
abbrev pub framed : Framing → List (List ℕ) → List ℕ
framed framing [] = []
framed framing (document ∷ documents) = frame framing document ++ framed framing documents
