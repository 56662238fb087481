-- Pieces of bytes, as a sink takes their documents.
use Rattle.std.specs.Prelude.{◌≡◌, ◌≤◌, ◌<◌, ℕ, List, ◌++◌, Option, OnSome, length, map}
use Rattle.std.specs.Io.KnownBytes.{Consumes, IsAtEnd}
use Rattle.document_framing.specs.declared.framing.Framing.{Framing}
use Rattle.document_framing.specs.Framings.{document_in, pieces}
use Rattle.document_framing.specs.Feeding.{AreFirst}

-- the documents in the pieces of some bytes
abbrev pub documents_in : Framing → ℕ → List ℕ → List (List ℕ)
documents_in framing end bytes = map (document_in framing) (pieces end bytes)

-- A sink took the documents of some bytes, whose pieces are apart from those of what follows.
pub record TakesPieces {S : Type 0} (adds : S → List (List ℕ) → S → Type 0) (framing : Framing) (end : ℕ)
    (bytes : List ℕ) (old new : S) : Type 0 where
  pub added : adds old (documents_in framing end bytes) new
  pub apart : (others : List ℕ) → pieces end (bytes ++ others) ≡ pieces end bytes ++ pieces end others

-- A sink took the first documents of some bytes, whatever follows them, and then it failed.
pub record FailsWithin {S : Type 0} (adds : S → List (List ℕ) → S → Type 0) (fails : S → S → Type 0)
    (framing : Framing) (end : ℕ) (bytes : List ℕ) (old new : S) : Type 0 where
  pub middle : S
  pub documents : List (List ℕ)
  pub added : adds old documents middle
  pub failed : fails middle new
  pub first : (others : List ℕ) → AreFirst (documents_in framing end (bytes ++ others)) documents

-- Bytes of an input were put after those of a document, this many at most.
pub record AddsBytes (most : ℕ) (known left : Option (List ℕ)) (old new : List ℕ) : Type 0 where
  pub bytes : List ℕ
  pub few : length bytes ≤ most
  pub grown : new ≡ old ++ bytes
  pub consumed : Consumes known left bytes

-- A document has the next bytes of an input: this many, or all where there are fewer.
pub record IsReadUpTo (len : ℕ) (known left : Option (List ℕ)) (document : List ℕ) : Type 0 where
  pub consumed : Consumes known left document
  pub few : length document ≤ len
  pub last : length document < len → OnSome known (IsAtEnd left)
