-- How documents are shown in an output.
use Rattle.std.specs.Prelude.{ℕ, List, [], ◌∷◌, ◌++◌, length, codes, ◌==◌, if◌then◌else◌, decimal}
use Rattle.std.specs.Str.Lossy.{utf8_valid_len}
use Rattle.base64.specs.GeneralPurpose.{encode_of}
use Rattle.base64.specs.Engines.{standard}
use Rattle.json.specs.Print.{print}
use Rattle.json.specs.Token.{Token, begin_object, end_object, key, string, number}
use Rattle.document_framing.specs.declared.form.DocumentForm.{DocumentForm}
use Rattle.document_framing.specs.declared.form.DocumentForm.TheVariants.{Framed, Numbered, Json}
use Rattle.document_framing.specs.Framings.{frame}

-- a document as a member of an object of JSON: its text, or its bytes in base64 where they are not UTF-8
abbrev pub member : List ℕ → List Token
member document = if utf8_valid_len document == length document
    then (key (codes "text") ∷ string document ∷ [])
    else (key (codes "base64") ∷ string (encode_of standard document) ∷ [])

-- a document of this number as an object of JSON on a line
unfoldable pub line_of : ℕ → List ℕ → List ℕ
line_of k document = print (begin_object ∷ key (codes "id") ∷ number (decimal k) ∷ (member document ++ end_object ∷ [])) ++ 10 ∷ []

-- a document of this number, as it is in an output
abbrev pub shown : DocumentForm → ℕ → List ℕ → List ℕ
shown (Framed framing) k document = frame framing document
shown (Numbered framing) k document = decimal k ++ 9 ∷ frame framing document
shown Json k document = line_of k document
