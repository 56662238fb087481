-- Documents of a store that are written to an output.
use Rattle.std.specs.Prelude.{◌≡◌, ℕ, ◌-◌, List, [], ◌∷◌, ◌++◌, map, take, drop, Option, Some}
use Rattle.std.specs.List.{enumerate_from}
use Rattle.std.specs.Io.KnownBytes.{Appends}
use Rattle.document_framing.specs.declared.form.DocumentForm.{DocumentForm}
use Rattle.document_framing.specs.Forms.{shown}
use Rattle.store_format.specs.Block.{Slot, doc}
use Rattle.store_format.specs.Footer.{version_number}
use Rattle.store_format.specs.StoreFile.{IsStore}
use Rattle.store_reader.specs.Reading.{Reading, store_of}

-- documents with their numbers, one after the other, as they are in an output
abbrev pub shown_each : DocumentForm → List (ℕ × List ℕ) → List ℕ
shown_each form [] = []
shown_each form (document ∷ documents) = shown form document.0 document.1 ++ shown_each form documents

-- An output has exactly the documents of these slots more, each under its number, in order. So none of them is damaged.
pub record PrintsSlots (form : DocumentForm) (slots : List (ℕ × Slot)) (old new : Option (List ℕ)) : Type 0 where
  pub documents : List (ℕ × List ℕ)
  pub are : map (λ d. (d.0, doc d.1)) documents ≡ slots
  pub printed : Appends old new (shown_each form documents)

-- the slots of these ids, each with its id
abbrev pub slots_among : ℕ → ℕ → List Slot → List (ℕ × Slot)
slots_among start end slots = enumerate_from start (take (end - start) (drop start slots))

-- A file is there, and a reader's store is in it.
pub record IsStoreAt (file : Option (List ℕ)) (reader : Reading) : Type 0 where
  pub content : List ℕ
  pub is : file ≡ Some content
  pub store : IsStore reader.period content (version_number reader.version) (store_of reader)
