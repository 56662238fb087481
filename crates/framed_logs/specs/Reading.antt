-- Records of a log that are read and written to an output.
use Rattle.std.specs.Prelude.{◌≡◌, ℕ, ◌+◌, ◌-◌, max, List, [], ◌∷◌, ◌++◌, length, Option, Some}
use Rattle.std.specs.Io.KnownBytes.{Appends}
use Rattle.document_framing.specs.declared.form.DocumentForm.{DocumentForm}
use Rattle.document_framing.specs.Forms.{shown}
use Rattle.store_folder.specs.Folder.{Look}
use Rattle.store_format.specs.Block.{Slot, doc}
use Rattle.segmented_log.specs.Log.{IsLog, slot_at}

-- what callers see of a log that is only read: its folder, the number of its first record, and the one after the last when it
-- was opened
pub record ReadView (F : Type 0) : Type 0 where
  pub folder : F
  pub first : ℕ
  pub end : ℕ

-- A log was read from a folder, and ends before this number.
pub record Reads (seen : Look) (first : ℕ) (slots : List Slot) (end : ℕ) : Type 0 where
  pub log : IsLog first slots seen
  pub end_is : end ≡ first + length slots

-- The numbers from one on have these records, in order.
abbrev pub HasFrom : ℕ → List Slot → ℕ → List (List ℕ) → Type 0
HasFrom first all number [] = Unit {0}
HasFrom first all number (bytes ∷ others) = (slot_at first all number ≡ Some (doc bytes)) × HasFrom first all (number + 1) others

-- the records of the numbers from one on, as they are in an output
abbrev pub shown_from : DocumentForm → ℕ → List (List ℕ) → List ℕ
shown_from form number [] = []
shown_from form number (bytes ∷ others) = shown form number bytes ++ shown_from form (number + 1) others

-- An output has the record of a number more.
pub record PrintsRecord (form : DocumentForm) (first : ℕ) (all : List Slot) (number : ℕ) (old new : Option (List ℕ)) : Type 0 where
  pub bytes : List ℕ
  pub has : slot_at first all number ≡ Some (doc bytes)
  pub printed : Appends old new (shown form number bytes)

-- An output has exactly these records more: a count of them, from a number on, in order.
pub record PrintsRecords (form : DocumentForm) (first : ℕ) (all : List Slot) (from count : ℕ) (old new : Option (List ℕ)) : Type 0 where
  pub records : List (List ℕ)
  pub many : length records ≡ count
  pub has : HasFrom first all from records
  pub printed : Appends old new (shown_from form from records)

-- An output has exactly the records of a log more whose numbers are not below this one.
abbrev pub PrintsFrom : DocumentForm → ℕ → List Slot → ℕ → Option (List ℕ) → Option (List ℕ) → Type 0
PrintsFrom form first all from = PrintsRecords form first all (max from first) (first + length all - max from first)
