-- What `log get` prints of a log.
use Rattle.std.specs.Prelude.{◌≡◌, ℕ, ◌+◌, ◌-◌, ◌&&◌, Bool, List, ◌++◌, length, Option, IsTrue}
use Rattle.std.specs.Io.KnownBytes.{Appends}
use Rattle.std.proofs.Common.{◌∙◌, subst, sym}
use Rattle.std.specs.declared.ops.Range.{Range}
use Rattle.document_framing.specs.declared.form.DocumentForm.{DocumentForm}
use Rattle.framed_logs.specs.Reading.{HasFrom, shown_from}
use Rattle.program_base.specs.PrintedRanges.{PrintsEach}
use Rattle.program_base.proofs.PrintedLemmas.{prints_more}
use Rattle.segmented_log.specs.Log.{IsLog}
use Rattle.store_commands.specs.NumberRanges.{names, is_within}
use Rattle.store_folder.specs.Folder.{Look}
use Rattle.store_format.specs.Block.{Slot}

-- The bytes are exactly the records of a log that a range names, each under its number, in order.
pub record IsRangeShown (form : DocumentForm) (first : ℕ) (all : List Slot) (range : Option ℕ × Option ℕ) (bytes : List ℕ) : Type 0 where
  pub numbers : Range ℕ
  pub are : (k : ℕ) → is_within numbers k ≡ (names first range k && is_within (record { start = first; end = first + length all }) k)
  pub records : List (List ℕ)
  pub many : length records ≡ numbers.end - numbers.start
  pub has : HasFrom first all numbers.start records
  pub bytes_are : bytes ≡ shown_from form numbers.start records

-- An output has exactly the records of a log more that a range names.
pub record PrintsRange (form : DocumentForm) (first : ℕ) (all : List Slot) (range : Option ℕ × Option ℕ) (old new : Option (List ℕ)) : Type 0 where
  pub bytes : List ℕ
  pub shown : IsRangeShown form first all range bytes
  pub printed : Appends old new bytes

-- ranges that were printed of a folder's log, and then others
pub given_more : {F : Type 0} (honest : Bool) (seen : F → Look) (form : DocumentForm) (old middle new : F) (first next : List (Option ℕ × Option ℕ)) (before between after : Option (List ℕ))
    → (middle ≡ old) × (IsTrue honest → (from : ℕ) (all : List Slot) → IsLog from all (seen old) → PrintsEach (IsRangeShown form from all) first before between)
    → (new ≡ middle) × (IsTrue honest → (from : ℕ) (all : List Slot) → IsLog from all (seen middle) → PrintsEach (IsRangeShown form from all) next between after)
    → (new ≡ old) × (IsTrue honest → (from : ℕ) (all : List Slot) → IsLog from all (seen old) → PrintsEach (IsRangeShown form from all) (first ++ next) before after)
given_more honest seen form old middle new first next before between after p q = (
  q.0 ∙ p.0,
  λ is_honest from all is.
      prints_more (IsRangeShown form from all) first next before between after (p.1 is_honest from all is)
      (q.1 is_honest from all (subst (λ folder. IsLog from all (seen folder)) (sym p.0) is)),
)
