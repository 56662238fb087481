-- What is printed of a log.
use Rattle.std.proofs.Common.{◌≡◌, ◌+◌, ◌-◌, ℕ, List, Option, Result, Ok, Err, OnOk, length, refl, sym, subst}
use Rattle.std.specs.Prelude.{◌&&◌}
use Rattle.std.specs.Io.KnownBytes.{Keeps}
use Rattle.std.specs.declared.ops.Range.{Range}
use Rattle.std.proofs.KnownBytes.{Appends-kept}
use Rattle.document_framing.specs.declared.form.DocumentForm.{DocumentForm}
use Rattle.framed_logs.specs.Reading.{PrintsRecords}
use Rattle.program_logs.specs.Given.{PrintsRange}
use Rattle.segmented_log.specs.Log.{IsLog}
use Rattle.store_commands.specs.NumberRanges.{is_within, names}
use Rattle.store_files.specs.Disk.{Change, Disk, replay, seen}
use Rattle.store_format.specs.Block.{Slot}

-- a log stays one where the system and the path have equal ones
pub same_log : {S : Type 0} (changes : S → List ℕ → List Change) (start : List ℕ → Disk) (first : ℕ) (all : List Slot) (s t : S) (p q : List ℕ) → s ≡ t → p ≡ q
    → IsLog first all (seen (replay (changes t q) (start q))) → IsLog first all (seen (replay (changes s p) (start p)))
same_log changes start first all s t p q same_system same_path is =
    subst (λ x. IsLog first all (seen (replay (changes s x) (start x)))) (sym same_path) (subst (λ y. IsLog first all (seen (replay (changes y q) (start q)))) (sym same_system) is)

-- what was printed stays when the output hands it over
pub records_kept : (form : DocumentForm) (first : ℕ) (all : List Slot) (from count : ℕ) (old mid new : Option (List ℕ)) → PrintsRecords form first all from count old mid
    → Keeps mid new → PrintsRecords form first all from count old new
records_kept form first all from count old mid new h kept =
    record { records = h.records; many = h.many; has = h.has; printed = Appends-kept old mid new _ h.printed kept }

-- the same records, between the same numbers
pub same_records : (form : DocumentForm) (first : ℕ) (all : List Slot) (from start to end : ℕ) (old new : Option (List ℕ)) → from ≡ start → to ≡ end
    → PrintsRecords form first all from (to - from) old new → PrintsRecords form first all start (end - start) old new
same_records form first all from start to end old new same_start same_end h =
    subst (λ k. PrintsRecords form first all start (k - start) old new) same_end (subst (λ k. PrintsRecords form first all k (to - k) old new) same_start h)

-- the records of a range, by the bounds that a reader gave
pub range_shown : (form : DocumentForm) (first : ℕ) (all : List Slot) (range : Option ℕ × Option ℕ) (numbers : Range ℕ) (from to : ℕ) (old new : Option (List ℕ))
    → from ≡ first → to ≡ first + length all → ((k : ℕ) → is_within numbers k ≡ (names from range k && is_within (record { start = from; end = to }) k))
    → PrintsRecords form first all numbers.start (numbers.end - numbers.start) old new → PrintsRange form first all range old new
range_shown form first all range numbers from to old new first_is end_is are printed = record {
  bytes = _;
  shown = record {
    numbers = numbers;
    are = subst (λ end. (k : ℕ) → is_within numbers k ≡ (names first range k && is_within (record { start = first; end = end }) k)) end_is
        (subst (λ start. (k : ℕ) → is_within numbers k ≡ (names start range k && is_within (record { start = start; end = to }) k)) first_is are);
    records = printed.records;
    many = printed.many;
    has = printed.has;
    bytes_are = refl;
  };
  printed = printed.printed;
}

-- what follows of each log from what a call that came did
pub on_ok_of_logs : {T E : Type 0} (r : Result T E) (H : Type 0) (Is P Q : ℕ → List Slot → Type 0) → ((first : ℕ) (all : List Slot) → P first all → Q first all)
    → (H → (first : ℕ) (all : List Slot) → Is first all → OnOk r (P first all)) → OnOk r (H → (first : ℕ) (all : List Slot) → Is first all → Q first all)
on_ok_of_logs (Ok x) H Is P Q follows given = λ h first all is. follows first all (given h first all is)
on_ok_of_logs (Err e) H Is P Q follows given = tt
