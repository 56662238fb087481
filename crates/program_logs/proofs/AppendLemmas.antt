-- What is appended to a log that was opened.
use Rattle.std.proofs.Common.{◌≡◌, ◌∙◌, ◌+◌, ℕ, List, [], ◌++◌, Option, ap, arith, length, map, subst}
use Rattle.std.specs.Io.KnownBytes.{Appends}
use Rattle.framed_logs.specs.Appending.{AppendsAll}
use Rattle.framed_logs.specs.Printed.{Printed, number_lines}
use Rattle.program_logs.specs.Appended.{Appended, HasAppended, IsOpened}
use Rattle.segmented_log.specs.Log.{LogView}
use Rattle.store_folder.specs.Folder.{Look}
use Rattle.store_format.specs.Block.{Slot, doc}

has_appended : {F : Type 0} (first : ℕ) (all : List Slot) (known : Option (List (List ℕ))) (old new : LogView F) (was printed : Printed) (before : Option (List ℕ))
    → old.first ≡ first → old.slots ≡ all → old.pending ≡ [] → was.bytes ≡ before → AppendsAll known old new was printed → HasAppended first all known new before printed.bytes
has_appended first all known old new was printed before same_first same_slots none same_bytes a = record {
  documents = a.has.documents;
  are_all = a.has.all;
  first_is = a.has.first ∙ same_first;
  slots_are = a.has.slots ∙ ap (λ (p : List (List ℕ)). old.slots ++ map doc (p ++ a.has.documents)) none
      ∙ ap (λ (s : List Slot). s ++ map doc a.has.documents) same_slots;
  pending = a.has.pending;
  lines =
      let count : a.count ≡ length a.has.documents = omega (arith, a.has.count_is, ap length none) in
      subst (λ b. Appends b printed.bytes (number_lines (first + length all) (length a.has.documents))) same_bytes
      (subst (λ n. Appends was.bytes printed.bytes (number_lines (first + length all) n)) count
      (subst (λ (s : List Slot). Appends was.bytes printed.bytes (number_lines (first + length s) a.count)) same_slots
      (subst (λ k. Appends was.bytes printed.bytes (number_lines (k + length old.slots) a.count)) same_first a.lines)));
}

pub appended : {F : Type 0} (files : Look) (known : Option (List (List ℕ))) (old new : LogView F) (was printed : Printed) (before : Option (List ℕ))
    → IsOpened files old → was.bytes ≡ before → AppendsAll known old new was printed → Appended files known new before printed.bytes
appended files known old new was printed before opened same_bytes a = record {
  after_log = λ first all is.
      let found = opened.found first all is in
      has_appended first all known old new was printed before found.0 found.1 opened.pending same_bytes a;
  begun = λ blank.
      let found = opened.begun blank in
      has_appended 0 [] known old new was printed before found.0 found.1 opened.pending same_bytes a;
}
