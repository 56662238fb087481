-- What `get` prints of a store.
use Rattle.std.specs.Prelude.{◌≡◌, ℕ, ◌&&◌, List, ◌++◌, Option, map, IsTrue}
use Rattle.std.specs.Io.KnownBytes.{Appends}
use Rattle.std.proofs.Common.{subst, sym}
use Rattle.std.specs.declared.ops.Range.{Range}
use Rattle.document_framing.specs.declared.form.DocumentForm.{DocumentForm}
use Rattle.framed_stores.specs.Printing.{shown_each, slots_among}
use Rattle.program_base.specs.PrintedRanges.{PrintsEach}
use Rattle.program_base.proofs.PrintedLemmas.{prints_mapped, prints_more}
use Rattle.store_commands.specs.NumberRanges.{names, is_within}
use Rattle.store_format.specs.Block.{doc}
use Rattle.store_format.specs.Slots.{slots}
use Rattle.store_reader.specs.Reading.{Reading, IsSameStore, num_docs, store_of}
use Rattle.store_reader.proofs.ItemsSoFarLemmas.{same_slots}
use Rattle.store_reader.proofs.RecentLemmas.{same_on}

-- The bytes are exactly the documents of a store that a range names, each under its number, in order.
pub record IsRangeShown (form : DocumentForm) (reader : Reading) (range : Option ℕ × Option ℕ) (bytes : List ℕ) : Type 0 where
  pub ids : Range ℕ
  pub are : (id : ℕ) → is_within ids id ≡ (names 0 range id && is_within (record { start = 0; end = num_docs reader }) id)
  pub documents : List (ℕ × List ℕ)
  pub slots_are : map (λ d. (d.0, doc d.1)) documents ≡ slots_among ids.start ids.end (slots (store_of reader))
  pub bytes_are : bytes ≡ shown_each form documents

-- An output has exactly the documents of a store more that a range names.
pub record PrintsRange (form : DocumentForm) (reader : Reading) (range : Option ℕ × Option ℕ) (old new : Option (List ℕ)) : Type 0 where
  pub bytes : List ℕ
  pub shown : IsRangeShown form reader range bytes
  pub printed : Appends old new bytes

-- So an output has, between two states of a reader, which keep the store, the documents of each range more.
abbrev pub PrintsOf : DocumentForm → List (Option ℕ × Option ℕ) → Reading → Reading → Option (List ℕ) → Option (List ℕ) → Type 0
PrintsOf form ranges old new before after = IsSameStore old new × (IsTrue old.file.honest → PrintsEach (IsRangeShown form old) ranges before after)

-- a reader of the same store shows the same
shown_same : (form : DocumentForm) (first reader : Reading) (range : Option ℕ × Option ℕ) (bytes : List ℕ) → IsSameStore first reader → IsRangeShown form reader range bytes
    → IsRangeShown form first range bytes
shown_same form first reader range bytes same h = record {
  ids = h.ids;
  are = subst (λ cs. (id : ℕ) → is_within h.ids id ≡ (names 0 range id && is_within (record { start = 0; end = num_docs (record first { checkpoints = cs }) }) id)) same.checkpoints h.are;
  documents = h.documents;
  slots_are = subst (λ all. map (λ d. (d.0, doc d.1)) h.documents ≡ slots_among h.ids.start h.ids.end all) (same_slots first reader same) h.slots_are;
  bytes_are = h.bytes_are;
}

-- ranges that a reader printed, and then others
pub given_more : (form : DocumentForm) (old middle new : Reading) (first next : List (Option ℕ × Option ℕ)) (before between after : Option (List ℕ))
    → PrintsOf form first old middle before between → PrintsOf form next middle new between after → PrintsOf form (first ++ next) old new before after
given_more form old middle new first next before between after p q = (
  same_on old middle new p.0 q.0,
  λ honest.
      let still : IsTrue middle.file.honest = subst IsTrue (sym p.0.honest) honest in
      prints_more (IsRangeShown form old) first next before between after (p.1 honest)
      (prints_mapped (IsRangeShown form middle) (IsRangeShown form old) (λ range bytes. shown_same form old middle range bytes p.0) next between after (q.1 still)),
)
