-- What follows from an answer.
use Rattle.std.proofs.Common.{◌≡◌, ℕ, ◌-◌, ◌≤◌, List, length, arith, Option, Some, refl, sym, ap, ◌∙◌, subst, inl, inr, ◌⊎◌}
use Rattle.std.specs.Prelude.{Result, Ok, Err, IsTrue, IfOk, slice_get}
use Rattle.store_base.specs.Counts.{HasRisen}
use Rattle.store_base.specs.Files.{Part}
use Rattle.layered_index.specs.declared.checkpoint.Checkpoint.{Checkpoint}
use Rattle.store_base.specs.declared.error.StoreError.{StoreError}
use Rattle.store_base.specs.declared.error.StoreError.TheVariants.{InvalidArgument, Read, Memory}
use Rattle.store_format.specs.Block.{Slot, slot}
use Rattle.layered_index.specs.Checkpoint.{Covers, first_past}
use Rattle.store_format.specs.Slots.{slots}
use Rattle.store_format.specs.StoreFile.{StoreBlock}
use Rattle.store_reader.specs.Reading.{Reading, num_docs, part_of, store_of}
use Rattle.store_reader.specs.GetAnswer.{IsLookedUp, IsAnswered, AnswersFrom, AnswersTruly}
use Rattle.store_reader.proofs.ReaderStoreLemmas.{blocks_of, store_is}
use Rattle.store_reader.proofs.StoreSlotLemmas.{slot_sought, slot_past}

-- no block came: a read failed, or memory ran out
pub why_none : (old new : Reading) (id : ℕ) (c : Checkpoint) (e : StoreError) → IsLookedUp old id c (Err e) new → (e ≡ Read) ⊎ (e ≡ Memory)
why_none old new id c e looked = elim looked.looks_up.cause [
  | inl hit ↦ let given = hit.given in absurd cc
  | inr miss ↦ miss.read.only
]

-- a look-up fails for a read only where the file's count of failures rises: never on a hit
pub has_failed : (old new : Reading) (id : ℕ) (c : Checkpoint) → IsLookedUp old id c (Err Read) new → HasRisen old.file.failures new.file.failures
has_failed old new id c looked = elim looked.looks_up.cause [
  | inl hit ↦ let given = hit.given in absurd cc
  | inr miss ↦ miss.read.failed refl
]

-- the count of failures stays, unless the look-up fails for a read
pub look_steady : (old new : Reading) (id : ℕ) (c : Checkpoint) (came : Result (List ℕ) StoreError) → IsLookedUp old id c came new
    → (came ≡ Err Read) ⊎ (new.file.failures ≡ old.file.failures)
look_steady old new id c came looked = elim looked.looks_up.cause [
  | inl hit ↦ inr (ap (λ (p : Part). p.failures) hit.file_stays)
  | inr miss ↦ miss.read.steady
]

-- the slot of a document is that of its place in the block that a seek finds
pub slot_at : (r : Reading) (id : ℕ) (c : Checkpoint) → Covers r.checkpoints (length r.file.content) → first_past r.checkpoints id ≡ Some c
    → slice_get (slots (store_of r)) id ≡ Some (slot (part_of r.file.content c) (id - c.doc_range.start))
slot_at r id c covers seeks =
    let whole : id - 0 ≡ id = omega arith in
    let same : store_of r ≡ blocks_of r.file.content r.checkpoints = store_is r.file.content r.checkpoints covers in
    ap (λ (bs : List StoreBlock). slice_get (slots bs) id) same
    ∙ ap (slice_get (slots (blocks_of r.file.content r.checkpoints))) (sym whole)
    ∙ slot_sought r.file.content 0 0 r.checkpoints id c covers.in_line (omega arith) seeks

module _ (old new : Reading) (id : ℕ) where
  none_such : (c : Checkpoint) (came result : Result (List ℕ) StoreError) → IsLookedUp old id c came new → AnswersFrom id (id - c.doc_range.start) came result → result ≡ Err (InvalidArgument id) → ⊥
  none_such c (Ok block) (Ok bytes) looked answer e = cc
  none_such c (Ok block) (Err f) looked answer e = elim answer [ inl d ↦ let is = d.0 in cc | inr m ↦ cc ]
  none_such c (Err f) result looked answer e = elim (why_none old new id c f looked) [ inl r ↦ cc | inr m ↦ cc ]

  -- a document that there is is not refused as none
  pub not_none_such : (result : Result (List ℕ) StoreError) → IsAnswered old id result new → result ≡ Err (InvalidArgument id) → ⊥
  not_none_such result a e = none_such a.checkpoint a.came result a.looked a.answer e

  failed : (c : Checkpoint) (came result : Result (List ℕ) StoreError) → IsLookedUp old id c came new → AnswersFrom id (id - c.doc_range.start) came result → result ≡ Err Read
      → HasRisen old.file.failures new.file.failures
  failed c (Ok block) (Ok bytes) looked answer e = absurd cc
  failed c (Ok block) (Err f) looked answer e = absurd (elim answer [ inl d ↦ let is = d.0 in cc | inr m ↦ cc ])
  failed c (Err f) result looked answer e = let is : ◌≡◌ {A = Result (List ℕ) StoreError} (Err f) (Err Read) = sym answer ∙ e in
      has_failed old new id c (subst (λ (f : StoreError). IsLookedUp old id c (Err f) new) (let same : f ≡ Read = cc in same) looked)

  -- a read fails only where the file's count of failures rises
  pub read_failed : (result : Result (List ℕ) StoreError) → IsAnswered old id result new → result ≡ Err Read → HasRisen old.file.failures new.file.failures
  read_failed result a e = failed a.checkpoint a.came result a.looked a.answer e

  stays : (c : Checkpoint) (came result : Result (List ℕ) StoreError) → IsLookedUp old id c came new → AnswersFrom id (id - c.doc_range.start) came result
      → (result ≡ Err Read) ⊎ (new.file.failures ≡ old.file.failures)
  stays c (Ok block) result looked answer = elim (look_steady old new id c (Ok block) looked) [ inl failed ↦ absurd (cc) | inr same ↦ inr same ]
  stays c (Err f) result looked answer = elim (look_steady old new id c (Err f) looked) [ inl failed ↦ inl (answer ∙ failed) | inr same ↦ inr same ]

  -- the count of failures stays, unless the answer is a failed read
  pub answer_steady : (result : Result (List ℕ) StoreError) → IsAnswered old id result new → (result ≡ Err Read) ⊎ (new.file.failures ≡ old.file.failures)
  answer_steady result a = stays a.checkpoint a.came result a.looked a.answer

  truly : (c : Checkpoint) (came result : Result (List ℕ) StoreError) → IsLookedUp old id c came new → IfOk came (λ block. block ≡ part_of old.file.content c)
      → AnswersFrom id (id - c.doc_range.start) came result
      → AnswersTruly id (Some (slot (part_of old.file.content c) (id - c.doc_range.start))) result
  truly c (Ok block) (Ok bytes) looked part answer = ap (λ (b : List ℕ). Some (slot b (id - c.doc_range.start))) (sym part) ∙ ap Some answer
  truly c (Ok block) (Err f) looked part answer = elim answer [
    | inl d ↦ inr (inl (d.0, ap (λ (b : List ℕ). Some (slot b (id - c.doc_range.start))) (sym part) ∙ ap Some d.1))
    | inr m ↦ inr (inr (inr m))
  ]
  truly c (Err f) (Ok bytes) looked part answer = absurd cc
  truly c (Err f) (Err h) looked part answer = let is : h ≡ f = cc in elim (why_none old new id c f looked) [ inl r ↦ inr (inr (inl (is ∙ r))) | inr m ↦ inr (inr (inr (is ∙ m))) ]

  -- in an honest file the slot answers
  pub answers_truly : (result : Result (List ℕ) StoreError) → Covers old.checkpoints (length old.file.content) → IsAnswered old id result new → IsTrue old.file.honest
      → AnswersTruly id (slice_get (slots (store_of old)) id) result
  answers_truly result covers a honest =
      subst (λ (o : Option Slot). AnswersTruly id o result) (sym (slot_at old id a.checkpoint covers a.looked.seeks)) (truly a.checkpoint a.came result a.looked (a.looked.honest honest) a.answer)

  -- where there is no document
  pub none_truly : Covers old.checkpoints (length old.file.content) → num_docs old ≤ id → AnswersTruly id (slice_get (slots (store_of old)) id) (Err (InvalidArgument id))
  none_truly covers le = inl (
    refl,
    ap (λ (bs : List StoreBlock). slice_get (slots bs) id) (store_is old.file.content old.checkpoints covers)
        ∙ slot_past old.file.content 0 old.checkpoints id covers.in_line le,
  )
