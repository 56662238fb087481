-- With which number a call that writes is refused: that of the first cause, exactly.
use Rattle.std.proofs.Common.{◌≡◌, ◌↔◌, inl, inr, ℕ, ◌+◌, ◌-◌, ◌^◌, ◌<◌, ◌≤◌, List, length, refl, sym, ◌∙◌, arith, subst}
use Rattle.std.specs.Prelude.{◌≢◌, replicate, Err}
use Rattle.std.proofs.lemmas.List.{length-replicate}
use Rattle.store_base.specs.Outcome.{number_of}
use Rattle.store_base.specs.declared.error.StoreError.{StoreError}
use Rattle.store_format.specs.Slots.{slots}
use Rattle.store_format.specs.StoreFile.{StoreBlock, checkpoints_of}
use Rattle.store_reader.specs.Opening.{IsSomeStore}
use Rattle.store_reader.specs.Finding.{Finds}
use Rattle.docstore.specs.Writer.{Writing, IsTooLarge, num_docs}
use Rattle.layered_index.specs.declared.row.Row.{Row}
use Rattle.store_c.specs.declared.writer.Writer.{Writer}
use Rattle.store_c.specs.declared.writer_refusal.WriterRefusal.{WriterRefusal}
use Rattle.store_c.specs.declared.writer_refusal.WriterRefusal.TheVariants.{NoMemory, OldVersion, BlockTooLarge, TooManyDocs, BadPeriod, NoRoom, OpenBlock, OtherWriter}
use Rattle.store_c.specs.Writing.{Memory, memory, Holds, writer_number, LacksRoom, HasRoom, HasNoEnd, IsOther, RefusesLength, TakesLength, RefusesBlock, TakesBlock}
use Rattle.store_c.specs.Writing.{RefusesStore, ComesFor, MayFollow, RefusesBlocks, TakesBlocks}
use Rattle.store_c.proofs.FirstRefusalLemmas.{same_store, other_number}
use Rattle.store_c.proofs.MemoryRefusalLemmas.{no_room}

-- ---- a document that is put

pub put_room : (len : ℕ) (m : Memory) (r : WriterRefusal) (result : ℕ) → result ≡ writer_number r → RefusesLength len m r → (result ≡ 32) ↔ LacksRoom 2 m
put_room len m NoRoom result is why = (λ _. why, λ _. is)
put_room len m TooManyDocs result is why = (λ e. absurd (omega (arith, e, is)), λ x. absurd (no_room 2 m why.0 x))
put_room len m BlockTooLarge result is why = (λ e. absurd (omega (arith, e, is)), λ x. absurd (no_room 2 m why.0 x))
put_room len m NoMemory result is why = absurd why
put_room len m OldVersion result is why = absurd why
put_room len m BadPeriod result is why = absurd why
put_room len m OpenBlock result is why = absurd why
put_room len m OtherWriter result is why = absurd why

pub put_many : (len : ℕ) (m : Memory) (r : WriterRefusal) (result : ℕ) → result ≡ writer_number r → RefusesLength len m r → (text : List ℕ) (w : Writing) → Holds m text w
    → (result ≡ 14) ↔ (HasRoom 2 m × (num_docs w ≡ 2 ^ 32 - 1))
put_many len m NoRoom result is why text w h = (λ e. absurd (omega (arith, e, is)), λ x. absurd (no_room 2 m x.0 why))
put_many len m TooManyDocs result is why text w h = (λ _. (why.0, why.1 text w h), λ _. is)
put_many len m BlockTooLarge result is why text w h =
    let large = why.1 text w (replicate len 0) (length-replicate {A = ℕ} len 0) h in
    (λ e. absurd (omega (arith, e, is)), λ x. absurd (omega (arith, x.1, large.id.left)))
put_many len m NoMemory result is why text w h = absurd why
put_many len m OldVersion result is why text w h = absurd why
put_many len m BadPeriod result is why text w h = absurd why
put_many len m OpenBlock result is why text w h = absurd why
put_many len m OtherWriter result is why text w h = absurd why

pub put_large : (len : ℕ) (m : Memory) (r : WriterRefusal) (result : ℕ) → result ≡ writer_number r → RefusesLength len m r → (text document : List ℕ) (w : Writing) → length document ≡ len
    → Holds m text w
    → (result ≡ 13) ↔ (HasRoom 2 m × IsTooLarge w document)
put_large len m NoRoom result is why text d w size h = (λ e. absurd (omega (arith, e, is)), λ x. absurd (no_room 2 m x.0 why))
put_large len m TooManyDocs result is why text d w size h =
    let none = why.1 text w h in
    (λ e. absurd (omega (arith, e, is)), λ x. absurd (omega (arith, none, x.1.id.left)))
put_large len m BlockTooLarge result is why text d w size h = (λ _. (why.0, why.1 text w d size h), λ _. is)
put_large len m NoMemory result is why text d w size h = absurd why
put_large len m OldVersion result is why text d w size h = absurd why
put_large len m BadPeriod result is why text d w size h = absurd why
put_large len m OpenBlock result is why text d w size h = absurd why
put_large len m OtherWriter result is why text d w size h = absurd why

-- one that is taken has none of the causes
pub taken_many : (len : ℕ) (m : Memory) → TakesLength len m → (text : List ℕ) (w : Writing) → Holds m text w → HasRoom 2 m × (num_docs w ≡ 2 ^ 32 - 1) → ⊥
taken_many len m t text w h x = omega (arith, x.1, t.number text w h)

pub taken_large : (len : ℕ) (m : Memory) → TakesLength len m → (text document : List ℕ) (w : Writing) → length document ≡ len → Holds m text w → HasRoom 2 m × IsTooLarge w document → ⊥
taken_large len m t text d w size h x = omega (arith, x.1.large, t.place text w d size h)

-- ---- the open block

pub end_room : (m : Memory) (r : WriterRefusal) (result : ℕ) → result ≡ writer_number r → RefusesBlock m r → (result ≡ 32) ↔ ((0 < m.writer.docs) × LacksRoom 1 m)
end_room m NoRoom result is why = (λ _. why, λ _. is)
end_room m OtherWriter result is why = (λ e. absurd (omega (arith, e, is)), λ x. absurd (no_room 1 m why.1 x.1))
end_room m NoMemory result is why = absurd why
end_room m OldVersion result is why = absurd why
end_room m BlockTooLarge result is why = absurd why
end_room m TooManyDocs result is why = absurd why
end_room m BadPeriod result is why = absurd why
end_room m OpenBlock result is why = absurd why

pub end_nowhere : (m : Memory) (r : WriterRefusal) (result : ℕ) → result ≡ writer_number r → RefusesBlock m r → (result ≡ 35) ↔ ((0 < m.writer.docs) × HasRoom 1 m × HasNoEnd m)
end_nowhere m NoRoom result is why = (λ e. absurd (omega (arith, e, is)), λ x. absurd (no_room 1 m x.1 why.1))
end_nowhere m OtherWriter result is why = (λ _. why, λ _. is)
end_nowhere m NoMemory result is why = absurd why
end_nowhere m OldVersion result is why = absurd why
end_nowhere m BlockTooLarge result is why = absurd why
end_nowhere m TooManyDocs result is why = absurd why
end_nowhere m BadPeriod result is why = absurd why
end_nowhere m OpenBlock result is why = absurd why

-- one that is ended has none of the causes
pub ended_room : (m : Memory) → TakesBlock m → (0 < m.writer.docs) × LacksRoom 1 m → ⊥
ended_room m (inl none) x = omega (arith, x.0, none)
ended_room m (inr t) x = no_room 1 m t.0 x.1

pub ended_somewhere : (m : Memory) → TakesBlock m → (0 < m.writer.docs) × HasRoom 1 m × HasNoEnd m → ⊥
ended_somewhere m (inl none) x = omega (arith, x.0, none)
ended_somewhere m (inr t) x = x.2 t.1.0 t.1.1

-- ---- a store that is stacked

-- what is so of the store of these bytes
here : (file : List ℕ) (s : IsSomeStore file) (Why : ℕ → List StoreBlock → Type 0) → RefusesStore file Why → Why s.version s.blocks
here file s Why r = let same = same_store file r.store s in subst (λ (n : ℕ). Why n s.blocks) same.0 (subst (Why r.store.version) same.1 r.why)

module _ (file : List ℕ) (s : IsSomeStore file) (writer : Writer) (table : List Row) (result : ℕ) where
  comes : (n : ℕ) (Why : ℕ → List StoreBlock → Type 0) → result ≡ n → Why s.version s.blocks → ComesFor n result file Why
  comes n Why is why = (λ _. record { store = s; why = why }, λ _. is)

  never : (n : ℕ) (Why : ℕ → List StoreBlock → Type 0) → (result ≡ n → ⊥) → (Why s.version s.blocks → ⊥) → ComesFor n result file Why
  never n Why other false_here = (λ e. absurd (other e), λ r. absurd (false_here (here file s Why r)))

  pub stack_old : (r : WriterRefusal) → result ≡ writer_number r → RefusesBlocks s.version s.blocks writer table r → ComesFor 11 result file (λ version bs. version ≡ 1)
  stack_old OldVersion is why = comes 11 _ is why
  stack_old OpenBlock is why = never 11 _ (λ e. omega (arith, e, is)) why.0
  stack_old TooManyDocs is why = never 11 _ (λ e. omega (arith, e, is)) why.0.0
  stack_old OtherWriter is why = never 11 _ (λ e. omega (arith, e, is)) why.0.0
  stack_old NoRoom is why = never 11 _ (λ e. omega (arith, e, is)) why.0.0
  stack_old NoMemory is why = absurd why
  stack_old BlockTooLarge is why = absurd why
  stack_old BadPeriod is why = absurd why

  pub stack_other : (r : WriterRefusal) → result ≡ writer_number r → RefusesBlocks s.version s.blocks writer table r → result ≡ 35 → IsOther writer table
  stack_other OtherWriter is why e = why.1
  stack_other OldVersion is why e = absurd (omega (arith, e, is))
  stack_other OpenBlock is why e = absurd (omega (arith, e, is))
  stack_other TooManyDocs is why e = absurd (omega (arith, e, is))
  stack_other NoRoom is why e = absurd (omega (arith, e, is))
  stack_other NoMemory is why e = absurd why
  stack_other BlockTooLarge is why e = absurd why
  stack_other BadPeriod is why e = absurd why

  pub stack_no_room : (r : WriterRefusal) → result ≡ writer_number r → RefusesBlocks s.version s.blocks writer table r → result ≡ 32
      → (r ≡ NoRoom) × (length table < writer.blocks + length (checkpoints_of s.blocks))
  stack_no_room NoRoom is why e = (refl, why.2)
  stack_no_room OldVersion is why e = absurd (omega (arith, e, is))
  stack_no_room OpenBlock is why e = absurd (omega (arith, e, is))
  stack_no_room TooManyDocs is why e = absurd (omega (arith, e, is))
  stack_no_room OtherWriter is why e = absurd (omega (arith, e, is))
  stack_no_room NoMemory is why e = absurd why
  stack_no_room BlockTooLarge is why e = absurd why
  stack_no_room BadPeriod is why e = absurd why

  pub stack_open : (r : WriterRefusal) → result ≡ writer_number r → RefusesBlocks s.version s.blocks writer table r → ComesFor 34 result file (λ version bs. (version ≢ 1) × (0 < writer.docs))
  stack_open OldVersion is why = never 34 _ (λ e. omega (arith, e, is)) (λ x. x.0 why)
  stack_open OpenBlock is why = comes 34 _ is why
  stack_open TooManyDocs is why = never 34 _ (λ e. omega (arith, e, is)) (λ x. omega (arith, x.1, why.0.1))
  stack_open OtherWriter is why = never 34 _ (λ e. omega (arith, e, is)) (λ x. omega (arith, x.1, why.0.1))
  stack_open NoRoom is why = never 34 _ (λ e. omega (arith, e, is)) (λ x. omega (arith, x.1, why.0.1))
  stack_open NoMemory is why = absurd why
  stack_open BlockTooLarge is why = absurd why
  stack_open BadPeriod is why = absurd why

  module _ (starts text : List ℕ) (w : Writing) (h : Holds (memory writer starts table) text w) where
    pub stack_many : (r : WriterRefusal) → result ≡ writer_number r → RefusesBlocks s.version s.blocks writer table r
        → ComesFor 14 result file (λ version bs. MayFollow version writer × (2 ^ 32 ≤ num_docs w + length (slots bs)))
    stack_many OldVersion is why = never 14 _ (λ e. omega (arith, e, is)) (λ x. x.0.0 why)
    stack_many OpenBlock is why = never 14 _ (λ e. omega (arith, e, is)) (λ x. omega (arith, x.0.1, why.1))
    stack_many TooManyDocs is why = comes 14 _ is (why.0, why.1 starts text w h)
    stack_many OtherWriter is why = absurd (why.1 starts text w h)
    stack_many NoRoom is why = never 14 _ (λ e. omega (arith, e, is)) (λ x. omega (arith, x.1, why.1 starts text w h))
    stack_many NoMemory is why = absurd why
    stack_many BlockTooLarge is why = absurd why
    stack_many BadPeriod is why = absurd why

    pub stack_room : (r : WriterRefusal) → result ≡ writer_number r → RefusesBlocks s.version s.blocks writer table r
        → ComesFor 32 result file (λ version bs. MayFollow version writer × (num_docs w + length (slots bs) < 2 ^ 32) × (length table < writer.blocks + length (checkpoints_of bs)))
    stack_room OldVersion is why = never 32 _ (λ e. omega (arith, e, is)) (λ x. x.0.0 why)
    stack_room OpenBlock is why = never 32 _ (λ e. omega (arith, e, is)) (λ x. omega (arith, x.0.1, why.1))
    stack_room TooManyDocs is why = never 32 _ (λ e. omega (arith, e, is)) (λ x. omega (arith, x.1, why.1 starts text w h))
    stack_room OtherWriter is why = absurd (why.1 starts text w h)
    stack_room NoRoom is why = comes 32 _ is (why.0, why.1 starts text w h, why.2)
    stack_room NoMemory is why = absurd why
    stack_room BlockTooLarge is why = absurd why
    stack_room BadPeriod is why = absurd why

    -- one that is stacked has none of the causes
    pub stacked_many : result ≡ 0 → TakesBlocks s.version s.blocks writer table → ComesFor 14 result file (λ version bs. MayFollow version writer × (2 ^ 32 ≤ num_docs w + length (slots bs)))
    stacked_many is t = never 14 _ (λ e. omega (arith, e, is)) (λ x. omega (arith, x.1, t.numbers starts text w h))

    pub stacked_room : result ≡ 0 → TakesBlocks s.version s.blocks writer table
        → ComesFor 32 result file (λ version bs. MayFollow version writer × (num_docs w + length (slots bs) < 2 ^ 32) × (length table < writer.blocks + length (checkpoints_of bs)))
    stacked_room is t = never 32 _ (λ e. omega (arith, e, is)) (λ x. omega (arith, x.2, t.room))

  pub stacked_old : result ≡ 0 → TakesBlocks s.version s.blocks writer table → ComesFor 11 result file (λ version bs. version ≡ 1)
  stacked_old is t = never 11 _ (λ e. omega (arith, e, is)) t.may.0

  pub stacked_open : result ≡ 0 → TakesBlocks s.version s.blocks writer table → ComesFor 34 result file (λ version bs. (version ≢ 1) × (0 < writer.docs))
  stacked_open is t = never 34 _ (λ e. omega (arith, e, is)) (λ x. omega (arith, x.1, t.may.1))

-- bytes that are not opened are the file of no store
pub unopened_for : (file : List ℕ) (e : StoreError) (n result : ℕ) (Why : ℕ → List StoreBlock → Type 0) → result ≡ number_of e → Finds file (Err e) → (IsSomeStore file → ⊥) → 5 < n → n < 16
    → (n ≡ 10 → ⊥) → ComesFor n result file Why
unopened_for file e n result Why is finds none from to kept = (λ comes. absurd (other_number file e n finds from to kept (sym is ∙ comes)), λ r. absurd (none r.store))
