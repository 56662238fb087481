-- How an iteration goes over the documents of a store.
use Rattle.std.specs.Prelude.{◌≡◌, ◌⊎◌, ℕ, zero, suc, ◌+◌, ◌-◌, ◌≤◌, ◌<◌, Bool, true, false, List, [], ◌∷◌, length, take}
use Rattle.std.specs.Prelude.{slice_range, slice_get, IsTrue, IfErr, IfOk, IfSome, Option, Some, None, Result, Err}
use Rattle.std.specs.Prelude.{IsSomeAnd, MatchOption}
use Rattle.std.specs.Borrow.{Bor}
use Rattle.store_base.specs.AliveBitSet.{is_alive_at}
use Rattle.store_base.specs.declared.error.StoreError.{StoreError}
use Rattle.store_base.specs.declared.error.StoreError.TheVariants.{Read, Memory}
use Rattle.layered_index.specs.declared.checkpoint.Checkpoint.{Checkpoint}
use Rattle.store_reader.specs.declared.look_up.EnteredBlock.{EnteredBlock}
use Rattle.store_reader.specs.declared.walk.Walk.{Walk}
use Rattle.store_reader.specs.GetAnswer.{AnswersFrom, AnswersTruly, IsLookedUp}
use Rattle.store_format.specs.Block.{slot}
use Rattle.layered_index.specs.Checkpoint.{docs_end, first_past}
use Rattle.store_reader.specs.Documents.{ReadsFrom, ReadsTruly}
use Rattle.store_reader.specs.Iteration.{is_in}
use Rattle.store_reader.specs.LookingUp.{IsShared}
use Rattle.store_reader.specs.Reading.{Reading, IsSameStore, num_docs, part_of, store_of}
use Rattle.store_format.specs.Slots.{slots}

-- the set of the ids that are alive
abbrev pub set_of : Option (Bor (List Bool)) → Option (ℕ → Bool)
set_of None = None
set_of (Some alive) = Some (is_alive_at alive.now)

-- the same of no set or one
abbrev pub set_in : List (List Bool) → Option (ℕ → Bool)
set_in [] = None
set_in (alive ∷ others) = Some (is_alive_at alive)

-- the block that was looked up last: its bytes, or why they did not come; none before the first
abbrev pub taken_at : ℕ → Result (List ℕ) StoreError → Option (Result (List ℕ) StoreError)
taken_at zero block = None
taken_at (suc before) block = Some block

abbrev pub taken_last : Walk → Option (Result (List ℕ) StoreError)
taken_last w = taken_at w.place w.block

-- One look-up of the block that has this document: what is taken of it for all of its documents.
pub record IsBlockTaken (old : Reading) (id : ℕ) (checkpoint : Checkpoint) (block : Result (List ℕ) StoreError)
    (new : Reading) : Type 0 where
  pub came : Result (List ℕ) StoreError
  pub looked : IsLookedUp old id checkpoint came new
  pub taken : IsShared came block

-- The block that has a document is looked up once: its ids, and what is taken of it.
pub record IsEntered (old : Reading) (id : ℕ) (entered : EnteredBlock) (new : Reading) : Type 0 where
  pub checkpoint : Checkpoint
  pub looked : IsBlockTaken old id checkpoint entered.block new
  pub first : entered.first ≡ checkpoint.doc_range.start
  pub end : entered.end ≡ checkpoint.doc_range.end

-- the block that was taken is the data's
abbrev pub HoldsPart : List ℕ → Result (List ℕ) StoreError → Checkpoint → Type 0
HoldsPart content block c = IfOk block (λ b. b ≡ part_of content c)

-- This document lies in the block that begins with this id, and that was taken.
pub record StandsIn (r : Reading) (id first : ℕ) (block : Result (List ℕ) StoreError) : Type 0 where
  pub checkpoint : Checkpoint
  pub seeks : first_past r.checkpoints id ≡ Some checkpoint
  pub start : checkpoint.doc_range.start ≡ first
  pub above : first ≤ id
  pub slot_is : slice_get (slots (store_of r)) id ≡ Some
      (slot (part_of r.file.content checkpoint) (id - checkpoint.doc_range.start))
  pub holds : IsTrue r.file.honest → HoldsPart r.file.content block checkpoint
  pub only : IfErr block (λ e. (e ≡ Read) ⊎ (e ≡ Memory))

-- `place` blocks were looked up, of which the walk has the last one. The next id is in it, or just after it. Where reads
-- give what is there, so does the block.
pub record IsWalk (r : Reading) (w : Walk) : Type 0 where
  pub few : w.place ≤ length r.checkpoints
  pub first : w.first ≡ docs_end 0 (take (w.place - 1) r.checkpoints)
  pub end : w.end ≡ docs_end 0 (take w.place r.checkpoints)
  pub above : w.first ≤ w.next
  pub below : w.next ≤ w.end
  pub holds : IsTrue r.file.honest → IfSome (taken_last w) (λ block. IfSome (slice_get r.checkpoints (w.place - 1))
      (HoldsPart r.file.content block))
  pub only : IfSome (taken_last w) (λ block. IfErr block (λ e. (e ≡ Read) ⊎ (e ≡ Memory)))

-- These blocks are looked up, in order, each at its first document. The block that was taken last is taken on; there is
-- none before the first.
abbrev pub LooksAlong : List Checkpoint → Reading → Option (Result (List ℕ) StoreError) → Reading
    → Option (Result (List ℕ) StoreError) → Type 0
LooksAlong [] r block r' block' = (r' ≡ r) × (block' ≡ block)
LooksAlong (c ∷ cs) r block r' block' = (mid : Reading) × (taken : Result (List ℕ) StoreError)
    × IsBlockTaken r c.doc_range.start c taken mid × LooksAlong cs mid (Some taken) r' block'

-- The walk goes on to an id, past none that is alive, and looks up the blocks on the way.
pub record WalksTo (set : Option (ℕ → Bool)) (old : Reading) (from : Walk) (id : ℕ) (new : Reading)
    (to : Walk) : Type 0 where
  pub on : from.next ≤ id
  pub dead : (k : ℕ) → from.next ≤ k → k < id → is_in set k ≡ false
  pub later : from.place ≤ to.place
  pub looks : LooksAlong (slice_range old.checkpoints from.place to.place) old (taken_last from) new
      (taken_last to)

-- what a document answers of the block that was taken last
abbrev pub AnswersOf : ℕ → Walk → Result (List ℕ) StoreError → Type 0
AnswersOf id w result = IsSomeAnd (taken_last w) (λ block. AnswersFrom id (id - w.first) block result)

-- A block was passed over of which no document is alive: its documents are from one id on, and before another.
pub record PassesDead (set : Option (ℕ → Bool)) (cs : List Checkpoint) (from to : ℕ) : Type 0 where
  pub place : ℕ
  pub block : Checkpoint
  pub is_at : slice_get cs place ≡ Some block
  pub after : from ≤ block.doc_range.start
  pub before : block.doc_range.end ≤ to
  pub dead : (k : ℕ) → block.doc_range.start ≤ k → k < block.doc_range.end → is_in set k ≡ false

-- No read failed on the way from one id to another, but of a block that was passed over.
abbrev pub IsSteadyBetween : Option (ℕ → Bool) → Reading → Reading → ℕ → ℕ → Type 0
IsSteadyBetween set old new from to = (new.file.failures ≡ old.file.failures)
    ⊎ PassesDead set old.checkpoints from to

-- The item of an id: it is alive, and its slot answers; failed reads and memory aside.
pub record IsItem (set : Option (ℕ → Bool)) (old : Reading) (id : ℕ) (to : Walk)
    (answer : Result (List ℕ) StoreError) : Type 0 where
  pub below : id < num_docs old
  pub is_alive : is_in set id ≡ true
  pub next : to.next ≡ id + 1
  pub above : to.first ≤ id
  pub answers : AnswersOf id to answer
  pub honest : IsTrue old.file.honest → AnswersTruly id (slice_get (slots (store_of old)) id) answer

-- One item, of the next id that is alive; or none, where no further one below the count is. Where the item is no failed
-- read, no read failed for it.
pub record GivesNext (set : Option (ℕ → Bool)) (old : Reading) (from : Walk)
    (item : Option (Result (List ℕ) StoreError)) (new : Reading) (to : Walk) : Type 0 where
  pub last : ℕ
  pub walks : WalksTo set old from last new to
  pub walk : IsWalk new to
  pub same : IsSameStore old new
  pub gives : MatchOption item ((last ≡ num_docs old) × (to.next ≡ last)) (λ answer. IsItem set old last to answer)
  pub steady : IsSomeAnd item (λ answer. answer ≡ Err Read) ⊎ IsSteadyBetween set old new from.next last

-- what is read of an item, if there is one
abbrev pub ReadsItem : {D : Type 0} → (List ℕ → Option D) → Option (Result (List ℕ) StoreError)
    → Option (Result D StoreError) → Type 0
ReadsItem reading None None = Unit {0}
ReadsItem reading None (Some result) = ⊥
ReadsItem reading (Some answer) None = ⊥
ReadsItem reading (Some answer) (Some result) = ReadsFrom reading answer result

-- The same of documents: what is read of the item's bytes, by those of the slot in an honest file.
pub record GivesDocument {D : Type 0} (reading : List ℕ
    → Option D) (set : Option (ℕ → Bool)) (old : Reading) (from : Walk) (item : Option (Result D StoreError))
    (new : Reading) (to : Walk) : Type 0 where
  pub bytes : Option (Result (List ℕ) StoreError)
  pub gives : GivesNext set old from bytes new to
  pub reads : ReadsItem reading bytes item
  pub honest : IsTrue old.file.honest → IfSome item (ReadsTruly reading gives.last
      (slice_get (slots (store_of old)) gives.last))
