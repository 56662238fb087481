-- What a get of a document answers.
use Rattle.std.specs.Prelude.{◌≡◌, ◌⊎◌, ℕ, ◌-◌, IsTrue, IfOk, List, Option, Some, None, Result, Ok, Err}
use Rattle.store_base.specs.declared.error.StoreError.{StoreError}
use Rattle.store_base.specs.declared.error.StoreError.TheVariants.{InvalidArgument, DamagedDocument, Read, Memory}
use Rattle.layered_index.specs.declared.checkpoint.Checkpoint.{Checkpoint}
use Rattle.store_format.specs.Block.{Slot, slot, doc, damaged}
use Rattle.layered_index.specs.Checkpoint.{first_past}
use Rattle.store_reader.specs.LookingUp.{LooksUp}
use Rattle.store_reader.specs.Reading.{Reading, with_parts, part_of}

-- The bytes of the slot; or the refusal of this document where the slot is damaged, or memory ran out.
abbrev pub Answers : ℕ → Slot → Result (List ℕ) StoreError → Type 0
Answers id s (Ok bytes) = s ≡ doc bytes
Answers id s (Err e) = ((e ≡ DamagedDocument id) × (s ≡ damaged)) ⊎ (e ≡ Memory)

-- the same of what came of a look-up of the document's block, in which it has this place
abbrev pub AnswersFrom : ℕ → ℕ → Result (List ℕ) StoreError → Result (List ℕ) StoreError → Type 0
AnswersFrom id place (Ok block) result = Answers id (slot block place) result
AnswersFrom id place (Err e) result = result ≡ Err e

-- One look-up of the block that has this document: its checkpoint, and the bytes that came, or why none did.
pub record IsLookedUp (old : Reading) (id : ℕ) (checkpoint : Checkpoint) (came : Result (List ℕ) StoreError)
    (new : Reading) : Type 0 where
  pub seeks : first_past old.checkpoints id ≡ Some checkpoint
  pub looks_up : LooksUp checkpoint old.file old.cache came new.file new.cache
  pub stays : new ≡ with_parts old new.file new.cache
  pub honest : IsTrue old.file.honest → IfOk came (λ block. block ≡ part_of old.file.content checkpoint)

-- The block of a document is looked up once, and what came decides.
pub record IsAnswered (old : Reading) (id : ℕ) (result : Result (List ℕ) StoreError) (new : Reading) : Type 0 where
  pub checkpoint : Checkpoint
  pub came : Result (List ℕ) StoreError
  pub looked : IsLookedUp old id checkpoint came new
  pub answer : AnswersFrom id (id - checkpoint.doc_range.start) came result

-- The bytes of the document's slot; or the refusal where there is none, or it is damaged; or a read failed or memory
-- ran out.
abbrev pub AnswersTruly : ℕ → Option Slot → Result (List ℕ) StoreError → Type 0
AnswersTruly id s (Ok bytes) = s ≡ Some (doc bytes)
AnswersTruly id s (Err e) = ((e ≡ InvalidArgument id) × (s ≡ None)) ⊎ ((e ≡ DamagedDocument id) × (s ≡ Some damaged))
    ⊎ (e ≡ Read) ⊎ (e ≡ Memory)
