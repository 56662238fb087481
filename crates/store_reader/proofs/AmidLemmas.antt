-- Iterations over the documents of a store in a slice of bytes.
use Rattle.std.proofs.Common.{◌≡◌, ℕ, ◌+◌, ◌-◌, ◌<◌, ◌≤◌, List, Some, None, refl, sym, ap, ◌∙◌, arith}
use Rattle.std.specs.Prelude.{Result, slice_get}
use Rattle.std.specs.Borrow.{Bor}
use Rattle.store_base.specs.declared.error.StoreError.{StoreError}
use Rattle.store_format.specs.Block.{slot}
use Rattle.store_format.specs.Slots.{slots}
use Rattle.store_reader.specs.declared.block_slice.BlockSlice.{BlockSlice}
use Rattle.store_reader.specs.CallAnswers.{exact_result}
use Rattle.store_reader.specs.Opening.{IsSomeStore}
use Rattle.store_reader.specs.Finding.{given}
use Rattle.store_reader.specs.StoreSlices.{count_of_store, IsBlockSlice, BlocksLeft, AreLeft, IsAmid, GivesStored}
use Rattle.store_reader.proofs.StoreSliceLemmas.{block_is_of}
use Rattle.store_reader.proofs.BlocksLeftLemmas.{left_few}

-- ---- where it begins

-- the slot of a document is in its block
slot_in : (bytes : List ℕ) (s : IsSomeStore bytes) (id first end start : ℕ) (block : List ℕ) → IsBlockSlice bytes s id first end start block → first ≤ id → id < end
    → slice_get (slots s.blocks) id ≡ Some (slot block (id - first))
slot_in bytes s id first end start block is from to =
    block_is_of bytes s id is.checkpoint is.seeks id (omega (arith, from, is.first_is)) (omega (arith, to, is.end_is))
    ∙ (λ i. Some (slot (sym is.block_is i) (id - sym is.first_is i)))

-- before a document, in the block that has it
pub amid_in : (bytes : List ℕ) (s : IsSomeStore bytes) (next : ℕ) (b : BlockSlice) (left : BlocksLeft) → AreLeft bytes s left → left.next ≡ b.end → b.first ≤ next → next < b.end
    → ((id : ℕ) → b.first ≤ id → id < b.end → IsBlockSlice bytes s id b.first b.end b.start b.bytes.now) → IsAmid bytes s next b.first b.end b.bytes.now left
amid_in bytes s next b left are ends from to is = record {
  are_left = are;
  ends = ends;
  above = from;
  below = omega (arith, to);
  goes_on = λ id le lt. slot_in bytes s id b.first b.end b.start b.bytes.now (is id (omega (arith, from, le)) lt) (omega (arith, from, le)) lt;
}

-- before the first
pub amid_first : (bytes : List ℕ) (s : IsSomeStore bytes) (block : List ℕ) (left : BlocksLeft) → AreLeft bytes s left → left.next ≡ 0 → IsAmid bytes s 0 0 0 block left
amid_first bytes s block left are zero_is = record { are_left = are; ends = zero_is; above = omega arith; below = omega arith; goes_on = λ id le lt. absurd (omega arith) }

-- ---- one step

-- after the last block
pub amid_ends : (bytes : List ℕ) (s : IsSomeStore bytes) (next first end : ℕ) (block : List ℕ) (left : BlocksLeft) → IsAmid bytes s next first end block left → end ≤ next
    → left.next ≡ count_of_store bytes s → GivesStored bytes s next None next
amid_ends bytes s next first end block left amid over count = (omega (arith, count, amid.ends, amid.below), refl)

-- a document of the block
pub amid_here : (bytes : List ℕ) (s : IsSomeStore bytes) (next first end : ℕ) (block : List ℕ) (left : BlocksLeft) (item : Result (Bor (List ℕ)) StoreError)
    → IsAmid bytes s next first end block left → next < end → given item ≡ exact_result next (Some (slot block (next - first)))
    → GivesStored bytes s next (Some item) (next + 1) × IsAmid bytes s (next + 1) first end block left
amid_here bytes s next first end block left item amid lt is = (
  (
    omega (arith, left_few bytes s left amid.are_left, amid.ends),
    is ∙ ap (exact_result next) (sym (amid.goes_on next (omega arith) lt)),
    refl,
  ),
  record {
    are_left = amid.are_left;
    ends = amid.ends;
    above = omega (arith, amid.above);
    below = omega arith;
    goes_on = λ id le below. amid.goes_on id (omega arith) below;
  },
)
