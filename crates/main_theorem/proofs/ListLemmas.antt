-- Whole lists of calls.
use Rattle.std.proofs.Common.{◌≡◌, ◌⊎◌, inl, inr, ℕ, List, ap, arith, subst}
use Rattle.store_base.specs.declared.error.StoreError.{StoreError}
use Rattle.store_base.specs.declared.error.StoreError.TheVariants.{Memory}
use Rattle.layered_index.specs.declared.checkpoint.Checkpoint.{Checkpoint}
use Rattle.layered_index.specs.Checkpoint.{docs_end}
use Rattle.store_reader.specs.declared.call_list.ReadCall.{ReadCall}
use Rattle.store_reader.specs.Reading.{Reading, IsSeen, num_docs, store_of}
use Rattle.store_format.specs.Block.{Slot}
use Rattle.store_format.specs.StoreFile.{StoreBlock, docs_in, IsStore}
use Rattle.store_reader.specs.Opening.{IsSomeStore}
use Rattle.docstore.proofs.StackLawLemmas.{checkpoints_end}
use Rattle.main_theorem.specs.declared.lists.Answered.{Answered}
use Rattle.main_theorem.specs.Lists.{Answers}
use Rattle.main_theorem.specs.Want.{IsWant}

-- a reader that sees its store has as many documents as its blocks
pub docs_seen : (r : Reading) → IsSeen r → num_docs r ≡ docs_in (store_of r)
docs_seen r seen = omega (arith, ap (λ (cs : List Checkpoint). docs_end 0 cs) seen.checkpoints_are, checkpoints_end 0 0 (store_of r))

-- what is refused where the file is that of a store
pub only_want : (bytes : List ℕ) (period : ℕ) (bs : List StoreBlock) (e : StoreError) → IsStore period bytes 3 bs → (e ≡ Memory) ⊎ (IsSomeStore bytes → ⊥) → IsWant e
only_want bytes period bs e found (inl memory) = inl memory
only_want bytes period bs e found (inr never) = absurd (never (record { period = period; version = 3; blocks = bs; store = found }))

-- the answers of a reader of the same bytes, by the same slots
pub asked_of : (a b : List ℕ) (capacity : ℕ) (all other : List Slot) (calls : List ReadCall) (answered : Answered) → a ≡ b → all ≡ other → Answers a capacity all calls answered
    → Answers b capacity other calls answered
asked_of a b capacity all other calls answered text is h =
    subst (λ (x : List ℕ). Answers x capacity other calls answered) text (subst (λ (x : List Slot). Answers a capacity x calls answered) is h)
