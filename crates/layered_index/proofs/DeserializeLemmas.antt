-- What reading the front of bytes promises.
use Rattle.std.proofs.Common.{◌≡◌, ℕ, ◌<◌, ◌^◌, List, length, Some, None, Result, Ok, Err, sym, ◌∙◌, ap, arith, length-append}
use Rattle.std.specs.Prelude.{MatchResult}
use Rattle.store_base.specs.Serialize.{IsBytes}
use Rattle.layered_index.specs.declared.checkpoint.Checkpoint.{Checkpoint}
use Rattle.layered_index.specs.declared.fault.ReadFault.{ReadFault}
use Rattle.layered_index.specs.declared.fault.ReadFault.TheVariants.{Malformed, OutOfMemory}
use Rattle.layered_index.specs.Checkpoint.{checkpoint_block}
use Rattle.layered_index.specs.BlockReading.{checkpoint_block_at, HasBlock, BeginsWithBlock}
use Rattle.layered_index.specs.Refusal.{FailsOnlyUnless, AnswersAs}
use Rattle.layered_index.proofs.BlockReadingLemmas.{block_again, block_read, length-block-ge}

-- What reading the block of a list gives is the block of a list in line.
pub front_is : {X : Type 0} (view : X → List Checkpoint × List ℕ) (old : List ℕ) (r : Result X ReadFault) → IsBytes old → length old < 2 ^ 64 → AnswersAs view r (checkpoint_block_at old)
    → MatchResult r (λ x. BeginsWithBlock old (view x)) (FailsOnlyUnless (HasBlock old))
front_is view old (Ok x) fits few h =
    let block = block_read old (view x).0 (view x).1 fits h in
    (block.in_line, block.takes.parts)
front_is view old (Err Malformed) fits few h = λ has.
    let again = block_again has.0 has.1 has.2 (omega (arith, length-block-ge has.0, ap length has.3, length-append (checkpoint_block has.0) has.1)) in
    none_is_none (sym h ∙ ap checkpoint_block_at has.3 ∙ again)
  where
    none_is_none : {A : Type 0} {x : A} → None ≡ Some x → ⊥
    none_is_none e = cc
front_is view old (Err OutOfMemory) fits few h = tt
