-- An index part that was read, sought in and written again.
use Rattle.std.specs.Prelude.{◌≡◌, ℕ, ◌*◌, ◌<◌, ◌≤◌, List, length}
use Rattle.layered_index.specs.declared.checkpoint.Checkpoint.{Checkpoint}
use Rattle.layered_index.specs.Checkpoint.{first_past}
use Rattle.layered_index.specs.Layers.{digit_count}
use Rattle.layered_index.specs.IndexReading.{IsIndexPart}
use Rattle.main_theorem.specs.declared.index.IndexAnswer.{IndexAnswer}

-- This many looks at a list of this length: some if it has any checkpoint, and in each base no more than the base for
-- each digit.
pub record AreLooks (looks len : ℕ) : Type 0 where
  pub least : 0 < len → 0 < looks
  pub most : (p : ℕ) → 2 ≤ p → looks ≤ p * digit_count p len

-- The bytes encode one list; each seek answers by it, and what was written is the bytes again, with that list. The counted
-- seek halves, and the near one looks at a source of this list, which has counted this many looks.
pub record IsIndexAnswer {S : Type 0} (period : ℕ) (bytes : List ℕ) (target : ℕ) (source : List Checkpoint) (looks : ℕ)
    (answer : IndexAnswer S) : Type 0 where
  pub checkpoints : List Checkpoint
  pub part : IsIndexPart period bytes checkpoints
  pub only : (cs : List Checkpoint) → IsIndexPart period bytes cs → cs ≡ checkpoints
  pub found : answer.found ≡ first_past checkpoints target
  pub counted : answer.counted ≡ first_past checkpoints target
  pub steps : AreLooks answer.steps (length checkpoints)
  pub halves : answer.steps ≤ digit_count 2 (length checkpoints)
  pub near : answer.near ≡ first_past checkpoints target
  pub source_is : source ≡ checkpoints
  pub looks_are : AreLooks looks (length checkpoints)
  pub written : answer.written.items ≡ bytes
  pub again_period : answer.again.period ≡ period
  pub again : answer.again.checkpoints ≡ checkpoints
