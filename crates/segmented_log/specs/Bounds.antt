-- Where the records of a log lie, and a log that is only read.
use Rattle.std.specs.Prelude.{◌≡◌, ℕ, List, Bool}
use Rattle.std.specs.Bool.{OnFalse}
use Rattle.store_format.specs.Block.{Slot}
use Rattle.segmented_log.specs.Parts.{Part, end_from, AreParts}
use Rattle.segmented_log.specs.Compacting.{AreNext}
use Rattle.segmented_log.specs.declared.reading.Bounds.{Bounds}

-- These are the bounds of a log of these segments and this tail.
pub record AreBounds (bounds : Bounds) (segments : List Part) (tail : List ℕ) : Type 0 where
  pub parts : AreParts bounds.first segments tail
  pub sealed_is : bounds.sealed ≡ end_from bounds.first segments
  pub next : OnFalse bounds.may_overlap (AreNext bounds.first segments)

-- what callers see of a log that is only read
pub record ReaderView : Type 0 where
  -- the number of its first slot, and its slots
  pub first : ℕ
  pub slots : List Slot
  -- how often reads of its segments' files failed
  pub read_failures : ℕ
  -- whether its tail is damaged after the last slot
  pub is_damaged : Bool
