-- What callers see of a tail that is viewed.
use Rattle.std.specs.Prelude.{◌≡◌, ◌-◌, ℕ, nat_le, List, drop, All, Option, None, slice_get, if◌then◌else◌}
use Rattle.log_tail.specs.Tail.{records_of, first_of, IsWholeTo}
use Rattle.log_tail.specs.Heads.{rest_of}
use Rattle.log_tail.specs.Place.{contents, EndsBy}
use Rattle.log_tail.specs.declared.batches.Place.{Place}

-- its bytes, and where its whole batches end
pub record ViewedTail : Type 0 where
  pub bytes : List ℕ
  pub end : ℕ

-- The view knows where the records lie.
pub record IsViewed (bytes : List ℕ) (end : ℕ) (places : List Place) (first : ℕ) : Type 0 where
  pub whole : IsWholeTo end bytes
  pub records : contents bytes places ≡ records_of bytes
  pub within : All (EndsBy end) places
  pub first_is : first ≡ first_of bytes
  pub rest : drop end bytes ≡ rest_of bytes

-- the record of this number
abbrev pub record_at : ℕ → List (List ℕ) → ℕ → Option (List ℕ)
record_at first records number = if nat_le first number then slice_get records (number - first) else None
