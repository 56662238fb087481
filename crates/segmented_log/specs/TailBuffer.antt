-- A tail in memory, and the batch that waits after it.
use Rattle.std.specs.Prelude.{◌≡◌, ℕ, ◌+◌, List, length, All}
use Rattle.log_tail.specs.declared.batches.Place.{Place}
use Rattle.log_tail.specs.Tail.{IsWholeRecords, records_in}
use Rattle.log_tail.specs.Place.{contents, EndsBy}

-- the tail's bytes, and the body of the batch
pub record TailView : Type 0 where
  pub bytes : List ℕ
  pub pending : List ℕ

-- The body is whole records, and they lie at these places in it.
pub record ArePlacesIn (body : List ℕ) (places : List Place) : Type 0 where
  pub whole : IsWholeRecords body
  pub records : contents body places ≡ records_in body
  pub within : All (EndsBy (length body)) places

-- the place that many bytes further on
abbrev pub moved : ℕ → Place → Place
moved by place = record { start = by + place.start; end = by + place.end }
