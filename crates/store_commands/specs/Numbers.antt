-- What a store has, as numbers.
use Rattle.std.specs.Prelude.{◌≡◌, ℕ, ◌+◌, ◌-◌, ◌*◌, ◌/◌, List, length, map, slice_index}
use Rattle.std.specs.List.Sorted.{IsNonDecreasing, IsPermutation}
use Rattle.store_base.specs.Counts.{raised}
use Rattle.layered_index.specs.Checkpoint.{byte_len}
use Rattle.layered_index.specs.Layers.{digit_count, index_part}
use Rattle.store_format.specs.Footer.{version_number}
use Rattle.store_reader.specs.Reading.{Reading, num_docs}
use Rattle.store_commands.specs.Merging.{bytes_of}
use Rattle.store_commands.specs.declared.store_numbers.StoreNumbers.{StoreNumbers}

-- the bytes of each block, in order
abbrev pub sizes_of : Reading → List ℕ
sizes_of reader = map byte_len reader.checkpoints

-- The smallest, the median and the largest of some sizes: those at the beginning, in the middle and at the end, from
-- the smallest to the largest; 0 where there is none.
pub record AreExtremes (sizes : List ℕ) (smallest median largest : ℕ) : Type 0 where
  pub in_order : List ℕ
  pub same : IsPermutation sizes in_order
  pub rising : IsNonDecreasing in_order
  pub first : smallest ≡ slice_index in_order 0
  pub middle : median ≡ slice_index in_order (length in_order / 2)
  pub last : largest ≡ slice_index in_order (length in_order - 1)

-- The numbers of a store whose blocks have these sizes.
pub record AreNumbersOf (reader : Reading) (sizes : List ℕ) (numbers : StoreNumbers) : Type 0 where
  pub version : numbers.version ≡ version_number reader.version
  pub period : numbers.period ≡ reader.period
  pub documents : numbers.documents ≡ num_docs reader
  pub blocks : numbers.blocks ≡ length sizes
  pub layers : numbers.layers ≡ digit_count reader.period (length sizes)
  pub data_len : numbers.data_bytes ≡ length reader.file.content
  pub index_len : numbers.index_bytes ≡ length (index_part reader.period reader.checkpoints)
  pub document_len : numbers.document_bytes ≡ length reader.file.content - 4 * (num_docs reader + length sizes)
  pub file_len : numbers.file_bytes ≡ raised (bytes_of reader) 28
  pub extremes : AreExtremes sizes numbers.smallest_block numbers.median_block numbers.largest_block
