-- The records of the bytes of a tail: a header of 16 bytes, and batches of records after it.
use Rattle.std.specs.Prelude.{◌≡◌, ◌≤◌, ◌+◌, ◌==◌, ◌&&◌, ℕ, zero, suc, Bool, nat_le, List, [], ◌∷◌, ◌++◌, length, take, drop, if◌then◌else◌}
use Rattle.std.specs.List.{flat_map}
use Rattle.std.specs.Int.{w32, w64, to_le_bytes, from_le_bytes}
use Rattle.std.specs.Hash.DefaultHasher as sip

-- the four bytes of a number, the lowest first
unfoldable pub four : ℕ → List ℕ
four n = to_le_bytes w32 n

-- the number that the first four bytes make
unfoldable pub four_in : List ℕ → ℕ
four_in bytes = from_le_bytes w32 (take 4 bytes)

-- the eight bytes of a number, the lowest first
unfoldable pub eight : ℕ → List ℕ
eight n = to_le_bytes w64 n

-- the number that the first eight bytes make
unfoldable pub eight_in : List ℕ → ℕ
eight_in bytes = from_le_bytes w64 (take 8 bytes)

-- the sum of a body: SipHash-1-3 with both keys 0
unfoldable pub sum_of : List ℕ → ℕ
sum_of body = sip.finish (sip.write sip.initial body)

-- bytes after their length
abbrev pub framed : List ℕ → List ℕ
framed item = four (length item) ++ item

-- Whether there are as many bytes after a length as it says.
abbrev pub has_whole : List ℕ → Bool
has_whole bytes = nat_le (4 + four_in bytes) (length bytes)

-- these
abbrev pub front_item : List ℕ → List ℕ
front_item bytes = take (four_in bytes) (drop 4 bytes)

-- Whether these begin with the sum of the others.
abbrev pub has_sum : List ℕ → Bool
has_sum item = nat_le 8 (length item) && (eight_in item == sum_of (drop 8 item))

-- Whether a batch stands here, after its gate: a length, that number of bytes, and a sum that fits.
abbrev pub has_batch : List ℕ → Bool
has_batch bytes = has_whole bytes && has_sum (front_item bytes)

-- its body
abbrev pub front_body : List ℕ → List ℕ
front_body bytes = drop 8 (front_item bytes)

-- a batch after its gate: its length, the body's sum, and the body
abbrev pub summed : List ℕ → List ℕ
summed body = framed (eight (sum_of body) ++ body)

-- the records that begin after the first n bytes of a body, up to the first that is cut short
abbrev pub records_after : ℕ → List ℕ → List (List ℕ)
records_after n [] = []
records_after (suc n) (_ ∷ bytes) = records_after n bytes
records_after zero (b ∷ bytes) = if has_whole (b ∷ bytes) then front_item (b ∷ bytes) ∷ records_after (3 + four_in (b ∷ bytes)) bytes else []

-- the records of a batch's body
abbrev pub records_in : List ℕ → List (List ℕ)
records_in body = records_after 0 body

-- the body of a batch of these records
abbrev pub body_of : List (List ℕ) → List ℕ
body_of records = flat_map framed records

-- The bodies of the batches that begin after the first n bytes, up to the first place where the gate is not open or no
-- batch stands.
abbrev pub bodies_after : ℕ → List ℕ → List (List ℕ)
bodies_after n [] = []
bodies_after (suc n) (_ ∷ bytes) = bodies_after n bytes
bodies_after zero (gate ∷ bytes) = if (gate == 1) && has_batch bytes then front_body bytes ∷ bodies_after (4 + four_in bytes) bytes else []

-- the bodies of a tail's batches
abbrev pub bodies_of : List ℕ → List (List ℕ)
bodies_of file = bodies_after 16 file

-- the records of the batches at the front of these bytes
abbrev pub records_from : List ℕ → List (List ℕ)
records_from bytes = flat_map records_in (bodies_after 0 bytes)

-- the records of a file, whatever a crash made of it
abbrev pub records_of : List ℕ → List (List ℕ)
records_of file = flat_map records_in (bodies_of file)

-- the number of its first record
unfoldable pub first_of : List ℕ → ℕ
first_of file = from_le_bytes w64 (take 8 (drop 8 file))

-- what a tail begins with: "zevklog", and the version
abbrev pub magic : List ℕ
magic = 122 ∷ 101 ∷ 118 ∷ 107 ∷ 108 ∷ 111 ∷ 103 ∷ 1 ∷ []

-- it begins as a tail does
pub record IsTail (file : List ℕ) : Type 0 where
  pub named : take 8 file ≡ magic
  pub long : 16 ≤ length file

-- Up to this place the file is whole batches: the bytes after them begin a batch.
pub record IsWholeTo (end : ℕ) (file : List ℕ) : Type 0 where
  pub header : 16 ≤ end
  pub within : end ≤ length file
  pub goes_on : (after : List ℕ) → bodies_of (take end file ++ after) ≡ bodies_of file ++ bodies_after 0 after

-- These bytes are whole records: the bytes after them begin a record.
pub record IsWholeRecords (bytes : List ℕ) : Type 0 where
  pub goes_on : (after : List ℕ) → records_in (bytes ++ after) ≡ records_in bytes ++ records_in after
  pub encoded : bytes ≡ body_of (records_in bytes)
