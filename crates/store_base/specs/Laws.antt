-- What the encodings promise to those who read them.
use Rattle.std.specs.Prelude.{◌≡◌, ℕ, ◌<◌, ◌^◌, List, ◌++◌, length, Some}
use Rattle.std.specs.List.{AllByRecursion}
use Rattle.store_base.specs.VInt.{number, number_at}
use Rattle.store_base.specs.Serialize.{IsBytes, fixed}
use Rattle.store_base.specs.Record.{Record, record_bytes, old_record_bytes, doc_bytes, reading, stored}

-- No spelling of a number begins another, and each number has its own.
abbrev pub NumbersAreApart : Type 0
NumbersAreApart = (m n : ℕ) (r s : List ℕ) → number m ++ r ≡ number n ++ s → (m ≡ n) × (r ≡ s)

-- the same of numbers in a fixed count of bytes
abbrev pub FixedNumbersAreApart : Type 0
FixedNumbersAreApart = (bytes m n : ℕ) (r s : List ℕ) → m < 256 ^ bytes → n < 256 ^ bytes
    → fixed bytes m ++ r ≡ fixed bytes n ++ s → (m ≡ n) × (r ≡ s)

-- A number that was spelled is read, with anything following left.
abbrev pub NumbersAreRead : Type 0
NumbersAreRead = (n : ℕ) (rest : List ℕ) → number_at (number n ++ rest) ≡ Some (n, rest)

-- What is read as a number is its spelling.
abbrev pub NumbersReadAreSpelled : Type 0
NumbersReadAreSpelled = (bytes : List ℕ) (n : ℕ) (rest : List ℕ) → AllByRecursion (λ b. b < 256) bytes
    → number_at bytes ≡ Some (n, rest) → bytes ≡ number n ++ rest

-- The bytes of a record are read as its stored form.
abbrev pub RecordsAreRead : Type 0
RecordsAreRead = (fields : Record) (schema : ℕ) (bytes : List ℕ) → doc_bytes fields schema ≡ Some bytes
    → reading 2 bytes ≡ Some (stored fields)

-- The bytes of version 1 are read too, where its numbers have room in four bytes.
abbrev pub OldRecordsAreRead : Type 0
OldRecordsAreRead = (fields : Record) → length fields < 2 ^ 32
    → AllByRecursion (λ f. (f.0 < 2 ^ 32) × (length f.1 < 2 ^ 32)) fields
    → reading 1 (old_record_bytes fields) ≡ Some fields

-- What is read as a record is its bytes in that version, and nothing follows them.
abbrev pub RecordsReadAreSpelled : Type 0
RecordsReadAreSpelled = (bytes : List ℕ) (fields : Record) → IsBytes bytes
    → (reading 2 bytes ≡ Some fields → bytes ≡ record_bytes fields)
    × (reading 1 bytes ≡ Some fields → bytes ≡ old_record_bytes fields)
