-- What reading a list of numbers gives.
use Rattle.std.specs.Prelude.{◌≡◌, ◌⊎◌, ℕ, ◌^◌, ◌<◌, ◌≤◌, List, ◌++◌, length, map, Result, Ok, Err, Vec}
use Rattle.std.specs.List.{flat_map, AllByRecursion}
use Rattle.std.specs.declared.alloc.Global.{Global}
use Rattle.store_base.specs.declared.fault.DecodeFault.{DecodeFault}
use Rattle.store_base.specs.declared.fault.DecodeFault.TheVariants.{Short, Malformed, Version, Kind, Memory, Period}
use Rattle.store_base.specs.declared.vint.VInt.{VInt}
use Rattle.store_base.specs.VInt.{number}
use Rattle.store_base.specs.Serialize.{numbers}
use Rattle.store_base.specs.Reading.{IsBelow, Reads}

abbrev pub values : Vec VInt Global → List ℕ
values v = map (λ x. x.0) v.items

-- fewer than 2^64 numbers, each below 2^64
pub record AreNumbers (ns : List ℕ) : Type 0 where
  pub few : length ns < 2 ^ 64
  pub below : AllByRecursion (IsBelow (2 ^ 64)) ns

-- The count at the front exceeds the number of bytes after it; each number takes a byte at least.
pub record ClaimsTooMany (old : List ℕ) : Type 0 where
  pub count : ℕ
  pub rest : List ℕ
  pub fits : count < 2 ^ 64
  pub parts : old ≡ number count ++ rest
  pub over : length rest < count

-- The count at the front does not exceed them; after it come fewer numbers than that, and then bytes that are refused
-- for this fault.
pub record FailsAt (old : List ℕ) (e : DecodeFault) : Type 0 where
  pub count : ℕ
  pub before : List ℕ
  pub rest : List ℕ
  pub fits : count < 2 ^ 64
  pub below : AllByRecursion (IsBelow (2 ^ 64)) before
  pub earlier : length before < count
  pub enough : count ≤ length (flat_map number before ++ rest)
  pub parts : old ≡ number count ++ flat_map number before ++ rest
  pub fails : Reads (IsBelow (2 ^ 64)) number rest (Err e) rest

-- the first fault: of the count, that it claims too many, or of the first number that isn't one
abbrev pub HasFault : List ℕ → DecodeFault → Type 0
HasFault old e = Reads (IsBelow (2 ^ 64)) number old (Err e) old ⊎ (ClaimsTooMany old × (e ≡ Short)) ⊎ FailsAt old e

-- A list is read from the front of old, or refused for its first fault, or memory ran out. A refusal leaves the input.
abbrev pub ReadsNumbers : List ℕ → Result (Vec VInt Global) DecodeFault → List ℕ → Type 0
ReadsNumbers old (Ok v) new = AreNumbers (values v) × (old ≡ numbers (values v) ++ new)
ReadsNumbers old (Err Memory) new = new ≡ old
ReadsNumbers old (Err Short) new = HasFault old Short × (new ≡ old)
ReadsNumbers old (Err Malformed) new = HasFault old Malformed × (new ≡ old)
ReadsNumbers old (Err (Version v)) new = ⊥
ReadsNumbers old (Err (Kind k)) new = ⊥
ReadsNumbers old (Err (Period p)) new = ⊥
