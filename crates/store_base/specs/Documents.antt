-- The bytes of documents.
use Rattle.std.specs.Prelude.{◌≡◌, ℕ, List, ◌++◌, length, take, Option, Some, None, Result, Ok, Err}
use Rattle.store_base.specs.declared.fault.DocFault.{DocFault}
use Rattle.store_base.specs.declared.fault.DocFault.TheVariants.{Refused, Memory}

-- the bytes, which are there, were added at the end
abbrev pub Appends : Option (List ℕ) → List ℕ → List ℕ → Type 0
Appends (Some bytes) old new = new ≡ old ++ bytes
Appends None old new = ⊥

-- the old bytes stay at the front
abbrev pub BeginsWith : List ℕ → List ℕ → Type 0
BeginsWith old new = take (length old) new ≡ old

-- what a refused reading says of what there is to read
abbrev pub Fails : {Y : Type 0} → DocFault → Option Y → Type 0
Fails Refused read = read ≡ None
Fails Memory read = Unit {0}

-- What was returned, seen by view, is what there is to read, and it is refused exactly where there is nothing; memory
-- aside.
abbrev pub Gives : {X Y : Type 0} → (X → Y) → Result X DocFault → Option Y → Type 0
Gives view (Ok x) read = read ≡ Some (view x)
Gives view (Err e) read = Fails e read
