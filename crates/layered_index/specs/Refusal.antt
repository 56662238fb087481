-- What follows if bytes are refused.
use Rattle.std.specs.Prelude.{◌≡◌, ◌⊎◌, Option, Some, None, Result, Ok, Err}
use Rattle.store_base.specs.declared.error.StoreError.{StoreError}
use Rattle.store_base.specs.declared.error.StoreError.TheVariants.{BadIndex, Memory}
use Rattle.layered_index.specs.declared.fault.ReadFault.{ReadFault}
use Rattle.layered_index.specs.declared.fault.ReadFault.TheVariants.{Malformed, OutOfMemory}

-- the refusal that a fault is answered by
abbrev pub refusal_of : ReadFault → StoreError
refusal_of Malformed = BadIndex
refusal_of OutOfMemory = Memory

-- It is for lack of memory, or the bytes aren't what they should be.
abbrev pub RefusesOnlyUnless : Type 0 → StoreError → Type 0
RefusesOnlyUnless good e = ((e ≡ BadIndex) × (good → ⊥)) ⊎ (e ≡ Memory)

-- the same of a fault
abbrev pub FailsOnlyUnless : Type 0 → ReadFault → Type 0
FailsOnlyUnless good Malformed = good → ⊥
FailsOnlyUnless good OutOfMemory = Unit {0}

-- What a function returned, seen by view, is what reading gives, unless memory ran out.
abbrev pub Fails : {Y : Type 0} → ReadFault → Option Y → Type 0
Fails Malformed read = read ≡ None
Fails OutOfMemory read = Unit {0}

abbrev pub AnswersAs : {X Y : Type 0} → (X → Y) → Result X ReadFault → Option Y → Type 0
AnswersAs view (Ok x) read = read ≡ Some (view x)
AnswersAs view (Err e) read = Fails e read
