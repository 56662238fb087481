-- What reading a value from the front of bytes gives. A text is the bytes of a value.
use Rattle.std.specs.Prelude.{◌≡◌, ℕ, ◌<◌, List, ◌++◌, length, Result, Ok, Err}
use Rattle.store_base.specs.declared.fault.DecodeFault.{DecodeFault}
use Rattle.store_base.specs.declared.fault.DecodeFault.TheVariants.{Short, Malformed, Version, Kind, Memory, Period}

-- the values of an unsigned type, by the first number past it
abbrev pub IsBelow : ℕ → ℕ → Type 0
IsBelow limit n = n < limit

-- A front of the bytes is the text of a value.
pub record HasFront {A : Type 0} (IsValue : A → Type 0) (text : A → List ℕ) (bytes : List ℕ) : Type 0 where
  pub value : A
  pub rest : List ℕ
  pub fits : IsValue value
  pub parts : bytes ≡ text value ++ rest

-- The bytes are a proper beginning of the text of a value.
pub record IsCutShort {A : Type 0} (IsValue : A → Type 0) (text : A → List ℕ) (bytes : List ℕ) : Type 0 where
  pub value : A
  pub more : List ℕ
  pub fits : IsValue value
  pub some : 0 < length more
  pub parts : text value ≡ bytes ++ more

-- A value is read from the front of old, or refused: Ok exactly if a front is the text of a value, Short exactly if old
-- is a proper beginning of such a text, else Malformed. Ok leaves what follows the text, a refusal the whole input.
abbrev pub Reads : {A : Type 0} → (A → Type 0) → (A → List ℕ) → List ℕ → Result A DecodeFault → List ℕ → Type 0
Reads IsValue text old (Ok x) new = IsValue x × (old ≡ text x ++ new) × (IsCutShort IsValue text old → ⊥)
Reads IsValue text old (Err Short) new = IsCutShort IsValue text old × (HasFront IsValue text old → ⊥) × (new ≡ old)
Reads IsValue text old (Err Malformed) new = (IsCutShort IsValue text old → ⊥) × (HasFront IsValue text old → ⊥)
    × (new ≡ old)
Reads IsValue text old (Err (Version v)) new = ⊥
Reads IsValue text old (Err (Kind k)) new = ⊥
Reads IsValue text old (Err (Period p)) new = ⊥
Reads IsValue text old (Err Memory) new = ⊥

-- the same of a value and what is left of old
abbrev pub ReadsPart : {A : Type 0} → (A → Type 0) → (A → List ℕ) → List ℕ → Result (A × List ℕ) DecodeFault → Type 0
ReadsPart IsValue text old (Ok x) = Reads IsValue text old (Ok x.0) x.1
ReadsPart IsValue text old (Err e) = Reads IsValue text old (Err e) old

-- A value with the same text was read, and what follows is left; or memory ran out.
abbrev pub IsReadBack : {A : Type 0} → (A → List ℕ) → A → List ℕ → Result A DecodeFault → List ℕ → Type 0
IsReadBack text x rest (Ok y) new = (text y ≡ text x) × (new ≡ rest)
IsReadBack text x rest (Err e) new = e ≡ Memory

-- what a function returned, a reference's bytes taken for the reference
abbrev pub seen_by : {A B : Type 0} → (A → B) → Result A DecodeFault → Result B DecodeFault
seen_by f (Ok x) = Ok (f x)
seen_by f (Err e) = Err e
