-- Reading a footer, and its version.
use Rattle.std.specs.Prelude.{◌≡◌, ◌≢◌, ℕ, ◌<◌, ◌≤◌, ◌^◌, List, ◌∷◌, ◌++◌, length, Result, Ok, Err}
use Rattle.store_base.specs.declared.fault.DecodeFault.{DecodeFault}
use Rattle.store_base.specs.declared.fault.DecodeFault.TheVariants.{Short, Version, Kind, Period}
use Rattle.store_base.specs.Serialize.{fixed}
use Rattle.store_format.specs.declared.footer.DocStoreFooter.{DocStoreFooter}
use Rattle.store_format.specs.declared.version.DocStoreVersion.{DocStoreVersion}
use Rattle.store_format.specs.Footer.{footer, kind_of, version_number}
use Rattle.store_format.specs.StoreFile.{HasForm, reserved_of}

-- the bytes of a version
abbrev pub version_bytes : DocStoreVersion → List ℕ
version_bytes v = fixed 4 (version_number v)

-- a number of no version
pub record IsUnknown (v : ℕ) : Type 0 where
  pub below : v < 2 ^ 32
  pub unknown : 1 ≤ v → 3 < v

-- Four bytes decide; fewer are short.
abbrev pub ReadsVersion : List ℕ → Result DocStoreVersion DecodeFault → List ℕ → Type 0
ReadsVersion old (Ok v) new = old ≡ version_bytes v ++ new
ReadsVersion old (Err Short) new = (length old < 4) × (new ≡ old)
ReadsVersion old (Err (Version v)) new = (rest : List ℕ) × IsUnknown v × (old ≡ fixed 4 v ++ rest) × (new ≡ old)
ReadsVersion old (Err _) new = ⊥

-- the period of a version, where this is the first reserved byte
abbrev pub IsPeriodOf : DocStoreVersion → ℕ → ℕ → Type 0
IsPeriodOf version byte period = (others : List ℕ) → length others ≡ 14
    → HasForm period (version_number version) (byte ∷ others)

-- what is written of a footer, always by version 3
abbrev pub footer_bytes : DocStoreFooter → List ℕ
footer_bytes f = footer 3 f.offset (kind_of f.decompressor) (reserved_of f.period 3)

-- its period is one that can be read again
pub record IsFooter (f : DocStoreFooter) : Type 0 where
  pub offset : f.offset < 2 ^ 64
  pub least : 2 ≤ f.period
  pub most : f.period ≤ 64

-- the bytes are at least a footer's, and begin with this version and offset and these bytes
pub record Begins (old : List ℕ) (version offset : ℕ) (more : List ℕ) : Type 0 where
  pub long : 28 ≤ length old
  pub known : (1 ≤ version) × (version ≤ 3)
  pub few : offset < 2 ^ 64
  pub parts : old ≡ fixed 4 version ++ fixed 8 offset ++ more

-- The version decides, then the kind, and then by version 3 the period.
abbrev pub ReadsFooter : List ℕ → Result DocStoreFooter DecodeFault → List ℕ → Type 0
ReadsFooter old (Ok f) new =
    (reserved : List ℕ) × (f.offset < 2 ^ 64) × HasForm f.period (version_number f.doc_store_version) reserved
    × (old ≡ footer (version_number f.doc_store_version) f.offset (kind_of f.decompressor) reserved ++ new)
ReadsFooter old (Err Short) new = (length old < 28) × (new ≡ old)
ReadsFooter old (Err (Version v)) new = (rest : List ℕ) × (28 ≤ length old) × IsUnknown v × (old ≡ fixed 4 v ++ rest)
    × (new ≡ old)
ReadsFooter old (Err (Kind kind)) new = (version : ℕ) × (offset : ℕ) × (rest : List ℕ)
    × Begins old version offset (kind ∷ rest) × (kind ≢ 0) × (new ≡ old)
ReadsFooter old (Err (Period period)) new = (offset : ℕ) × (rest : List ℕ) × Begins old 3 offset (0 ∷ period ∷ rest)
    × (2 ≤ period → 64 < period) × (new ≡ old)
ReadsFooter old (Err _) new = ⊥
