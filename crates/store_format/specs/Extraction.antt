-- What reading the footer of a file gives.
use Rattle.std.specs.Prelude.{◌≡◌, ℕ, ◌-◌, ◌<◌, ◌≤◌, List, [], length, Result, Ok, Err}
use Rattle.store_base.specs.Files.{Part}
use Rattle.store_base.specs.declared.fault.DecodeFault.TheVariants as fault
use Rattle.store_base.specs.declared.error.StoreError.{StoreError}
use Rattle.store_base.specs.declared.error.StoreError.TheVariants.{ShortFile, BadVersion, BadBlockKind, BadPeriod}
use Rattle.store_format.specs.declared.footer.DocStoreFooter.{DocStoreFooter}
use Rattle.store_format.specs.FileReading.{Comes}
use Rattle.store_format.specs.FooterReading.{ReadsFooter}

-- What 28 bytes say: the footer, or the first refusal, of the version, the kind or the period.
abbrev pub Says : List ℕ → Result DocStoreFooter StoreError → Type 0
Says bytes (Ok footer) = ReadsFooter bytes (Ok footer) []
Says bytes (Err (BadVersion v)) = ReadsFooter bytes (Err (fault.Version v)) bytes
Says bytes (Err (BadBlockKind k)) = ReadsFooter bytes (Err (fault.Kind k)) bytes
Says bytes (Err (BadPeriod p)) = ReadsFooter bytes (Err (fault.Period p)) bytes
Says bytes (Err _) = ⊥

-- the same for the result of a read
abbrev pub SaysFrom : Result (List ℕ) StoreError → Result DocStoreFooter StoreError → Type 0
SaysFrom (Ok bytes) result = Says bytes result
SaysFrom (Err e) result = result ≡ Err e

-- One read of the last 28 bytes, if there are this many: what they say decides.
pub record ExtractsFooter (old : Part) (result : Result DocStoreFooter StoreError) (new : Part) : Type 0 where
  pub short : length old.content < 28 → (result ≡ Err (ShortFile (length old.content))) × (new ≡ old)
  pub long : 28 ≤ length old.content → (came : Result (List ℕ) StoreError)
      × Comes old (length old.content - 28) (length old.content) came new × SaysFrom came result

-- a part of a part, of this content; the file has failed and was read as often, and for as many bytes
abbrev pub narrowed : Part → List ℕ → Part
narrowed file content = record {
  content = content;
  honest = file.honest;
  failures = file.failures;
  reads = file.reads;
  asked = file.asked;
}
