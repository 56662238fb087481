-- What opening a store finds.
use Rattle.std.specs.Prelude.{◌≡◌, ◌⊎◌, ℕ, ◌-◌, ◌<◌, ◌≤◌, List, length, slice_range, Result, Ok, Err}
use Rattle.store_base.specs.Files.{Part}
use Rattle.store_base.specs.declared.error.StoreError.{StoreError}
use Rattle.store_base.specs.declared.error.StoreError.TheVariants.{BadOffset, Read, Memory}
use Rattle.store_format.specs.declared.footer.DocStoreFooter.{DocStoreFooter}
use Rattle.layered_index.specs.Layers.{Index}
use Rattle.store_reader.specs.Covering.{IsIndexOf, HasIndexOf}
use Rattle.store_format.specs.Extraction.{ExtractsFooter, narrowed}
use Rattle.store_format.specs.FileReading.{Comes}
use Rattle.store_reader.specs.CachedBlocks.{no_blocks}
use Rattle.store_reader.specs.Reading.{Reading}
use Rattle.layered_index.specs.Refusal.{RefusesOnlyUnless}
use Rattle.store_format.specs.StoreFile.{StoreBlock, IsStore}

-- The index of checkpoints that cover the bytes before it; or these bytes are none, or memory ran out.
abbrev pub IndexBy : DocStoreFooter → List ℕ → Result Index StoreError → Type 0
IndexBy footer bytes (Ok index) = (index.period ≡ footer.period)
    × IsIndexOf footer.period bytes footer.offset index.checkpoints
IndexBy footer bytes (Err e) = RefusesOnlyUnless (HasIndexOf footer.period bytes footer.offset) e

-- the same for the result of a read
abbrev pub IndexFrom : DocStoreFooter → Result (List ℕ) StoreError → Result Index StoreError → Type 0
IndexFrom footer (Ok bytes) result = IndexBy footer bytes result
IndexFrom footer (Err e) result = result ≡ Err e

-- One read of the bytes between the offset and the footer, if the offset is not past the footer's first byte.
pub record ReadsIndex (old : Part) (footer : DocStoreFooter) (result : Result Index StoreError)
    (new : Part) : Type 0 where
  pub past : length old.content - 28 < footer.offset → (result ≡ Err BadOffset) × (new ≡ old)
  pub within : footer.offset ≤ length old.content - 28
      → (came : Result (List ℕ) StoreError) × Comes old footer.offset (length old.content - 28) came new
      × IndexFrom footer came result

abbrev pub OpensFrom : Part → Result DocStoreFooter StoreError → Result (DocStoreFooter × Index) StoreError → Part
    → Type 0
OpensFrom mid (Err e) result new = (result ≡ Err e) × (new ≡ mid)
OpensFrom mid (Ok footer) (Ok found) new = (found.0 ≡ footer) × ReadsIndex mid footer (Ok found.1) new
OpensFrom mid (Ok footer) (Err e) new = ReadsIndex mid footer (Err e) new

-- The footer and then the index are read; the first refusal counts.
pub record Opens (old : Part) (result : Result (DocStoreFooter × Index) StoreError) (new : Part) : Type 0 where
  pub footer : Result DocStoreFooter StoreError
  pub mid : Part
  pub reads : ExtractsFooter old footer mid
  pub goes_on : OpensFrom mid footer result new

-- the index of a reader
abbrev pub index_of : Reading → Index
index_of r = record { period = r.period; checkpoints = r.checkpoints }

-- The reader has what the footer and the index say. Its cache has kept nothing and counted nothing.
pub record IsOpened (old : Part) (capacity : ℕ) (reader : Reading) : Type 0 where
  pub footer : DocStoreFooter
  pub after : Part
  pub opens : Opens old (Ok (footer, index_of reader)) after
  pub part : reader.file ≡ narrowed after (slice_range after.content 0 footer.offset)
  pub version : reader.version ≡ footer.doc_store_version
  pub decompressor : reader.decompressor ≡ footer.decompressor
  pub cache : reader.cache ≡ no_blocks capacity

-- the footer and the index of a file that is accepted
abbrev pub OpensSome : Part → Part → Type 0
OpensSome old new = (found : DocStoreFooter × Index) × Opens old (Ok found) new

-- The footer or the index is refused; or memory for the cache of a file that is accepted.
abbrev pub IsRefused : Part → StoreError → Part → Type 0
IsRefused old e new = Opens old (Err e) new ⊎ ((e ≡ Memory) × OpensSome old new)

-- these bytes are the file of some store
pub record IsSomeStore (bytes : List ℕ) : Type 0 where
  pub period : ℕ
  pub version : ℕ
  pub blocks : List StoreBlock
  pub store : IsStore period bytes version blocks

-- A read failed or memory ran out, or the bytes are the file of no store.
abbrev pub RefusesNoStore : List ℕ → StoreError → Type 0
RefusesNoStore bytes e = (e ≡ Read) ⊎ (e ≡ Memory) ⊎ (IsSomeStore bytes → ⊥)
