-- Why a store was not published.
use Rattle.std.specs.Prelude.{◌≡◌, ℕ, Result, Err}
use Rattle.store_base.specs.Counts.{HasRisen}
use Rattle.store_base.specs.declared.error.Cause.TheVariants.{Write}
use Rattle.store_base.specs.declared.error.StoreError.{StoreError}
use Rattle.store_base.specs.declared.error.StoreError.TheVariants.{Read, Memory, OldVersion, Failed}
use Rattle.store_format.specs.declared.version.DocStoreVersion.TheVariants.{V1}
use Rattle.store_reader.specs.Reading.{Reading}
use Rattle.store_folder.specs.Beside.{IsFault}
use Rattle.store_published.specs.declared.publishing.FillError.{FillError}
use Rattle.store_published.specs.declared.publishing.FillError.TheVariants.{Filling, Folder, Store}

-- What ended the filling; a call of the folder that failed, or lack of memory; or the writer's error.
abbrev pub IsFillFault : {T E : Type 0} → ℕ → ℕ → Result T E → FillError E → Type 0
IsFillFault old new filled (Filling e) = filled ≡ Err e
IsFillFault old new filled (Folder e) = IsFault old new e
IsFillFault old new filled (Store e) = Unit {0}

-- What ended the filling early; a call of the folder that failed, or lack of memory; or the writer's error.
abbrev pub IsRefusal : {E : Type 0} → (E → Type 0) → ℕ → ℕ → FillError E → Type 0
IsRefusal refuses old new (Filling e) = refuses e
IsRefusal refuses old new (Folder e) = IsFault old new e
IsRefusal refuses old new (Store e) = Unit {0}

-- Why an export was not published: the store is of version 1, and nothing was read; a read of its file failed; memory
-- ran out; the output failed; or a call of the folder did, or memory for one ran out.
abbrev pub IsExportRefusal : Reading → Reading → ℕ → ℕ → FillError StoreError → Type 0
IsExportRefusal reader read old new (Filling OldVersion) = (reader.version ≡ V1) × (read ≡ reader)
IsExportRefusal reader read old new (Filling Read) = HasRisen reader.file.failures read.file.failures
IsExportRefusal reader read old new (Filling Memory) = read.file.failures ≡ reader.file.failures
IsExportRefusal reader read old new (Filling (Failed Write)) = Unit {0}
IsExportRefusal reader read old new (Filling _) = ⊥
IsExportRefusal reader read old new (Folder e) = IsFault old new e
IsExportRefusal reader read old new (Store _) = ⊥
