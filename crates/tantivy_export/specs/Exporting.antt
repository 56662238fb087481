-- A store that is written as a file of version 2, and what an export that was refused leaves.
use Rattle.std.specs.Prelude.{◌≡◌, ℕ, IsTrue, List, ◌++◌, length, slice_range}
use Rattle.store_base.specs.Counts.{HasRisen}
use Rattle.store_base.specs.Outputs.{Output}
use Rattle.store_base.specs.declared.error.Cause.TheVariants.{Write}
use Rattle.store_base.specs.declared.error.StoreError.{StoreError}
use Rattle.store_base.specs.declared.error.StoreError.TheVariants.{Read, Memory, OldVersion, Failed}
use Rattle.store_format.specs.StoreFile.{StoreBlock, file, IsStore}
use Rattle.store_reader.specs.Reading.{Reading}
use Rattle.store_reader.specs.Parts.{byte_at}
use Rattle.docstore.specs.BlockOutput.{HasNotEnded}
use Rattle.docstore.specs.Stacking.{AreRead}

-- After what an output held it has the bytes of this many first blocks, as they came of a reader's file: its own if the
-- file is honest.
pub record IsCopied (reader : Reading) (count : ℕ) (old new : List ℕ) : Type 0 where
  pub bytes : List ℕ
  pub len : length bytes ≡ byte_at count reader.checkpoints
  pub honest : IsTrue reader.file.honest
      → bytes ≡ slice_range reader.file.content 0 (byte_at count reader.checkpoints)
  pub after : new ≡ old ++ bytes

-- The file of version 2 and period 8 of the blocks that came of a reader's file, which is a store of them.
pub record IsExportOf (reader : Reading) (content : List ℕ) : Type 0 where
  pub blocks : List StoreBlock
  pub came : AreRead reader blocks
  pub is_file : content ≡ file 8 2 blocks
  pub store : IsStore 8 (file 8 2 blocks) 2 blocks

-- the bytes of some first blocks
abbrev pub BeginsCopy : Reading → List ℕ → List ℕ → Type 0
BeginsCopy reader old new = (count : ℕ) × IsCopied reader count old new

-- What the copying of the blocks leaves where it was refused.
abbrev pub AfterCopy : Reading → Reading → List ℕ → List ℕ → ℕ → ℕ → StoreError → Type 0
AfterCopy reader read old new failures risen Memory = BeginsCopy reader old new
    × (read.file.failures ≡ reader.file.failures)
AfterCopy reader read old new failures risen Read = BeginsCopy reader old new
    × HasRisen reader.file.failures read.file.failures
AfterCopy reader read old new failures risen (Failed Write) = HasRisen failures risen
AfterCopy reader read old new failures risen _ = ⊥

-- The output has a beginning of the blocks, no call of it failed, and it was not asked to end.
pub record IsLeftOpen (reader : Reading) (old new : Output) : Type 0 where
  pub begun : BeginsCopy reader old.content new.content
  pub failures : new.failures ≡ old.failures
  pub termination : new.termination ≡ old.termination

-- What an export leaves where it was refused.
abbrev pub AfterExport : Reading → Reading → Output → Output → StoreError → Type 0
AfterExport reader read old new OldVersion = (new ≡ old) × (read ≡ reader)
AfterExport reader read old new Memory = IsLeftOpen reader old new × (read.file.failures ≡ reader.file.failures)
AfterExport reader read old new Read = IsLeftOpen reader old new × HasRisen reader.file.failures read.file.failures
AfterExport reader read old new (Failed Write) = HasRisen old.failures new.failures
    × HasNotEnded Write old.termination new.termination
AfterExport reader read old new _ = ⊥
