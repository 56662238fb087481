-- The finished blocks of a writer, and its output.
use Rattle.std.specs.Prelude.{◌≡◌, ℕ, ◌-◌, ◌<◌, ◌≤◌, ◌^◌, ◌⊎◌, List, [], ◌++◌, length, take, drop, Option, Some, None}
use Rattle.std.specs.List.{sum_by}
use Rattle.store_base.specs.Counts.{HasRisen, raised}
use Rattle.store_base.specs.Outputs.{Termination}
use Rattle.store_format.specs.declared.kinds.Compressor.{Compressor}
use Rattle.store_base.specs.declared.error.Cause.{Cause}
use Rattle.store_base.specs.declared.error.Cause.TheVariants.{Write, Memory as OutOfMemory}
use Rattle.store_base.specs.declared.error.StoreError.{StoreError}
use Rattle.store_base.specs.declared.error.StoreError.TheVariants.{Memory, Failed}
use Rattle.layered_index.specs.declared.checkpoint.Checkpoint.{Checkpoint}
use Rattle.layered_index.specs.Checkpoint.{doc_count}
use Rattle.store_format.specs.StoreFile.{StoreBlock, AreBlocks, docs_in, data_of, checkpoints_of, blocks_at}

-- How blocks are packed and the index is grouped; the finished blocks; why the writer has failed, if it has; what the
-- output held when it was handed in, what it holds, its ends, and how often it failed.
pub record BlockOutput : Type 0 where
  pub compressor : Compressor
  pub period : ℕ
  pub finished : List StoreBlock
  pub failure : Option Cause
  pub before : List ℕ
  pub content : List ℕ
  pub termination : Termination
  pub failures : ℕ

-- nothing written yet by this writer to an output
abbrev pub new_output : Compressor → ℕ → List ℕ → Termination → ℕ → BlockOutput
new_output compressor period content termination failures = record {
  compressor = compressor;
  period = period;
  finished = [];
  failure = None;
  before = content;
  content = content;
  termination = termination;
  failures = failures;
}

-- these blocks after the finished ones
abbrev pub with_blocks : BlockOutput → List StoreBlock → BlockOutput
with_blocks out bs = record out { finished = out.finished ++ bs; content = out.content ++ data_of bs }

-- the same, but that the output has failed so often
abbrev pub with_risen : ℕ → BlockOutput → BlockOutput
with_risen n out = record out { failures = n }

-- After what the output held at first it holds the texts of the blocks and nothing else.
pub record HoldsBlocks (out : BlockOutput) : Type 0 where
  pub written : out.content ≡ out.before ++ data_of out.finished
  pub blocks : AreBlocks out.finished

-- The index can be grouped and the documents numbered, and the output holds the blocks unless the writer has failed.
pub record IsSound (out : BlockOutput) : Type 0 where
  pub least : 2 ≤ out.period
  pub most : out.period ≤ 64
  pub ids : docs_in out.finished < 2 ^ 32
  pub works : out.failure ≡ None → HoldsBlocks out

-- The output has grown.
pub record Grows (old new : List ℕ) : Type 0 where
  pub more : List ℕ
  pub some : 0 < length more
  pub parts : new ≡ old ++ more

-- A failed write is a failure of the output. For lack of memory a writer fails only once bytes were written.
abbrev pub HasCause : Cause → ℕ → ℕ → List ℕ → List ℕ → Type 0
HasCause Write failures risen old new = HasRisen failures risen
HasCause OutOfMemory failures risen old new = Grows old new

-- From now on the writer has failed, and that is why.
pub record FailsFor (cause : Cause) (old new : BlockOutput) : Type 0 where
  pub worked : old.failure ≡ None
  pub failure : new.failure ≡ Some cause
  pub why : HasCause cause old.failures new.failures old.content new.content

-- what a refused block leaves: a writer that had failed stays as it was
abbrev pub AfterFailedBlock : Option Cause → Cause → BlockOutput → BlockOutput → Type 0
AfterFailedBlock None cause old new = FailsFor cause old new
AfterFailedBlock (Some first) cause old new = (cause ≡ first) × (new ≡ old)

-- A block is refused by a failed writer alone.
abbrev pub AfterBlock : BlockOutput → BlockOutput → StoreError → Type 0
AfterBlock old new (Failed cause) = AfterFailedBlock old.failure cause old new
AfterBlock old new _ = ⊥

-- The output was not asked to end; or once, as the last thing, which failed.
abbrev pub HasNotEnded : Cause → Termination → Termination → Type 0
HasNotEnded Write old new = (new ≡ old) ⊎ (new ≡ record old { calls = raised old.calls 1 })
HasNotEnded OutOfMemory old new = new ≡ old

-- what a refused `close` leaves in the output
abbrev pub AfterFailedClose : Option Cause → Cause → BlockOutput → List ℕ → Termination → ℕ → Type 0
AfterFailedClose None cause old content termination failures = HasCause cause old.failures failures old.content content
    × HasNotEnded cause old.termination termination
AfterFailedClose (Some first) cause old content termination failures = (cause ≡ first) × (content ≡ old.content)
    × (failures ≡ old.failures) × (termination ≡ old.termination)

-- For lack of memory nothing was written; otherwise the writer had failed, or fails now.
abbrev pub AfterClose : StoreError → BlockOutput → List ℕ → Termination → ℕ → Type 0
AfterClose Memory old content termination failures = (old.failure ≡ None) × (content ≡ old.content)
    × (failures ≡ old.failures) × (termination ≡ old.termination)
AfterClose (Failed cause) old content termination failures =
    AfterFailedClose old.failure cause old content termination failures
AfterClose _ old content termination failures = ⊥

-- The end of a file was refused: for lack of memory before anything was written, or as the output failed.
abbrev pub IsEndRefusal : StoreError → List ℕ → List ℕ → Termination → Termination → ℕ → ℕ → Type 0
IsEndRefusal e old new termination ended failures risen =
    ((e ≡ Memory) × (new ≡ old) × (risen ≡ failures) × (ended ≡ termination))
    ⊎ ((e ≡ Failed Write) × HasRisen failures risen × HasNotEnded Write termination ended)

-- ---- how the blocks follow from the checkpoints and the output

-- of what the output holds, the part that was written, and the part before it
abbrev pub data_in : List ℕ → ℕ → List ℕ
data_in content written = drop (length content - written) content

abbrev pub front_of : List ℕ → ℕ → List ℕ
front_of content written = take (length content - written) content

abbrev pub blocks_in : List Checkpoint → List ℕ → ℕ → List StoreBlock
blocks_in cs content written = blocks_at cs (data_in content written)

-- The checkpoints are those of the blocks, and the blocks are all that was written.
pub record AreWritten (cs : List Checkpoint) (content : List ℕ) (written : ℕ) : Type 0 where
  pub held : written ≤ length content
  pub places : cs ≡ checkpoints_of (blocks_in cs content written)
  pub joined : data_in content written ≡ data_of (blocks_in cs content written)
  pub blocks : AreBlocks (blocks_in cs content written)

-- The ids are given up to the next one, and the checkpoints are right unless the writer has failed.
pub record IsCompressing (period next_id : ℕ) (cs : List Checkpoint) (content : List ℕ) (written : ℕ)
    (failure : Option Cause) : Type 0 where
  pub least : 2 ≤ period
  pub most : period ≤ 64
  pub ids : next_id ≡ sum_by doc_count cs
  pub few_ids : next_id < 2 ^ 32
  pub works : failure ≡ None → AreWritten cs content written

-- what is seen of a writer with these checkpoints and this output
abbrev pub compressing : Compressor → ℕ → List Checkpoint → List ℕ → ℕ → Termination → ℕ → Option Cause → BlockOutput
compressing compressor period cs content written termination failures failure = record {
  compressor = compressor;
  period = period;
  finished = blocks_in cs content written;
  failure = failure;
  before = front_of content written;
  content = content;
  termination = termination;
  failures = failures;
}
