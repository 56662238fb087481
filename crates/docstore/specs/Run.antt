-- Whole lists of writing calls.
use Rattle.std.specs.Prelude.{◌≡◌, ◌≤◌, ◌⊎◌, ℕ, List, [], ◌∷◌, ◌++◌, length, Option, None, Result, Ok, Err, OnOk}
use Rattle.store_base.specs.Outputs.{Termination}
use Rattle.store_base.specs.declared.error.StoreError.{StoreError}
use Rattle.store_base.specs.declared.error.StoreError.TheVariants.{Read, Memory, Failed}
use Rattle.docstore.specs.declared.run.StoreCommand.{StoreCommand}
use Rattle.docstore.specs.declared.run.StoreCommand.TheVariants.{Doc, Bytes, Stack}
use Rattle.store_format.specs.StoreFile.{StoreBlock, AreBlocks, data_of, file, IsStore}
use Rattle.store_format.specs.Slots.{slots}
use Rattle.docstore.specs.BlockOutput.{HasCause, HasNotEnded}
use Rattle.docstore.specs.Trace.{Step, Answer, accepted, read_failed, no_memory, refused, store, store_bytes, stack}
use Rattle.docstore.specs.Trace.{Effect, adds, ends, may_end, no_effect, effect, meaning, Blocks}
use Rattle.docstore.specs.Causes.{Stage, first_stage, CommandGets, HaveCauses}
use Rattle.docstore.specs.Writer.{Writing, num_docs, flushed, with_document, with_failures}
use Rattle.store_reader.specs.Reading.{Reading, IsReadAtMostOnce}
use Rattle.docstore.specs.Stacking.{AreRead, with_store}

-- what a trace says of a result
abbrev pub answer_of : Result (Unit {0}) StoreError → Answer
answer_of (Ok x) = accepted
answer_of (Err Read) = read_failed
answer_of (Err Memory) = no_memory
answer_of (Err _) = refused

-- A reader's store in a trace: the blocks that were read from its file, if it was stacked.
pub record IsStacking (reader : Reading) (result : Result (Unit {0}) StoreError) (s : Step) : Type 0 where
  pub blocks : List StoreBlock
  pub step : s ≡ record { call = stack blocks; answer = answer_of result }
  pub read : OnOk result (AreRead reader blocks)

-- A command and its result in a trace.
abbrev pub IsStep : {D H : Type 0} → (D → Option (List ℕ)) → StoreCommand D H → Result (Unit {0}) StoreError → Step
    → Type 0
IsStep doc_bytes (Doc d) result s = s ≡ record { call = store (doc_bytes d); answer = answer_of result }
IsStep doc_bytes (Bytes v) result s = s ≡ record { call = store_bytes v.items; answer = answer_of result }
IsStep doc_bytes (Stack reader) result s = IsStacking reader result s

-- What a call leaves of a command: all but what its reader's file counts.
abbrev pub IsKept : {D H : Type 0} → StoreCommand D H → StoreCommand D H → Type 0
IsKept (Doc d) new = new ≡ Doc d
IsKept (Bytes v) new = new ≡ Bytes v
IsKept (Stack old) (Stack new) = IsReadAtMostOnce old new
IsKept (Stack old) _ = ⊥

-- what an effect leaves of a writer
abbrev pub after_effect : Writing → Effect → Writing
after_effect w (adds bytes) = with_document w bytes
after_effect w (ends bs) = with_store w bs
after_effect w may_end = flushed w
after_effect w no_effect = w

-- the state of a writer in a list of calls
abbrev pub stage_of : Writing → Stage
stage_of w = record { count = num_docs w; pending = w.pending }

-- The call was made by a writer that worked and works.
pub record IsCall {D H : Type 0} (doc_bytes : D → Option (List ℕ)) (command left : StoreCommand D H)
    (result : Result (Unit {0}) StoreError) (old new : Writing) : Type 0 where
  pub step : Step
  pub is : IsStep doc_bytes command result step
  pub cause : CommandGets doc_bytes (stage_of old) command left result
  pub works : old.output.failure ≡ None
  pub after : new ≡ with_failures new.output.failures (after_effect old (effect step))

-- These steps are the commands with their results.
abbrev pub IsTrace : {D H : Type 0} → (D → Option (List ℕ)) → List (StoreCommand D H)
    → List (Result (Unit {0}) StoreError) → List Step → Type 0
IsTrace doc_bytes [] [] [] = Unit {0}
IsTrace doc_bytes (command ∷ commands) (result ∷ results) (s ∷ trace) = IsStep doc_bytes command result s
    × IsTrace doc_bytes commands results trace
IsTrace doc_bytes _ _ _ = ⊥

-- Each command is as it was, but for what its reader's file counts.
abbrev pub AreCommandsKept : {D H : Type 0} → List (StoreCommand D H) → List (StoreCommand D H) → Type 0
AreCommandsKept [] [] = Unit {0}
AreCommandsKept (old ∷ commands) (new ∷ others) = IsKept old new × AreCommandsKept commands others
AreCommandsKept _ _ = ⊥

-- After what it held, the output has the file of the blocks that these calls leave, whose slots are what the calls
-- brought; and each result has its cause.
pub record IsWritten {D H : Type 0} (period size : ℕ) (doc_bytes : D
    → Option (List ℕ)) (commands left : List (StoreCommand D H)) (results : List (Result (Unit {0}) StoreError))
    (old new : List ℕ) : Type 0 where
  pub trace : List Step
  pub blocks : List StoreBlock
  pub calls : IsTrace doc_bytes commands results trace
  pub causes : HaveCauses size doc_bytes first_stage commands left results trace
  pub cut : Blocks size trace blocks
  pub store : IsStore period (file period 3 blocks) 3 blocks
  pub slots_are : slots blocks ≡ meaning trace
  pub output : new ≡ old ++ file period 3 blocks

-- The calls were made, and then memory ran out for the end of the file: after its old content the output has their
-- finished blocks, and at most one more block waited.
pub record IsUnclosed {D H : Type 0} (size : ℕ) (doc_bytes : D
    → Option (List ℕ)) (commands left : List (StoreCommand D H)) (old new : List ℕ) : Type 0 where
  pub results : List (Result (Unit {0}) StoreError)
  pub trace : List Step
  pub blocks : List StoreBlock
  pub waiting : List StoreBlock
  pub calls : IsTrace doc_bytes commands results trace
  pub causes : HaveCauses size doc_bytes first_stage commands left results trace
  pub cut : Blocks size trace (blocks ++ waiting)
  pub one : length waiting ≤ 1
  pub output : new ≡ old ++ data_of blocks

-- what is known of an output: what it holds, its ends, and how often it failed
pub record OutputState : Type 0 where
  pub content : List ℕ
  pub termination : Termination
  pub failures : ℕ

abbrev pub output_state : List ℕ → Termination → ℕ → OutputState
output_state content termination failures = record { content = content; termination = termination; failures = failures }

-- What a refused run leaves. If memory ran out for the results, no call was made, and the output is as it was given.
abbrev pub AfterRun : {D H : Type 0} → ℕ → (D → Option (List ℕ)) → List (StoreCommand D H) → List (StoreCommand D H)
    → OutputState → OutputState → StoreError → Type 0
AfterRun size doc_bytes commands left old new Memory = ((left ≡ commands) × (new ≡ old))
    ⊎ (IsUnclosed size doc_bytes commands left old.content new.content × (new.termination ≡ old.termination))
AfterRun size doc_bytes commands left old new (Failed cause) =
    HasCause cause old.failures new.failures old.content new.content × HasNotEnded cause old.termination new.termination
AfterRun size doc_bytes commands left old new _ = ⊥

-- The slots of the blocks that calls may leave are what the calls brought, whatever the block size.
abbrev pub BlocksMeanTheirCalls : Type 0
BlocksMeanTheirCalls = (size : ℕ) (trace : List Step) (bs : List StoreBlock) → AreBlocks bs → Blocks size trace bs
    → slots bs ≡ meaning trace
