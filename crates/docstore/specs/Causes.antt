-- Why the calls of a list were refused.
use Rattle.std.specs.Prelude.{◌≡◌, ◌≢◌, ℕ, ◌+◌, ◌-◌, ◌<◌, ◌≤◌, ◌^◌, nat_lt, if◌then◌else◌, List, [], ◌∷◌, ◌++◌, length}
use Rattle.std.specs.Prelude.{Option, None, Result, Ok, Err, MatchOption}
use Rattle.store_base.specs.Counts.{HasRisen}
use Rattle.store_base.specs.declared.error.StoreError.{StoreError}
use Rattle.store_base.specs.declared.error.StoreError.TheVariants.{Read, Memory, OldVersion, Unserializable}
use Rattle.store_base.specs.declared.error.StoreError.TheVariants.{BlockTooLarge, TooManyDocs}
use Rattle.store_format.specs.declared.version.DocStoreVersion.TheVariants.{V1}
use Rattle.docstore.specs.declared.run.StoreCommand.{StoreCommand}
use Rattle.docstore.specs.declared.run.StoreCommand.TheVariants.{Doc, Bytes, Stack}
use Rattle.store_format.specs.Block.{block}
use Rattle.store_reader.specs.Reading.{Reading, num_docs as docs_of}
use Rattle.docstore.specs.Trace.{Step, Effect, adds, ends, may_end, no_effect, effect, slots_of, weight}

-- the state of a list of calls: how many documents were taken, and which wait for their block
pub record Stage : Type 0 where
  pub count : ℕ
  pub pending : List (List ℕ)

abbrev pub first_stage : Stage
first_stage = record { count = 0; pending = [] }

-- the documents that wait after an effect: none where they exceed the block size
abbrev pub pending_after : ℕ → List (List ℕ) → Effect → List (List ℕ)
pending_after size docs (adds bytes) = if nat_lt size (weight (docs ++ bytes ∷ [])) then [] else docs ++ bytes ∷ []
pending_after size docs (ends bs) = []
pending_after size docs may_end = []
pending_after size docs no_effect = docs

abbrev pub stage_after : ℕ → Stage → Effect → Stage
stage_after size at e = record { count = at.count + length (slots_of e); pending = pending_after size at.pending e }

-- There is an id for one more document.
abbrev pub HasId : Stage → Type 0
HasId at = at.count < 2 ^ 32 - 1

-- how long the block of the waiting documents is with these bytes
abbrev pub length_with : Stage → List ℕ → ℕ
length_with at bytes = length (block (at.pending ++ bytes ∷ []))

-- There is an id, and the block has a place in 32 bits, or has none.
abbrev pub HasRoom : Stage → List ℕ → Type 0
HasRoom at bytes = HasId at × (length_with at bytes < 2 ^ 32)

abbrev pub IsTooMuch : Stage → List ℕ → Type 0
IsTooMuch at bytes = HasId at × (2 ^ 32 ≤ length_with at bytes)

-- When bytes get this result: each refusal exactly if its cause holds, unless memory ran out.
abbrev pub BytesGet : Stage → List ℕ → Result (Unit {0}) StoreError → Type 0
BytesGet at bytes (Ok x) = HasRoom at bytes
BytesGet at bytes (Err Memory) = HasRoom at bytes
BytesGet at bytes (Err TooManyDocs) = at.count ≡ 2 ^ 32 - 1
BytesGet at bytes (Err BlockTooLarge) = IsTooMuch at bytes
BytesGet at bytes (Err _) = ⊥

-- The same of a document that may have no bytes. Memory may run out before these are known.
abbrev pub DocumentGets : Stage → Option (List ℕ) → Result (Unit {0}) StoreError → Type 0
DocumentGets at bytes (Ok x) = MatchOption bytes ⊥ (HasRoom at)
DocumentGets at bytes (Err Memory) = HasId at
DocumentGets at bytes (Err TooManyDocs) = at.count ≡ 2 ^ 32 - 1
DocumentGets at bytes (Err Unserializable) = HasId at × (bytes ≡ None)
DocumentGets at bytes (Err BlockTooLarge) = MatchOption bytes ⊥ (IsTooMuch at)
DocumentGets at bytes (Err _) = ⊥

-- The store can be stacked, and its documents can be numbered, or can't.
abbrev pub CanStack : Stage → Reading → Type 0
CanStack at reader = (reader.version ≢ V1) × (at.count + docs_of reader < 2 ^ 32)

abbrev pub HasTooMany : Stage → Reading → Type 0
HasTooMany at reader = (reader.version ≢ V1) × (2 ^ 32 ≤ at.count + docs_of reader)

-- The same of a store. A read fails only where the count of failures of its own file rose in this call, and memory runs
-- out only where it didn't.
abbrev pub StoreGets : Stage → Reading → Reading → Result (Unit {0}) StoreError → Type 0
StoreGets at old new (Ok x) = CanStack at old
StoreGets at old new (Err Memory) = CanStack at old × (new.file.failures ≡ old.file.failures)
StoreGets at old new (Err Read) = CanStack at old × HasRisen old.file.failures new.file.failures
StoreGets at old new (Err OldVersion) = old.version ≡ V1
StoreGets at old new (Err TooManyDocs) = HasTooMany at old
StoreGets at old new (Err _) = ⊥

abbrev pub CommandGets : {D H : Type 0} → (D → Option (List ℕ)) → Stage → StoreCommand D H → StoreCommand D H
    → Result (Unit {0}) StoreError → Type 0
CommandGets doc_bytes at (Doc d) new result = DocumentGets at (doc_bytes d) result
CommandGets doc_bytes at (Bytes v) new result = BytesGet at v.items result
CommandGets doc_bytes at (Stack old) (Stack new) result = StoreGets at old new result
CommandGets doc_bytes at (Stack old) _ result = ⊥

-- Each command got its result where the calls before it had led.
abbrev pub HaveCauses : {D H : Type 0} → ℕ → (D → Option (List ℕ)) → Stage → List (StoreCommand D H)
    → List (StoreCommand D H) → List (Result (Unit {0}) StoreError) → List Step → Type 0
HaveCauses size doc_bytes at [] [] [] [] = Unit {0}
HaveCauses size doc_bytes at (old ∷ olds) (new ∷ news) (result ∷ results) (s ∷ trace) =
    CommandGets doc_bytes at old new result × HaveCauses size doc_bytes
    (stage_after size at (effect s)) olds news results trace
HaveCauses size doc_bytes at _ _ _ _ = ⊥
