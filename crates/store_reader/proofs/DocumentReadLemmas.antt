-- What follows where a document is read without its block.
use Rattle.std.proofs.Common.{◌≡◌, ◌⊎◌, inl, inr, ℕ, ◌+◌, ◌-◌, ◌≤◌, true, false, IsTrue, List, length, Option, Some, None, nat_eq, is_some, refl, sym, ◌∙◌, ap, subst, arith}
use Rattle.std.specs.Prelude.{if◌then◌else◌, Result, Ok, Err, IfErr, MatchOption, slice_get}
use Rattle.std.specs.List.{AllByRecursion}
use Rattle.store_base.specs.Counts.{HasRisen}
use Rattle.store_base.specs.Files.{Part}
use Rattle.store_base.specs.declared.error.StoreError.{StoreError}
use Rattle.store_base.specs.declared.error.StoreError.TheVariants.{InvalidArgument, DamagedDocument, Read, Memory}
use Rattle.layered_index.specs.declared.checkpoint.Checkpoint.{Checkpoint}
use Rattle.layered_index.specs.Checkpoint.{Covers, first_past}
use Rattle.store_format.specs.Block.{Slot, slot}
use Rattle.store_format.specs.Slots.{slots}
use Rattle.store_reader.specs.CachedBlocks.{CachedBlocks, block_at, after_hit, after_miss}
use Rattle.store_reader.specs.GetAnswer.{Answers, AnswersTruly}
use Rattle.store_reader.specs.Reading.{Reading, IsReader, IsSameStore, HasPart, part_of, store_of}
use Rattle.store_reader.specs.TwoReads.{DocumentComes, DocumentIsLookedUp, IsDocumentRead, after_asked}
use Rattle.store_reader.proofs.CachedBlocksLemmas.{All-promoted, All-lookup_at}
use Rattle.store_reader.proofs.GetAnswerLemmas.{slot_at}
use Rattle.store_reader.proofs.SeekLemmas.{All-found}
use Rattle.store_reader.proofs.TwoReadsLemmas.{truly}

-- ---- the cache

-- what a look-up leaves that did not find the block
pub asked_miss : (key : ℕ) (cache cache' : CachedBlocks) → block_at key cache ≡ None → cache' ≡ after_miss cache → cache' ≡ after_asked key cache
asked_miss key cache cache' absent after = after ∙ ap (λ (o : Option (List ℕ)). if is_some o then after_hit key cache else after_miss cache) (sym absent)

-- the blocks that are kept stay, in some order
All-asked : (P : ℕ × List ℕ → Type 0) (key : ℕ) (cache : CachedBlocks) → AllByRecursion P cache.kept → AllByRecursion P (after_asked key cache).kept
All-asked P key cache all = elim (is_some (block_at key cache)) as (λ b. AllByRecursion P (if b then after_hit key cache else after_miss cache).kept) [
  | true ↦ All-promoted P (nat_eq key) cache.kept all
  | false ↦ all
]

-- the capacity stays
capacity_asked : (key : ℕ) (cache : CachedBlocks) → (after_asked key cache).capacity ≡ cache.capacity
capacity_asked key cache = elim (is_some (block_at key cache)) as (λ b. (if b then after_hit key cache else after_miss cache).capacity ≡ cache.capacity) [ true ↦ refl | false ↦ refl ]

-- ---- the look-up

-- the block is not kept
pub looked_up_unkept : (c : Checkpoint) (id : ℕ) (file file' : Part) (cache cache' : CachedBlocks) (result : Result (List ℕ) StoreError) → block_at c.byte_range.start cache ≡ None
    → cache' ≡ after_miss cache → DocumentComes c id file result file' → DocumentIsLookedUp c id file cache result file' × (cache' ≡ after_asked c.byte_range.start cache)
looked_up_unkept c id file file' cache cache' result absent after comes = (rw absent comes, asked_miss c.byte_range.start cache cache' absent after)

-- ---- what follows

-- an answer of a slot is none of a failed read, or of no document
slot_causes : (id : ℕ) (s : Slot) (result : Result (List ℕ) StoreError) → Answers id s result → IfErr result (λ e. (e ≡ DamagedDocument id) ⊎ (e ≡ Read) ⊎ (e ≡ Memory))
slot_causes id s (Ok bytes) answer = tt
slot_causes id s (Err e) answer = elim answer [ inl d ↦ inl d.0 | inr memory ↦ inr (inr memory) ]

slot_reads : (id : ℕ) (s : Slot) (result : Result (List ℕ) StoreError) → Answers id s result → result ≡ Err Read → ⊥
slot_reads id s (Ok bytes) answer is = cc
slot_reads id s (Err e) answer is = elim answer [ inl d ↦ let same = d.0 in cc | inr memory ↦ cc ]

-- what a look-up of a document leaves of the file
record LeavesRead (id : ℕ) (old : Part) (result : Result (List ℕ) StoreError) (new : Part) : Type 0 where
  content : new.content ≡ old.content
  honest : new.honest ≡ old.honest
  only : IfErr result (λ e. (e ≡ DamagedDocument id) ⊎ (e ≡ Read) ⊎ (e ≡ Memory))
  failed : result ≡ Err Read → HasRisen old.failures new.failures
  steady : (result ≡ Err Read) ⊎ (new.failures ≡ old.failures)
  reads : new.reads ≤ old.reads + 2

leaves : (c : Checkpoint) (id : ℕ) (old new : Part) (result : Result (List ℕ) StoreError) (o : Option (List ℕ)) → MatchOption o (DocumentComes c id old result new)
    (λ block. (new ≡ old) × Answers id (slot block (id - c.doc_range.start)) result)
    → LeavesRead id old result new
leaves c id old new result None comes = record {
  content = comes.content_stays;
  honest = comes.honest_stays;
  only = comes.only;
  failed = comes.failed;
  steady = comes.steady;
  reads = comes.reads;
}
leaves c id old new result (Some block) (same, answer) = record {
  content = ap (λ (p : Part). p.content) same;
  honest = ap (λ (p : Part). p.honest) same;
  only = slot_causes id (slot block (id - c.doc_range.start)) result answer;
  failed = λ is. absurd (slot_reads id (slot block (id - c.doc_range.start)) result answer is);
  steady = inr (ap (λ (p : Part). p.failures) same);
  reads = let reads : new.reads ≡ old.reads = ap (λ (p : Part). p.reads) same in omega arith;
}

-- what always holds of a reader holds after a document was looked up
pub reader_after_read : (file file' : Part) (cs : List Checkpoint) (period id : ℕ) (c : Checkpoint) (cache cache' : CachedBlocks) (result : Result (List ℕ) StoreError) → IsReader file cs period cache
    → DocumentIsLookedUp c id file cache result file' → cache' ≡ after_asked c.byte_range.start cache → IsReader file' cs period cache'
reader_after_read file file' cs period id c cache cache' result reader comes after =
    let left = leaves c id file file' result (block_at c.byte_range.start cache) comes in
    record {
      covers = subst (λ (bytes : List ℕ). Covers cs (length bytes)) (sym left.content) reader.covers;
      two = reader.two;
      few = reader.few;
      holds = λ is. subst (λ (b : CachedBlocks). AllByRecursion (HasPart file'.content cs) b.kept) (sym after)
          (All-asked (HasPart file'.content cs) c.byte_range.start cache
          (subst (λ (bytes : List ℕ). AllByRecursion (HasPart bytes cs) cache.kept) (sym left.content) (reader.holds (subst IsTrue left.honest is))));
    }

module _ (old new : Reading) (id : ℕ) (result : Result (List ℕ) StoreError) (read : IsDocumentRead old id result new) where
  left : LeavesRead id old.file result new.file
  left = leaves read.checkpoint id old.file new.file result (block_at read.checkpoint.byte_range.start old.cache) read.comes

  none_such : (result : Result (List ℕ) StoreError) → IfErr result (λ e. (e ≡ DamagedDocument id) ⊎ (e ≡ Read) ⊎ (e ≡ Memory)) → result ≡ Err (InvalidArgument id) → ⊥
  none_such (Ok bytes) only is = cc
  none_such (Err e) only is = elim only [ inl d ↦ cc | inr more ↦ elim more [ inl read ↦ cc | inr memory ↦ cc ] ]

  -- a document that there is is not refused as none
  pub read_not_none : result ≡ Err (InvalidArgument id) → ⊥
  read_not_none is = none_such result left.only is

  more_causes : (result : Result (List ℕ) StoreError) → IfErr result (λ e. (e ≡ DamagedDocument id) ⊎ (e ≡ Read) ⊎ (e ≡ Memory))
      → IfErr result (λ e. (e ≡ InvalidArgument id) ⊎ (e ≡ DamagedDocument id) ⊎ (e ≡ Read) ⊎ (e ≡ Memory))
  more_causes (Ok bytes) only = tt
  more_causes (Err e) only = elim only [ inl d ↦ inr (inl d) | inr more ↦ elim more [ inl read ↦ inr (inr (inl read)) | inr memory ↦ inr (inr (inr memory)) ] ]

  pub read_causes : IfErr result (λ e. (e ≡ InvalidArgument id) ⊎ (e ≡ DamagedDocument id) ⊎ (e ≡ Read) ⊎ (e ≡ Memory))
  read_causes = more_causes result left.only

  pub read_risen : result ≡ Err Read → HasRisen old.file.failures new.file.failures
  read_risen is = left.failed is

  pub read_steady : (result ≡ Err Read) ⊎ (new.file.failures ≡ old.file.failures)
  read_steady = left.steady

  pub read_twice : new.file.reads ≤ old.file.reads + 2
  read_twice = left.reads

  no_fewer : (result ≡ Err Read) ⊎ (new.file.failures ≡ old.file.failures) → (result ≡ Err Read → HasRisen old.file.failures new.file.failures) → old.file.failures ≤ new.file.failures
  no_fewer steady failed = elim steady [ inl is ↦ (failed is).no_lower | inr same ↦ omega arith ]

  pub read_same_store : IsSameStore old new
  read_same_store = record {
    content = left.content;
    honest = left.honest;
    failures = no_fewer left.steady left.failed;
    checkpoints = ap (λ (r : Reading). r.checkpoints) read.stays;
    period = ap (λ (r : Reading). r.period) read.stays;
    version = ap (λ (r : Reading). r.version) read.stays;
    decompressor = ap (λ (r : Reading). r.decompressor) read.stays;
    capacity = ap (λ (r : Reading). r.cache.capacity) read.stays ∙ capacity_asked read.checkpoint.byte_range.start old.cache;
  }

  by_slot : (c : Checkpoint) → first_past old.checkpoints id ≡ Some c → AllByRecursion (HasPart old.file.content old.checkpoints) old.cache.kept → IsTrue old.file.honest
      → (o : Option (List ℕ)) → block_at c.byte_range.start old.cache ≡ o → MatchOption o (DocumentComes c id old.file result new.file)
      (λ block. (new.file ≡ old.file) × Answers id (slot block (id - c.doc_range.start)) result)
      → AnswersTruly id (Some (slot (part_of old.file.content c) (id - c.doc_range.start))) result
  by_slot c seeks holds honest None is comes = comes.honest honest
  by_slot c seeks holds honest (Some block) is (same, answer) =
      let here = All-lookup_at (HasPart old.file.content old.checkpoints) c.byte_range.start old.cache.kept block is holds in
      let part : block ≡ part_of old.file.content c = All-found _ old.checkpoints id c seeks here refl in
      subst (λ (b : List ℕ). AnswersTruly id (Some (slot b (id - c.doc_range.start))) result) part (truly id (slot block (id - c.doc_range.start)) result answer)

  -- in an honest file the slot answers
  pub read_truly : IsReader old.file old.checkpoints old.period old.cache → IsTrue old.file.honest → AnswersTruly id (slice_get (slots (store_of old)) id) result
  read_truly reader honest =
      let c = read.checkpoint in
      subst (λ (o : Option Slot). AnswersTruly id o result) (sym (slot_at old id c reader.covers read.seeks))
      (by_slot c read.seeks (reader.holds honest) honest (block_at c.byte_range.start old.cache) refl read.comes)
