-- A document that is read by its entry in the table of its block.
use Rattle.std.proofs.Common.{◌≡◌, ◌⊎◌, inl, inr, ℕ, ◌+◌, ◌-◌, ◌*◌, ◌<◌, ◌≤◌, true, false, ltb, IsTrue, List, length, Some, refl, sym, ◌∙◌, ap, subst, arith}
use Rattle.std.proofs.lemmas.Bool.{cond-true, cond-false, cases_lt, lt-ltb, le-ltb, le-leb, lt-leb, and_from, and_left, and_right}
use Rattle.std.specs.Prelude.{slice_range, Result, Ok, Err, IfOk, IfErr}
use Rattle.std.specs.Int.{w32, from_le_bytes}
use Rattle.store_base.proofs.ListLemmas.{length-slice}
use Rattle.store_base.proofs.Ranges.{part_of_part}
use Rattle.store_base.specs.Counts.{HasRisen}
use Rattle.store_base.specs.Files.{Part}
use Rattle.store_base.specs.declared.error.StoreError.{StoreError}
use Rattle.store_base.specs.declared.error.StoreError.TheVariants.{DamagedDocument, Read, Memory}
use Rattle.layered_index.specs.declared.checkpoint.Checkpoint.{Checkpoint}
use Rattle.layered_index.specs.Checkpoint.{byte_len, doc_count}
use Rattle.store_format.specs.Block.{Slot, doc, damaged, u32_at, count_of, table_of, start_of, end_of, is_sound, slot}
use Rattle.store_format.proofs.BlockLemmas.{length-block as length_of_block}
use Rattle.store_format.proofs.DocumentLemmas.{count_of-block}
use Rattle.store_format.specs.FileReading.{Comes}
use Rattle.store_reader.specs.GetAnswer.{Answers, AnswersFrom, AnswersTruly}
use Rattle.store_reader.specs.Reading.{part_of}
use Rattle.store_reader.specs.TwoReads.{entries_len, slot_len, IsEndFrom, SaysCount, BlocksSayCounts, DocumentComes}

-- ---- the end of a block

-- a number in the end of a block
u32_in_end : (block bytes : List ℕ) (from at place : ℕ) → slice_range block from (length block) ≡ bytes → from ≤ length block → at + 4 ≤ length bytes → place ≡ from + at
    → u32_at bytes at ≡ u32_at block place
unfolding u32_at
u32_in_end block bytes from at place is le fits same =
    let end : from + (at + 4) ≡ place + 4 = omega arith in
    ap (from_le_bytes w32) (sym (part_of_part block bytes from (length block) at (at + 4) is le (omega arith) (omega arith) fits) ∙ (λ i. slice_range block (sym same i) (end i)))

-- how long it is
length-end : (block bytes : List ℕ) (from : ℕ) → slice_range block from (length block) ≡ bytes → from ≤ length block → length bytes + from ≡ length block
length-end block bytes from is le = omega (arith, ap length is, length-slice block from (length block))

-- where the entries say that the document lies
record IsPlaced (block : List ℕ) (table j start end : ℕ) : Type 0 where
  has : j < count_of block
  room : 4 * (count_of block + 1) ≤ length block
  table_is : table ≡ table_of block
  start_is : start ≡ start_of block j
  end_is : end ≡ end_of block j

placed : (block entries : List ℕ) (table j end : ℕ) → IsEndFrom block table j entries → (8 < length entries → end ≡ u32_at entries 4) → (length entries ≤ 8 → end ≡ table)
    → IsPlaced block table j (u32_at entries 0) end
placed block entries table j end e more last =
    let has = e.has in
    let whole = e.table_is in
    let from : table + 4 * j ≤ length block = omega arith in
    let len = length-end block entries (table + 4 * j) e.bytes_are from in
    let table_is : table ≡ table_of block = omega arith in
    record {
      has = has;
      room = omega arith;
      table_is = table_is;
      start_is = u32_in_end block entries (table + 4 * j) 0 (table_of block + 4 * j) e.bytes_are from (omega arith) (omega arith);
      end_is = elim (cases_lt (j + 1) (count_of block)) [
        | inl lt ↦ more (omega arith) ∙ u32_in_end block entries (table + 4 * j) 4 (table_of block + 4 * (j + 1)) e.bytes_are from (omega arith) (omega arith)
            ∙ sym (cond-true (ltb (j + 1) (count_of block)) (start_of block (j + 1)) (table_of block) (lt-ltb (j + 1) (count_of block) lt))
        | inr le ↦ last (omega arith) ∙ table_is ∙ sym (cond-false (ltb (j + 1) (count_of block)) (start_of block (j + 1)) (table_of block) (le-ltb (j + 1) (count_of block) le))
      ];
    }

-- a document lies there, if that is before the table
pub slot_placed : (block entries : List ℕ) (table j end : ℕ) → IsEndFrom block table j entries → (8 < length entries → end ≡ u32_at entries 4) → (length entries ≤ 8 → end ≡ table)
    → u32_at entries 0 ≤ end → end ≤ table → slot block j ≡ doc (slice_range block (u32_at entries 0) end)
slot_placed block entries table j end e more last order within =
    let p = placed block entries table j end e more last in
    let has = p.has in
    let room = p.room in
    let start_is = p.start_is in
    let end_is = p.end_is in
    let table_is = p.table_is in
    let sound : is_sound block j ≡ true =
    and_from _ _ (and_from _ _ (and_from _ _ (and_from _ _ (le-leb 4 (length block) (omega arith)) (le-leb (4 * (count_of block + 1)) (length block) room)) (lt-ltb j (count_of block) has))
    (le-leb (start_of block j) (end_of block j) (omega arith))) (le-leb (end_of block j) (table_of block) (omega arith)) in
    cond-true (is_sound block j) (doc (slice_range block (start_of block j) (end_of block j))) damaged sound ∙ (λ i. doc (slice_range block (sym start_is i) (sym end_is i)))

-- and it is damaged, if not
pub slot_misplaced : (block entries : List ℕ) (table j end : ℕ) → IsEndFrom block table j entries → (8 < length entries → end ≡ u32_at entries 4) → (length entries ≤ 8 → end ≡ table)
    → (end < u32_at entries 0) ⊎ (table < end) → slot block j ≡ damaged
slot_misplaced block entries table j end e more last out =
    let p = placed block entries table j end e more last in
    let start_is = p.start_is in
    let end_is = p.end_is in
    let table_is = p.table_is in
    let unsound : is_sound block j ≡ false = elim out [
      | inl lt ↦ and_left _ _ (and_right _ _ (lt-leb (start_of block j) (end_of block j) (omega arith)))
      | inr lt ↦ and_right _ _ (lt-leb (end_of block j) (table_of block) (omega arith))
    ] in
    cond-false (is_sound block j) (doc (slice_range block (start_of block j) (end_of block j))) damaged unsound

-- ---- the end of a block of a file

-- The end of a block that a file has, by its checkpoint.
pub record IsEndRead (content : List ℕ) (c : Checkpoint) (id table : ℕ) (entries : List ℕ) : Type 0 where
  pub from : c.doc_range.start ≤ id
  pub to : id < c.doc_range.end
  pub order : c.byte_range.start ≤ c.byte_range.end
  pub within : c.byte_range.end ≤ length content
  pub table_is : table + (4 * doc_count c + 4) ≡ byte_len c
  pub read : entries ≡ slice_range content (c.byte_range.end - entries_len c id) c.byte_range.end

-- how long the block is
length-block : (content : List ℕ) (c : Checkpoint) → c.byte_range.end ≤ length content → length (part_of content c) ≡ byte_len c
length-block content c within = length-slice content c.byte_range.start c.byte_range.end within

-- it is the end of the block
end_in_block : (content : List ℕ) (c : Checkpoint) (id table : ℕ) (entries : List ℕ) → IsEndRead content c id table entries
    → slice_range (part_of content c) (table + 4 * (id - c.doc_range.start)) (length (part_of content c)) ≡ entries
end_in_block content c id table entries e =
    let from = e.from in
    let to = e.to in
    let order = e.order in
    let len = length-block content c e.within in
    let whole = e.table_is in
    let place : table + 4 * (id - c.doc_range.start) ≤ length (part_of content c) = omega arith in
    let begins : c.byte_range.start + (table + 4 * (id - c.doc_range.start)) ≡ c.byte_range.end - entries_len c id = omega arith in
    let ends : c.byte_range.start + length (part_of content c) ≡ c.byte_range.end = omega arith in
    sym (part_of_part content (part_of content c) c.byte_range.start c.byte_range.end (table + 4 * (id - c.doc_range.start)) (length (part_of content c)) refl order e.within place (omega arith))
    ∙ (λ i. slice_range content (begins i) (ends i))
    ∙ sym e.read

-- the number at its end is the count
count_at_end : (content : List ℕ) (c : Checkpoint) (id table : ℕ) (entries : List ℕ) → IsEndRead content c id table entries
    → u32_at entries (length entries - 4) ≡ count_of (part_of content c)
count_at_end content c id table entries e =
    let from = e.from in
    let to = e.to in
    let order = e.order in
    let size = length-block content c e.within in
    let whole = e.table_is in
    let place : table + 4 * (id - c.doc_range.start) ≤ length (part_of content c) = omega arith in
    let part = end_in_block content c id table entries e in
    let len = length-end (part_of content c) entries (table + 4 * (id - c.doc_range.start)) part place in
    u32_in_end (part_of content c) entries (table + 4 * (id - c.doc_range.start)) (length entries - 4) (length (part_of content c) - 4) part place (omega arith) (omega arith)

-- a number that is read there
pub read_at_end : (entries bytes : List ℕ) (len number : ℕ) → bytes ≡ entries → len ≡ length entries → number ≡ u32_at bytes (len - 4) → number ≡ u32_at entries (length entries - 4)
read_at_end entries bytes len number same whole is = is ∙ (λ i. u32_at (same i) (whole i - 4))

-- so the block does not say the count of its checkpoint, if that number is another
pub other_count : (content : List ℕ) (c : Checkpoint) (id table : ℕ) (entries : List ℕ) → IsEndRead content c id table entries → (u32_at entries (length entries - 4) ≡ doc_count c → ⊥)
    → SaysCount c (part_of content c) → ⊥
other_count content c id table entries e other says = other (count_at_end content c id table entries e ∙ says.count)

-- and it has the entries from the document's on, if that is the number
pub end_from : (content : List ℕ) (c : Checkpoint) (id table : ℕ) (entries : List ℕ) → IsEndRead content c id table entries → u32_at entries (length entries - 4) ≡ doc_count c
    → IsEndFrom (part_of content c) table (id - c.doc_range.start) entries
end_from content c id table entries e says =
    let from = e.from in
    let to = e.to in
    let size = length-block content c e.within in
    let whole = e.table_is in
    let count = count_at_end content c id table entries e in
    record { has = omega arith; table_is = omega arith; bytes_are = end_in_block content c id table entries e }

-- ---- reads

-- at most one read so far, of at most so many bytes, and none has failed
pub record IsBegun (most : ℕ) (old mid : Part) : Type 0 where
  pub content : mid.content ≡ old.content
  pub honest : mid.honest ≡ old.honest
  pub failures : mid.failures ≡ old.failures
  pub reads : mid.reads ≤ old.reads + 1
  pub asked : mid.asked ≤ old.asked + most

pub begun_by_one : (most from to : ℕ) (bytes : List ℕ) (old mid : Part) → to - from ≤ most → Comes old from to (Ok bytes) mid → IsBegun most old mid
begun_by_one most from to bytes old mid le came =
    let reads = came.once.reads in
    let asked = came.once.asked in
    record {
      content = came.once.content;
      honest = came.once.honest;
      failures = elim came.steady [ inl failed ↦ absurd cc | inr same ↦ same ];
      reads = omega arith;
      asked = omega arith;
    }

-- a slot that answers is the document's
pub truly : (id : ℕ) (s : Slot) (result : Result (List ℕ) StoreError) → Answers id s result → AnswersTruly id (Some s) result
truly id s (Ok bytes) answer = ap Some answer
truly id s (Err e) answer = elim answer [ inl d ↦ inr (inl (d.0, ap Some d.1)) | inr memory ↦ inr (inr (inr memory)) ]

-- ---- the document

module _ (c : Checkpoint) (id : ℕ) (old : Part) where
  -- no entries came
  pub no_entries : (from to : ℕ) (e : StoreError) (new : Part) → to - from ≤ entries_len c id → Comes old from to (Err e) new → DocumentComes c id old (Err e) new
  no_entries from to e new le came =
      let reads = came.once.reads in
      let asked = came.once.asked in
      record {
        honest = λ _. elim came.only [ inl read ↦ inr (inr (inl read)) | inr memory ↦ inr (inr (inr memory)) ];
        only = elim came.only [ inl read ↦ inr (inl read) | inr memory ↦ inr (inr memory) ];
        failed = came.failed;
        steady = came.steady;
        content_stays = came.once.content;
        honest_stays = came.once.honest;
        reads = omega arith;
        most = omega arith;
        few = λ _ _. omega arith;
      }

  -- the block is read
  pub by_block : (mid new : Part) (came result : Result (List ℕ) StoreError) → IsBegun (entries_len c id) old mid → (IsTrue old.honest → SaysCount c (part_of old.content c) → ⊥)
      → Comes mid c.byte_range.start c.byte_range.end came new → AnswersFrom id (id - c.doc_range.start) came result → DocumentComes c id old result new
  by_block mid new came result begun other read answer =
      let reads = read.once.reads in
      let asked = read.once.asked in
      let before = begun.reads in
      let few = begun.asked in
      record {
        honest = λ honest. truthful came result answer read.only (part came (read.bytes (subst IsTrue (sym begun.honest) honest)));
        only = only came result answer read.only;
        failed = λ is. let risen = read.failed (failed came result answer is) in subst (λ (n : ℕ). HasRisen n new.failures) begun.failures risen;
        steady = elim read.steady [ inl fails ↦ inl (failing came result answer fails) | inr same ↦ inr (same ∙ begun.failures) ];
        content_stays = read.once.content ∙ begun.content;
        honest_stays = read.once.honest ∙ begun.honest;
        reads = omega arith;
        most = omega arith;
        few = λ honest says. absurd (other honest says);
      }
    where
      part : (came : Result (List ℕ) StoreError) → IfOk came (λ block. block ≡ part_of mid.content c) → IfOk came (λ block. block ≡ part_of old.content c)
      part came is = subst (λ (content : List ℕ). IfOk came (λ block. block ≡ part_of content c)) begun.content is

      truthful : (came result : Result (List ℕ) StoreError) → AnswersFrom id (id - c.doc_range.start) came result → IfErr came (λ e. (e ≡ Read) ⊎ (e ≡ Memory))
          → IfOk came (λ block. block ≡ part_of old.content c) → AnswersTruly id (Some (slot (part_of old.content c) (id - c.doc_range.start))) result
      truthful (Ok block) result answer only is =
          subst (λ (b : List ℕ). AnswersTruly id (Some (slot b (id - c.doc_range.start))) result) is (truly id (slot block (id - c.doc_range.start)) result answer)
      truthful (Err e) (Ok bytes) answer only is = absurd cc
      truthful (Err e) (Err f) answer only is = let same : f ≡ e = cc in elim only [ inl read ↦ inr (inr (inl (same ∙ read))) | inr memory ↦ inr (inr (inr (same ∙ memory))) ]

      only : (came result : Result (List ℕ) StoreError) → AnswersFrom id (id - c.doc_range.start) came result → IfErr came (λ e. (e ≡ Read) ⊎ (e ≡ Memory))
          → IfErr result (λ e. (e ≡ DamagedDocument id) ⊎ (e ≡ Read) ⊎ (e ≡ Memory))
      only came (Ok bytes) answer why = tt
      only (Ok block) (Err e) answer why = elim answer [ inl d ↦ inl d.0 | inr memory ↦ inr (inr memory) ]
      only (Err f) (Err e) answer why = let same : e ≡ f = cc in elim why [ inl read ↦ inr (inl (same ∙ read)) | inr memory ↦ inr (inr (same ∙ memory)) ]

      failed : (came result : Result (List ℕ) StoreError) → AnswersFrom id (id - c.doc_range.start) came result → result ≡ Err Read → came ≡ Err Read
      failed (Ok block) (Ok bytes) answer is = absurd cc
      failed (Ok block) (Err e) answer is = absurd (elim answer [ inl d ↦ let same = d.0 in cc | inr memory ↦ cc ])
      failed (Err e) result answer is = sym answer ∙ is

      failing : (came result : Result (List ℕ) StoreError) → AnswersFrom id (id - c.doc_range.start) came result → came ≡ Err Read → result ≡ Err Read
      failing (Ok block) result answer is = absurd cc
      failing (Err e) result answer is = answer ∙ is

  -- the entries say that it is damaged
  pub damaged_by_entries : (mid : Part) → IsBegun (entries_len c id) old mid → (IsTrue old.honest → slot (part_of old.content c) (id - c.doc_range.start) ≡ damaged)
      → DocumentComes c id old (Err (DamagedDocument id)) mid
  damaged_by_entries mid begun is =
      let before = begun.reads in
      let few = begun.asked in
      record {
        honest = λ honest. inr (inl (refl, ap Some (is honest)));
        only = inl refl;
        failed = λ e. absurd cc;
        steady = inr begun.failures;
        content_stays = begun.content;
        honest_stays = begun.honest;
        reads = omega arith;
        most = omega arith;
        few = λ _ _. omega arith;
      }

  -- the document is read where the entries say
  pub by_entries : (mid new : Part) (from to : ℕ) (result : Result (List ℕ) StoreError) → IsBegun (entries_len c id) old mid → c.byte_range.start ≤ c.byte_range.end
      → c.byte_range.end ≤ length old.content → from ≤ to → to ≤ byte_len c
      → (IsTrue old.honest → slot (part_of old.content c) (id - c.doc_range.start) ≡ doc (slice_range (part_of old.content c) from to))
      → Comes mid (c.byte_range.start + from) (c.byte_range.start + to) result new → DocumentComes c id old result new
  by_entries mid new from to result begun ordered within order inside is read =
      let reads = read.once.reads in
      let asked = read.once.asked in
      let before = begun.reads in
      let few = begun.asked in
      let size = length-block old.content c within in
      record {
        honest = λ honest. truthful result read.only (is honest) (read.bytes (subst IsTrue (sym begun.honest) honest));
        only = only result read.only;
        failed = λ e. subst (λ (n : ℕ). HasRisen n new.failures) begun.failures (read.failed e);
        steady = elim read.steady [ inl fails ↦ inl fails | inr same ↦ inr (same ∙ begun.failures) ];
        content_stays = read.once.content ∙ begun.content;
        honest_stays = read.once.honest ∙ begun.honest;
        reads = omega arith;
        most = omega arith;
        few = λ honest says.
            let len : slot_len (slot (part_of old.content c) (id - c.doc_range.start)) ≡ to - from =
            ap slot_len (is honest) ∙ length-slice (part_of old.content c) from to (omega arith) in
            omega arith;
      }
    where
      truthful : (result : Result (List ℕ) StoreError) → IfErr result (λ e. (e ≡ Read) ⊎ (e ≡ Memory))
          → slot (part_of old.content c) (id - c.doc_range.start) ≡ doc (slice_range (part_of old.content c) from to)
          → IfOk result (λ bytes. bytes ≡ slice_range mid.content (c.byte_range.start + from) (c.byte_range.start + to))
          → AnswersTruly id (Some (slot (part_of old.content c) (id - c.doc_range.start))) result
      truthful (Ok bytes) only lies came =
          let size = length-block old.content c within in
          ap Some (lies ∙ ap doc (sym (came ∙ ap (λ (content : List ℕ). slice_range content (c.byte_range.start + from) (c.byte_range.start + to)) begun.content
          ∙ part_of_part old.content (part_of old.content c) c.byte_range.start c.byte_range.end from to refl ordered within order (omega arith))))
      truthful (Err e) only lies came = elim only [ inl read ↦ inr (inr (inl read)) | inr memory ↦ inr (inr (inr memory)) ]

      only : (result : Result (List ℕ) StoreError) → IfErr result (λ e. (e ≡ Read) ⊎ (e ≡ Memory)) → IfErr result (λ e. (e ≡ DamagedDocument id) ⊎ (e ≡ Read) ⊎ (e ≡ Memory))
      only (Ok bytes) why = tt
      only (Err e) why = elim why [ inl read ↦ inr (inl read) | inr memory ↦ inr (inr memory) ]

-- ---- which blocks say their count

pub blocks_say_counts : BlocksSayCounts
blocks_say_counts c docs same few = record { room = omega (arith, same, length_of_block docs); count = count_of-block docs few ∙ sym same }
