-- What the reading of a store in parts brings, and what a part that is refused leaves.
use Rattle.std.proofs.Common.{◌≡◌, ℕ, zero, suc, ◌+◌, ◌-◌, ◌^◌, ◌<◌, ◌≤◌, IsTrue, List, [], ◌∷◌, ◌++◌, length, take, drop, Option, Some, None}
use Rattle.std.proofs.Common.{refl, sym, ◌∙◌, ap, subst, arith, append_assoc, length-append}
use Rattle.std.specs.Prelude.{slice_range, IfSome, IsNone, Ok, Err}
use Rattle.std.specs.List.{sum_by, AllByRecursion}
use Rattle.std.proofs.lemmas.List.{map-append, take_all, take-map, take-append-drop}
use Rattle.std.proofs.lemmas.List.Sums.{sum_by-append}
use Rattle.std.proofs.Math.Seq.{take-add}
use Rattle.layered_index.proofs.OuterLayersLemmas.{docs_end-append}
use Rattle.layered_index.proofs.LayerLemmas.{docs_grow}
use Rattle.store_base.specs.Counts.{raised}
use Rattle.store_base.specs.declared.error.Cause.{Cause}
use Rattle.store_base.specs.declared.error.Cause.TheVariants.{Write, Memory as OutOfMemory}
use Rattle.store_base.specs.declared.error.StoreError.{StoreError}
use Rattle.layered_index.specs.declared.checkpoint.Checkpoint.{Checkpoint}
use Rattle.layered_index.specs.Checkpoint.{doc_count, docs_end, bytes_end, IsInLineFrom, IsFilled, Covers}
use Rattle.layered_index.proofs.LineLemmas.{in_line-split}
use Rattle.store_format.specs.StoreFile.{StoreBlock, docs_in, data_of, checkpoints_from, blocks_at}
use Rattle.store_format.proofs.StoreLemmas.{docs_in-cons, docs_in-append, length-data_of-cons, data_of-append, checkpoints_from-append}
use Rattle.store_reader.specs.Reading.{Reading, IsReadOnce, store_of, part_of}
use Rattle.store_reader.specs.Parts.{byte_at, number_of_parts, EndsPart, IsPartFrom, IsPartRead}
use Rattle.store_reader.specs.declared.reader.parts.StorePart.{StorePart}
use Rattle.store_reader.proofs.PartLemmas.{block_at, byte_order, byte_within}
use Rattle.store_reader.proofs.ReaderStoreLemmas.{blocks_of, store_is}
use Rattle.store_reader.proofs.WalkingLemmas.{there}
use Rattle.docstore.specs.BlockOutput.{BlockOutput, IsSound, with_blocks, with_risen, HasCause, FailsFor, AfterFailedBlock}
use Rattle.docstore.specs.Stacking.{AreRead, CutAll}
use Rattle.docstore.specs.StackingInParts.{after_more, IsReadTimes, IsReadAtMost, StacksFirst, IsReadUpTo}
use Rattle.docstore.proofs.BlocksCutLemmas.{is_cut, cut_own}
use Rattle.docstore.proofs.ShiftedCheckpointLemmas.{docs_up}

-- ---- reads

reads_more : (count times : ℕ) → raised (after_more count times) 1 ≡ after_more count (suc times)
reads_more count zero = refl
reads_more count (suc times) = omega arith

bytes_more : (count n m : ℕ) → 0 < m → raised (after_more count n) m ≡ after_more count (n + m)
bytes_more count n zero some = absurd (omega arith)
bytes_more count zero (suc m) some = let same : suc m ≡ 0 + suc m = omega arith in ap (after_more count) same
bytes_more count (suc n) (suc m) some =
    let more : raised (raised count (suc n)) (suc m) ≡ raised count (suc (n + suc m)) = omega arith in
    let same : suc (n + suc m) ≡ suc n + suc m = omega arith in
    more ∙ ap (after_more count) same

-- one more read
pub read_more : (times bytes len : ℕ) (reader read new : Reading) → 0 < len → IsReadTimes times bytes reader read → IsReadOnce len read new → IsReadTimes (suc times) (bytes + len) reader new
read_more times bytes len reader read new some p q = record {
  content = q.once.content ∙ p.content;
  honest = q.once.honest ∙ p.honest;
  reads = q.once.reads ∙ ap (λ (n : ℕ). raised n 1) p.reads ∙ reads_more reader.file.reads times;
  asked = q.once.asked ∙ ap (λ (n : ℕ). raised n len) p.asked ∙ bytes_more reader.file.asked bytes len some;
  failures = omega (arith, p.failures, q.once.failures);
  others = q.others ∙ ap (λ (r : Reading). record r { file = new.file }) p.others;
}

pub same_checkpoints : (times bytes : ℕ) (reader read : Reading) → IsReadTimes times bytes reader read → read.checkpoints ≡ reader.checkpoints
same_checkpoints times bytes reader read kept = ap (λ (r : Reading). r.checkpoints) kept.others

-- reads leave the store as it is
pub covers_still : (times bytes : ℕ) (reader read : Reading) → IsReadTimes times bytes reader read → Covers read.checkpoints (length read.file.content)
    → Covers reader.checkpoints (length reader.file.content)
covers_still times bytes reader read kept covers =
    subst (λ (xs : List ℕ). Covers reader.checkpoints (length xs)) kept.content
    (subst (λ (cs : List Checkpoint). Covers cs (length read.file.content)) (same_checkpoints times bytes reader read kept) covers)

-- a part has bytes
part_bytes : (cs : List Checkpoint) (total n m : ℕ) → Covers cs total → n < m → m ≤ length cs → byte_at n cs < byte_at m cs
part_bytes cs total n m covers lt le =
    let c = there cs n (omega arith) in
    let here = block_at cs total n c.0 covers c.1 in
    omega (arith, here.byte_start, here.some_bytes, byte_order cs total n m c.0 covers c.1 lt)

-- one more part was read, whether it came or not
pub part_read : (size n m : ℕ) (reader read new : Reading) → Covers reader.checkpoints (length reader.file.content) → IsReadUpTo size n reader read → EndsPart size read.checkpoints n m
    → IsReadOnce (byte_at m read.checkpoints - byte_at n read.checkpoints) read new → IsReadUpTo size m reader new
part_read size n m reader read new covers up ends once =
    let cs = same_checkpoints up.times (byte_at n reader.checkpoints) reader read up.read in
    let p : EndsPart size reader.checkpoints n m = subst (λ (xs : List Checkpoint). EndsPart size xs n m) cs ends in
    let q : IsReadOnce (byte_at m reader.checkpoints - byte_at n reader.checkpoints) read new =
    subst (λ (xs : List Checkpoint). IsReadOnce (byte_at m xs - byte_at n xs) read new) cs once in
    let less = part_bytes reader.checkpoints (length reader.file.content) n m covers p.some p.last in
    let len = byte_at m reader.checkpoints - byte_at n reader.checkpoints in
    let end : byte_at n reader.checkpoints + len ≡ byte_at m reader.checkpoints = omega arith in
    record {
      times = suc up.times;
      read = subst (λ (k : ℕ). IsReadTimes (suc up.times) k reader new) end (read_more up.times (byte_at n reader.checkpoints) len reader read new (omega arith) up.read q);
      parts = omega (arith, up.parts, p.parts);
    }

pub read_at_most : (size n : ℕ) (reader read : Reading) → Covers reader.checkpoints (length reader.file.content) → IsReadUpTo size n reader read
    → IsReadAtMost (number_of_parts size reader.checkpoints) reader read
read_at_most size n reader read covers up = record {
  times = up.times;
  bytes = byte_at n reader.checkpoints;
  few = omega (arith, up.parts);
  within = byte_within reader.checkpoints (length reader.file.content) n covers;
  read = up.read;
}

-- ---- some of the checkpoints that follow one another

bytes_end-append : (byte : ℕ) (xs ys : List Checkpoint) → bytes_end byte (xs ++ ys) ≡ bytes_end (bytes_end byte xs) ys
bytes_end-append byte [] ys = refl
bytes_end-append byte (x ∷ xs) ys = bytes_end-append x.byte_range.end xs ys

filled_front : (xs ys : List Checkpoint) → AllByRecursion IsFilled (xs ++ ys) → AllByRecursion IsFilled xs
filled_front [] ys f = tt
filled_front (x ∷ xs) ys f = (f.0, filled_front xs ys f.1)

filled_back : (xs ys : List Checkpoint) → AllByRecursion IsFilled (xs ++ ys) → AllByRecursion IsFilled ys
filled_back [] ys f = f
filled_back (x ∷ xs) ys f = filled_back xs ys f.1

pub record IsSlice (cs : List Checkpoint) (n m : ℕ) : Type 0 where
  pub line : IsInLineFrom (docs_end 0 (take n cs)) (byte_at n cs) (slice_range cs n m)
  pub filled : AllByRecursion IsFilled (slice_range cs n m)
  pub front : take m cs ≡ take n cs ++ slice_range cs n m
  pub end : bytes_end (byte_at n cs) (slice_range cs n m) ≡ byte_at m cs
  pub docs : sum_by doc_count (take n cs) ≡ docs_end 0 (take n cs)
  pub few_docs : sum_by doc_count (take n cs) + sum_by doc_count (slice_range cs n m) ≤ docs_end 0 cs

pub is_slice : (cs : List Checkpoint) (total n m : ℕ) → Covers cs total → n ≤ m → IsSlice cs n m
is_slice cs total n m covers le =
    let some = slice_range cs n m in
    let size : n + (m - n) ≡ m = omega arith in
    let front : take m cs ≡ take n cs ++ some = ap (λ (k : ℕ). take k cs) (sym size) ∙ take-add n (m - n) cs in
    let whole : (take n cs ++ some) ++ drop m cs ≡ cs = ap (λ (xs : List Checkpoint). xs ++ drop m cs) (sym front) ∙ take-append-drop m cs in
    let line = in_line-split 0 0 (take n cs ++ some) (drop m cs) (subst (IsInLineFrom 0 0) (sym whole) covers.in_line) in
    let two = in_line-split 0 0 (take n cs) some line.0 in
    let filled = filled_front (take n cs ++ some) (drop m cs) (subst (AllByRecursion IsFilled) (sym whole) covers.filled) in
    let ends = docs_grow (docs_end 0 (take n cs ++ some)) (bytes_end 0 (take n cs ++ some)) (drop m cs) line.1 in
    let all : docs_end (docs_end 0 (take n cs ++ some)) (drop m cs) ≡ docs_end 0 cs = sym (docs_end-append 0 (take n cs ++ some) (drop m cs)) ∙ ap (docs_end 0) whole in
    let sum = docs_up 0 0 (take n cs ++ some) line.0 in
    record {
      line = two.1;
      filled = filled_back (take n cs) some filled;
      front = front;
      end = sym (bytes_end-append 0 (take n cs) some) ∙ ap (bytes_end 0) (sym front);
      docs = omega (arith, docs_up 0 0 (take n cs) two.0);
      few_docs = omega (arith, sum, sum_by-append doc_count (take n cs) some, ends, all);
    }

-- ---- blocks that were put after

checkpoint_ends : (id byte : ℕ) (bs : List StoreBlock) → (docs_end id (checkpoints_from id byte bs) ≡ id + docs_in bs) × (bytes_end byte (checkpoints_from id byte bs) ≡ byte + length (data_of bs))
checkpoint_ends id byte [] = (omega arith, omega arith)
checkpoint_ends id byte (b ∷ bs) =
    let on = checkpoint_ends (id + b.count) (byte + length b.bytes) bs in
    (omega (arith, on.0, docs_in-cons b bs), omega (arith, on.1, length-data_of-cons b bs))

joined : (old : BlockOutput) (bs cs : List StoreBlock) (n m : ℕ) → with_risen n (with_blocks (with_risen m (with_blocks old bs)) cs) ≡ with_risen n (with_blocks old (bs ++ cs))
joined old bs cs n m =
    let text : (old.content ++ data_of bs) ++ data_of cs ≡ old.content ++ data_of (bs ++ cs) =
    append_assoc old.content (data_of bs) (data_of cs) ∙ ap (λ (x : List ℕ). old.content ++ x) (sym (data_of-append bs cs)) in
    λ i. record old { finished = append_assoc old.finished bs cs i; content = text i; failures = n }

-- how many documents they have
pub docs_stacked : (reader : Reading) (n m : ℕ) (old new : BlockOutput) → IsSlice reader.checkpoints n m → (p : StacksFirst reader n old new)
    → docs_in p.blocks ≡ sum_by doc_count (take n reader.checkpoints)
docs_stacked reader n m old new s p =
    omega (arith, (checkpoint_ends 0 0 p.blocks).0, ap (docs_end 0) p.places, s.docs)

-- of the file's own bytes it makes the file's own blocks
slice_own : (reader : Reading) (n m : ℕ) (bytes : List ℕ) (blocks : List StoreBlock) → Covers reader.checkpoints (length reader.file.content) → IsSlice reader.checkpoints n m
    → bytes ≡ slice_range reader.file.content (byte_at n reader.checkpoints) (byte_at m reader.checkpoints) → blocks ≡ take n (store_of reader)
    → blocks ++ blocks_at (slice_range reader.checkpoints n m) bytes ≡ take m (store_of reader)
slice_own reader n m bytes blocks covers s here before =
    let cs = reader.checkpoints in
    let content = reader.file.content in
    let some = slice_range cs n m in
    let f : Checkpoint → StoreBlock = λ c. record { count = doc_count c; bytes = part_of content c } in
    let taken : (k : ℕ) → take k (store_of reader) ≡ blocks_of content (take k cs) = λ k. ap (take k) (store_is content cs covers) ∙ take-map f k cs in
    let cut : blocks_at some bytes ≡ blocks_of content some =
    cut_own content (docs_end 0 (take n cs)) (byte_at n cs) some bytes s.line (omega (arith, s.end, byte_within cs (length content) m covers))
    (here ∙ ap (slice_range content (byte_at n cs)) (sym s.end)) in
    (λ i. before i ++ cut i) ∙ ap (λ (bs : List StoreBlock). bs ++ blocks_of content some) (taken n) ∙ sym (map-append f (take n cs) some) ∙ ap (blocks_of content) (sym s.front) ∙ sym (taken m)

-- a part is put after those before it
pub part_stacked : (size n : ℕ) (reader read : Reading) (times bytes : ℕ) (part : StorePart) (old mid new : BlockOutput) → Covers reader.checkpoints (length reader.file.content)
    → IsReadTimes times bytes reader read → IsPartFrom size read n part → StacksFirst reader n old mid
    → new ≡ with_risen new.failures (with_blocks mid (blocks_at (slice_range read.checkpoints part.blocks.start part.blocks.end) part.bytes)) → StacksFirst reader part.blocks.end old new
part_stacked size n reader read times bytes part old mid new covers kept p before after =
    let cs = reader.checkpoints in
    let content = reader.file.content in
    let m = part.blocks.end in
    let same = same_checkpoints times bytes reader read kept in
    let s = is_slice cs (length content) n m covers (omega (arith, p.ends.some)) in
    let some = slice_range cs n m in
    let len : byte_at n cs + length part.bytes ≡ byte_at m cs = subst (λ (xs : List Checkpoint). byte_at n xs + length part.bytes ≡ byte_at m xs) same p.len in
    let cut = is_cut (docs_end 0 (take n cs)) (byte_at n cs) some part.bytes s.line s.filled (s.end ∙ sym len) in
    let more = blocks_at some part.bytes in
    let cut_is : blocks_at (slice_range read.checkpoints part.blocks.start m) part.bytes ≡ more = λ i. blocks_at (slice_range (same i) (p.first i) m) part.bytes in
    let doc : 0 + docs_in before.blocks ≡ docs_end 0 (take n cs) = sym (checkpoint_ends 0 0 before.blocks).0 ∙ ap (docs_end 0) before.places in
    let byte : 0 + length (data_of before.blocks) ≡ byte_at n cs = sym (checkpoint_ends 0 0 before.blocks).1 ∙ ap (bytes_end 0) before.places in
    record {
      blocks = before.blocks ++ more;
      places = checkpoints_from-append 0 0 before.blocks more ∙ (λ i. before.places i ++ checkpoints_from (doc i) (byte i) more) ∙ ap (λ (xs : List Checkpoint). take n cs ++ xs) cut.places
          ∙ sym s.front;
      honest = λ is. slice_own reader n m part.bytes before.blocks covers s
          (p.bytes (subst IsTrue (sym kept.honest) is) ∙ (λ i. slice_range (kept.content i) (byte_at n (same i)) (byte_at m (same i)))) (before.honest is);
      after = after ∙ (λ i. with_risen new.failures (with_blocks (before.after i) (cut_is i))) ∙ joined old before.blocks more new.failures mid.failures;
    }

-- a part that was read
pub record IsPartTaken (size n : ℕ) (reader read new : Reading) (part : StorePart) : Type 0 where
  pub covers : Covers reader.checkpoints (length reader.file.content)
  pub came : IsPartFrom size read n part
  pub up : IsReadUpTo size part.blocks.end reader new
  pub within : part.blocks.end ≤ length reader.checkpoints
  pub more : n < part.blocks.end
  pub checkpoints : new.checkpoints ≡ read.checkpoints

pub part_taken : (size n : ℕ) (reader read new : Reading) (found : Option StorePart) (part : StorePart) → Covers read.checkpoints (length read.file.content) → IsReadUpTo size n reader read
    → found ≡ Some part → IfSome found (IsPartFrom size read n) → (n < length read.checkpoints → IsPartRead size read n (Ok found) new) → IsPartTaken size n reader read new part
part_taken size n reader read new found part covers_read up is came once =
    let cs = reader.checkpoints in
    let covers = covers_still up.times (byte_at n cs) reader read up.read covers_read in
    let same = same_checkpoints up.times (byte_at n cs) reader read up.read in
    let p : IsPartFrom size read n part = subst (λ (o : Option StorePart). IfSome o (IsPartFrom size read n)) is came in
    let ends : EndsPart size cs n part.blocks.end = subst (λ (xs : List Checkpoint). EndsPart size xs n part.blocks.end) same p.ends in
    let r = once (omega (arith, p.ends.some, p.ends.last)) in
    let end : part.blocks.end ≡ r.end = subst (λ (o : Option StorePart). IfSome o (λ q. q.blocks.end ≡ r.end)) is r.came in
    record {
      covers = covers;
      came = p;
      up = subst (λ (k : ℕ). IsReadUpTo size k reader new) (sym end) (part_read size n r.end reader read new covers up r.ends r.once);
      within = ends.last;
      more = ends.some;
      checkpoints = ap (λ (x : Reading). x.checkpoints) r.once.others;
    }

-- a part that was read, and can be put after those before it
pub record CanBePut (size n : ℕ) (reader read new : Reading) (part : StorePart) (mid : BlockOutput) : Type 0 where
  pub taken : IsPartTaken size n reader read new part
  pub few : docs_in mid.finished + sum_by doc_count (slice_range new.checkpoints part.blocks.start part.blocks.end) < 2 ^ 32
  pub cut : CutAll (slice_range new.checkpoints part.blocks.start part.blocks.end) (length part.bytes)

pub can_be_put : (size n : ℕ) (reader read new : Reading) (part : StorePart) (old mid : BlockOutput) → IsPartTaken size n reader read new part → IsReadUpTo size n reader read
    → StacksFirst reader n old mid → docs_in old.finished + docs_end 0 reader.checkpoints < 2 ^ 32 → CanBePut size n reader read new part mid
can_be_put size n reader read new part old mid taken up put few =
    let cs = reader.checkpoints in
    let same = same_checkpoints up.times (byte_at n cs) reader read up.read in
    let p = taken.came in
    let s = is_slice cs (length reader.file.content) n part.blocks.end taken.covers (omega (arith, p.ends.some)) in
    let range : slice_range new.checkpoints part.blocks.start part.blocks.end ≡ slice_range cs n part.blocks.end = λ i. slice_range ((taken.checkpoints ∙ same) i) (p.first i) part.blocks.end in
    let finished : docs_in mid.finished ≡ docs_in old.finished + docs_in put.blocks = ap (λ (out : BlockOutput). docs_in out.finished) put.after ∙ docs_in-append old.finished put.blocks in
    let len : byte_at n cs + length part.bytes ≡ byte_at part.blocks.end cs = subst (λ (xs : List Checkpoint). byte_at n xs + length part.bytes ≡ byte_at part.blocks.end xs) same p.len in
    record {
      taken = taken;
      few = omega (arith, few, finished, docs_stacked reader n part.blocks.end old mid s put, s.few_docs, ap (λ (xs : List Checkpoint). sum_by doc_count xs) range);
      cut = subst (λ (xs : List Checkpoint). CutAll xs (length part.bytes)) (sym range)
          (record { doc = docs_end 0 (take n cs); byte = byte_at n cs; in_line = s.line; filled = s.filled; end = s.end ∙ sym len });
    }

-- and once it was written they are all after the finished ones
taken_stacked : (size n : ℕ) (reader read left : Reading) (part : StorePart) (old mid new : BlockOutput) (range : List Checkpoint) (text : List ℕ) → IsReadUpTo size n reader read
    → StacksFirst reader n old mid → IsPartTaken size n reader read left part → range ≡ slice_range left.checkpoints part.blocks.start part.blocks.end → text ≡ part.bytes
    → new ≡ with_risen new.failures (with_blocks mid (blocks_at range text)) → StacksFirst reader part.blocks.end old new
taken_stacked size n reader read left part old mid new range text up put taken range_is text_is after =
    let same : range ≡ slice_range read.checkpoints part.blocks.start part.blocks.end =
    range_is ∙ ap (λ (cs : List Checkpoint). slice_range cs part.blocks.start part.blocks.end) taken.checkpoints in
    part_stacked size n reader read up.times (byte_at n reader.checkpoints) part old mid new taken.covers up.read taken.came put
    (after ∙ (λ i. with_risen new.failures (with_blocks mid (blocks_at (same i) (text_is i)))))

-- What is known once the blocks before a place were read and stacked.
pub record HasStacked (size n : ℕ) (store now : Reading) (old mid : BlockOutput) : Type 0 where
  pub put : StacksFirst store n old mid
  pub read : IsReadUpTo size n store now
  pub within : n ≤ length store.checkpoints
  pub reader : now.file.failures ≡ store.file.failures
  pub works : mid.failure ≡ None
  pub termination : mid.termination ≡ old.termination
  pub count : old.failures ≤ mid.failures
  pub steady : mid.failures ≡ old.failures
  pub sound : IsSound mid

-- one part more
pub stacked_more : (size n : ℕ) (store now left : Reading) (part : StorePart) (old mid new : BlockOutput) (range : List Checkpoint) (text : List ℕ) → HasStacked size n store now old mid
    → IsPartTaken size n store now left part → range ≡ slice_range left.checkpoints part.blocks.start part.blocks.end → text ≡ part.bytes
    → new ≡ with_risen new.failures (with_blocks mid (blocks_at range text)) → left.file.failures ≡ now.file.failures → new.termination ≡ mid.termination → new.failures ≡ mid.failures → IsSound new
    → HasStacked size part.blocks.end store left old new
stacked_more size n store now left part old mid new range text has taken range_is text_is after still termination steady sound = record {
  put = taken_stacked size n store now left part old mid new range text has.read has.put taken range_is text_is after;
  read = taken.up;
  within = taken.within;
  reader = still ∙ has.reader;
  works = ap (λ (out : BlockOutput). out.failure) after ∙ has.works;
  termination = termination ∙ has.termination;
  count = omega (arith, has.count, steady);
  steady = steady ∙ has.steady;
  sound = sound;
}

-- a part that did not come was read
pub refused_taken : (size n : ℕ) (reader read new : Reading) (e : StoreError) → Covers read.checkpoints (length read.file.content) → IsReadUpTo size n reader read
    → n < length read.checkpoints → (n < length read.checkpoints → IsPartRead size read n (Err e) new) → IsReadAtMost (number_of_parts size reader.checkpoints) reader new
refused_taken size n reader read new e covers_read up below once =
    let covers = covers_still up.times (byte_at n reader.checkpoints) reader read up.read covers_read in
    let r = once below in
    read_at_most size r.end reader new covers (part_read size n r.end reader read new covers up r.ends r.once)

-- no part came since there is none
pub none_came : (found : Option StorePart) (count n : ℕ) → found ≡ None → (IsNone found → count ≤ n) → count ≤ n
none_came found count n is none = none (subst (λ (o : Option StorePart). IsNone o) (sym is) refl)

pub some_left : (n count : ℕ) → (count ≤ n → ⊥) → n < count
some_left n zero f = absurd (f (omega arith))
some_left zero (suc count) f = omega arith
some_left (suc n) (suc count) f = omega (arith, some_left n count (λ le. f (omega (arith, le))))

-- where none is left, all came
pub all_stacked : (reader : Reading) (n : ℕ) (old new : BlockOutput) → length reader.checkpoints ≤ n → (p : StacksFirst reader n old new) → length (store_of reader) ≡ length reader.checkpoints
    → AreRead reader p.blocks
all_stacked reader n old new all p many = record {
  places = p.places ∙ take_all n reader.checkpoints all;
  honest = λ is. p.honest is ∙ take_all n (store_of reader) (omega (arith, many, all));
}

-- ---- a part that is refused

-- a writer that fails after what was put has failed
pub fails_after : (reader : Reading) (n : ℕ) (cause : Cause) (old mid new : BlockOutput) → old.failure ≡ None → StacksFirst reader n old mid → old.failures ≤ mid.failures → FailsFor cause mid new
    → AfterFailedBlock old.failure cause old new
fails_after reader n cause old mid new works p le h = subst (λ (f : Option Cause). AfterFailedBlock f cause old new) (sym works) (record {
  worked = works;
  failure = h.failure;
  why = why cause h.why;
})
  where
    why : (cause : Cause) → HasCause cause mid.failures new.failures mid.content new.content → HasCause cause old.failures new.failures old.content new.content
    why Write w = record { no_lower = omega (arith, w.no_lower); risen = λ small. omega (arith, w.no_lower, w.risen small) }
    why OutOfMemory w =
        let grown : mid.content ≡ old.content ++ data_of p.blocks = ap (λ (out : BlockOutput). out.content) p.after in
        record {
          more = data_of p.blocks ++ w.more;
          some = omega (arith, length-append (data_of p.blocks) w.more, w.some);
          parts = w.parts ∙ ap (λ (x : List ℕ). x ++ w.more) grown ∙ append_assoc old.content (data_of p.blocks) w.more;
        }

-- ---- all blocks of a store

pub all_of_range : (cs : List Checkpoint) (count : ℕ) → count ≡ length cs → slice_range cs 0 count ≡ cs
all_of_range cs count is = take_all (count - 0) cs (omega arith)

pub docs_covered : (cs : List Checkpoint) (total : ℕ) → Covers cs total → sum_by doc_count cs ≡ docs_end 0 cs
docs_covered cs total covers = omega (arith, docs_up 0 0 cs covers.in_line)
