-- Places in the data of a store, and the parts of it.
use Rattle.std.proofs.Common.{◌≡◌, ℕ, zero, suc, ◌+◌, ◌-◌, ◌^◌, ◌<◌, ◌≤◌, ◌⊎◌, inl, inr, true, false, List, [], ◌∷◌, length, take, drop, Some, None, IsTrue, nat_le, refl}
use Rattle.std.proofs.Common.{◌∙◌, ap, subst, arith}
use Rattle.std.specs.Prelude.{slice_get, slice_range}
use Rattle.std.specs.List.{AllByRecursion}
use Rattle.std.proofs.lemmas.Bool.{lt-leb, le-leb}
use Rattle.std.proofs.lemmas.Option.{slice_get_within}
use Rattle.layered_index.specs.declared.checkpoint.Checkpoint.{Checkpoint}
use Rattle.layered_index.specs.Checkpoint.{IsInLineFrom, IsFilled, docs_end, bytes_end, Covers}
use Rattle.layered_index.proofs.ListLemmas.{drop_at}
use Rattle.store_reader.proofs.SeekLemmas.{bytes_go_on}
use Rattle.store_reader.specs.Reading.{Reading, IsReadOnce}
use Rattle.store_reader.specs.Parts.{parts_beyond, number_of_parts, byte_at, EndsPart, IsPartFrom}

-- ---- the block with a number

-- where it begins and ends
record IsBlockFrom (byte : ℕ) (cs : List Checkpoint) (n : ℕ) (c : Checkpoint) : Type 0 where
  start : c.byte_range.start ≡ bytes_end byte (take n cs)
  end : c.byte_range.end ≡ bytes_end byte (take (suc n) cs)
  some : c.byte_range.start < c.byte_range.end

block_from : (doc byte : ℕ) (cs : List Checkpoint) (n : ℕ) (c : Checkpoint) → IsInLineFrom doc byte cs → AllByRecursion IsFilled cs → slice_get cs n ≡ Some c → IsBlockFrom byte cs n c
block_from doc byte [] n c r f e = absurd cc
block_from doc byte (x ∷ cs) zero c r f e =
    let same : x ≡ c = cc in
    subst (IsBlockFrom byte (x ∷ cs) 0) same (record { start = r.1; end = refl; some = omega (arith, f.0.1) })
block_from doc byte (x ∷ cs) (suc n) c r f e =
    let on = block_from x.doc_range.end x.byte_range.end cs n c r.3 f.1 e in
    record { start = on.start; end = on.end; some = on.some }

pub record IsBlockAt (cs : List Checkpoint) (n : ℕ) (c : Checkpoint) : Type 0 where
  pub below : n < length cs
  pub byte_start : c.byte_range.start ≡ byte_at n cs
  pub byte_end : c.byte_range.end ≡ byte_at (n + 1) cs
  pub some_bytes : c.byte_range.start < c.byte_range.end
  pub rest : drop n cs ≡ c ∷ drop (n + 1) cs

pub block_at : (cs : List Checkpoint) (total n : ℕ) (c : Checkpoint) → Covers cs total → slice_get cs n ≡ Some c → IsBlockAt cs n c
block_at cs total n c covers e =
    let here = block_from 0 0 cs n c covers.in_line covers.filled e in
    let next : suc n ≡ n + 1 = omega arith in
    record {
      below = slice_get_within cs n c e;
      byte_start = here.start;
      byte_end = here.end ∙ ap (λ (k : ℕ). byte_at k cs) next;
      some_bytes = here.some;
      rest = drop_at cs n c e ∙ ap (λ (k : ℕ). c ∷ drop k cs) next;
    }

-- after the last block there is none
pub none_at : (cs : List Checkpoint) (n : ℕ) → slice_get cs n ≡ None → length cs ≤ n
none_at [] n e = omega arith
none_at (x ∷ cs) zero e = absurd cc
none_at (x ∷ cs) (suc n) e = omega (arith, none_at cs n e)

pub none_following : {A : Type 0} (xs : List A) (n : ℕ) → length xs ≤ n → drop n xs ≡ []
none_following [] zero le = refl
none_following [] (suc n) le = refl
none_following (x ∷ xs) zero le = absurd (omega arith)
none_following (x ∷ xs) (suc n) le = none_following xs n (omega arith)

-- ---- bytes

bytes_up : (doc byte : ℕ) (cs : List Checkpoint) (n m : ℕ) → IsInLineFrom doc byte cs → n ≤ m → bytes_end byte (take n cs) ≤ bytes_end byte (take m cs)
bytes_up doc byte [] zero zero r le = omega arith
bytes_up doc byte [] zero (suc m) r le = omega arith
bytes_up doc byte [] (suc n) zero r le = omega arith
bytes_up doc byte [] (suc n) (suc m) r le = omega arith
bytes_up doc byte (c ∷ cs) zero zero r le = omega arith
bytes_up doc byte (c ∷ cs) zero (suc m) r le = omega (arith, bytes_up c.doc_range.end c.byte_range.end cs zero m r.3 (omega arith), r.1, r.2.byte_order)
bytes_up doc byte (c ∷ cs) (suc n) zero r le = absurd (omega arith)
bytes_up doc byte (c ∷ cs) (suc n) (suc m) r le = bytes_up c.doc_range.end c.byte_range.end cs n m r.3 (omega arith)

bytes_below : (doc byte : ℕ) (cs : List Checkpoint) (m : ℕ) → IsInLineFrom doc byte cs → bytes_end byte (take m cs) ≤ bytes_end byte cs
bytes_below doc byte cs zero r = bytes_go_on doc byte cs r
bytes_below doc byte [] (suc m) r = omega arith
bytes_below doc byte (c ∷ cs) (suc m) r = bytes_below c.doc_range.end c.byte_range.end cs m r.3

-- no block ends past the data
pub byte_within : (cs : List Checkpoint) (total m : ℕ) → Covers cs total → byte_at m cs ≤ total
byte_within cs total m covers = omega (arith, bytes_below 0 0 cs m covers.in_line, covers.end)

-- the bytes of a block are before the end of a part that begins with it
pub byte_order : (cs : List Checkpoint) (total n m : ℕ) (c : Checkpoint) → Covers cs total → slice_get cs n ≡ Some c → n < m → c.byte_range.end ≤ byte_at m cs
byte_order cs total n m c covers e lt =
    let here = block_at cs total n c covers e in
    omega (arith, here.byte_end, bytes_up 0 0 cs (n + 1) m covers.in_line (omega arith))

-- there are fewer blocks than documents
few_from : (doc byte : ℕ) (cs : List Checkpoint) → doc < 2 ^ 32 → IsInLineFrom doc byte cs → AllByRecursion IsFilled cs → (doc + length cs ≤ docs_end doc cs) × (docs_end doc cs < 2 ^ 32)
few_from doc byte [] lt r f = (omega arith, lt)
few_from doc byte (c ∷ cs) lt r f =
    let on = few_from c.doc_range.end c.byte_range.end cs r.2.doc_end r.3 f.1 in
    (omega (arith, on.0, f.0.0, r.0), on.1)

pub few_blocks : (cs : List Checkpoint) (total : ℕ) → Covers cs total → length cs < 2 ^ 32
few_blocks cs total covers = let on = few_from 0 0 cs (omega arith) covers.in_line covers.filled in omega (arith, on.0, on.1)

-- ---- parts

-- a block past the limit begins a part, as it would after none
pub fresh_part : (size limit : ℕ) (c : Checkpoint) (cs : List Checkpoint) → limit < c.byte_range.end → parts_beyond size limit (c ∷ cs) ≡ number_of_parts size (c ∷ cs)
fresh_part size limit c cs past =
    let beyond : nat_le c.byte_range.end limit ≡ false = lt-leb c.byte_range.end limit past in
    let some : nat_le c.byte_range.end 0 ≡ false = lt-leb c.byte_range.end 0 (omega arith) in
    rw (beyond, some) refl

-- a part begins with the first block, and holds those that end within so many bytes after its beginning
pub first_part : (size : ℕ) (c : Checkpoint) (cs : List Checkpoint) → 0 < c.byte_range.end → number_of_parts size (c ∷ cs) ≡ 1 + parts_beyond size (c.byte_range.start + size) cs
first_part size c cs some =
    let beyond : nat_le c.byte_range.end 0 ≡ false = lt-leb c.byte_range.end 0 some in
    rw beyond refl

-- one within it is of the same part
pub same_part : (size limit : ℕ) (c : Checkpoint) (cs : List Checkpoint) → c.byte_range.end ≤ limit → parts_beyond size limit (c ∷ cs) ≡ parts_beyond size limit cs
same_part size limit c cs le =
    let held : nat_le c.byte_range.end limit ≡ true = le-leb c.byte_range.end limit le in
    rw held refl

-- what a read of a part brings
pub part_from : (size : ℕ) (reader : Reading) (number end : ℕ) (first : Checkpoint) (bytes : List ℕ) → Covers reader.checkpoints (length reader.file.content)
    → slice_get reader.checkpoints number ≡ Some first → EndsPart size reader.checkpoints number end → length bytes ≡ byte_at end reader.checkpoints - first.byte_range.start
    → (IsTrue reader.file.honest → bytes ≡ slice_range reader.file.content first.byte_range.start (byte_at end reader.checkpoints))
    → IsPartFrom size reader number (record { blocks = record { start = number; end = end }; bytes = bytes })
part_from size reader number end first bytes covers e p len own =
    let cs = reader.checkpoints in
    let here = block_at cs (length reader.file.content) number first covers e in
    let following = byte_order cs (length reader.file.content) number end first covers e p.some in
    record {
      first = refl;
      ends = p;
      len = omega (arith, len, here.byte_start, here.some_bytes, following);
      bytes = λ is. own is ∙ ap (λ (k : ℕ). slice_range reader.file.content k (byte_at end cs)) here.byte_start;
    }

-- how many bytes a part has at most
pub few_part : (cs : List Checkpoint) (number end byte start size : ℕ) → (end ≡ number + 1) ⊎ (byte ≤ start + size) → byte ≡ byte_at end cs → start ≡ byte_at number cs
    → (end ≡ number + 1) ⊎ (byte_at end cs ≤ byte_at number cs + size)
few_part cs number end byte start size (inl one) is at = inl one
few_part cs number end byte start size (inr le) is at = inr (omega (arith, le, is, at))

-- the bytes that were read, by the numbers of the blocks
pub once_read : (from to start end : ℕ) (old new : Reading) → end ≡ to → start ≡ from → IsReadOnce (end - start) old new → IsReadOnce (to - from) old new
once_read from to start end old new is at once = let same : end - start ≡ to - from = omega arith in subst (λ (n : ℕ). IsReadOnce n old new) same once
