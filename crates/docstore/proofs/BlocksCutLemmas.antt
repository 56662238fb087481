-- Blocks that checkpoints cut from bytes, wherever these checkpoints begin.
use Rattle.std.proofs.Common.{◌≡◌, ℕ, ◌+◌, ◌<◌, ◌≤◌, List, [], ◌∷◌, ◌++◌, length, take, drop, refl, sym, ◌∙◌, ap, arith}
use Rattle.std.specs.Prelude.{slice_range}
use Rattle.std.specs.List.{AllByRecursion}
use Rattle.std.proofs.lemmas.List.{length-take-le, length-drop, take-append-drop}
use Rattle.std.proofs.Math.Seq.{take-append_seam, drop-append_seam}
use Rattle.store_base.proofs.ListLemmas.{length-slice}
use Rattle.layered_index.specs.declared.checkpoint.Checkpoint.{Checkpoint}
use Rattle.layered_index.specs.Checkpoint.{checkpoint, doc_count, byte_len, IsInLineFrom, IsFilled, bytes_end}
use Rattle.store_format.specs.StoreFile.{IsStoreBlock, data_of, checkpoints_from, blocks_at}
use Rattle.store_reader.specs.Reading.{part_of}
use Rattle.store_reader.proofs.SeekLemmas.{bytes_go_on}
use Rattle.store_reader.proofs.ReaderStoreLemmas.{blocks_of, slices_joined}
use Rattle.docstore.specs.Stacking.{laid_from}

-- the bytes of the first block, and those after it
record IsFirst (c : Checkpoint) (cs : List Checkpoint) (bytes : List ℕ) : Type 0 where
  front : length (take (byte_len c) bytes) ≡ byte_len c
  left : bytes_end c.byte_range.end cs ≡ c.byte_range.end + length (drop (byte_len c) bytes)

first_cut : (doc byte : ℕ) (c : Checkpoint) (cs : List Checkpoint) (bytes : List ℕ) → IsInLineFrom doc byte (c ∷ cs) → bytes_end byte (c ∷ cs) ≡ byte + length bytes → IsFirst c cs bytes
first_cut doc byte c cs bytes r e =
    let more = bytes_go_on c.doc_range.end c.byte_range.end cs r.3 in
    let start = r.1 in let order = r.2.byte_order in
    let long : byte_len c ≤ length bytes = omega arith in
    let all = length-drop (byte_len c) bytes in
    record { front = length-take-le (byte_len c) bytes long; left = omega arith }

-- they are blocks of a store, their texts are the bytes, and their checkpoints are these
pub record IsCut (doc byte : ℕ) (cs : List Checkpoint) (bytes : List ℕ) : Type 0 where
  pub each : AllByRecursion IsStoreBlock (blocks_at cs bytes)
  pub joined : data_of (blocks_at cs bytes) ≡ bytes
  pub places : checkpoints_from doc byte (blocks_at cs bytes) ≡ cs

pub is_cut : (doc byte : ℕ) (cs : List Checkpoint) (bytes : List ℕ) → IsInLineFrom doc byte cs → AllByRecursion IsFilled cs → bytes_end byte cs ≡ byte + length bytes → IsCut doc byte cs bytes
unfolding blocks_at
is_cut doc byte [] [] r f e = record { each = tt; joined = refl; places = refl }
is_cut doc byte [] (b ∷ bytes) r f e = absurd (omega (arith, e))
is_cut doc byte (c ∷ cs) bytes r f e =
    let first = first_cut doc byte c cs bytes r e in
    let front = first.front in
    let on = is_cut c.doc_range.end c.byte_range.end cs (drop (byte_len c) bytes) r.3 f.1 first.left in
    let docs = r.2.doc_order in let order = r.2.byte_order in let d = r.0 in let b = r.1 in
    let some = f.0.0 in let longer = f.0.1 in let few = r.2.byte_len in
    let doc_end : doc + doc_count c ≡ c.doc_range.end = omega arith in
    let byte_end : byte + length (take (byte_len c) bytes) ≡ c.byte_range.end = omega arith in
    record {
      each = (record { some_docs = some; some_bytes = omega arith; few_bytes = omega arith }, on.each);
      joined = ap (λ (xs : List ℕ). take (byte_len c) bytes ++ xs) on.joined ∙ take-append-drop (byte_len c) bytes;
      places = rw (doc_end, byte_end, ← d, ← b) (ap (λ (ys : List Checkpoint). c ∷ ys) on.places);
    }

-- laid elsewhere they are the checkpoints of these blocks there
pub laid_is : (id at doc byte : ℕ) (cs : List Checkpoint) (bytes : List ℕ) → IsInLineFrom doc byte cs → bytes_end byte cs ≡ byte + length bytes
    → laid_from id at cs ≡ checkpoints_from id at (blocks_at cs bytes)
unfolding blocks_at
laid_is id at doc byte [] bytes r e = refl
laid_is id at doc byte (c ∷ cs) bytes r e =
    let first = first_cut doc byte c cs bytes r e in
    let on = laid_is (id + doc_count c) (at + byte_len c) c.doc_range.end c.byte_range.end cs (drop (byte_len c) bytes) r.3 first.left in
    rw first.front (ap (λ (ys : List Checkpoint). checkpoint id (id + doc_count c) at (at + byte_len c) ∷ ys) on)

-- some blocks have some bytes
pub some_cut : (doc byte : ℕ) (cs : List Checkpoint) (bytes : ℕ) → IsInLineFrom doc byte cs → AllByRecursion IsFilled cs → bytes_end byte cs ≡ byte + bytes → 0 < length cs → 0 < bytes
some_cut doc byte [] bytes r f e some = absurd (omega arith)
some_cut doc byte (c ∷ cs) bytes r f e some =
    let more = bytes_go_on c.doc_range.end c.byte_range.end cs r.3 in
    let start = r.1 in let order = r.2.byte_order in let longer = f.0.1 in
    omega arith

-- cut from a range of some content they are the blocks by their ranges there
pub cut_own : (content : List ℕ) (doc byte : ℕ) (cs : List Checkpoint) (bytes : List ℕ) → IsInLineFrom doc byte cs → bytes_end byte cs ≤ length content
    → bytes ≡ slice_range content byte (bytes_end byte cs) → blocks_at cs bytes ≡ blocks_of content cs
unfolding blocks_at
cut_own content doc byte [] bytes r le e = refl
cut_own content doc byte (c ∷ cs) bytes r le e =
    let end = bytes_end c.byte_range.end cs in
    let more = bytes_go_on c.doc_range.end c.byte_range.end cs r.3 in
    let start = r.1 in let order = r.2.byte_order in
    let front = part_of content c in
    let back = slice_range content c.byte_range.end end in
    let parts : bytes ≡ front ++ back = e ∙ ap (λ (k : ℕ). slice_range content k end) (sym start) ∙ slices_joined content c.byte_range.start c.byte_range.end end order more in
    let size : length front ≡ byte_len c = length-slice content c.byte_range.start c.byte_range.end (omega arith) in
    let here : take (byte_len c) bytes ≡ front = ap (take (byte_len c)) parts ∙ ap (λ (k : ℕ). take k (front ++ back)) (sym size) ∙ take-append_seam front back in
    let rest : drop (byte_len c) bytes ≡ back = ap (drop (byte_len c)) parts ∙ ap (λ (k : ℕ). drop k (front ++ back)) (sym size) ∙ drop-append_seam front back in
    let on = cut_own content c.doc_range.end c.byte_range.end cs (drop (byte_len c) bytes) r.3 le rest in
    λ i. record { count = doc_count c; bytes = here i } ∷ on i
