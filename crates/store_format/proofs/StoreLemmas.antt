-- Blocks, their data and their checkpoints.
use Rattle.std.proofs.Common.{◌≡◌, ℕ, suc, ◌+◌, ◌-◌, ◌*◌, ◌^◌, ◌<◌, ◌≤◌, List, [], ◌∷◌, ◌++◌, length, take, drop, refl, sym, ◌∙◌, ap, arith, length-append}
use Rattle.std.proofs.lemmas.List.Concat.{flat_map-append}
use Rattle.std.proofs.lemmas.List.Sums.{sum_by-cons}
use Rattle.std.proofs.Math.Seq.{drop-append_seam, take-append_seam}
use Rattle.std.specs.List.{sum_by, AllByRecursion}
use Rattle.layered_index.specs.declared.checkpoint.Checkpoint.{Checkpoint}
use Rattle.layered_index.specs.Checkpoint.{checkpoint, doc_count, byte_len, IsInLineFrom, IsInLine, IsFilled, bytes_end, Covers}
use Rattle.layered_index.proofs.LineLemmas.{in_line_from}
use Rattle.store_format.specs.StoreFile.{StoreBlock, IsStoreBlock, docs_in, AreBlocks, data_of, checkpoints_from, checkpoints_of, blocks_at}

-- ---- sizes

pub docs_in-cons : (b : StoreBlock) (bs : List StoreBlock) → docs_in (b ∷ bs) ≡ b.count + docs_in bs
docs_in-cons b bs = sum_by-cons (λ (x : StoreBlock). x.count) b bs

pub docs_in-append : (bs cs : List StoreBlock) → docs_in (bs ++ cs) ≡ docs_in bs + docs_in cs
docs_in-append [] cs = omega arith
docs_in-append (b ∷ bs) cs = omega (arith, docs_in-cons b (bs ++ cs), docs_in-cons b bs, docs_in-append bs cs)

pub length-data_of-cons : (b : StoreBlock) (bs : List StoreBlock) → length (data_of (b ∷ bs)) ≡ length b.bytes + length (data_of bs)
length-data_of-cons b bs = length-append b.bytes (data_of bs)

pub data_of-append : (bs cs : List StoreBlock) → data_of (bs ++ cs) ≡ data_of bs ++ data_of cs
data_of-append bs cs = flat_map-append (λ (b : StoreBlock). b.bytes) bs cs

pub length-checkpoints : (id byte : ℕ) (bs : List StoreBlock) → length (checkpoints_from id byte bs) ≡ length bs
length-checkpoints id byte [] = refl
length-checkpoints id byte (b ∷ bs) = ap suc (length-checkpoints (id + b.count) (byte + length b.bytes) bs)

-- each block has a document, so the data is bounded by the documents
pub data_bound : (bs : List StoreBlock) → AllByRecursion IsStoreBlock bs → length (data_of bs) ≤ 4294967295 * docs_in bs
data_bound [] each = omega arith
data_bound (b ∷ bs) each = omega (arith, docs_in-cons b bs, length-data_of-cons b bs, data_bound bs each.1, each.0.few_bytes, each.0.some_docs)

pub data_fits : (bs : List StoreBlock) → AreBlocks bs → length (data_of bs) < 2 ^ 64
data_fits bs blocks = omega (arith, data_bound bs blocks.each, blocks.few_docs)

-- ---- joining

all-append : (bs cs : List StoreBlock) → AllByRecursion IsStoreBlock bs → AllByRecursion IsStoreBlock cs → AllByRecursion IsStoreBlock (bs ++ cs)
all-append [] cs p q = q
all-append (b ∷ bs) cs p q = (p.0, all-append bs cs p.1 q)

pub all-front : (bs cs : List StoreBlock) → AllByRecursion IsStoreBlock (bs ++ cs) → AllByRecursion IsStoreBlock bs
all-front [] cs p = tt
all-front (b ∷ bs) cs p = (p.0, all-front bs cs p.1)

pub AreBlocks-append : (bs cs : List StoreBlock) → AreBlocks bs → AllByRecursion IsStoreBlock cs → docs_in bs + docs_in cs < 2 ^ 32 → AreBlocks (bs ++ cs)
AreBlocks-append bs cs p q few = record {
  each = all-append bs cs p.each q;
  few_docs = omega (arith, docs_in-append bs cs);
}

pub checkpoints_from-append : (id byte : ℕ) (bs cs : List StoreBlock) → checkpoints_from id byte (bs ++ cs)
    ≡ checkpoints_from id byte bs ++ checkpoints_from (id + docs_in bs) (byte + length (data_of bs)) cs
checkpoints_from-append id byte [] cs = let i : id ≡ id + docs_in [] = omega arith in let b : byte ≡ byte + length (data_of []) = omega arith in λ k. checkpoints_from (i k) (b k) cs
checkpoints_from-append id byte (b ∷ bs) cs =
    let ids : (id + b.count) + docs_in bs ≡ id + docs_in (b ∷ bs) = omega (arith, docs_in-cons b bs) in
    let places : (byte + length b.bytes) + length (data_of bs) ≡ byte + length (data_of (b ∷ bs)) = omega (arith, length-data_of-cons b bs) in
    let here = checkpoint id (id + b.count) byte (byte + length b.bytes) in
    ap (λ (ms : List Checkpoint). here ∷ ms) (checkpoints_from-append (id + b.count) (byte + length b.bytes) bs cs)
    ∙ (λ k. here ∷ (checkpoints_from (id + b.count) (byte + length b.bytes) bs ++ checkpoints_from (ids k) (places k) cs))

-- ---- checkpoints_of

pub checkpoints_in_line_from : (id byte : ℕ) (bs : List StoreBlock) → AllByRecursion IsStoreBlock bs → id + docs_in bs < 2 ^ 32 → byte + length (data_of bs) < 2 ^ 64
    → IsInLineFrom id byte (checkpoints_from id byte bs)
checkpoints_in_line_from id byte [] each docs bytes = tt
checkpoints_in_line_from id byte (b ∷ bs) each docs bytes =
    let count = docs_in-cons b bs in
    let len = length-data_of-cons b bs in (
      refl,
      refl,
      record {
        doc_order = omega arith;
        doc_end = omega arith;
        byte_order = omega arith;
        byte_len = omega (arith, each.0.few_bytes);
        byte_end = omega arith;
      },
      checkpoints_in_line_from (id + b.count) (byte + length b.bytes) bs each.1 (omega arith) (omega arith),
    )

pub checkpoints_in_line : (bs : List StoreBlock) → AreBlocks bs → IsInLine (checkpoints_of bs)
checkpoints_in_line bs blocks = in_line_from 0 0 (checkpoints_of bs) (checkpoints_in_line_from 0 0 bs blocks.each (omega (arith, blocks.few_docs)) (omega (arith, data_fits bs blocks)))

-- ---- cutting

-- how many documents the checkpoints have decides how many the blocks have
pub docs_in-blocks_at : (cs : List Checkpoint) (bytes : List ℕ) → docs_in (blocks_at cs bytes) ≡ sum_by doc_count cs
unfolding blocks_at
docs_in-blocks_at [] bytes = refl
docs_in-blocks_at (c ∷ cs) bytes =
    docs_in-cons (record { count = doc_count c; bytes = take (byte_len c) bytes }) (blocks_at cs (drop (byte_len c) bytes))
    ∙ ap (λ (n : ℕ). doc_count c + n) (docs_in-blocks_at cs (drop (byte_len c) bytes))
    ∙ sym (sum_by-cons doc_count c cs)

-- blocks are told from their checkpoints and their data
pub blocks_back : (id byte : ℕ) (bs : List StoreBlock) → blocks_at (checkpoints_from id byte bs) (data_of bs) ≡ bs
unfolding blocks_at
blocks_back id byte [] = refl
blocks_back id byte (b ∷ bs) =
    let count : (id + b.count) - id ≡ b.count = omega arith in
    let len : (byte + length b.bytes) - byte ≡ length b.bytes = omega arith in
    let text : take ((byte + length b.bytes) - byte) (b.bytes ++ data_of bs) ≡ b.bytes =
    ap (λ (n : ℕ). take n (b.bytes ++ data_of bs)) len ∙ take-append_seam b.bytes (data_of bs) in
    let rest : drop ((byte + length b.bytes) - byte) (b.bytes ++ data_of bs) ≡ data_of bs =
    ap (λ (n : ℕ). drop n (b.bytes ++ data_of bs)) len ∙ drop-append_seam b.bytes (data_of bs) in
    let others : blocks_at (checkpoints_from (id + b.count) (byte + length b.bytes) bs) (drop ((byte + length b.bytes) - byte) (b.bytes ++ data_of bs)) ≡ bs =
    ap (blocks_at (checkpoints_from (id + b.count) (byte + length b.bytes) bs)) rest ∙ blocks_back (id + b.count) (byte + length b.bytes) bs in
    λ i. record { count = count i; bytes = text i } ∷ others i

pub blocks_from : (cs : List Checkpoint) (bytes : List ℕ) (bs : List StoreBlock) → cs ≡ checkpoints_of bs → bytes ≡ data_of bs → blocks_at cs bytes ≡ bs
blocks_from cs bytes bs p q = (λ i. blocks_at (p i) (q i)) ∙ blocks_back 0 0 bs

pub blocks_none : (bytes : List ℕ) → blocks_at [] bytes ≡ []
unfolding blocks_at
blocks_none bytes = refl

-- ---- the checkpoints_of of a store cover its data

checkpoints_filled : (id byte : ℕ) (bs : List StoreBlock) → AllByRecursion IsStoreBlock bs → AllByRecursion IsFilled (checkpoints_from id byte bs)
checkpoints_filled id byte [] each = tt
checkpoints_filled id byte (b ∷ bs) each = ((omega (arith, each.0.some_docs), omega (arith, each.0.some_bytes)), checkpoints_filled (id + b.count) (byte + length b.bytes) bs each.1)

checkpoints_end : (id byte : ℕ) (bs : List StoreBlock) → bytes_end byte (checkpoints_from id byte bs) ≡ byte + length (data_of bs)
checkpoints_end id byte [] = omega arith
checkpoints_end id byte (b ∷ bs) = omega (arith, length-data_of-cons b bs, checkpoints_end (id + b.count) (byte + length b.bytes) bs)

pub checkpoints_cover : (bs : List StoreBlock) → AreBlocks bs → Covers (checkpoints_of bs) (length (data_of bs))
checkpoints_cover bs blocks = record {
  in_line = checkpoints_in_line_from 0 0 bs blocks.each (omega (arith, blocks.few_docs)) (omega (arith, data_fits bs blocks));
  filled = checkpoints_filled 0 0 bs blocks.each;
  end = omega (arith, checkpoints_end 0 0 bs);
}
