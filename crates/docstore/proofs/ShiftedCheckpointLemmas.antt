-- Checkpoints that are put after others, and the blocks that they cut from bytes.
use Rattle.std.proofs.Common.{◌≡◌, ℕ, ◌+◌, ◌^◌, ◌<◌, List, [], ◌∷◌, ◌++◌, length, map, Option, None, refl, sym, ◌∙◌, ap, subst, arith}
use Rattle.std.proofs.lemmas.List.Sums.{sum_by-cons}
use Rattle.std.specs.List.{sum_by}
use Rattle.store_format.specs.declared.kinds.Compressor.{Compressor}
use Rattle.store_base.specs.Outputs.{Termination}
use Rattle.store_base.specs.declared.error.Cause.{Cause}
use Rattle.layered_index.specs.declared.checkpoint.Checkpoint.{Checkpoint}
use Rattle.layered_index.specs.Checkpoint.{checkpoint, doc_count, byte_len, IsWithinLimits, IsInLineFrom, IsInLine, docs_end}
use Rattle.layered_index.proofs.LineLemmas.{in_line-split, in_line-join, in_line_from}
use Rattle.store_format.specs.StoreFile.{StoreBlock, docs_in, data_of, checkpoints_from, checkpoints_of, blocks_at}
use Rattle.docstore.specs.BlockOutput.{BlockOutput, IsCompressing, compressing}
use Rattle.docstore.specs.Stacking.{CutAll, laid_from, shifted}
use Rattle.docstore.proofs.BlocksCutLemmas.{is_cut, laid_is, some_cut}
use Rattle.store_format.proofs.StoreLemmas.{docs_in-blocks_at}
use Rattle.docstore.proofs.OutputLemmas.{AreAdded, are_added, docs_seen}

-- ---- shifted checkpoints

shifted-checkpoints : (docs bytes id byte : ℕ) (bs : List StoreBlock) → map (shifted docs bytes) (checkpoints_from id byte bs) ≡ checkpoints_from (id + docs) (byte + bytes) bs
shifted-checkpoints docs bytes id byte [] = refl
shifted-checkpoints docs bytes id byte (b ∷ bs) =
    let ids : (id + b.count) + docs ≡ (id + docs) + b.count = omega arith in
    let places : (byte + length b.bytes) + bytes ≡ (byte + bytes) + length b.bytes = omega arith in
    let others = shifted-checkpoints docs bytes (id + b.count) (byte + length b.bytes) bs in
    let moved : checkpoints_from ((id + b.count) + docs) ((byte + length b.bytes) + bytes) bs ≡ checkpoints_from ((id + docs) + b.count) ((byte + bytes) + length b.bytes) bs =
    λ i. checkpoints_from (ids i) (places i) bs in
    let rest = others ∙ moved in
    λ i. checkpoint (id + docs) (ids i) (byte + bytes) (places i) ∷ rest i

-- the checkpoints of a store after other blocks
pub shifted_after : (docs bytes : ℕ) (cs : List Checkpoint) (bs : List StoreBlock) → cs ≡ checkpoints_of bs → map (shifted docs bytes) cs ≡ checkpoints_from docs bytes bs
shifted_after docs bytes cs bs is =
    let id : 0 + docs ≡ docs = omega arith in
    let place : 0 + bytes ≡ bytes = omega arith in
    ap (map (shifted docs bytes)) is ∙ shifted-checkpoints docs bytes 0 0 bs ∙ (λ i. checkpoints_from (id i) (place i) bs)

-- ---- the next of a list in line

pub docs_up : (doc byte : ℕ) (cs : List Checkpoint) → IsInLineFrom doc byte cs → doc + sum_by doc_count cs ≡ docs_end doc cs
docs_up doc byte [] h = omega arith
docs_up doc byte (c ∷ cs) h = omega (arith, sum_by-cons doc_count c cs, docs_up c.doc_range.end c.byte_range.end cs h.3, h.0, h.2.doc_order)

sum_by-snoc : (cs : List Checkpoint) (c : Checkpoint) → sum_by doc_count (cs ++ c ∷ []) ≡ sum_by doc_count cs + doc_count c
sum_by-snoc [] c = omega (arith, sum_by-cons doc_count c [])
sum_by-snoc (x ∷ cs) c = omega (arith, sum_by-cons doc_count x (cs ++ c ∷ []), sum_by-cons doc_count x cs, sum_by-snoc cs c)

-- it can be put after, and the ids go on where it ends
pub record IsNext (xs : List Checkpoint) (c : Checkpoint) : Type 0 where
  pub in_line : IsInLine (xs ++ c ∷ [])
  pub ends : sum_by doc_count (xs ++ c ∷ []) ≡ c.doc_range.end
  pub limits : IsWithinLimits c

pub is_next : (xs : List Checkpoint) (c : Checkpoint) (rest : List Checkpoint) → IsInLineFrom 0 0 (xs ++ c ∷ rest) → IsNext xs c
is_next xs c rest h =
    let parts = in_line-split 0 0 xs (c ∷ rest) h in
    let tail = parts.1 in
    let sum = docs_up 0 0 xs parts.0 in
    record {
      in_line = in_line_from 0 0 (xs ++ c ∷ []) (in_line-join 0 0 xs (c ∷ []) parts.0 (tail.0, tail.1, tail.2, tt));
      ends = omega (arith, sum_by-snoc xs c, sum, tail.0, tail.2.doc_order);
      limits = tail.2;
    }

-- the next of those that are left
pub next_laid : (all index left more : List Checkpoint) (id at : ℕ) (c : Checkpoint) → index ++ laid_from id at left ≡ all → left ≡ c ∷ more → IsInLineFrom 0 0 all
    → IsNext index (checkpoint id (id + doc_count c) at (at + byte_len c))
next_laid all index left more id at c is first h =
    let rest = laid_from (id + doc_count c) (at + byte_len c) more in
    let parts : all ≡ index ++ checkpoint id (id + doc_count c) at (at + byte_len c) ∷ rest = sym is ∙ ap (λ (xs : List Checkpoint). index ++ laid_from id at xs) first in
    is_next index (checkpoint id (id + doc_count c) at (at + byte_len c)) rest (subst (IsInLineFrom 0 0) parts h)

-- ---- blocks that are put after others

-- what is known once the blocks that checkpoints cut from bytes are written after the others
pub record AreCut (period next_id : ℕ) (cs : List Checkpoint) (content : List ℕ) (written : ℕ) (more : List Checkpoint) (bytes : List ℕ) : Type 0 where
  pub added : AreAdded period next_id cs content written (blocks_at more bytes) bytes (docs_in (blocks_at more bytes))
  pub places : laid_from next_id written more ≡ checkpoints_from next_id written (blocks_at more bytes)
  pub joined : bytes ≡ data_of (blocks_at more bytes)
  pub some : 0 < length more → 0 < length bytes

pub are_cut : (compressor : Compressor) (period next_id : ℕ) (cs : List Checkpoint) (content : List ℕ) (written : ℕ) (termination : Termination) (failures : ℕ) (failure : Option Cause)
    (now : BlockOutput) (more : List Checkpoint) (bytes : List ℕ) → compressing compressor period cs content written termination failures failure ≡ now
    → IsCompressing period next_id cs content written failure → now.failure ≡ None → CutAll more (length bytes) → docs_in now.finished + sum_by doc_count more < 2 ^ 32
    → AreCut period next_id cs content written more bytes
are_cut compressor period next_id cs content written termination failures failure now more bytes view_is h works cut few =
    let bs = blocks_at more bytes in
    let here = is_cut cut.doc cut.byte more bytes cut.in_line cut.filled cut.end in
    let none : failure ≡ None = ap (λ (out : BlockOutput). out.failure) view_is ∙ works in
    let inv : IsCompressing period next_id cs content written None = subst (IsCompressing period next_id cs content written) none h in
    let docs : docs_in now.finished ≡ next_id = sym (ap (λ (out : BlockOutput). docs_in out.finished) view_is) ∙ docs_seen period next_id cs content written failure h in
    let all = are_added period next_id cs content written bs inv here.each (omega (arith, docs, few, docs_in-blocks_at more bytes)) in
    record {
      added = subst (λ (x : List ℕ). AreAdded period next_id cs content written bs x (docs_in bs)) here.joined all;
      places = laid_is next_id written cut.doc cut.byte more bytes cut.in_line cut.end;
      joined = sym here.joined;
      some = some_cut cut.doc cut.byte more (length bytes) cut.in_line cut.filled cut.end;
    }
