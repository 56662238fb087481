-- Iterations over the blocks of a store in a slice of bytes.
use Rattle.std.proofs.Common.{◌≡◌, ℕ, ◌<◌, ◌≤◌, Bool, true, false, List, [], ◌∷◌, ◌++◌, length, Option, Some, None, refl, sym, ap, ◌∙◌, subst, inr, arith, append_assoc}
use Rattle.std.specs.Prelude.{Result, Ok, Err, slice_range}
use Rattle.std.specs.List.{AllByRecursion}
use Rattle.std.proofs.lemmas.Bool.{lt-ltb, le-ltb}
use Rattle.std.proofs.lemmas.List.{append-nil}
use Rattle.store_base.proofs.ListLemmas.{all_following}
use Rattle.store_base.specs.declared.error.StoreError.{StoreError}
use Rattle.store_base.specs.declared.error.StoreError.TheVariants.{BadIndex}
use Rattle.layered_index.specs.declared.checkpoint.Checkpoint.{Checkpoint}
use Rattle.layered_index.specs.Checkpoint.{IsInLineFrom, IsFilled, docs_end, bytes_end, first_past}
use Rattle.layered_index.proofs.LineLemmas.{in_line-split}
use Rattle.layered_index.specs.Sought.{past_on}
use Rattle.layered_index.proofs.LayerLemmas.{docs_grow}
use Rattle.layered_index.proofs.OuterLayersLemmas.{docs_end-append}
use Rattle.layered_index.proofs.RestOfLayerLemmas.{on_parts}
use Rattle.store_format.specs.StoreFile.{checkpoints_of, data_of}
use Rattle.store_format.proofs.StoreLemmas.{checkpoints_cover}
use Rattle.store_reader.specs.declared.block_slice.BlockSlice.{BlockSlice}
use Rattle.store_reader.specs.Opening.{IsSomeStore}
use Rattle.store_reader.specs.StoreSlices.{count_of_store, IsBlockSlice, BlocksLeft, ContinuesAt, IsBlockAt, IsSliceFrom, GivesPart, AreLeft, GivesBlock}
use Rattle.store_reader.proofs.StoreSliceLemmas.{count_stored, block_within}
use Rattle.store_reader.proofs.PlaceLemmas.{seek_stays}

-- the first document of a checkpoint is sought there
first_here : (doc byte : ℕ) (before : List Checkpoint) (c : Checkpoint) (rest : List Checkpoint) → IsInLineFrom doc byte (before ++ c ∷ rest) → c.doc_range.start < c.doc_range.end
    → first_past (before ++ c ∷ rest) c.doc_range.start ≡ Some c
first_here doc byte [] c rest h lt = rw (lt-ltb c.doc_range.start c.doc_range.end lt) refl
first_here doc byte (x ∷ xs) c rest h lt =
    let both = in_line-split x.doc_range.end x.byte_range.end xs (c ∷ rest) h.3 in
    let grow = docs_grow x.doc_range.end x.byte_range.end xs both.0 in
    let start = both.1.0 in
    rw (le-ltb c.doc_range.start x.doc_range.end (omega arith)) (first_here x.doc_range.end x.byte_range.end xs c rest h.3 lt)

-- what is known of the next checkpoint
record IsNext (bytes : List ℕ) (s : IsSomeStore bytes) (before : List Checkpoint) (c : Checkpoint) : Type 0 where
  start : c.doc_range.start ≡ docs_end 0 before
  some : c.doc_range.start < c.doc_range.end
  order : c.byte_range.start ≤ c.byte_range.end
  within : c.byte_range.end ≤ length (data_of s.blocks)
  seeks : first_past (checkpoints_of s.blocks) c.doc_range.start ≡ Some c

is_next : (bytes : List ℕ) (s : IsSomeStore bytes) (before : List Checkpoint) (c : Checkpoint) (rest : List Checkpoint) → checkpoints_of s.blocks ≡ before ++ c ∷ rest → IsNext bytes s before c
is_next bytes s before c rest parts =
    let covers = checkpoints_cover s.blocks s.store.blocks in
    let line : IsInLineFrom 0 0 (before ++ c ∷ rest) = subst (IsInLineFrom 0 0) parts covers.in_line in
    let both = in_line-split 0 0 before (c ∷ rest) line in
    let filled = (all_following IsFilled before (c ∷ rest) (subst (AllByRecursion IsFilled) parts covers.filled)).0 in
    let some : c.doc_range.start < c.doc_range.end = omega (arith, filled.0) in
    let seeks : first_past (checkpoints_of s.blocks) c.doc_range.start ≡ Some c = ap (λ (cs : List Checkpoint). first_past cs c.doc_range.start) parts ∙ first_here 0 0 before c rest line some in
    record {
      start = both.1.0;
      some = some;
      order = omega (arith, both.1.2.byte_order);
      within = block_within bytes s c.doc_range.start c seeks;
      seeks = seeks;
    }

-- the blocks that were gone over have no more documents than there are
few_before : (bytes : List ℕ) (s : IsSomeStore bytes) (before left : List Checkpoint) → checkpoints_of s.blocks ≡ before ++ left → docs_end 0 before ≤ count_of_store bytes s
few_before bytes s before left parts =
    let covers = checkpoints_cover s.blocks s.store.blocks in
    let both = in_line-split 0 0 before left (subst (IsInLineFrom 0 0) parts covers.in_line) in
    let grow = docs_grow (docs_end 0 before) (bytes_end 0 before) left both.1 in
    let whole = docs_end-append 0 before left in
    omega (arith, grow, whole, ap (docs_end 0) parts, count_stored bytes s)

-- no document is left where the next one is past the last
pub left_few : (file : List ℕ) (s : IsSomeStore file) (left : BlocksLeft) → AreLeft file s left → left.next ≤ count_of_store file s
left_few file s left are = omega (arith, few_before file s are.before left.checkpoints are.parts, are.ended)

-- ---- where it begins

-- with the first block
pub left_first : (file : List ℕ) (s : IsSomeStore file) (left : BlocksLeft) → left.checkpoints ≡ checkpoints_of s.blocks → left.next ≡ 0 → left.bytes ≡ file
    → left.data_len ≡ length (data_of s.blocks) → left.failed ≡ false → AreLeft file s left
left_first file s left all zero_is bytes_is data_is well = record { before = []; parts = sym all; ended = sym zero_is; bytes_is = bytes_is; data_is = data_is; well = well }

-- with the block after the one that has a document
pub left_from : (file : List ℕ) (s : IsSomeStore file) (id : ℕ) (c : Checkpoint) (left : BlocksLeft) → Some (c, left.checkpoints) ≡ past_on (checkpoints_of s.blocks) id
    → left.next ≡ c.doc_range.end → left.bytes ≡ file → left.data_len ≡ length (data_of s.blocks) → left.failed ≡ false → AreLeft file s left
left_from file s id c left found next_is bytes_is data_is well =
    let parts = on_parts (checkpoints_of s.blocks) id c left.checkpoints (sym found) in
    record {
      before = parts.0 ++ c ∷ [];
      parts = parts.1 ∙ sym (append_assoc parts.0 (c ∷ []) left.checkpoints);
      ended = docs_end-append 0 parts.0 (c ∷ []) ∙ sym next_is;
      bytes_is = bytes_is;
      data_is = data_is;
      well = well;
    }

-- ---- one step

-- after the last block
pub left_ends : (file : List ℕ) (s : IsSomeStore file) (left : BlocksLeft) → AreLeft file s left → left.checkpoints ≡ [] → left.next ≡ count_of_store file s
left_ends file s left are none =
    let all : checkpoints_of s.blocks ≡ are.before = are.parts ∙ ap (λ (cs : List Checkpoint). are.before ++ cs) none ∙ append-nil are.before in
    sym are.ended ∙ ap (docs_end 0) (sym all) ∙ count_stored file s

-- what is known of the next checkpoint
abbrev next_of : (file : List ℕ) (s : IsSomeStore file) (left : BlocksLeft) (c : Checkpoint) (rest : List Checkpoint) (are : AreLeft file s left) → left.checkpoints ≡ c ∷ rest
    → IsNext file s are.before c
next_of file s left c rest are is = is_next file s are.before c rest (are.parts ∙ ap (λ (cs : List Checkpoint). are.before ++ cs) is)

-- the next checkpoint follows
pub left_follows : (file : List ℕ) (s : IsSomeStore file) (left : BlocksLeft) (c : Checkpoint) (rest : List Checkpoint) → AreLeft file s left → left.checkpoints ≡ c ∷ rest
    → ContinuesAt left.next left.data_len c
left_follows file s left c rest are is =
    let n = next_of file s left c rest are is in
    let start : c.doc_range.start ≡ left.next = n.start ∙ are.ended in
    record { docs_start = start; some = omega (arith, n.some, start); order = n.order; within = omega (arith, n.within, are.data_is) }

-- its block is that of its documents
pub left_block : (file : List ℕ) (s : IsSomeStore file) (left : BlocksLeft) (c : Checkpoint) (rest : List Checkpoint) (b : BlockSlice) → AreLeft file s left → left.checkpoints ≡ c ∷ rest
    → IsBlockAt c b → IsSliceFrom left.bytes left.next b → (id : ℕ) → b.first ≤ id → id < b.end → IsBlockSlice file s id b.first b.end b.start b.bytes.now
left_block file s left c rest b are is at part id from to =
    let n = next_of file s left c rest are is in
    let covers = checkpoints_cover s.blocks s.store.blocks in
    record {
      checkpoint = c;
      seeks = seek_stays 0 0 (checkpoints_of s.blocks) c.doc_range.start id c covers.in_line n.seeks (omega (arith, from, at.first_is)) (omega (arith, to, at.end_is));
      first_is = at.first_is;
      end_is = at.end_is;
      start_is = at.start_is;
      block_is = part.part_is ∙ (λ i. slice_range (are.bytes_is i) (at.start_is i) (at.bytes_end_is i));
    }

-- the checkpoints after it are left
pub left_on : (file : List ℕ) (s : IsSomeStore file) (left : BlocksLeft) (c : Checkpoint) (rest : List Checkpoint) (end : ℕ) → AreLeft file s left → left.checkpoints ≡ c ∷ rest → end ≡ c.doc_range.end
    → AreLeft file s (record left { next = end; checkpoints = rest })
left_on file s left c rest end are is end_is = record {
  before = are.before ++ c ∷ [];
  parts = are.parts ∙ ap (λ (cs : List Checkpoint). are.before ++ cs) is ∙ sym (append_assoc are.before (c ∷ []) rest);
  ended = docs_end-append 0 are.before (c ∷ []) ∙ sym end_is;
  bytes_is = are.bytes_is;
  data_is = are.data_is;
  well = are.well;
}

pub not_true : ◌≡◌ {A = Bool} false true → ⊥
not_true h = cc

-- one step of the iteration
abbrev pub Steps : BlocksLeft → Option (Result BlockSlice StoreError) → BlocksLeft → Type 0
Steps left r left' = GivesPart left r left' × ((file : List ℕ) → (s : IsSomeStore file) → AreLeft file s left → GivesBlock file s left.next r × AreLeft file s left')

pub steps_end : (left : BlocksLeft) (rest : List Checkpoint) → (left.checkpoints ≡ []) × (rest ≡ []) → Steps left None (record left { checkpoints = rest })
steps_end left rest none =
    let same : ◌≡◌ {A = BlocksLeft} (record left { checkpoints = rest }) left = ap (λ (cs : List Checkpoint). record left { checkpoints = cs }) (none.1 ∙ sym none.0) in
    ((inr none.0, same), λ file s are. (left_ends file s left are none.0, subst (AreLeft file s) (sym same) are))

pub steps_on : (left : BlocksLeft) (c : Checkpoint) (rest : List Checkpoint) (b : BlockSlice) → left.checkpoints ≡ c ∷ rest → left.failed ≡ false → IsSliceFrom left.bytes left.next b → IsBlockAt c b
    → Steps left (Some (Ok b)) (record left { next = b.end; checkpoints = rest })
steps_on left c rest b is well part at = (
  (part, well, (c, is, at), refl),
  λ file s are. (left_block file s left c rest b are is at part, left_on file s left c rest b.end are is at.end_is),
)

-- the index of a store is never found damaged
pub steps_fail : (left : BlocksLeft) (c : Checkpoint) (rest : List Checkpoint) → left.checkpoints ≡ c ∷ rest → left.failed ≡ false → (ContinuesAt left.next left.data_len c → ⊥)
    → Steps left (Some (Err BadIndex)) (record left { failed = true; checkpoints = rest })
steps_fail left c rest is well none = ((refl, well, (c, is, none), refl), λ file s are. absurd (none (left_follows file s left c rest are is)))
