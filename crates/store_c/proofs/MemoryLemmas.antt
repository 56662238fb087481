-- The caller's memory of a writer: what it has once a document is put, or its open block ended.
use Rattle.std.proofs.Common.{◌≡◌, ℕ, ◌+◌, ◌*◌, ◌^◌, ◌<◌, ◌≤◌, List, [], ◌∷◌, ◌++◌, length, take, set, map, None, refl, sym, ap, ◌∙◌, subst}
use Rattle.std.proofs.Common.{arith, append_assoc, length-append, length-set}
use Rattle.std.proofs.lemmas.Bool.{lt-ltb, le-ltb}
use Rattle.std.proofs.lemmas.List.{append-nil, length-map, map-append, map-set, take_more_set}
use Rattle.std.proofs.lemmas.Grind.{flat_map-append}
use Rattle.std.specs.List.{flat_map, concat}
use Rattle.std.specs.Prelude.{min}
use Rattle.docstore.proofs.RunSoFarLemmas.{blocks_of-some}
use Rattle.store_base.specs.Serialize.{fixed}
use Rattle.store_format.specs.Block.{block, starts_from}
use Rattle.store_format.specs.StoreFile.{StoreBlock, AreBlocks, block_of, data_of, docs_in, checkpoints_of, checkpoints_from}
use Rattle.store_format.proofs.BlockLemmas.{starts_from-append, concat-append, length-block, length-concat}
use Rattle.store_format.proofs.StoreLemmas.{docs_in-cons, length-data_of-cons, data_of-append, AreBlocks-append, checkpoints_from-append}
use Rattle.docstore.specs.Trace.{weight}
use Rattle.docstore.specs.BlockOutput.{with_blocks, HoldsBlocks, IsSound}
use Rattle.docstore.specs.Writer.{Writing, flushed, with_document}
use Rattle.layered_index.specs.declared.row.RowEnd.{RowEnd}
use Rattle.store_c.specs.declared.writer.Writer.{Writer}
use Rattle.layered_index.specs.Rows.{end_of, row_of, ends_in, ends_of, start_in}
use Rattle.layered_index.proofs.RowLemmas.{zero_row}
use Rattle.store_c.specs.Writing.{Memory, memory, Holds, bytes_of, Begins, PutsDocument, EndsBlock, EndsBlockAt}

pub same_block : (a b : RowEnd) → a.end_doc ≡ b.end_doc → a.end_byte ≡ b.end_byte → a ≡ b
same_block a b docs bytes = λ i. record { end_doc = docs i; end_byte = bytes i }

-- ---- the rows of the finished blocks

-- the last row ends after the last block
pub last_ends : (id byte : ℕ) (bs : List StoreBlock) (rows : List RowEnd) → take (length bs) rows ≡ map ends_of (checkpoints_from id byte bs)
    → start_in (record { end_doc = id; end_byte = byte }) rows (length bs) ≡ record { end_doc = id + docs_in bs; end_byte = byte + length (data_of bs) }
last_ends id byte [] rows e = same_block _ _ (omega arith) (omega arith)
last_ends id byte (b ∷ bs) [] e = absurd cc
last_ends id byte (b ∷ bs) (r ∷ rows) e =
    let here : r ≡ record { end_doc = id + b.count; end_byte = byte + length b.bytes } = cc in
    let others : take (length bs) rows ≡ map ends_of (checkpoints_from (id + b.count) (byte + length b.bytes) bs) = cc in
    ap (λ (x : RowEnd). start_in x rows (length bs)) here
    ∙ last_ends (id + b.count) (byte + length b.bytes) bs rows others
    ∙ same_block _ _ (omega (arith, docs_in-cons b bs)) (omega (arith, length-data_of-cons b bs))

-- What the memory has of the finished blocks alone.
pub record HasFinished (m : Memory) (w : Writing) : Type 0 where
  pub sound : IsSound w.output
  pub works : w.output.failure ≡ None
  pub alone : w.output.before ≡ []
  pub block_size : m.writer.block_size ≡ w.block_size
  pub blocks : m.writer.blocks ≡ length w.output.finished
  pub rows : take (length w.output.finished) (ends_in m.table) ≡ map ends_of (checkpoints_of w.output.finished)

pub has_finished : (m : Memory) (text : List ℕ) (w : Writing) → Holds m text w → HasFinished m w
has_finished m text w h = record { sound = h.sound.output; works = h.works; alone = h.alone; block_size = h.block_size; blocks = h.blocks; rows = h.rows }

pub open_at : (m : Memory) (w : Writing) → HasFinished m w
    → start_in zero_row (ends_in m.table) m.writer.blocks ≡ record { end_doc = docs_in w.output.finished; end_byte = length (data_of w.output.finished) }
open_at m w h = ap (start_in zero_row (ends_in m.table)) h.blocks ∙ last_ends 0 0 w.output.finished (ends_in m.table) h.rows ∙ same_block _ _ (omega arith) (omega arith)

-- ---- a block that is ended

-- the block of these documents can stand after the finished ones
pub blocks_with : (m : Memory) (w : Writing) (docs : List (List ℕ)) → HasFinished m w → 0 < length docs → length (block docs) < 2 ^ 32 → docs_in w.output.finished + length docs < 2 ^ 32
    → AreBlocks (w.output.finished ++ block_of docs ∷ [])
blocks_with m w docs h some short few =
    AreBlocks-append w.output.finished (block_of docs ∷ []) (h.sound.works h.works).blocks
    (record { some_docs = some; some_bytes = omega (arith, length-block docs); few_bytes = short }, tt) (omega (arith, docs_in-cons (block_of docs) []))

-- the numbers once the open block is ended
abbrev pub without_open : Writer → Writer
without_open writer = record { block_size = writer.block_size; blocks = writer.blocks + 1; docs = 0; bytes = 0 }

abbrev pub with_block : Writing → List (List ℕ) → Writing
with_block w docs = record w { pending = []; output = with_blocks w.output (block_of docs ∷ []) }

module _ (m : Memory) (w : Writing) (docs : List (List ℕ)) (end : RowEnd) (h : HasFinished m w) (some : 0 < length docs)
    (starts : take (length docs) m.starts ≡ starts_from 0 docs) (room : length docs < length m.starts) (rows : m.writer.blocks < length m.table)
    (ends : EndsBlockAt (start_in zero_row (ends_in m.table) m.writer.blocks) (length docs) (length (concat docs)) end) where
  abbrev bs : List StoreBlock
  bs = w.output.finished

  abbrev b : StoreBlock
  b = block_of docs

  here : start_in zero_row (ends_in m.table) m.writer.blocks ≡ record { end_doc = docs_in bs; end_byte = length (data_of bs) }
  here = open_at m w h

  first_doc : (start_in zero_row (ends_in m.table) m.writer.blocks).end_doc ≡ docs_in bs
  first_doc = ap (λ (x : RowEnd). x.end_doc) here

  first_byte : (start_in zero_row (ends_in m.table) m.writer.blocks).end_byte ≡ length (data_of bs)
  first_byte = ap (λ (x : RowEnd). x.end_byte) here

  blocks : AreBlocks (bs ++ b ∷ [])
  blocks = blocks_with m w docs h some (omega (arith, length-block docs, ends.few_bytes)) (omega (arith, ends.few_docs, first_doc))

  holds : HoldsBlocks w.output
  holds = h.sound.works h.works

  sound : IsSound (with_blocks w.output (b ∷ []))
  sound = record {
    least = h.sound.least;
    most = h.sound.most;
    ids = blocks.few_docs;
    works = λ _. record {
      written = ap (λ (xs : List ℕ). xs ++ data_of (b ∷ [])) holds.written ∙ append_assoc w.output.before (data_of bs) (data_of (b ∷ []))
          ∙ ap (λ (xs : List ℕ). w.output.before ++ xs) (sym (data_of-append bs (b ∷ [])));
      blocks = blocks;
    };
  }

  end_is : end_of (row_of end) ≡ record { end_doc = (0 + docs_in bs) + b.count; end_byte = (0 + length (data_of bs)) + length b.bytes }
  end_is = same_block _ _ (omega (arith, ends.doc, first_doc)) (omega (arith, ends.byte, first_byte, length-block docs))

  table_is : take (length (bs ++ b ∷ [])) (ends_in (set m.table m.writer.blocks (row_of end))) ≡ map ends_of (checkpoints_of (bs ++ b ∷ []))
  table_is =
      let size : length (bs ++ b ∷ []) ≡ m.writer.blocks + 1 = omega (arith, length-append bs (b ∷ []), h.blocks) in
      (λ i. take (size i) (map-set end_of m.table m.writer.blocks (row_of end) i))
      ∙ take_more_set (ends_in m.table) m.writer.blocks (end_of (row_of end)) (omega (arith, length-map m.table end_of))
      ∙ (λ i. (ap (λ (n : ℕ). take n (ends_in m.table)) h.blocks ∙ h.rows) i ++ end_is i ∷ [])
      ∙ sym (map-append ends_of (checkpoints_of bs) (checkpoints_from (0 + docs_in bs) (0 + length (data_of bs)) (b ∷ [])))
      ∙ ap (map ends_of) (sym (checkpoints_from-append 0 0 bs (b ∷ [])))

  -- the starts that are written are the table of the block
  tail_is : bytes_of (length docs + 1) (set m.starts (length docs) (length docs)) ≡ flat_map (fixed 4) (starts_from 0 docs) ++ fixed 4 (length docs)
  tail_is =
      ap (flat_map (fixed 4)) (take_more_set m.starts (length docs) (length docs) room ∙ ap (λ (xs : List ℕ). xs ++ length docs ∷ []) starts)
      ∙ flat_map-append (fixed 4) (starts_from 0 docs) (length docs ∷ [])
      ∙ ap (λ (xs : List ℕ). flat_map (fixed 4) (starts_from 0 docs) ++ xs) (append-nil (fixed 4 (length docs)))

  text_is : (data_of bs ++ concat docs) ++ bytes_of (length docs + 1) (set m.starts (length docs) (length docs)) ≡ data_of (bs ++ b ∷ []) ++ []
  text_is =
      let table = flat_map (fixed 4) (starts_from 0 docs) in
      let count = fixed 4 (length docs) in
      ap (λ (xs : List ℕ). (data_of bs ++ concat docs) ++ xs) tail_is
      ∙ append_assoc (data_of bs) (concat docs) (table ++ count)
      ∙ ap (λ (xs : List ℕ). data_of bs ++ xs) (sym (append_assoc (concat docs) table count) ∙ sym (append-nil b.bytes))
      ∙ sym (data_of-append bs (b ∷ []))
      ∙ sym (append-nil (data_of (bs ++ b ∷ [])))

  pub block_ended : (text : List ℕ) → text ≡ data_of bs ++ concat docs
      → Holds (memory (without_open m.writer) (set m.starts (length docs) (length docs)) (set m.table m.writer.blocks (row_of end)))
      (text ++ bytes_of (length docs + 1) (set m.starts (length docs) (length docs))) (with_block w docs)
  block_ended text is = record {
    sound = record { ids = omega (arith, blocks.few_docs); light = omega arith; output = sound };
    works = h.works;
    alone = h.alone;
    fits = omega (arith, length-block []);
    block_size = h.block_size;
    docs = refl;
    bytes = refl;
    starts = refl;
    blocks = omega (arith, h.blocks, length-append bs (b ∷ []));
    rows = table_is;
    written = ap (λ (xs : List ℕ). xs ++ bytes_of (length docs + 1) (set m.starts (length docs) (length docs))) is ∙ text_is;
  }

-- ---- a document that is put

-- an end that was found by a sum that stops at the greatest of its type
pub exact_sum : (m : Memory) (len sum : ℕ) (start end : RowEnd) → sum ≡ min (m.writer.bytes + len) 18446744073709551615 → EndsBlockAt start (m.writer.docs + 1) sum end → sum ≡ m.writer.bytes + len
exact_sum m len sum start end is ends = let few = ends.few_bytes in omega arith

pub exact_end : (m : Memory) (len sum : ℕ) (start end : RowEnd) → sum ≡ m.writer.bytes + len → start ≡ start_in zero_row (ends_in m.table) m.writer.blocks
    → EndsBlockAt start (m.writer.docs + 1) sum end → EndsBlockAt (start_in zero_row (ends_in m.table) m.writer.blocks) (m.writer.docs + 1) (m.writer.bytes + len) end
exact_end m len sum start end is from ends =
    subst (λ (n : ℕ). EndsBlockAt (start_in zero_row (ends_in m.table) m.writer.blocks) (m.writer.docs + 1) n end) is (subst (λ (b : RowEnd). EndsBlockAt b (m.writer.docs + 1) sum end) from ends)

-- the numbers with one more document of this length
abbrev pub with_length : Writer → ℕ → Writer
with_length writer len = record { block_size = writer.block_size; blocks = writer.blocks; docs = writer.docs + 1; bytes = writer.bytes + len }

module _ (old : Memory) (len : ℕ) (end : RowEnd) (room : old.writer.docs + 2 ≤ length old.starts) (rows : old.writer.blocks < length old.table)
    (ends : EndsBlockAt (start_in zero_row (ends_in old.table) old.writer.blocks) (old.writer.docs + 1) (old.writer.bytes + len) end) where
  abbrev mid : Memory
  mid = memory (with_length old.writer len) (set old.starts old.writer.docs old.writer.bytes) old.table

  -- what the documents are with one more
  record Grown (text : List ℕ) (w : Writing) (d : List ℕ) : Type 0 where
    pub docs : length (w.pending ++ d ∷ []) ≡ old.writer.docs + 1
    pub bytes : length (concat (w.pending ++ d ∷ [])) ≡ old.writer.bytes + len
    pub starts : take (length (w.pending ++ d ∷ [])) mid.starts ≡ starts_from 0 (w.pending ++ d ∷ [])
    pub heavy : weight (w.pending ++ d ∷ []) ≡ (old.writer.bytes + len) + 8 * (old.writer.docs + 1)
    pub text_is : text ++ d ≡ data_of w.output.finished ++ concat (w.pending ++ d ∷ [])
    pub finished : HasFinished mid w

  grown : (text : List ℕ) (w : Writing) (d : List ℕ) → length d ≡ len → Holds old text w → Grown text w d
  grown text w d size h =
      let more = w.pending ++ d ∷ [] in
      let docs : length more ≡ old.writer.docs + 1 = omega (arith, length-append w.pending (d ∷ []), h.docs) in
      let bytes : length (concat more) ≡ old.writer.bytes + len =
      omega (arith, ap length (concat-append w.pending (d ∷ [])), length-append (concat w.pending) (d ++ []), length-append d [], h.bytes) in
      let place : old.writer.bytes ≡ 0 + length (concat w.pending) = omega (arith, h.bytes) in
      record {
        docs = docs;
        bytes = bytes;
        starts = ap (λ (n : ℕ). take n (set old.starts old.writer.docs old.writer.bytes)) docs
            ∙ take_more_set old.starts old.writer.docs old.writer.bytes (omega arith)
            ∙ (λ i. (ap (λ (n : ℕ). take n old.starts) h.docs ∙ h.starts) i ++ place i ∷ [])
            ∙ sym (starts_from-append 0 w.pending (d ∷ []));
        heavy = omega (arith, length-concat more, docs, bytes);
        text_is = ap (λ (xs : List ℕ). xs ++ d) h.written ∙ append_assoc (data_of w.output.finished) (concat w.pending) d
            ∙ ap (λ (xs : List ℕ). data_of w.output.finished ++ xs) (ap (λ (xs : List ℕ). concat w.pending ++ xs) (sym (append-nil d)) ∙ sym (concat-append w.pending (d ∷ [])));
        finished = record { sound = h.sound.output; works = h.works; alone = h.alone; block_size = h.block_size; blocks = h.blocks; rows = h.rows };
      }

  -- its block goes on
  pub put_open : (old.writer.bytes + len) + 8 * (old.writer.docs + 1) ≤ old.writer.block_size → PutsDocument len 0 old mid
  put_open light text w d size h =
      let g = grown text w d size h in
      let more = w.pending ++ d ∷ [] in
      let first = ap (λ (x : RowEnd). x.end_doc) (open_at old w (has_finished old text w h)) in
      let on : with_document w d ≡ record w { pending = more } = rw (le-ltb w.block_size (weight more) (omega (arith, g.heavy, h.block_size))) refl in
      subst (Holds mid (text ++ d ++ [])) (sym on) (record {
        sound = record { ids = omega (arith, ends.few_docs, g.docs, first); light = omega (arith, g.heavy, h.block_size); output = h.sound.output };
        works = h.works;
        alone = h.alone;
        fits = omega (arith, length-block more, g.docs, g.bytes, ends.few_bytes);
        block_size = h.block_size;
        docs = sym g.docs;
        bytes = sym g.bytes;
        starts = g.starts;
        blocks = h.blocks;
        rows = h.rows;
        written = append-nil (text ++ d) ∙ g.text_is;
      })

  abbrev tail : List ℕ
  tail = set mid.starts (old.writer.docs + 1) (old.writer.docs + 1)

  -- its block is ended
  pub put_full : old.writer.block_size < (old.writer.bytes + len) + 8 * (old.writer.docs + 1)
      → PutsDocument len (old.writer.docs + 2) old (memory (without_open mid.writer) tail (set old.table old.writer.blocks (row_of end)))
  put_full heavy text w d size h =
      let g = grown text w d size h in
      let more = w.pending ++ d ∷ [] in
      let long : length mid.starts ≡ length old.starts = length-set old.starts old.writer.docs old.writer.bytes in
      let some : 0 < length more = omega (arith, g.docs) in
      let on : with_document w d ≡ with_block w more =
      rw (lt-ltb w.block_size (weight more) (omega (arith, g.heavy, h.block_size)))
      (ap (λ (bs : List StoreBlock). record w { pending = []; output = with_blocks w.output bs }) (blocks_of-some more some)) in
      let ends' : EndsBlockAt (start_in zero_row (ends_in old.table) old.writer.blocks) (length more) (length (concat more)) end =
      subst (λ (n : ℕ). EndsBlockAt (start_in zero_row (ends_in old.table) old.writer.blocks) n (length (concat more)) end) (sym g.docs)
      (subst (λ (n : ℕ). EndsBlockAt (start_in zero_row (ends_in old.table) old.writer.blocks) (old.writer.docs + 1) n end) (sym g.bytes) ends) in
      let holds = block_ended mid w more end g.finished some g.starts (omega (arith, g.docs, long)) rows ends' (text ++ d) g.text_is in
      let count : length more + 1 ≡ old.writer.docs + 2 = omega (arith, g.docs) in
      subst (Holds (memory (without_open mid.writer) tail (set old.table old.writer.blocks (row_of end))) ((text ++ d) ++ bytes_of (old.writer.docs + 2) tail)) (sym on)
      (subst (λ (n : ℕ). Holds (memory (without_open mid.writer) tail (set old.table old.writer.blocks (row_of end))) ((text ++ d) ++ bytes_of n tail) (with_block w more)) count
      (subst (λ (n : ℕ). Holds (memory (without_open mid.writer) (set mid.starts n n) (set old.table old.writer.blocks (row_of end)))
      ((text ++ d) ++ bytes_of (length more + 1) (set mid.starts n n)) (with_block w more)) g.docs holds))

-- ---- the open block is ended

pub ended : (old : Memory) (end : RowEnd) → 0 < old.writer.docs → old.writer.docs < length old.starts → old.writer.blocks < length old.table
    → EndsBlockAt (start_in zero_row (ends_in old.table) old.writer.blocks) old.writer.docs old.writer.bytes end
    → EndsBlock (old.writer.docs + 1) old (memory (without_open old.writer) (set old.starts old.writer.docs old.writer.docs) (set old.table old.writer.blocks (row_of end)))
ended old end some room rows ends text w h =
    let docs = w.pending in
    let after = set old.table old.writer.blocks (row_of end) in
    let ends' : EndsBlockAt (start_in zero_row (ends_in old.table) old.writer.blocks) (length docs) (length (concat docs)) end =
    subst (λ (n : ℕ). EndsBlockAt (start_in zero_row (ends_in old.table) old.writer.blocks) n (length (concat docs)) end) h.docs
    (subst (λ (n : ℕ). EndsBlockAt (start_in zero_row (ends_in old.table) old.writer.blocks) old.writer.docs n end) h.bytes ends) in
    let holds = block_ended old w docs end (has_finished old text w h) (omega (arith, h.docs)) h.starts (omega (arith, h.docs)) rows ends' text h.written in
    let on : flushed w ≡ with_block w docs = ap (λ (bs : List StoreBlock). record w { pending = []; output = with_blocks w.output bs }) (blocks_of-some docs (omega (arith, h.docs))) in
    subst (λ (n : ℕ). Holds (memory (without_open old.writer) (set old.starts n n) after) (text ++ bytes_of (n + 1) (set old.starts n n)) (flushed w)) (sym h.docs)
    (subst (Holds (memory (without_open old.writer) (set old.starts (length docs) (length docs)) after)
    (text ++ bytes_of (length docs + 1) (set old.starts (length docs) (length docs)))) (sym on) holds)

pub none_pending : (docs : List (List ℕ)) → length docs ≡ 0 → docs ≡ []
none_pending [] e = refl
none_pending (d ∷ docs) e = absurd (omega arith)

-- ---- the first of all

pub begins : (block_size : ℕ) → Begins block_size (record { block_size = block_size; blocks = 0; docs = 0; bytes = 0 })
begins block_size starts table compressor period termination failures least most = record {
  sound = record {
    ids = omega arith;
    light = omega arith;
    output = record { least = least; most = most; ids = omega arith; works = λ _. record { written = refl; blocks = record { each = tt; few_docs = omega arith } } };
  };
  works = refl;
  alone = refl;
  fits = omega (arith, length-block []);
  block_size = refl;
  docs = refl;
  bytes = refl;
  starts = refl;
  blocks = refl;
  rows = refl;
  written = refl;
}
