-- The caller's memory of a writer once a store is put after it.
use Rattle.std.proofs.Common.{◌≡◌, ℕ, ◌+◌, ◌-◌, ◌^◌, ◌<◌, ◌≤◌, List, [], ◌∷◌, ◌++◌, length, take, map, refl, sym, ap, ◌∙◌, subst, arith, append_assoc, length-append}
use Rattle.std.proofs.lemmas.List.{append-nil, map-append, take-map, drop-map, length-map, length-take, length-take-le, take-append-drop}
use Rattle.std.proofs.lemmas.Slice.{take-put_mid}
use Rattle.std.proofs.Math.Seq.{take-append_seam}
use Rattle.std.specs.Prelude.{drop}
use borrow.Rule.Slice.PartMut.{put_mid}
use Rattle.std.specs.List.{AllByRecursion, concat}
use Rattle.layered_index.specs.declared.checkpoint.Checkpoint.{Checkpoint}
use Rattle.layered_index.specs.Checkpoint.{IsInLineFrom, IsWithinLimits}
use Rattle.layered_index.proofs.LineLemmas.{in_line-split}
use Rattle.store_format.specs.StoreFile.{StoreBlock, IsStoreBlock, AreBlocks, data_of, docs_in, checkpoints_of, checkpoints_from}
use Rattle.store_format.proofs.StoreLemmas.{length-checkpoints, data_of-append, data_fits, AreBlocks-append, checkpoints_from-append, checkpoints_in_line_from}
use Rattle.store_format.proofs.BlockLemmas.{length-block}
use Rattle.store_format.specs.Slots.{slots}
use Rattle.docstore.specs.BlockOutput.{BlockOutput, with_blocks}
use Rattle.docstore.specs.Stacking.{shifted, with_store}
use Rattle.docstore.specs.Writer.{Writing, blocks_of}
use Rattle.docstore.proofs.ShiftedCheckpointLemmas.{shifted_after}
use Rattle.docstore.proofs.TakenLemmas.{length-slots}
use Rattle.layered_index.specs.declared.row.Row.{Row}
use Rattle.layered_index.specs.declared.row.RowEnd.{RowEnd}
use Rattle.store_c.specs.declared.writer.Writer.{Writer}
use Rattle.layered_index.specs.Rows.{end_of, ends_in, ends_of, start_in}
use Rattle.store_c.specs.Writing.{memory, ends_after, Holds, PutsBlocks, IsOther, HasNumbersWith}
use Rattle.layered_index.proofs.RowLemmas.{zero_row}
use Rattle.store_c.proofs.MemoryLemmas.{has_finished, open_at, none_pending}

-- ---- blocks after others

-- they are in line there
pub in_line_after : (docs bytes : ℕ) (cs : List Checkpoint) (bs : List StoreBlock) → cs ≡ checkpoints_of bs → AllByRecursion IsStoreBlock bs → docs + docs_in bs < 2 ^ 32
    → bytes + length (data_of bs) < 2 ^ 64 → IsInLineFrom docs bytes (map (shifted docs bytes) cs)
in_line_after docs bytes cs bs is each few fits =
    subst (IsInLineFrom docs bytes) (sym (shifted_after docs bytes cs bs is)) (checkpoints_in_line_from docs bytes bs each few fits)

ends_joined : (start : RowEnd) (cs : List Checkpoint) → map (ends_after start) cs ≡ map ends_of (map (shifted start.end_doc start.end_byte) cs)
ends_joined start [] = refl
ends_joined start (c ∷ cs) = ap (λ (bs : List RowEnd). ends_after start c ∷ bs) (ends_joined start cs)

-- where they end
ends_there : (start : RowEnd) (cs : List Checkpoint) (bs : List StoreBlock) → cs ≡ checkpoints_of bs → map (ends_after start) cs ≡ map ends_of (checkpoints_from start.end_doc start.end_byte bs)
ends_there start cs bs is = ends_joined start cs ∙ ap (map ends_of) (shifted_after start.end_doc start.end_byte cs bs is)

-- each of the checkpoints keeps within the limits
pub limits_of : (docs bytes : ℕ) (done rest all : List Checkpoint) (c : Checkpoint) → done ++ c ∷ rest ≡ all → IsInLineFrom docs bytes (map (shifted docs bytes) all)
    → IsWithinLimits (shifted docs bytes c)
limits_of docs bytes done rest all c is line =
    let parts : map (shifted docs bytes) all ≡ map (shifted docs bytes) done ++ shifted docs bytes c ∷ map (shifted docs bytes) rest =
    ap (map (shifted docs bytes)) (sym is) ∙ map-append (shifted docs bytes) done (c ∷ rest) in
    (in_line-split docs bytes (map (shifted docs bytes) done) (shifted docs bytes c ∷ map (shifted docs bytes) rest) (subst (IsInLineFrom docs bytes) parts line)).1.2

-- ---- a writer without an open block

pub without_documents : (w : Writing) (bs : List StoreBlock) → w.pending ≡ [] → with_store w bs ≡ record w { pending = []; output = with_blocks w.output bs }
without_documents w bs none =
    let nothing : with_blocks w.output (blocks_of w.pending) ≡ w.output =
    ap (λ (docs : List (List ℕ)). with_blocks w.output (blocks_of docs)) none
    ∙ (λ i. record w.output { finished = append-nil w.output.finished i; content = append-nil w.output.content i }) in
    ap (λ (out : BlockOutput). record w { pending = []; output = with_blocks out bs }) nothing

-- its table has the rows of its blocks
pub rows_fit : (writer : Writer) (table : List Row) → length table < writer.blocks → IsOther writer table
rows_fit writer table short starts text w h =
    let size = length-map (checkpoints_of w.output.finished) ends_of in
    omega (arith, h.blocks, ap length h.rows, length-checkpoints 0 0 w.output.finished, size, length-take (length w.output.finished) (ends_in table), length-map table end_of)

-- the documents after those of the rows can be numbered
pub numbers_with : (more : List StoreBlock) (writer : Writer) (table : List Row) (start : RowEnd) → writer.docs ≡ 0 → start ≡ start_in zero_row (ends_in table) writer.blocks
    → start.end_doc + length (slots more) < 2 ^ 32 → HasNumbersWith more writer table
numbers_with view writer table start closed from few starts text w h =
    let m = memory writer starts table in
    let doc = ap (λ (b : RowEnd). b.end_doc) (from ∙ open_at m w (has_finished m text w h)) in
    omega (arith, doc, few, closed, h.docs)

-- ---- the table with more rows

-- the rows so far, and those of more blocks written after them
rows_written : (table ys rs : List RowEnd) (from k n count : ℕ) → from ≤ length table → take count ys ≡ rs → count ≤ length ys → n ≡ from + count
    → take n (put_mid from k table ys) ≡ take from table ++ rs
rows_written table ys rs from k n count fits is room size =
    let all = put_mid from k table ys in
    let rest = drop count ys in
    let end = from + length ys in
    let few : length rs ≡ count = omega (arith, ap length is, length-take-le count ys room) in
    let parts : ys ≡ rs ++ rest = sym (take-append-drop count ys) ∙ ap (λ (xs : List RowEnd). xs ++ rest) is in
    let cut : all ≡ (take from table ++ rs) ++ (rest ++ drop end all) =
    sym (take-append-drop end all)
    ∙ ap (λ (xs : List RowEnd). xs ++ drop end all)
    (take-put_mid from k table ys end refl fits ∙ ap (λ (xs : List RowEnd). take from table ++ xs) parts ∙ sym (append_assoc (take from table) rs rest))
    ∙ append_assoc (take from table ++ rs) rest (drop end all) in
    let len : n ≡ length (take from table ++ rs) = omega (arith, length-append (take from table) rs, length-take-le from table fits) in
    ap (λ (i : ℕ). take i all) len ∙ ap (take (length (take from table ++ rs))) cut ∙ take-append_seam (take from table ++ rs) (rest ++ drop end all)

-- the ends of a table in which a part was written
ends_written : (from k : ℕ) (table ys : List Row) → ends_in (put_mid from k table ys) ≡ put_mid from k (ends_in table) (ends_in ys)
ends_written from k table ys =
    let rest = drop k (drop from table) in
    let same : map end_of rest ≡ drop k (drop from (ends_in table)) = sym (ap (drop k) (drop-map end_of from table) ∙ drop-map end_of k (drop from table)) in
    map-append end_of (take from table) (ys ++ rest) ∙ (λ i. sym (take-map end_of from table) i ++ (map-append end_of ys rest ∙ ap (λ (xs : List RowEnd). ends_in ys ++ xs) same) i)

-- the numbers with so many more blocks
abbrev pub with_more : Writer → ℕ → Writer
with_more writer count = record { block_size = writer.block_size; blocks = writer.blocks + count; docs = writer.docs; bytes = writer.bytes }

module _ (writer : Writer) (table ys : List Row) (k count : ℕ) (start : RowEnd) (cs : List Checkpoint) (more : List StoreBlock)
    (are_blocks : AreBlocks more)
    (are : cs ≡ checkpoints_of more) (closed : writer.docs ≡ 0) (fits : writer.blocks ≤ length table) (from : start ≡ start_in zero_row (ends_in table) writer.blocks)
    (few : length (slots more) ≤ 4294967295 - start.end_doc) where
  -- what is known of a writer of this memory
  record Follows (text : List ℕ) (w : Writing) : Type 0 where
    pub none : w.pending ≡ []
    pub doc : start.end_doc ≡ docs_in w.output.finished
    pub byte : start.end_byte ≡ length (data_of w.output.finished)
    pub blocks : AreBlocks (w.output.finished ++ more)

  following : (starts text : List ℕ) (w : Writing) → Holds (memory writer starts table) text w → Follows text w
  following starts text w h =
      let m = memory writer starts table in
      let at = from ∙ open_at m w (has_finished m text w h) in
      let doc = ap (λ (b : RowEnd). b.end_doc) at in
      let finished = (h.sound.output.works h.works).blocks in
      record {
        none = none_pending w.pending (sym h.docs ∙ closed);
        doc = doc;
        byte = ap (λ (b : RowEnd). b.end_byte) at;
        blocks = AreBlocks-append w.output.finished more finished are_blocks.each (omega (arith, doc, few, length-slots more, finished.few_docs));
      }

  -- its blocks have their place in the file
  pub has_place : 18446744073709551615 - start.end_byte < length (data_of more) → IsOther writer table
  has_place large starts text w h =
      let b = following starts text w h in
      omega (
        arith,
        b.byte,
        data_fits (w.output.finished ++ more) b.blocks,
        ap length (data_of-append w.output.finished more),
        length-append (data_of w.output.finished) (data_of more),
      )

  pub stacked : take (length cs) (ends_in ys) ≡ map (ends_after start) cs → count ≡ length cs → count ≤ length ys
      → PutsBlocks more writer table (with_more writer count) (put_mid writer.blocks k table ys)
  stacked is counted room starts text w h =
      let b = following starts text w h in
      let bs = w.output.finished in
      let rs = map (ends_after start) cs in
      let doc : start.end_doc ≡ 0 + docs_in bs = omega (arith, b.doc) in
      let byte : start.end_byte ≡ 0 + length (data_of bs) = omega (arith, b.byte) in
      let rows : rs ≡ map ends_of (checkpoints_from (0 + docs_in bs) (0 + length (data_of bs)) more) =
      ends_there start cs more are ∙ (λ i. map ends_of (checkpoints_from (doc i) (byte i) more)) in
      let blocks : length cs ≡ length more = ap length are ∙ length-checkpoints 0 0 more in
      let held = h.sound.output.works h.works in
      subst (Holds (memory (with_more writer count) starts (put_mid writer.blocks k table ys)) (text ++ data_of more)) (sym (without_documents w more b.none)) (record {
        sound = record {
          ids = omega (arith, b.blocks.few_docs);
          light = omega arith;
          output = record {
            least = h.sound.output.least;
            most = h.sound.output.most;
            ids = b.blocks.few_docs;
            works = λ _. record {
              written = ap (λ (xs : List ℕ). xs ++ data_of more) held.written ∙ append_assoc w.output.before (data_of bs) (data_of more)
                  ∙ ap (λ (xs : List ℕ). w.output.before ++ xs) (sym (data_of-append bs more));
              blocks = b.blocks;
            };
          };
        };
        works = h.works;
        alone = h.alone;
        fits = omega (arith, length-block []);
        block_size = h.block_size;
        docs = closed;
        bytes = omega (arith, h.bytes, ap (λ (docs : List (List ℕ)). length (concat docs)) b.none);
        starts = refl;
        blocks = omega (arith, h.blocks, counted, blocks, length-append bs more);
        rows = ap (take (length (bs ++ more))) (ends_written writer.blocks k table ys)
            ∙ rows_written (ends_in table) (ends_in ys) rs writer.blocks k (length (bs ++ more)) (length cs) (omega (arith, fits, length-map table end_of)) is
            (omega (arith, counted, room, length-map ys end_of)) (omega (arith, blocks, h.blocks, length-append bs more))
            ∙ (λ i. (ap (λ (n : ℕ). take n (ends_in table)) h.blocks ∙ h.rows) i ++ rows i)
            ∙ sym (map-append ends_of (checkpoints_of bs) (checkpoints_from (0 + docs_in bs) (0 + length (data_of bs)) more))
            ∙ ap (map ends_of) (sym (checkpoints_from-append 0 0 bs more));
        written = (λ i. (h.written ∙ ap (λ (docs : List (List ℕ)). data_of bs ++ concat docs) b.none ∙ append-nil (data_of bs)) i ++ data_of more)
            ∙ sym (data_of-append bs more) ∙ sym (append-nil (data_of (bs ++ more)));
      })
