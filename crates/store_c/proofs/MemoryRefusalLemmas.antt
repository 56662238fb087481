-- Why a document isn't put into the caller's memory, or its open block not ended.
use Rattle.std.proofs.Common.{◌≡◌, ℕ, ◌+◌, ◌*◌, ◌^◌, ◌<◌, ◌≤◌, inl, inr, List, [], ◌∷◌, ◌++◌, length, refl, ap, arith, length-append, true, false, nat_lt}
use Rattle.std.proofs.lemmas.Bool.{ltb-true, ltb-false}
use Rattle.std.specs.List.{concat}
use Rattle.std.specs.Prelude.{min}
use Rattle.store_format.specs.Block.{block}
use Rattle.store_format.specs.StoreFile.{block_of, data_of, docs_in}
use Rattle.store_format.proofs.BlockLemmas.{concat-append, length-block}
use Rattle.store_format.proofs.StoreLemmas.{length-data_of-cons, data_of-append, data_fits}
use Rattle.docstore.specs.Writer.{Writing}
use Rattle.layered_index.specs.declared.row.RowEnd.{RowEnd}
use Rattle.store_c.specs.declared.writer_refusal.WriterRefusal.{WriterRefusal}
use Rattle.store_c.specs.declared.writer_refusal.WriterRefusal.TheVariants.{NoMemory, OldVersion, BlockTooLarge, TooManyDocs, BadPeriod, NoRoom, OpenBlock, OtherWriter}
use Rattle.store_c.specs.Writing.{Memory, memory, Holds, EndsBlockAt, RefusesEnd, LacksRoom, HasRoom, HasNoEnd, open_start, RefusesLength, TakesLength, IsOther}
use Rattle.store_c.proofs.MemoryLemmas.{has_finished, open_at, blocks_with}

-- a block that has its place in 32 bits has it in the file
has_place : (m : Memory) (text : List ℕ) (w : Writing) (docs : List (List ℕ)) → Holds m text w → 0 < length docs → length (block docs) < 2 ^ 32 → docs_in w.output.finished + length docs < 2 ^ 32
    → length (data_of w.output.finished) + length (block docs) < 2 ^ 64
has_place m text w docs h some short few =
    let bs = w.output.finished in
    omega (
      arith,
      data_fits (bs ++ block_of docs ∷ []) (blocks_with m w docs (has_finished m text w h) some short few),
      ap length (data_of-append bs (block_of docs ∷ [])),
      length-append (data_of bs) (data_of (block_of docs ∷ [])),
      length-data_of-cons (block_of docs) [],
    )

-- a block with one more document
grown : (m : Memory) (text : List ℕ) (w : Writing) (d : List ℕ) → Holds m text w → length (block (w.pending ++ d ∷ [])) ≡ m.writer.bytes + length d + 4 * (m.writer.docs + 1) + 4
grown m text w d h =
    let more = w.pending ++ d ∷ [] in
    let docs : length more ≡ m.writer.docs + 1 = omega (arith, length-append w.pending (d ∷ []), h.docs) in
    omega (arith, length-block more, docs, ap length (concat-append w.pending (d ∷ [])), length-append (concat w.pending) (d ++ []), length-append d [], h.bytes)

pub put_refused : (m : Memory) (len sum : ℕ) (refusal : WriterRefusal) → HasRoom 2 m → sum ≡ min (m.writer.bytes + len) 18446744073709551615
    → RefusesEnd (open_start m) (m.writer.docs + 1) sum refusal → RefusesLength len m refusal
put_refused m len sum TooManyDocs room is r = (
  room,
  λ text w h.
      let first = ap (λ (x : RowEnd). x.end_doc) (open_at m w (has_finished m text w h)) in
      let ids = h.sound.ids in
      omega (arith, r, h.docs),
)
put_refused m len sum BlockTooLarge room is r = (
  room,
  λ text w d size h.
      let first = open_at m w (has_finished m text w h) in
      let first_doc = ap (λ (x : RowEnd). x.end_doc) first in
      let first_byte = ap (λ (x : RowEnd). x.end_byte) first in
      let more = w.pending ++ d ∷ [] in
      let docs : length more ≡ m.writer.docs + 1 = omega (arith, length-append w.pending (d ∷ []), h.docs) in
      let long = grown m text w d h in
      let few = r.0 in
      record {
        id = record { works = h.works; left = omega (arith, h.docs) };
        large = (elim (nat_lt (length (block more)) 4294967296) as (λ y. nat_lt (length (block more)) 4294967296 ≡ y → 2 ^ 32 ≤ length (block more)) [
          | false ↦ λ f. ltb-false _ _ f
          | true ↦ λ t. let short = ltb-true _ _ t in
              let place = has_place m text w more h (omega arith) (omega arith) (omega arith) in
              elim r.1 [ inl x ↦ omega arith | inr x ↦ omega arith ]
        ]) refl;
      },
)
put_refused m len sum NoMemory room is r = absurd r
put_refused m len sum OldVersion room is r = absurd r
put_refused m len sum BadPeriod room is r = absurd r
put_refused m len sum NoRoom room is r = absurd r
put_refused m len sum OpenBlock room is r = absurd r
put_refused m len sum OtherWriter room is r = absurd r

pub put_takes : (m : Memory) (len : ℕ) (end : RowEnd) → HasRoom 2 m → EndsBlockAt (open_start m) (m.writer.docs + 1) (m.writer.bytes + len) end → TakesLength len m
put_takes m len end room ends = record {
  room = room;
  number = λ text w h.
      let first = ap (λ (x : RowEnd). x.end_doc) (open_at m w (has_finished m text w h)) in
      omega (arith, first, ends.few_docs, h.docs);
  place = λ text w d size h. omega (arith, grown m text w d h, ends.few_bytes, size);
}

-- where there is no room there is none
pub no_room : (more : ℕ) (m : Memory) → HasRoom more m → LacksRoom more m → ⊥
no_room more m room lacks = elim lacks [ inl starts ↦ omega (arith, starts, room.0) | inr rows ↦ omega (arith, rows, room.1) ]

-- ---- the open block

pub no_end : (m : Memory) (refusal : WriterRefusal) → RefusesEnd (open_start m) m.writer.docs m.writer.bytes refusal → HasNoEnd m
no_end m TooManyDocs r end ends = omega (arith, r, ends.few_docs)
no_end m BlockTooLarge r end ends = elim r.1 [ inl x ↦ omega (arith, x, ends.few_bytes) | inr x ↦ omega (arith, x, ends.byte, ends.place) ]
no_end m NoMemory r end ends = absurd r
no_end m OldVersion r end ends = absurd r
no_end m BadPeriod r end ends = absurd r
no_end m NoRoom r end ends = absurd r
no_end m OpenBlock r end ends = absurd r
no_end m OtherWriter r end ends = absurd r

-- the open block of a writer ends somewhere
pub end_other : (m : Memory) → 0 < m.writer.docs → HasNoEnd m → IsOther m.writer m.table
end_other m some none starts text w h =
    let held = memory m.writer starts m.table in
    let first = open_at held w (has_finished held text w h) in
    let first_doc = ap (λ (x : RowEnd). x.end_doc) first in
    let first_byte = ap (λ (x : RowEnd). x.end_byte) first in
    let long = length-block w.pending in
    let fits = h.fits in
    let docs = h.docs in
    let bytes = h.bytes in
    let ids = h.sound.ids in
    let place = has_place held text w w.pending h (omega arith) fits (omega arith) in
    let start = open_start m in
    let end : RowEnd = record { end_doc = start.end_doc + m.writer.docs; end_byte = start.end_byte + (m.writer.bytes + 4 * m.writer.docs + 4) } in
    none end (record { doc = refl; byte = refl; few_docs = omega arith; few_bytes = omega arith; place = omega arith })
