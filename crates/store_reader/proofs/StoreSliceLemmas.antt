-- A store in a slice of bytes: where its parts lie, and what a seek in its index finds.
use Rattle.std.proofs.Common.{◌≡◌, ℕ, ◌+◌, ◌-◌, ◌<◌, ◌≤◌, List, length, Option, Some, None, refl, sym, ap, ◌∙◌, subst, arith, inl, inr}
use Rattle.std.specs.Prelude.{Result, Ok, Err, IsOkAnd, MatchResult, slice_range, slice_get}
use Rattle.std.proofs.lemmas.List.{append-nil}
use Rattle.std.proofs.lemmas.Option.{slice_get_past}
use Rattle.store_format.specs.FooterLemmas.{kind_zero}
use Rattle.store_base.proofs.ListLemmas.{length-slice}
use Rattle.store_base.specs.declared.error.StoreError.{StoreError}
use Rattle.store_base.specs.declared.error.StoreError.TheVariants.{BadIndex, BadOffset, InvalidArgument, DamagedDocument}
use Rattle.layered_index.specs.declared.checkpoint.Checkpoint.{Checkpoint}
use Rattle.layered_index.specs.Checkpoint.{Covers, docs_end, first_past}
use Rattle.layered_index.proofs.LineLemmas.{in_line_from}
use Rattle.layered_index.specs.Layers.{index_part}
use Rattle.layered_index.specs.IndexReading.{IsIndexPart, HasIndex}
use Rattle.layered_index.specs.Sought.{IndexBytes}
use Rattle.store_format.specs.declared.footer.DocStoreFooter.{DocStoreFooter}
use Rattle.store_format.specs.declared.version.DocStoreVersion.{DocStoreVersion}
use Rattle.store_format.specs.declared.version.DocStoreVersion.TheVariants.{V1, V2, V3}
use Rattle.store_format.specs.Block.{Slot, slot, doc, damaged}
use Rattle.store_format.specs.Footer.{footer, kind_of, version_number}
use Rattle.store_format.specs.Slots.{slots}
use Rattle.store_format.specs.StoreFile.{StoreBlock, HasForm, IsStore, blocks_at, checkpoints_of, data_of}
use Rattle.store_format.proofs.StoreLemmas.{checkpoints_cover, blocks_from, checkpoints_in_line, data_fits}
use Rattle.store_reader.specs.Covering.{HasIndexOf}
use Rattle.store_reader.specs.CallAnswers.{exact_result}
use Rattle.store_reader.specs.GetAnswer.{AnswersTruly}
use Rattle.store_reader.specs.Opening.{IsSomeStore}
use Rattle.store_reader.specs.Finding.{IsStoreBy, FindsFooter, Finds, data_in}
use Rattle.store_reader.specs.StoreSlices.{IsPartOf, IsLaidOut, IsStoreSlice, IsBlockSlice, document_in, count_of_store}
use Rattle.store_reader.proofs.OpenedLemmas.{IsTail}
use Rattle.store_reader.proofs.RefusedLemmas.{parts_of, footer_of, not_refused}
use Rattle.store_reader.proofs.SeekLemmas.{within, none_past}
use Rattle.store_reader.proofs.PlaceLemmas.{seek_stays, IsPlaced, placed, doc_placed, slot_placed, slot_none, count_is}

-- ---- where the parts lie

-- the footer that was found
pub found_tail : (bytes : List ℕ) (f : DocStoreFooter) → 28 ≤ length bytes → FindsFooter bytes (Ok f) → IsTail bytes f
found_tail bytes f long finds =
    let is = finds.long long in
    let v = version_number f.doc_store_version in
    let text : slice_range bytes (length bytes - 28) (length bytes) ≡ footer v f.offset 0 is.0 = is.3 ∙ append-nil (footer v f.offset (kind_of f.decompressor) is.0)
    ∙ ap (λ (k : ℕ). footer v f.offset k is.0) (kind_zero f.decompressor) in
    record { long = long; few = is.1; reserved = is.0; form = is.2; tail = text }

pub laid_out : (bytes : List ℕ) (f : DocStoreFooter) (index : IndexBytes) → 28 ≤ length bytes → FindsFooter bytes (Ok f)
    → index ≡ record { period = f.period; bytes = slice_range bytes f.offset (length bytes - 28) } → (s : IsSomeStore bytes) → IsLaidOut bytes f.offset index (version_number f.doc_store_version) s
laid_out bytes f index long finds is s =
    let foot = footer_of bytes s f (found_tail bytes f long finds) in
    let parts = parts_of bytes s in
    record {
      data_is = foot.offset;
      period_is = ap (λ (u : IndexBytes). u.period) is ∙ foot.period;
      index_is = ap (λ (u : IndexBytes). u.bytes) is ∙ ap (λ (n : ℕ). slice_range bytes n (length bytes - 28)) foot.offset ∙ parts.index;
      version_is = foot.version;
    }

-- ---- refusals

-- a footer that is refused is no store's
pub footer_no_store : (bytes : List ℕ) (e : StoreError) → FindsFooter bytes (Err e) → IsSomeStore bytes → ⊥
footer_no_store bytes e finds s =
    let parts = parts_of bytes s in
    let long : 28 ≤ length bytes = omega (arith, parts.size) in
    not_refused (slice_range bytes (length bytes - 28) (length bytes)) s.period s.version (length (data_of s.blocks)) s.store.reserved e s.store.form
    (data_fits s.blocks s.store.blocks) parts.tail (finds.long long)

-- an offset past the footer's beginning is no store's
pub offset_no_store : (bytes : List ℕ) (f : DocStoreFooter) → 28 ≤ length bytes → FindsFooter bytes (Ok f) → length bytes - 28 < f.offset → IsSomeStore bytes → ⊥
offset_no_store bytes f long finds past s =
    let foot = footer_of bytes s f (found_tail bytes f long finds) in
    let size = (parts_of bytes s).size in
    let at = foot.offset in
    omega arith

-- bytes that have no index are no store's
pub index_no_store : (bytes : List ℕ) (f : DocStoreFooter) → 28 ≤ length bytes → FindsFooter bytes (Ok f) → (HasIndex f.period (slice_range bytes f.offset (length bytes - 28)) → ⊥)
    → IsSomeStore bytes → ⊥
index_no_store bytes f long finds none s =
    let foot = footer_of bytes s f (found_tail bytes f long finds) in
    let parts = parts_of bytes s in
    none (
      checkpoints_of s.blocks,
      (
        checkpoints_in_line s.blocks s.store.blocks,
        ap (λ (n : ℕ). slice_range bytes n (length bytes - 28)) foot.offset ∙ parts.index ∙ ap (λ (p : ℕ). index_part p (checkpoints_of s.blocks)) (sym foot.period),
      ),
    )

-- what is found then
pub finds_footer : (bytes : List ℕ) (e : StoreError) → FindsFooter bytes (Err e) → Finds bytes (Err e)
finds_footer bytes e finds = record { footer = Err e; reads = finds; goes_on = refl }

pub finds_past : (bytes : List ℕ) (f : DocStoreFooter) → FindsFooter bytes (Ok f) → length bytes - 28 < f.offset → Finds bytes (Err BadOffset)
finds_past bytes f finds past = record { footer = Ok f; reads = finds; goes_on = record { past = λ _. refl; within = λ le. absurd (omega arith) } }

pub finds_bad_index : (bytes : List ℕ) (f : DocStoreFooter) → FindsFooter bytes (Ok f) → f.offset ≤ length bytes - 28
    → (HasIndexOf f.period (slice_range bytes f.offset (length bytes - 28)) f.offset → ⊥) → Finds bytes (Err BadIndex)
finds_bad_index bytes f finds le none = record { footer = Ok f; reads = finds; goes_on = record { past = λ past. absurd (omega arith); within = λ _. inl (refl, none) } }

-- an index of a list that covers bytes is one of a list in line
pub index_of_some : (period : ℕ) (part : List ℕ) (covered : ℕ) → HasIndexOf period part covered → HasIndex period part
index_of_some period part covered has = (has.0, (in_line_from 0 0 has.0 has.1.covers.in_line, has.1.spells))

pub finds_no_index : (bytes : List ℕ) (f : DocStoreFooter) (e : StoreError) → FindsFooter bytes (Ok f) → f.offset ≤ length bytes - 28
    → (e ≡ BadIndex) × (HasIndex f.period (slice_range bytes f.offset (length bytes - 28)) → ⊥) → Finds bytes (Err e)
finds_no_index bytes f e finds le none =
    let part = slice_range bytes f.offset (length bytes - 28) in
    subst (λ (x : StoreError). Finds bytes (Err x)) (sym none.0) (finds_bad_index bytes f finds le (λ has. none.1 (index_of_some f.period part f.offset has)))

-- ---- the store

-- a version of a program for each that a file may have
version_of : (period version : ℕ) (reserved : List ℕ) → HasForm period version reserved → (v : DocStoreVersion) × (version_number v ≡ version)
version_of period version reserved (inl old) = elim old.0 [ inl one ↦ (V1, sym one) | inr two ↦ (V2, sym two) ]
version_of period version reserved (inr new) = (V3, sym new.0)

-- The store of the bytes, by the checkpoints and the front of the file.
record IsSeen (bytes : List ℕ) (s : IsSomeStore bytes) : Type 0 where
  version : DocStoreVersion
  store : IsStoreBy bytes (checkpoints_of s.blocks) s.period version
  blocks : blocks_at (checkpoints_of s.blocks) (data_in bytes (checkpoints_of s.blocks)) ≡ s.blocks

is_seen : (bytes : List ℕ) (s : IsSomeStore bytes) → IsSeen bytes s
is_seen bytes s =
    let cs = checkpoints_of s.blocks in
    let data_bytes = data_of s.blocks in
    let covers = checkpoints_cover s.blocks s.store.blocks in
    let v = version_of s.period s.version s.store.reserved s.store.form in
    let whole = parts_of bytes s in
    let front : data_in bytes cs ≡ data_bytes = ap (slice_range bytes 0) covers.end ∙ whole.front in
    let blocks : blocks_at cs (data_in bytes cs) ≡ s.blocks = blocks_from cs (data_in bytes cs) s.blocks refl front in
    record {
      version = v.0;
      store = record {
        covers = subst (λ (n : ℕ). Covers cs n) (sym (ap length front)) covers;
        store = subst (λ (bs : List StoreBlock). IsStore s.period bytes (version_number v.0) bs) (sym blocks) (subst (λ (n : ℕ). IsStore s.period bytes n s.blocks) (sym v.1) s.store);
      };
      blocks = blocks;
    }

-- the index of the store is that of its checkpoints
pub stored_index : (bytes : List ℕ) (data_len : ℕ) (index : IndexBytes) (version : ℕ) (s : IsSomeStore bytes) → IsLaidOut bytes data_len index version s
    → IsIndexPart index.period index.bytes (checkpoints_of s.blocks)
stored_index bytes data_len index version s laid =
    (checkpoints_in_line s.blocks s.store.blocks, laid.index_is ∙ ap (λ (p : ℕ). index_part p (checkpoints_of s.blocks)) (sym laid.period_is))

-- where the block that a seek finds lies
pub block_placed : (bytes : List ℕ) (s : IsSomeStore bytes) (id : ℕ) (c : Checkpoint) → first_past (checkpoints_of s.blocks) id ≡ Some c → IsPlaced bytes (checkpoints_of s.blocks) id c
block_placed bytes s id c e = placed bytes (checkpoints_of s.blocks) s.period (is_seen bytes s).version id c (is_seen bytes s).store e

-- it lies in the data
pub block_within : (bytes : List ℕ) (s : IsSomeStore bytes) (id : ℕ) (c : Checkpoint) → first_past (checkpoints_of s.blocks) id ≡ Some c → c.byte_range.end ≤ length (data_of s.blocks)
block_within bytes s id c e =
    let covers = checkpoints_cover s.blocks s.store.blocks in
    let w = within 0 0 (checkpoints_of s.blocks) id c (omega arith) covers.in_line e in
    omega (arith, w.end, covers.end)

-- so no test of its place fails, where the data ends here
pub block_fits : (bytes : List ℕ) (s : IsSomeStore bytes) (id end : ℕ) (c : Checkpoint) → end ≡ length (data_of s.blocks) → first_past (checkpoints_of s.blocks) id ≡ Some c
    → (c.doc_range.start ≤ id) × (c.byte_range.end ≤ end)
block_fits bytes s id end c is e = ((block_placed bytes s id c e).from, omega (arith, is, block_within bytes s id c e))

-- what the document is in the block that has it
pub document_placed : (bytes : List ℕ) (s : IsSomeStore bytes) (id : ℕ) (c : Checkpoint) → first_past (checkpoints_of s.blocks) id ≡ Some c
    → document_in bytes s id ≡ exact_result id (Some (slot (slice_range bytes c.byte_range.start c.byte_range.end) (id - c.doc_range.start)))
document_placed bytes s id c e =
    let seen = is_seen bytes s in
    ap (λ (bs : List StoreBlock). exact_result id (slice_get (slots bs) id)) (sym seen.blocks)
    ∙ ap (exact_result id) (slot_placed bytes (checkpoints_of s.blocks) s.period seen.version id c seen.store e)

-- there is none where a seek finds none
pub document_none : (bytes : List ℕ) (s : IsSomeStore bytes) (id : ℕ) → first_past (checkpoints_of s.blocks) id ≡ None → document_in bytes s id ≡ Err (InvalidArgument id)
document_none bytes s id e =
    let seen = is_seen bytes s in
    ap (λ (bs : List StoreBlock). exact_result id (slice_get (slots bs) id)) (sym seen.blocks)
    ∙ ap (exact_result id) (slot_none bytes (checkpoints_of s.blocks) s.period seen.version id seen.store e)

-- how many documents there are
pub count_stored : (bytes : List ℕ) (s : IsSomeStore bytes) → docs_end 0 (checkpoints_of s.blocks) ≡ count_of_store bytes s
count_stored bytes s =
    let seen = is_seen bytes s in
    count_is bytes (checkpoints_of s.blocks) s.period seen.version seen.store ∙ ap (λ (bs : List StoreBlock). length (slots bs)) seen.blocks

-- ---- answers

pub err_not_ok : {A : Type 0} (e : StoreError) (x : A) → ◌≡◌ {A = Result A StoreError} (Err e) (Ok x) → ⊥
err_not_ok e x h = cc

pub ok_is : {A : Type 0} (x y : A) → ◌≡◌ {A = Result A StoreError} (Ok x) (Ok y) → x ≡ y
ok_is x y h = cc

pub ok_matches : {A : Type 0} (r : Result A StoreError) (P : A → Type 0) (Q : StoreError → Type 0) → IsOkAnd r P → MatchResult r P Q
ok_matches (Ok x) P Q holds = holds
ok_matches (Err e) P Q holds = absurd holds

-- the block is found by its checkpoint, for each of its documents
pub block_stored : (bytes : List ℕ) (s : IsSomeStore bytes) (id : ℕ) (c : Checkpoint) (block : List ℕ) → Some c ≡ first_past (checkpoints_of s.blocks) id
    → block ≡ slice_range bytes c.byte_range.start c.byte_range.end
    → (k : ℕ) → c.doc_range.start ≤ k → k < c.doc_range.end → IsBlockSlice bytes s k c.doc_range.start c.doc_range.end c.byte_range.start block
block_stored bytes s id c block e is k from to =
    let covers = checkpoints_cover s.blocks s.store.blocks in
    let seeks = seek_stays 0 0 (checkpoints_of s.blocks) id k c covers.in_line (sym e) from to in
    record { checkpoint = c; seeks = seeks; first_is = refl; end_is = refl; start_is = refl; block_is = is }

pub refused_is : (bytes : List ℕ) (s : IsSomeStore bytes) (id : ℕ) (e : StoreError) → (e ≡ InvalidArgument id) × (first_past (checkpoints_of s.blocks) id ≡ None)
    → ◌≡◌ {A = Result (List ℕ) StoreError} (Err e) (document_in bytes s id)
refused_is bytes s id e h = ap (λ (x : StoreError). Err x) h.0 ∙ sym (document_none bytes s id h.1)

-- the slot in the block is the document's
slot_of_block : (bytes : List ℕ) (s : IsSomeStore bytes) (id first end start : ℕ) (block : List ℕ) → IsBlockSlice bytes s id first end start block
    → document_in bytes s id ≡ exact_result id (Some (slot block (id - first)))
slot_of_block bytes s id first end start block is =
    document_placed bytes s id is.checkpoint is.seeks ∙ (λ i. exact_result id (Some (slot (sym is.block_is i) (id - sym is.first_is i))))

pub found_in_block : (bytes : List ℕ) (s : IsSomeStore bytes) (id first end start from to : ℕ) (block : List ℕ) → IsBlockSlice bytes s id first end start block
    → slot block (id - first) ≡ doc (slice_range block from to) → from ≤ to → to ≤ length block
    → ◌≡◌ {A = Result (List ℕ) StoreError} (Ok (slice_range bytes (start + from) (start + to))) (document_in bytes s id)
found_in_block bytes s id first end start from to block is slot_is order inside =
    let c = is.checkpoint in
    let place = block_placed bytes s id c is.seeks in
    let fits : to ≤ length (slice_range bytes c.byte_range.start c.byte_range.end) = omega (arith, inside, ap length is.block_is) in
    let part : slice_range bytes (start + from) (start + to) ≡ slice_range block from to = (λ i. slice_range bytes (is.start_is i + from) (is.start_is i + to))
    ∙ doc_placed bytes (checkpoints_of s.blocks) id from to c place order fits ∙ ap (λ (b : List ℕ). slice_range b from to) (sym is.block_is) in
    ap (λ (b : List ℕ). Ok b) part ∙ sym (slot_of_block bytes s id first end start block is ∙ ap (λ (x : Slot). exact_result id (Some x)) slot_is)

pub damaged_in_block : (bytes : List ℕ) (s : IsSomeStore bytes) (id first end start : ℕ) (block : List ℕ) → IsBlockSlice bytes s id first end start block → slot block (id - first) ≡ damaged
    → ◌≡◌ {A = Result (List ℕ) StoreError} (Err (DamagedDocument id)) (document_in bytes s id)
damaged_in_block bytes s id first end start block is slot_is = sym (slot_of_block bytes s id first end start block is ∙ ap (λ (x : Slot). exact_result id (Some x)) slot_is)

-- the number of a version tells which it is
pub same_version : (v w : DocStoreVersion) → version_number v ≡ version_number w → v ≡ w
same_version V1 V1 e = refl
same_version V1 V2 e = absurd (omega arith)
same_version V1 V3 e = absurd (omega arith)
same_version V2 V1 e = absurd (omega arith)
same_version V2 V2 e = refl
same_version V2 V3 e = absurd (omega arith)
same_version V3 V1 e = absurd (omega arith)
same_version V3 V2 e = absurd (omega arith)
same_version V3 V3 e = refl

-- a slot answers what is true of it
pub exactly_true : (id : ℕ) (s : Option Slot) → AnswersTruly id s (exact_result id s)
exactly_true id None = inl (refl, refl)
exactly_true id (Some damaged) = inr (inl (refl, refl))
exactly_true id (Some (doc bytes)) = refl

-- what holds of the bytes inside holds of those that are seen
pub seen_parts : (a b : List ℕ) (data_len : ℕ) (index : IndexBytes) (version : DocStoreVersion) → a ≡ b → IsStoreSlice a data_len index version → IsStoreSlice b data_len index version
seen_parts a b data_len index version e h = subst (λ (bytes : List ℕ). IsStoreSlice bytes data_len index version) e h

-- the index by its footer
pub index_by_footer : (bytes : List ℕ) (data_len : ℕ) (index : IndexBytes) (version : DocStoreVersion) (is : IsStoreSlice bytes data_len index version)
    → index ≡ record { period = is.footer.period; bytes = slice_range bytes is.footer.offset (length bytes - 28) }
index_by_footer bytes data_len index version is = is.index_is ∙ ap (λ (n : ℕ). record { period = is.footer.period; bytes = slice_range bytes n (length bytes - 28) }) is.data_is

-- the parts are those of the store
pub slice_laid : (bytes : List ℕ) (data_len : ℕ) (index : IndexBytes) (version : DocStoreVersion) → IsStoreSlice bytes data_len index version → (s : IsSomeStore bytes)
    → IsLaidOut bytes data_len index (version_number version) s
slice_laid bytes data_len index version is s =
    let low = is.within in
    let laid = laid_out bytes is.footer index (omega arith) is.reads (index_by_footer bytes data_len index version is) s in
    record {
      data_is = is.data_is ∙ laid.data_is;
      period_is = laid.period_is;
      index_is = laid.index_is;
      version_is = ap version_number is.version_is ∙ laid.version_is;
    }

pub seen_laid : (a b : List ℕ) (data_len : ℕ) (index : IndexBytes) (version : DocStoreVersion) → a ≡ b → IsStoreSlice a data_len index version → (s : IsSomeStore b)
    → IsLaidOut b data_len index (version_number version) s
seen_laid a b data_len index version e h = slice_laid b data_len index version (seen_parts a b data_len index version e h)

-- each document of the block that a seek finds has its place there
pub block_is_of : (bytes : List ℕ) (s : IsSomeStore bytes) (id : ℕ) (c : Checkpoint) → first_past (checkpoints_of s.blocks) id ≡ Some c
    → (k : ℕ) → c.doc_range.start ≤ k → k < c.doc_range.end
    → slice_get (slots s.blocks) k ≡ Some (slot (slice_range bytes c.byte_range.start c.byte_range.end) (k - c.doc_range.start))
block_is_of bytes s id c e k from to =
    let seen = is_seen bytes s in
    let cs = checkpoints_of s.blocks in
    ap (λ (bs : List StoreBlock). slice_get (slots bs) k) (sym seen.blocks)
    ∙ slot_placed bytes cs s.period seen.version k c seen.store (seek_stays 0 0 cs id k c seen.store.covers.in_line e from to)

-- no document stands where a seek finds no block
pub none_stored : (bytes : List ℕ) (s : IsSomeStore bytes) (id : ℕ) → first_past (checkpoints_of s.blocks) id ≡ None → count_of_store bytes s ≤ id
none_stored bytes s id e =
    let covers = checkpoints_cover s.blocks s.store.blocks in
    let past = none_past 0 0 (checkpoints_of s.blocks) id covers.in_line e (omega arith) in
    omega (arith, past, count_stored bytes s)

-- no document stands at or past the count
pub document_past : (bytes : List ℕ) (s : IsSomeStore bytes) (id : ℕ) → count_of_store bytes s ≤ id → document_in bytes s id ≡ Err (InvalidArgument id)
document_past bytes s id le = ap (exact_result id) (slice_get_past (slots s.blocks) id le)

-- a range of bytes is a part of them
pub range_is_part : (bytes part : List ℕ) (from to : ℕ) → part ≡ slice_range bytes from to → from ≤ to → to ≤ length bytes → IsPartOf bytes part
range_is_part bytes part from to is order within =
    let size : length part ≡ to - from = ap length is ∙ length-slice bytes from to within in
    let end : to ≡ from + length part = omega (arith, size) in
    record { start = from; within = omega (arith, end); part_is = is ∙ ap (slice_range bytes from) end }
