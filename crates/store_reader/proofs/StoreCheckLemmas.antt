-- What the check of a store's index finds.
use Rattle.std.proofs.Common.{◌≡◌, ℕ, ◌-◌, ◌≤◌, true, List, length, take, drop, Option, Some, None, refl, sym, ap, ◌∙◌, subst, arith}
use Rattle.std.specs.Prelude.{Err, slice_range}
use Rattle.store_base.proofs.ListLemmas.{length-slice}
use Rattle.store_base.specs.Files.{Part}
use Rattle.store_base.specs.declared.error.StoreError.TheVariants.{BadIndex}
use Rattle.layered_index.specs.declared.check.CheckedIndex.{CheckedIndex}
use Rattle.layered_index.specs.declared.checkpoint.Checkpoint.{Checkpoint}
use Rattle.layered_index.specs.declared.index_fault.IndexFault.{IndexFault}
use Rattle.layered_index.specs.declared.row.Row.{Row}
use Rattle.layered_index.specs.Checkpoint.{Covers, bytes_end}
use Rattle.layered_index.specs.Tallies.{IsChecked}
use Rattle.layered_index.specs.Layers.{Index, index_part}
use Rattle.layered_index.specs.Rows.{AreRowsOf}
use Rattle.layered_index.specs.Sought.{IndexBytes}
use Rattle.store_format.specs.declared.footer.DocStoreFooter.{DocStoreFooter}
use Rattle.store_format.specs.declared.version.DocStoreVersion.{DocStoreVersion}
use Rattle.store_format.specs.Footer.{version_number}
use Rattle.store_format.specs.StoreFile.{blocks_at, checkpoints_of}
use Rattle.store_format.proofs.FileLemmas.{known_period}
use Rattle.store_format.proofs.StoreLemmas.{checkpoints_cover}
use Rattle.store_reader.specs.CachedBlocks.{no_blocks}
use Rattle.store_reader.specs.Covering.{IsIndexOf, HasIndexOf}
use Rattle.store_reader.specs.IndexChecks.{IsCheckOf, BreaksIndex, IsCheckedStore}
use Rattle.store_reader.specs.Opening.{IsSomeStore}
use Rattle.store_reader.specs.Reading.{Reading}
use Rattle.store_reader.specs.StoreSlices.{IsStoreSlice}
use Rattle.store_reader.specs.Finding.{IsStoreBy, Finds, data_in}
use Rattle.store_reader.proofs.CoveringLemmas.{covers_by, not_covered}
use Rattle.store_reader.proofs.OpenedLemmas.{IsTail, IsMiddle, whole_file}
use Rattle.store_reader.proofs.StoreSliceLemmas.{found_tail, finds_bad_index, index_by_footer, slice_laid}
use Rattle.store_reader.proofs.PlaceLemmas.{checkpoints_are, count_is}

-- ---- a store

-- the bytes are the file of the store that these checkpoints cut from them
stored_by : (bytes : List ℕ) (f : DocStoreFooter) (cs : List Checkpoint) → IsTail bytes f → f.offset ≤ length bytes - 28 → Covers cs f.offset
    → slice_range bytes f.offset (length bytes - 28) ≡ index_part f.period cs → IsStoreBy bytes cs f.period f.doc_store_version
stored_by bytes f cs tail within covers spells =
    let long = tail.long in
    let end : bytes_end 0 cs ≡ f.offset = covers.end in
    let less : bytes_end 0 cs - 0 ≡ f.offset = omega arith in
    let size : length (data_in bytes cs) ≡ f.offset = length-slice bytes 0 (bytes_end 0 cs) (omega arith) ∙ less in
    let index : Index = record { period = f.period; checkpoints = cs } in
    let middle : IsMiddle bytes f index = record { within = within; period = refl; covers = covers; spells = spells } in
    let file : Part = record { content = data_in bytes cs; honest = true; failures = 0; reads = 0; asked = 0 } in
    let reader : Reading = record { file = file; checkpoints = cs; period = f.period; version = f.doc_store_version; decompressor = f.decompressor; cache = no_blocks 0 } in
    record {
      covers = subst (λ (n : ℕ). Covers cs n) (sym size) covers;
      store = whole_file bytes f reader index tail middle refl refl (ap (λ (n : ℕ). slice_range bytes 0 n) end);
    }

-- the rows of the checkpoints, by their number
rows_of : (cs ds : List Checkpoint) (count : ℕ) (before after : List Row) → ds ≡ cs → count ≡ length cs → AreRowsOf (take (length before) cs) (take (length cs) after)
    → AreRowsOf (take (length before) ds) (take count after)
rows_of cs ds count before after same is rows =
    subst (λ (xs : List Checkpoint). AreRowsOf (take (length before) xs) (take count after)) (sym same)
    (subst (λ (n : ℕ). AreRowsOf (take (length before) cs) (take n after)) (sym is) rows)

pub checked_store : (bytes : List ℕ) (data_len : ℕ) (index : IndexBytes) (version : DocStoreVersion) (x : CheckedIndex) (docs : ℕ) (before after : List Row) → IsStoreSlice bytes data_len index version
    → IsChecked index.period index.bytes x before after → x.covered ≡ Some (docs, data_len) → IsCheckedStore bytes (record { blocks = x.count; docs = docs }) before after
checked_store bytes data_len index version x docs before after is checked covered =
    let cs = checked.cs in
    let f = is.footer in
    let covers = covers_by cs docs data_len checked.is.0 (sym checked.covered ∙ covered) in
    let low = is.within in let at = is.data_is in
    let spells = subst (λ (u : IndexBytes). u.bytes ≡ index_part u.period cs) (index_by_footer bytes data_len index version is) checked.is.1 in
    let store = stored_by bytes f cs (found_tail bytes f (omega arith) is.reads) (omega arith) (subst (λ (n : ℕ). Covers cs n) is.data_is covers.covers) spells in
    let same = checkpoints_are bytes cs f.period f.doc_store_version store in
    record {
      store = record { period = f.period; version = version_number f.doc_store_version; blocks = blocks_at cs (data_in bytes cs); store = store.store };
      blocks = checked.count ∙ ap length (sym same);
      docs = sym covers.count ∙ count_is bytes cs f.period f.doc_store_version store;
      rows = rows_of cs (checkpoints_of (blocks_at cs (data_in bytes cs))) x.count before after same checked.count checked.rows;
      rest = subst (λ (n : ℕ). drop n after ≡ drop n before) (sym checked.count) checked.rest;
    }

-- ---- no store

pub breaks_index : (bytes : List ℕ) (data_len : ℕ) (index : IndexBytes) (version : DocStoreVersion) (fault : Option IndexFault) → IsStoreSlice bytes data_len index version
    → IsCheckOf index.period index.bytes fault → BreaksIndex bytes data_len fault
breaks_index bytes data_len index version fault is found =
    let low = is.within in
    record {
      footer = is.footer;
      reads = is.reads;
      starts = is.data_is;
      within = omega arith;
      found = subst (λ (u : IndexBytes). IsCheckOf u.period u.bytes fault) is.index_is found;
    }

-- a file without an index that covers the data is no store's, and found so
pub no_store : (bytes : List ℕ) (data_len : ℕ) (index : IndexBytes) (version : DocStoreVersion) → IsStoreSlice bytes data_len index version
    → (HasIndexOf index.period index.bytes data_len → ⊥) → IsSomeStore bytes → ⊥
no_store bytes data_len index version is none s =
    let laid = slice_laid bytes data_len index version is s in
    let cs = checkpoints_of s.blocks in
    let of : IsIndexOf index.period index.bytes data_len cs = record {
      covers = subst (λ (n : ℕ). Covers cs n) (sym laid.data_is) (checkpoints_cover s.blocks s.store.blocks);
      spells = laid.index_is ∙ ap (λ (p : ℕ). index_part p cs) (sym laid.period_is);
    } in
    none (cs, of)

found_bad : (bytes : List ℕ) (data_len : ℕ) (index : IndexBytes) (version : DocStoreVersion) → IsStoreSlice bytes data_len index version
    → (HasIndexOf index.period index.bytes data_len → ⊥) → Finds bytes (Err BadIndex)
found_bad bytes data_len index version is none =
    let low = is.within in let at = is.data_is in
    finds_bad_index bytes is.footer is.reads (omega arith)
    (subst (λ (n : ℕ). HasIndexOf is.footer.period (slice_range bytes n (length bytes - 28)) n → ⊥) is.data_is (subst (λ (u : IndexBytes). HasIndexOf u.period u.bytes data_len → ⊥) is.index_is none))

-- nor is one whose checkpoints don't cover the data
pub covers_less : (bytes : List ℕ) (data_len : ℕ) (index : IndexBytes) (version : DocStoreVersion) (x : CheckedIndex) (before after : List Row) → IsStoreSlice bytes data_len index version
    → IsChecked index.period index.bytes x before after → ((docs : ℕ) → x.covered ≡ Some (docs, data_len) → ⊥)
    → ((IsSomeStore bytes → ⊥) × BreaksIndex bytes data_len None) × Finds bytes (Err BadIndex)
covers_less bytes data_len index version x before after is checked fails =
    let low = is.within in
    let form = (found_tail bytes is.footer (omega arith) is.reads).form in
    let two : 2 ≤ index.period = subst (λ (p : ℕ). 2 ≤ p) (sym (ap (λ (u : IndexBytes). u.period) is.index_is)) (known_period is.footer.period _ _ form) in
    let none = not_covered index.period index.bytes data_len checked.cs two checked.is (λ docs e. fails docs (checked.covered ∙ e)) in
    ((no_store bytes data_len index version is none, breaks_index bytes data_len index version None is (checked.cs, checked.is)), found_bad bytes data_len index version is none)
