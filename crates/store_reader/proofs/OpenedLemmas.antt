-- A file that was opened is a store.
use Rattle.std.proofs.Common.{◌≡◌, ℕ, ◌-◌, ◌<◌, ◌≤◌, ◌^◌, true, false, List, ◌++◌, length, nat_lt, refl, sym, ap, ◌∙◌, subst, arith, append_assoc}
use Rattle.std.specs.Prelude.{Result, Ok, Err, IsTrue, slice_range}
use Rattle.std.proofs.lemmas.Bool.{ltb-true, ltb-false}
use Rattle.std.proofs.lemmas.List.{append-nil}
use Rattle.store_format.specs.FooterLemmas.{kind_zero}
use Rattle.store_base.proofs.ListLemmas.{length-slice}
use Rattle.store_base.specs.Files.{Part}
use Rattle.store_base.specs.declared.error.StoreError.{StoreError}
use Rattle.store_format.specs.declared.footer.DocStoreFooter.{DocStoreFooter}
use Rattle.store_format.specs.declared.version.DocStoreVersion.{DocStoreVersion}
use Rattle.layered_index.specs.declared.checkpoint.Checkpoint.{Checkpoint}
use Rattle.layered_index.specs.Checkpoint.{Covers}
use Rattle.store_format.specs.Extraction.{SaysFrom, ExtractsFooter}
use Rattle.store_format.specs.FileReading.{Comes}
use Rattle.store_format.specs.Footer.{footer, kind_of, version_number}
use Rattle.layered_index.specs.Layers.{Index, index_part}
use Rattle.store_reader.specs.Opening.{IndexFrom, ReadsIndex, OpensFrom, IsOpened}
use Rattle.store_reader.specs.Reading.{Reading, store_of}
use Rattle.store_format.specs.StoreFile.{data_of, checkpoints_of, HasForm, IsStore}
use Rattle.store_reader.proofs.ReaderStoreLemmas.{slices_joined, all_of, store_seen}

-- ---- what was opened

-- the footer of a file
pub record IsTail (content : List ℕ) (f : DocStoreFooter) : Type 0 where
  pub long : 28 ≤ length content
  pub few : f.offset < 2 ^ 64
  pub reserved : List ℕ
  pub form : HasForm f.period (version_number f.doc_store_version) reserved
  pub tail : slice_range content (length content - 28) (length content) ≡ footer (version_number f.doc_store_version) f.offset 0 reserved

pub tail_of : (old mid : Part) (f : DocStoreFooter) → IsTrue old.honest → ExtractsFooter old (Ok f) mid → IsTail old.content f × (mid.content ≡ old.content) × (mid.honest ≡ old.honest)
tail_of old mid f honest r = (elim (nat_lt (length old.content) 28) as (λ y. nat_lt (length old.content) 28 ≡ y → IsTail old.content f × (mid.content ≡ old.content) × (mid.honest ≡ old.honest)) [
  | true ↦ λ t. let no = (r.short (ltb-true _ _ t)).0 in absurd cc
  | false ↦ λ t. let le = ltb-false _ _ t in let long = r.long le in go le long.0 long.1 long.2
]) refl
  where
    go : 28 ≤ length old.content → (came : Result (List ℕ) StoreError) → Comes old (length old.content - 28) (length old.content) came mid → SaysFrom came (Ok f)
        → IsTail old.content f × (mid.content ≡ old.content) × (mid.honest ≡ old.honest)
    go le (Err e) comes is = absurd cc
    go le (Ok b) comes is =
        let v = version_number f.doc_store_version in
        let text : b ≡ footer v f.offset 0 is.0 = is.3 ∙ append-nil (footer v f.offset (kind_of f.decompressor) is.0) ∙ ap (λ (k : ℕ). footer v f.offset k is.0) (kind_zero f.decompressor) in
        (record { long = le; few = is.1; reserved = is.0; form = is.2; tail = sym (comes.bytes honest) ∙ text }, comes.once.content, comes.once.honest)

-- the index of a file, and what it covers
pub record IsMiddle (content : List ℕ) (f : DocStoreFooter) (index : Index) : Type 0 where
  pub within : f.offset ≤ length content - 28
  pub period : index.period ≡ f.period
  pub covers : Covers index.checkpoints f.offset
  pub spells : slice_range content f.offset (length content - 28) ≡ index_part f.period index.checkpoints

pub middle_of : (mid new : Part) (f : DocStoreFooter) (index : Index) → IsTrue mid.honest → ReadsIndex mid f (Ok index) new → IsMiddle mid.content f index × (new.content ≡ mid.content)
middle_of mid new f index honest r = (elim (nat_lt (length mid.content - 28) f.offset) as (λ y. nat_lt (length mid.content - 28) f.offset ≡ y
    → IsMiddle mid.content f index × (new.content ≡ mid.content)) [
      | true ↦ λ t. let no = (r.past (ltb-true _ _ t)).0 in absurd cc
      | false ↦ λ t. let le = ltb-false _ _ t in let read = r.within le in go le read.0 read.1 read.2
    ]) refl
  where
    go : f.offset ≤ length mid.content - 28 → (came : Result (List ℕ) StoreError) → Comes mid f.offset (length mid.content - 28) came new → IndexFrom f came (Ok index)
        → IsMiddle mid.content f index × (new.content ≡ mid.content)
    go le (Err e) comes is = absurd cc
    go le (Ok bytes) comes is = (record { within = le; period = is.0; covers = is.1.covers; spells = sym (comes.bytes honest) ∙ is.1.spells }, comes.once.content)

-- the parts make the file
pub whole_file : (content : List ℕ) (f : DocStoreFooter) (reader : Reading) (index : Index) → IsTail content f → IsMiddle content f index → reader.checkpoints ≡ index.checkpoints
    → reader.period ≡ index.period → reader.file.content ≡ slice_range content 0 f.offset
    → IsStore reader.period content (version_number f.doc_store_version) (store_of reader)
whole_file content f reader index tail middle same periods part =
    let long = tail.long in let within = middle.within in
    let v = version_number f.doc_store_version in
    let cs = reader.checkpoints in
    let n = length content in
    let less : f.offset - 0 ≡ f.offset = omega arith in
    let size : length reader.file.content ≡ f.offset = ap length part ∙ length-slice content 0 f.offset (omega arith) ∙ less in
    let covers : Covers cs (length reader.file.content) = subst (λ (xs : List Checkpoint). Covers xs (length reader.file.content)) (sym same)
    (subst (Covers index.checkpoints) (sym size) middle.covers) in
    let seen = store_seen reader.file.content cs covers in
    let bs = store_of reader in
    let period : f.period ≡ reader.period = sym (periods ∙ middle.period) in
    let first : slice_range content 0 f.offset ≡ data_of bs = sym part ∙ sym seen.data_is in
    let second : slice_range content f.offset (n - 28) ≡ index_part reader.period (checkpoints_of bs) =
    middle.spells ∙ ap (λ (p : ℕ). index_part p index.checkpoints) period ∙ ap (index_part reader.period) (sym (seen.checkpoints_are ∙ same)) in
    let len : f.offset ≡ length (data_of bs) = sym size ∙ ap length (sym seen.data_is) in
    let third : slice_range content (n - 28) n ≡ footer v (length (data_of bs)) 0 tail.reserved = tail.tail ∙ ap (λ (o : ℕ). footer v o 0 tail.reserved) len in
    record {
      blocks = seen.blocks;
      reserved = tail.reserved;
      form = subst (λ (p : ℕ). HasForm p v tail.reserved) period tail.form;
      parts = sym (all_of content n refl) ∙ slices_joined content 0 f.offset n (omega arith) (omega arith)
          ∙ ap (λ (ys : List ℕ). slice_range content 0 f.offset ++ ys) (slices_joined content f.offset (n - 28) n within (omega arith))
          ∙ (λ i. first i ++ (second i ++ third i))
          ∙ sym (append_assoc (data_of bs) (index_part reader.period (checkpoints_of bs)) (footer v (length (data_of bs)) 0 tail.reserved));
    }

pub opened_is_store : (old : Part) (capacity : ℕ) (reader : Reading) → IsTrue old.honest → IsOpened old capacity reader
    → IsStore reader.period old.content (version_number reader.version) (store_of reader)
opened_is_store old capacity reader honest o =
    subst (λ (v : DocStoreVersion). IsStore reader.period old.content (version_number v) (store_of reader)) (sym o.version) (go o.opens.footer o.opens.mid o.opens.reads o.opens.goes_on)
  where
    go : (said : Result DocStoreFooter StoreError) (mid : Part) → ExtractsFooter old said mid
        → OpensFrom mid said (Ok (o.footer, record { period = reader.period; checkpoints = reader.checkpoints })) o.after
        → IsStore reader.period old.content (version_number o.footer.doc_store_version) (store_of reader)
    go (Err e) mid reads on = absurd (let no = on.0 in cc)
    go (Ok f) mid reads on =
        let found : Index = record { period = reader.period; checkpoints = reader.checkpoints } in
        let same : o.footer ≡ f = on.0 in
        let tail = tail_of old mid f honest reads in
        let middle = middle_of mid o.after f found (subst IsTrue (sym tail.2) honest) on.1 in
        let content : o.after.content ≡ old.content = middle.1 ∙ tail.1 in
        let part : reader.file.content ≡ slice_range old.content 0 f.offset = ap (λ (p : Part). p.content) o.part ∙ ap (λ (bytes : List ℕ). slice_range bytes 0 o.footer.offset) content
        ∙ ap (λ (g : DocStoreFooter). slice_range old.content 0 g.offset) same in
        subst (λ (g : DocStoreFooter). IsStore reader.period old.content (version_number g.doc_store_version) (store_of reader)) (sym same)
        (whole_file old.content f reader found tail.0 (subst (λ (bytes : List ℕ). IsMiddle bytes f found) tail.1 middle.0) refl refl part)
