-- The end of a file, and what it tells of the whole.
use Rattle.std.proofs.Common.{◌≡◌, ℕ, ◌+◌, ◌-◌, ◌<◌, ◌≤◌, List, ◌∷◌, ◌++◌, length, take, drop, refl, sym, ap, ◌∙◌, subst, arith, length-append, drop-drop, inl, inr}
use Rattle.std.specs.Prelude.{◌⊎◌, Result, Ok, Err, slice_range}
use Rattle.std.proofs.Math.Seq.{drop-append_seam}
use Rattle.store_base.specs.declared.error.StoreError.{StoreError}
use Rattle.store_base.specs.declared.error.StoreError.TheVariants.{BadIndex, BadOffset, ShortFile}
use Rattle.layered_index.specs.IndexReading.{HasIndex}
use Rattle.layered_index.specs.Sought.{IndexBytes}
use Rattle.store_format.specs.declared.footer.DocStoreFooter.{DocStoreFooter}
use Rattle.store_format.specs.Extraction.{Says}
use Rattle.store_format.specs.Footer.{version_number}
use Rattle.store_format.proofs.FileLemmas.{beginnings_apart, known_version}
use Rattle.store_reader.specs.Opening.{IsSomeStore}
use Rattle.store_reader.specs.StoreSlices.{IsLaidOut}
use Rattle.store_format.specs.declared.version.DocStoreVersion.{DocStoreVersion}
use Rattle.store_reader.specs.StoreTails.{TailBytes, IsTailOf, IsStoreTail, IsWanted, RefusesTail, TailsAreWantedOnce}
use Rattle.store_reader.specs.Finding.{FindsFooter}
use Rattle.store_reader.proofs.FindsOnceLemmas.{one_footer}
use Rattle.store_reader.proofs.RefusedLemmas.{parts_of, footer_of}
use Rattle.store_reader.proofs.StoreSliceLemmas.{found_tail, laid_out, footer_no_store, offset_no_store, index_no_store, finds_footer, finds_past, finds_no_index}

-- ---- parts

-- how long the file is
pub whole_len : (file : List ℕ) (file_len : ℕ) (tail : List ℕ) (t : IsTailOf file file_len tail) → file_len ≡ length t.front + length tail
whole_len file file_len tail t = t.len_is ∙ ap length t.parts ∙ length-append t.front tail

-- a part of the end is a part of the file
pub tail_part : (file : List ℕ) (file_len : ℕ) (tail : List ℕ) (t : IsTailOf file file_len tail) (a b x y : ℕ) → x ≡ length t.front + a → y ≡ length t.front + b
    → slice_range file x y ≡ slice_range tail a b
tail_part file file_len tail t a b x y start end =
    let size : y - x ≡ b - a = omega arith in
    let rest : drop x file ≡ drop a tail = (λ i. drop (start i) (t.parts i)) ∙ sym (drop-drop a (length t.front) (t.front ++ tail)) ∙ ap (drop a) (drop-append_seam t.front tail) in
    λ i. take (size i) (rest i)

-- ---- the footer

-- the end has the footer of the file
pub tail_footer : (file : List ℕ) (file_len : ℕ) (tail : List ℕ) (r : Result DocStoreFooter StoreError) → IsTailOf file file_len tail → 28 ≤ length tail → FindsFooter tail r → FindsFooter file r
tail_footer file file_len tail r t long finds =
    let len = whole_len file file_len tail t in
    let all = t.len_is in
    let same = tail_part file file_len tail t (length tail - 28) (length tail) (length file - 28) (length file) (omega arith) (omega arith) in
    record { short = λ few. absurd (omega arith); long = λ _. subst (λ (b : List ℕ). Says b r) (sym same) (finds.long long) }

-- the index lies in the end, if it is long enough
pub tail_index : (file : List ℕ) (file_len : ℕ) (tail : List ℕ) (offset : ℕ) → IsTailOf file file_len tail → 28 + offset ≤ file_len → file_len - offset ≤ length tail
    → slice_range file offset (length file - 28) ≡ slice_range tail (length tail - (file_len - offset)) (length tail - 28)
tail_index file file_len tail offset t within enough =
    let len = whole_len file file_len tail t in
    let all = t.len_is in
    tail_part file file_len tail t (length tail - (file_len - offset)) (length tail - 28) offset (length file - 28) (omega arith) (omega arith)

-- ---- opening

pub tail_laid_out : (file : List ℕ) (file_len : ℕ) (tail : List ℕ) (f : DocStoreFooter) (index : IndexBytes) → IsTailOf file file_len tail → 28 ≤ length tail → FindsFooter tail (Ok f)
    → 28 + f.offset ≤ file_len → file_len - f.offset ≤ length tail
    → index ≡ record { period = f.period; bytes = slice_range tail (length tail - (file_len - f.offset)) (length tail - 28) } → (s : IsSomeStore file)
    → IsLaidOut file f.offset index (version_number f.doc_store_version) s
tail_laid_out file file_len tail f index t long finds within enough is s =
    let len = whole_len file file_len tail t in
    let all = t.len_is in
    let part = tail_index file file_len tail f.offset t within enough in
    laid_out file f index (omega arith) (tail_footer file file_len tail (Ok f) t long finds) (is ∙ (λ i. record { period = f.period; bytes = sym part i })) s

-- what holds of the bytes inside holds of those that are seen
pub seen_tail : (file_len : ℕ) (tail : List ℕ) (seen : TailBytes) (data_len : ℕ) (index : IndexBytes) (version : DocStoreVersion) → record { file_len = file_len; bytes = tail } ≡ seen
    → IsStoreTail file_len tail data_len index version → IsStoreTail seen.file_len seen.bytes data_len index version
seen_tail file_len tail seen data_len index version e h = subst (λ (t : TailBytes). IsStoreTail t.file_len t.bytes data_len index version) e h

-- ---- refusals

pub short_file : (file_len : ℕ) (tail : List ℕ) → (file_len < 28) ⊎ (file_len < length tail) → RefusesTail file_len tail (ShortFile file_len)
short_file file_len tail why = record {
  finds = λ file t.
      let len = whole_len file file_len tail t in
      let all = t.len_is in
      let few : file_len < 28 = elim why [ inl lt ↦ lt | inr lt ↦ absurd (omega arith) ] in
      finds_footer file (ShortFile file_len) (record { short = λ _. ap (λ (n : ℕ). Err (ShortFile n)) all; long = λ le. absurd (omega arith) });
  no_store = λ file t s.
      let len = whole_len file file_len tail t in
      let all = t.len_is in
      let size = (parts_of file s).size in
      elim why [ inl lt ↦ omega arith | inr lt ↦ omega arith ];
  longer = λ _. refl;
}

pub bad_footer : (file_len : ℕ) (tail : List ℕ) (e : StoreError) → 28 ≤ length tail → length tail ≤ file_len → FindsFooter tail (Err e) → RefusesTail file_len tail e
bad_footer file_len tail e long few finds = record {
  finds = λ file t. finds_footer file e (tail_footer file file_len tail (Err e) t long finds);
  no_store = λ file t. footer_no_store file e (tail_footer file file_len tail (Err e) t long finds);
  longer = λ lt. absurd (omega arith);
}

pub bad_offset : (file_len : ℕ) (tail : List ℕ) (f : DocStoreFooter) → 28 ≤ length tail → length tail ≤ file_len → FindsFooter tail (Ok f) → file_len - 28 < f.offset
    → RefusesTail file_len tail BadOffset
bad_offset file_len tail f long few finds past = record {
  finds = λ file t. let all = t.len_is in finds_past file f (tail_footer file file_len tail (Ok f) t long finds) (omega arith);
  no_store = λ file t. let all = t.len_is in offset_no_store file f (omega arith) (tail_footer file file_len tail (Ok f) t long finds) (omega arith);
  longer = λ lt. absurd (omega arith);
}

pub bad_index : (file_len : ℕ) (tail : List ℕ) (f : DocStoreFooter) (e : StoreError) → 28 ≤ length tail → length tail ≤ file_len → FindsFooter tail (Ok f) → 28 + f.offset ≤ file_len
    → file_len - f.offset ≤ length tail
    → (e ≡ BadIndex) × (HasIndex f.period (slice_range tail (length tail - (file_len - f.offset)) (length tail - 28)) → ⊥) → RefusesTail file_len tail e
bad_index file_len tail f e long few finds within enough none = record {
  finds = λ file t.
      let all = t.len_is in
      finds_no_index file f e (tail_footer file file_len tail (Ok f) t long finds) (omega arith) (none.0, no_index file t);
  no_store = λ file t.
      let all = t.len_is in
      index_no_store file f (omega arith) (tail_footer file file_len tail (Ok f) t long finds) (no_index file t);
  longer = λ lt. absurd (omega arith);
}
  where
    no_index : (file : List ℕ) → IsTailOf file file_len tail → HasIndex f.period (slice_range file f.offset (length file - 28)) → ⊥
    no_index file t has = none.1 (subst (λ (b : List ℕ). HasIndex f.period b) (tail_index file file_len tail f.offset t within enough) has)

-- ---- what is wanted

pub wanted_index : (file_len : ℕ) (tail : List ℕ) (f : DocStoreFooter) → 28 ≤ length tail → length tail ≤ file_len → FindsFooter tail (Ok f) → 28 + f.offset ≤ file_len
    → length tail < file_len - f.offset → IsWanted file_len tail (file_len - f.offset)
wanted_index file_len tail f long few finds within lacks = record {
  short = lacks;
  within = omega arith;
  footer = λ lt. absurd (omega arith);
  index = λ _. (f, finds, omega arith);
  stored = λ _ file t s.
      let all = t.len_is in
      let foot = (footer_of file s f (found_tail file f (omega arith) (tail_footer file file_len tail (Ok f) t long finds))).offset in
      let size = (parts_of file s).size in
      omega arith;
}

-- no bytes are wanted of a file that is shorter than a footer, or than the tail
pub none_wanted : (file_len : ℕ) (tail : List ℕ) (wanted : ℕ) → (file_len < 28) ⊎ (file_len < length tail) → IsWanted file_len tail wanted → ⊥
none_wanted file_len tail wanted why lacks =
    let short = lacks.short in
    let within = lacks.within in
    elim why [ inl lt ↦ let is = lacks.footer (omega arith) in omega (arith, is) | inr lt ↦ omega arith ]

-- those that are wanted are the rest of the file from the offset on
pub wanted_from : (file_len : ℕ) (tail : List ℕ) (f : DocStoreFooter) (wanted : ℕ) → 28 ≤ length tail → FindsFooter tail (Ok f) → IsWanted file_len tail wanted → f.offset + wanted ≡ file_len
wanted_from file_len tail f wanted long finds lacks =
    let is = lacks.index long in
    omega (arith, is.2, one_footer tail f is.0 finds is.1)

-- the same footer begins the index at the same byte
pub wanted_once : TailsAreWantedOnce
wanted_once file_len tail more wanted again long lacks enough same lacks_more =
    let short = lacks.short in
    let short_more = lacks_more.short in
    let is = lacks.index long in
    let is_more = lacks_more.index (omega arith) in
    let f = is.0 in
    let g = is_more.0 in
    let foot = found_tail tail f long is.1 in
    let foot_more = found_tail more g (omega arith) is_more.1 in
    let v = version_number f.doc_store_version in
    let w = version_number g.doc_store_version in
    let here = known_version f.period v foot.reserved foot.form in
    let there = known_version g.period w foot_more.reserved foot_more.form in
    let apart = beginnings_apart v w f.offset g.offset (0 ∷ foot.reserved) (0 ∷ foot_more.reserved) (omega (arith, here.1)) (omega (arith, there.1)) foot.few foot_more.few
    (sym foot.tail ∙ sym same ∙ foot_more.tail) in
    omega (arith, apart.1, is.2, is_more.2)
