-- Reading parts of a file that lies elsewhere: the block by the end of the file, and refusals by their numbers.
use Rattle.std.proofs.Common.{◌≡◌, ℕ, ◌+◌, ◌-◌, ◌^◌, ◌<◌, ◌≤◌, true, false, nat_lt, inl, inr, ◌⊎◌, List, ◌++◌, length, Some, None, refl, sym, ap, subst, arith, length-append}
use Rattle.std.proofs.lemmas.Bool.{ltb-true, ltb-false}
use Rattle.std.proofs.lemmas.List.{length-replicate}
use Rattle.std.specs.Prelude.{slice_range, replicate, Ok, Err}
use Rattle.store_base.proofs.ListLemmas.{length-slice}
use Rattle.store_base.specs.Outcome.{number_of}
use Rattle.store_base.specs.declared.error.StoreError.{StoreError}
use Rattle.store_base.specs.declared.error.StoreError.TheVariants.{BadIndex, InvalidArgument, ShortFile, Memory}
use Rattle.layered_index.specs.declared.checkpoint.Checkpoint.{Checkpoint}
use Rattle.layered_index.specs.Checkpoint.{first_past}
use Rattle.store_format.specs.StoreFile.{checkpoints_of}
use Rattle.store_reader.specs.Opening.{IsSomeStore}
use Rattle.store_reader.specs.StoreTails.{TailBytes, IsTailOf, IsWanted, HasIndexIn, RefusesTail}
use Rattle.store_reader.proofs.FindsOnceLemmas.{footer_or_refusal, one_footer, refused_once}
use Rattle.store_reader.proofs.StoreSliceLemmas.{block_stored, refused_is, finds_footer}
use Rattle.store_reader.proofs.StoreTailLemmas.{tail_footer}
use Rattle.store_c.specs.declared.block_place.BlockPlace.{BlockPlace}
use Rattle.store_c.specs.Getting.{HasBlock, RefusesGet, RefusesUnopened, RefusesHead}
use Rattle.store_c.specs.Ranges.{IsBlockPlace, IsOtherBlock}
use Rattle.store_c.proofs.FirstRefusalLemmas.{head_first}

-- an end that has the index is of no such file
pub none_short : (file_len : ℕ) (tail : List ℕ) → HasIndexIn file_len tail → length tail ≤ file_len → (file_len < 28) ⊎ (file_len < length tail) → ⊥
none_short file_len tail h few why = elim why [ inl lt ↦ omega (arith, lt, h.within) | inr lt ↦ omega (arith, lt, few) ]

-- the end of a file by another name
pub same_tail : (file : List ℕ) (file_len : ℕ) (tail : List ℕ) (seen : TailBytes) → seen ≡ record { file_len = file_len; bytes = tail } → IsTailOf file file_len tail
    → IsTailOf file seen.file_len seen.bytes
same_tail file file_len tail seen is t = subst (λ (x : TailBytes). IsTailOf file x.file_len x.bytes) (sym is) t

-- ---- blocks

-- the place is of such a block
pub no_other_block : (at : BlockPlace) (block : List ℕ) (id : ℕ) → at.first_doc ≤ id → id < at.end_doc → length block ≡ at.len → at.start + at.len < 2 ^ 64 → IsOtherBlock at block id → ⊥
no_other_block at block id from to size fits other = elim other [
  | inl before ↦ absurd (omega (arith, before))
  | inr more ↦ elim more [
    | inl following ↦ absurd (omega (arith, following))
    | inr rest ↦ elim rest [
      | inl longer ↦ absurd (longer size)
      | inr far ↦ absurd (omega (arith, far))
    ]
  ]
]

-- where a checkpoint says that a block lies
abbrev pub place_of : Checkpoint → BlockPlace
place_of c = record {
  first_doc = c.doc_range.start;
  end_doc = c.doc_range.end;
  start = c.byte_range.start;
  len = c.byte_range.end - c.byte_range.start;
}

pub block_placed : (file_len : ℕ) (tail : List ℕ) (seen : TailBytes) (id : ℕ) (c : Checkpoint) → seen ≡ record { file_len = file_len; bytes = tail }
    → c.byte_range.start ≤ c.byte_range.end → c.byte_range.end + 28 ≤ seen.file_len
    → ((file : List ℕ) → IsTailOf file seen.file_len seen.bytes → (s : IsSomeStore file) → first_past (checkpoints_of s.blocks) id ≡ Some c) → IsBlockPlace file_len tail (place_of c)
block_placed file_len tail seen id c is order within seeks file t =
    let len = ap (λ (x : TailBytes). x.file_len) is in
    let from = c.byte_range.start in
    let to = c.byte_range.end in
    let end : from + (to - from) ≡ to = omega arith in
    let all = t.len_is in
    let size = length-slice file from to (omega arith) in
    let here : HasBlock file c.doc_range.start c.doc_range.end from (slice_range file from to) = record {
      within = omega (arith, size);
      stored = λ s. block_stored file s id c (slice_range file from to) (sym (seeks file (same_tail file file_len tail seen is t) s)) refl;
    } in
    subst (λ (n : ℕ). HasBlock file c.doc_range.start c.doc_range.end from (slice_range file from n)) (sym end) here

-- ---- refusals

-- what a seek in the end of a file refuses is refused in the whole
pub tail_refused : (file_len : ℕ) (tail : List ℕ) (seen : TailBytes) (id : ℕ) (e : StoreError) → seen ≡ record { file_len = file_len; bytes = tail }
    → (e ≡ InvalidArgument id) ⊎ (e ≡ BadIndex)
    → ((file : List ℕ) → IsTailOf file seen.file_len seen.bytes → (s : IsSomeStore file) → (e ≡ InvalidArgument id) × (first_past (checkpoints_of s.blocks) id ≡ None))
    → (file : List ℕ) → IsTailOf file file_len tail → RefusesGet file id e
tail_refused file_len tail seen id e is one h file t = (
  elim one [
    | inl none ↦ inl none
    | inr index ↦ inr (inr index)
  ],
  λ s. sym (refused_is file s id e (h file (same_tail file file_len tail seen is t) s)),
)

-- what the end of a file refuses is refused of the whole
pub unopened : (file_len : ℕ) (tail : List ℕ) (e : StoreError) → RefusesTail file_len tail e → (e ≡ Memory → ⊥) → (file : List ℕ) → IsTailOf file file_len tail → RefusesUnopened file (number_of e)
unopened file_len tail e h kept file t = inl (record { error = e; is = refl; finds = h.finds file t; kept = kept; no_store = h.no_store file t })

-- a seek finds no damaged document
pub not_damaged : (id : ℕ) (e : StoreError) → (e ≡ InvalidArgument id) ⊎ (e ≡ BadIndex) → number_of e ≡ 7 → ⊥
not_damaged id e one seven = elim one [
  | inl none ↦ omega (arith, seven, ap number_of none)
  | inr index ↦ omega (arith, seven, ap number_of index)
]

-- ---- which refusal is first

-- a file that ends so
some_file : (file_len : ℕ) (tail : List ℕ) → length tail ≤ file_len → (file : List ℕ) × IsTailOf file file_len tail
some_file file_len tail le =
    let front : List ℕ = replicate (file_len - length tail) 0 in
    (front ++ tail, record { front = front; parts = refl; len_is = omega (arith, length-append front tail, length-replicate {A = ℕ} (file_len - length tail) 0) })

-- the footer of the end is that of the file
whole_head : (file : List ℕ) (file_len : ℕ) (tail : List ℕ) (number : ℕ) → IsTailOf file file_len tail → 28 ≤ length tail → RefusesHead file_len tail number → RefusesHead (length file) file number
whole_head file file_len tail number t long (inl r) = inl (record { error = r.error; is = r.is; finds = tail_footer file file_len tail (Err r.error) t long r.finds })
whole_head file file_len tail number t long (inr p) =
    let all = t.len_is in
    inr (p.0, record { footer = p.1.footer; finds = tail_footer file file_len tail (Ok p.1.footer) t long p.1.finds; past = omega (arith, p.1.past) })

pub tail_head : (file_len : ℕ) (tail : List ℕ) (number : ℕ) (d : StoreError) → 28 ≤ length tail → length tail ≤ file_len → RefusesHead file_len tail number → RefusesTail file_len tail d
    → (d ≡ Memory → ⊥)
    → number_of d ≡ number
tail_head file_len tail number d long few head refused kept =
    let f = some_file file_len tail few in
    head_first f.0 number d (whole_head f.0 file_len tail number f.1 long head) (refused.finds f.0 f.1) kept

-- where the footer is refused no bytes are wanted
pub head_or_wanted : (file_len : ℕ) (tail : List ℕ) (number wanted : ℕ) → 28 ≤ length tail → RefusesHead file_len tail number → IsWanted file_len tail wanted → ⊥
head_or_wanted file_len tail number wanted long (inl r) lacks = let is = lacks.index long in footer_or_refusal tail is.0 r.error is.1 r.finds
head_or_wanted file_len tail number wanted long (inr p) lacks =
    let is = lacks.index long in
    let short = lacks.short in
    omega (arith, p.1.past, is.2, one_footer tail p.1.footer is.0 p.1.finds is.1)

-- a file that is shorter than a footer or than the tail is refused for that
pub too_short_file : (file_len : ℕ) (tail : List ℕ) (d : StoreError) → (file_len < 28) ⊎ (file_len < length tail) → RefusesTail file_len tail d → (d ≡ Memory → ⊥) → number_of d ≡ 1
too_short_file file_len tail d why refused kept = (elim (nat_lt file_len (length tail)) as (λ y. nat_lt file_len (length tail) ≡ y → number_of d ≡ 1) [
  | true ↦ λ t. ap number_of (refused.longer (ltb-true _ _ t))
  | false ↦ λ t.
      let few = ltb-false _ _ t in
      let short : file_len < 28 = elim why [ inl lt ↦ lt | inr lt ↦ absurd (omega arith) ] in
      let f = some_file file_len tail few in
      let all = f.1.len_is in
      elim (refused_once f.0 (ShortFile (length f.0)) d (finds_footer f.0 _ (record { short = λ _. refl; long = λ le. absurd (omega arith) })) (refused.finds f.0 f.1)) [
        | inl same ↦ ap number_of same
        | inr memory ↦ elim memory [ inl m ↦ absurd cc | inr m ↦ absurd (kept m) ]
      ]
]) refl
