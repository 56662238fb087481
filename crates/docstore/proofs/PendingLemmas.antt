-- Documents, their bytes and the places where they begin.
use Rattle.std.proofs.Common.{◌≡◌, ℕ, suc, ◌+◌, ◌-◌, ◌*◌, ◌^◌, ◌<◌, ◌≤◌, List, [], ◌∷◌, ◌++◌, length, take, drop, refl, sym, ◌∙◌, ap, arith, append_assoc, length-append, Option, Some, None, Result}
use Rattle.std.proofs.Common.{Ok, Err, OnOk, IfSome, false, inl, inr}
use Rattle.std.proofs.lemmas.List.{append-nil}
use Rattle.std.proofs.Math.Seq.{drop-append_seam, take-append_seam}
use Rattle.std.specs.List.{flat_map, concat}
use Rattle.std.specs.Prelude.{slice_range}
use Rattle.std.specs.Result.{is_err}
use Rattle.store_base.specs.Serialize.{fixed}
use Rattle.store_format.specs.Block.{starts_from, block}
use Rattle.docstore.specs.Trace.{weight}
use Rattle.store_base.specs.declared.error.StoreError.{StoreError}
use Rattle.store_base.specs.declared.error.StoreError.TheVariants.{Memory, BlockTooLarge}
use Rattle.docstore.specs.Pending.{first_or, documents_at, IsPending, IsDocumentRefusal}
use Rattle.store_format.proofs.BlockLemmas.{starts_from-append, concat-append, length-block, length-concat}

-- ---- cutting

pub length-documents_at : (starts bytes : List ℕ) → length (documents_at starts bytes) ≡ length starts
unfolding documents_at
length-documents_at [] bytes = refl
length-documents_at (s ∷ starts) bytes = ap suc (length-documents_at starts bytes)

first_of : (place end : ℕ) (docs : List (List ℕ)) → end ≡ place + length (concat docs) → first_or (starts_from place docs) end ≡ place
first_of place end [] e = omega arith
first_of place end (d ∷ docs) e = refl

-- a document between a front and a back
between : (front d back : List ℕ) (end : ℕ) → end ≡ length front + length d → slice_range (front ++ (d ++ back)) (length front) end ≡ d
between front d back end e =
    let size : end - length front ≡ length d = omega arith in
    ap (λ (n : ℕ). take n (drop (length front) (front ++ (d ++ back)))) size
    ∙ ap (take (length d)) (drop-append_seam front (d ++ back))
    ∙ take-append_seam d back

documents_after : (front : List ℕ) (docs : List (List ℕ)) → documents_at (starts_from (length front) docs) (front ++ concat docs) ≡ docs
unfolding documents_at
documents_after front [] = refl
documents_after front (d ∷ docs) =
    let size : length (front ++ (d ++ concat docs)) ≡ (length front + length d) + length (concat docs) = omega (arith, length-append front (d ++ concat docs), length-append d (concat docs)) in
    let end : first_or (starts_from (length front + length d) docs) (length (front ++ (d ++ concat docs))) ≡ length front + length d =
    first_of (length front + length d) (length (front ++ (d ++ concat docs))) docs size in
    let here = between front d (concat docs) (first_or (starts_from (length front + length d) docs) (length (front ++ (d ++ concat docs)))) end in
    let others : documents_at (starts_from (length front + length d) docs) (front ++ (d ++ concat docs)) ≡ docs =
    ap (λ (p : ℕ). documents_at (starts_from p docs) (front ++ (d ++ concat docs))) (sym (length-append front d))
    ∙ ap (documents_at (starts_from (length (front ++ d)) docs)) (sym (append_assoc front d (concat docs)))
    ∙ documents_after (front ++ d) docs in
    λ i. here i ∷ others i

-- documents are told from their bytes and the places where they begin
pub documents_back : (docs : List (List ℕ)) → documents_at (starts_from 0 docs) (concat docs) ≡ docs
documents_back docs = documents_after [] docs

pub documents_from : (starts bytes : List ℕ) (docs : List (List ℕ)) → starts ≡ starts_from 0 docs → bytes ≡ concat docs → documents_at starts bytes ≡ docs
documents_from starts bytes docs s b = (λ i. documents_at (s i) (b i)) ∙ documents_back docs

-- ---- pending documents

pub weight-pending : (starts bytes : List ℕ) (limit capacity : ℕ) → IsPending starts bytes limit capacity → weight (documents_at starts bytes) ≡ length bytes + 8 * length starts
weight-pending starts bytes limit capacity h =
    omega (arith, length-concat (documents_at starts bytes), ap length h.joined, length-documents_at starts bytes)

pub length-concat-pending : (starts bytes : List ℕ) (limit capacity : ℕ) → IsPending starts bytes limit capacity → length (concat (documents_at starts bytes)) ≡ length bytes
length-concat-pending starts bytes limit capacity h = ap length (sym h.joined)

-- the length of the block of documents and one more
length-block-more : (docs : List (List ℕ)) (d : List ℕ) → length (block (docs ++ d ∷ [])) ≡ length (concat docs) + length d + 4 * (length docs + 2)
length-block-more docs d =
    omega (
      arith,
      length-block (docs ++ d ∷ []),
      ap length (concat-append docs (d ∷ [])),
      length-append (concat docs) (d ++ []),
      length-append d [],
      length-append docs (d ∷ []),
    )

-- the same of pending documents
pub length-block-pushed : (starts bytes : List ℕ) (limit capacity : ℕ) (d : List ℕ) → IsPending starts bytes limit capacity
    → length (block (documents_at starts bytes ++ d ∷ [])) ≡ length bytes + length d + 4 * (length starts + 2)
length-block-pushed starts bytes limit capacity d h =
    let docs = documents_at starts bytes in
    omega (arith, length-block-more docs d, ap length h.joined, length-documents_at starts bytes)

-- the same of the documents that are seen
pub length-block-seen : (docs : List (List ℕ)) (starts bytes : List ℕ) (limit capacity : ℕ) (d : List ℕ) → documents_at starts bytes ≡ docs → IsPending starts bytes limit capacity
    → length (block (docs ++ d ∷ [])) ≡ length bytes + length d + 4 * (length starts + 2)
length-block-seen docs starts bytes limit capacity d seen h = ap (λ (ds : List (List ℕ)). length (block (ds ++ d ∷ []))) (sym seen) ∙ length-block-pushed starts bytes limit capacity d h

-- where the documents begin once this one is after them, and their bytes
starts_pushed : (starts bytes : List ℕ) (limit capacity : ℕ) (d : List ℕ) → IsPending starts bytes limit capacity → starts ++ length bytes ∷ [] ≡ starts_from 0 (documents_at starts bytes ++ d ∷ [])
starts_pushed starts bytes limit capacity d h =
    let docs = documents_at starts bytes in
    let place : 0 + length (concat docs) ≡ length bytes = omega (arith, ap length h.joined) in
    (λ i. h.places i ++ sym place i ∷ []) ∙ sym (starts_from-append 0 docs (d ∷ []))

bytes_pushed : (starts bytes : List ℕ) (limit capacity : ℕ) (d : List ℕ) → IsPending starts bytes limit capacity → bytes ++ d ≡ concat (documents_at starts bytes ++ d ∷ [])
bytes_pushed starts bytes limit capacity d h = (λ i. h.joined i ++ sym (append-nil d) i) ∙ sym (concat-append (documents_at starts bytes) (d ∷ []))

pub documents_pushed : (starts bytes : List ℕ) (limit capacity : ℕ) (d : List ℕ) → IsPending starts bytes limit capacity
    → documents_at (starts ++ length bytes ∷ []) (bytes ++ d) ≡ documents_at starts bytes ++ d ∷ []
documents_pushed starts bytes limit capacity d h =
    documents_from (starts ++ length bytes ∷ []) (bytes ++ d) (documents_at starts bytes ++ d ∷ []) (starts_pushed starts bytes limit capacity d h) (bytes_pushed starts bytes limit capacity d h)

-- one more document, where the limit leaves room for it and the table
pub pushed : (starts bytes : List ℕ) (limit capacity : ℕ) (d : List ℕ) (more room : ℕ) → IsPending starts bytes limit capacity → length bytes + length d + 4 * (length starts + 2) ≤ more
    → more < 2 ^ 32 → more ≤ room → IsPending (starts ++ length bytes ∷ []) (bytes ++ d) more room
pushed starts bytes limit capacity d more room h within small fits =
    let docs = documents_at starts bytes in
    let same : docs ++ d ∷ [] ≡ documents_at (starts ++ length bytes ∷ []) (bytes ++ d) = sym (documents_pushed starts bytes limit capacity d h) in
    let starts_len = length-append starts (length bytes ∷ []) in
    let bytes_len = length-append bytes d in
    record {
      places = starts_pushed starts bytes limit capacity d h ∙ ap (starts_from 0) same;
      joined = bytes_pushed starts bytes limit capacity d h ∙ ap concat same;
      fits = omega arith;
      small = small;
      room = fits;
      within = λ some. omega arith;
    }

pub none_pending : (limit capacity : ℕ) → limit < 2 ^ 32 → limit ≤ capacity → IsPending [] [] limit capacity
unfolding documents_at
none_pending limit capacity small room = record {
  places = refl;
  joined = refl;
  fits = omega arith;
  small = small;
  room = room;
  within = λ some. absurd (omega arith);
}

pub documents_none : (bytes : List ℕ) → documents_at [] bytes ≡ []
unfolding documents_at
documents_none bytes = refl

-- the bytes with their table are the block
pub block_is : (starts bytes : List ℕ) (limit capacity : ℕ) → IsPending starts bytes limit capacity
    → (bytes ++ flat_map (fixed 4) starts) ++ fixed 4 (length starts) ≡ block (documents_at starts bytes)
block_is starts bytes limit capacity h =
    let docs = documents_at starts bytes in
    let count : length starts ≡ length docs = sym (length-documents_at starts bytes) in
    λ i. (h.joined i ++ flat_map (fixed 4) (h.places i)) ++ fixed 4 (count i)

pub length-block-pending : (starts bytes : List ℕ) (limit capacity : ℕ) → IsPending starts bytes limit capacity → length (block (documents_at starts bytes)) ≡ length bytes + 4 * length starts + 4
length-block-pending starts bytes limit capacity h =
    omega (arith, length-block (documents_at starts bytes), ap length h.joined, length-documents_at starts bytes)

-- a document of which no block can be made weighs, with eight bytes, what the block size leaves to 2^32
pub limit : (docs : List (List ℕ)) (doc : List ℕ) (size : ℕ) → weight docs ≤ size → 2 ^ 32 ≤ length (block (docs ++ doc ∷ [])) → 2 ^ 32 ≤ size + length doc + 8
limit docs doc size light large = omega (arith, length-block-more docs doc, length-concat docs)

-- what a clause says of an Ok, where the result is one
pub from_ok : {T E P : Type 0} (r : Result T E) → is_err r ≡ false → OnOk r P → P
from_ok (Ok x) e p = p
from_ok (Err d) e p = absurd cc

-- a refusal for a lesser cause
pub refusal_weaker : (o : Option (List ℕ)) (P Q : List ℕ → Type 0) (e : StoreError) → ((d : List ℕ) → P d → Q d) → IsDocumentRefusal o P e → IsDocumentRefusal o Q e
refusal_weaker None P Q e f h = h
refusal_weaker (Some d) P Q e f h = elim h [ inl m ↦ inl m | inr l ↦ inr (l.0, f d l.1) ]

-- the same limit for a document that may have no bytes
pub limit_of : (o : Option (List ℕ)) (docs : List (List ℕ)) (size : ℕ) (e : StoreError) → weight docs ≤ size → IsDocumentRefusal o (λ d. 2 ^ 32 ≤ length (block (docs ++ d ∷ []))) e
    → IfSome o (λ bytes. e ≡ BlockTooLarge → 2 ^ 32 ≤ size + length bytes + 8)
limit_of None docs size e light h = tt
limit_of (Some d) docs size e light h = λ is. elim h [ inl m ↦ absurd (differ e m is) | inr l ↦ limit docs d size light l.1 ]
  where
    differ : (e : StoreError) → e ≡ Memory → e ≡ BlockTooLarge → ⊥
    differ e m is = cc
