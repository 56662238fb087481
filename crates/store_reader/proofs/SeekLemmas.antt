-- What a seek finds in checkpoints that cover.
use Rattle.std.proofs.Common.{◌≡◌, ℕ, zero, suc, ◌+◌, ◌<◌, ◌≤◌, true, false, List, [], ◌∷◌, length, take, Some, None, IsSome, nat_lt, refl, sym, ap, subst, arith, add-one}
use Rattle.std.specs.Prelude.{slice_get}
use Rattle.std.specs.List.{AllByRecursion}
use Rattle.std.proofs.lemmas.Bool.{ltb-true, ltb-false, lt-ltb, le-ltb}
use Rattle.layered_index.proofs.LayerLemmas.{docs_grow}
use Rattle.layered_index.specs.declared.checkpoint.Checkpoint.{Checkpoint}
use Rattle.layered_index.specs.Checkpoint.{IsInLineFrom, IsFilled, Covers, docs_end, bytes_end, first_past}

-- what a seek finds, in checkpoints that go on from a document and a byte
pub record IsWithin (doc byte : ℕ) (cs : List Checkpoint) (target : ℕ) (c : Checkpoint) : Type 0 where
  pub from : c.doc_range.start ≤ target
  pub to : target < c.doc_range.end
  pub last : c.doc_range.end ≤ docs_end doc cs
  pub order : c.byte_range.start ≤ c.byte_range.end
  pub end : c.byte_range.end ≤ bytes_end byte cs

pub bytes_go_on : (doc byte : ℕ) (cs : List Checkpoint) → IsInLineFrom doc byte cs → byte ≤ bytes_end byte cs
bytes_go_on doc byte [] r = omega arith
bytes_go_on doc byte (c ∷ cs) r = omega (arith, bytes_go_on c.doc_range.end c.byte_range.end cs r.3, r.2.byte_order, r.1)

pub within : (doc byte : ℕ) (cs : List Checkpoint) (target : ℕ) (c : Checkpoint) → doc ≤ target → IsInLineFrom doc byte cs → first_past cs target ≡ Some c → IsWithin doc byte cs target c
within doc byte [] target c le r e = absurd cc
within doc byte (x ∷ cs) target c le r e = (elim (nat_lt target x.doc_range.end) as (λ y. nat_lt target x.doc_range.end ≡ y → IsWithin doc byte (x ∷ cs) target c) [
  | true ↦ λ t. let e' = rw t at e in let same : x ≡ c = cc in
      let past = ltb-true _ _ t in let d = docs_grow x.doc_range.end x.byte_range.end cs r.3 in let b = bytes_go_on x.doc_range.end x.byte_range.end cs r.3 in
      subst (IsWithin doc byte (x ∷ cs) target) same (record { from = omega (arith, r.0); to = past; last = d; order = r.2.byte_order; end = b })
  | false ↦ λ t. let on = within x.doc_range.end x.byte_range.end cs target c (ltb-false _ _ t) r.3 (rw t at e) in
      record { from = on.from; to = on.to; last = on.last; order = on.order; end = on.end }
]) refl

-- a seek finds none only at or past the last document
pub none_past : (doc byte : ℕ) (cs : List Checkpoint) (target : ℕ) → IsInLineFrom doc byte cs → first_past cs target ≡ None → doc ≤ target → docs_end doc cs ≤ target
none_past doc byte [] target r e le = le
none_past doc byte (x ∷ cs) target r e le = (elim (nat_lt target x.doc_range.end) as (λ y. nat_lt target x.doc_range.end ≡ y → docs_end x.doc_range.end cs ≤ target) [
  | true ↦ λ t. let e' = rw t at e in absurd cc
  | false ↦ λ t. none_past x.doc_range.end x.byte_range.end cs target r.3 (rw t at e) (ltb-false _ _ t)
]) refl

-- P of each checkpoint holds of one that is found
pub All-found : (P : Checkpoint → Type 0) (cs : List Checkpoint) (target : ℕ) (c : Checkpoint) → first_past cs target ≡ Some c → AllByRecursion P cs → P c
All-found P [] target c e a = absurd cc
All-found P (x ∷ cs) target c e a = (elim (nat_lt target x.doc_range.end) as (λ y. nat_lt target x.doc_range.end ≡ y → P c) [
  | true ↦ λ t. let e' = rw t at e in let same : x ≡ c = cc in subst P same a.0
  | false ↦ λ t. All-found P cs target c (rw t at e) a.1
]) refl

starts_from : (doc byte : ℕ) (cs : List Checkpoint) → IsInLineFrom doc byte cs → AllByRecursion (λ c. byte ≤ c.byte_range.start) cs
starts_from doc byte [] r = tt
starts_from doc byte (c ∷ cs) r = (omega (arith, r.1), lower c.byte_range.end byte cs (omega (arith, r.1, r.2.byte_order)) (starts_from c.doc_range.end c.byte_range.end cs r.3))
  where
    lower : (m n : ℕ) (cs : List Checkpoint) → n ≤ m → AllByRecursion (λ c. m ≤ c.byte_range.start) cs → AllByRecursion (λ c. n ≤ c.byte_range.start) cs
    lower m n [] le a = tt
    lower m n (c ∷ cs) le a = (omega (arith, a.0), lower m n cs le a.1)

-- no two checkpoints begin at one byte, where none is empty
pub one_start : (doc byte : ℕ) (cs : List Checkpoint) (target : ℕ) (c : Checkpoint) → IsInLineFrom doc byte cs → AllByRecursion IsFilled cs → first_past cs target ≡ Some c
    → AllByRecursion (λ x. x.byte_range.start ≡ c.byte_range.start → c ≡ x) cs
one_start doc byte [] target c r f e = tt
one_start doc byte (x ∷ cs) target c r f e = (elim (nat_lt target x.doc_range.end) as (λ y. nat_lt target x.doc_range.end ≡ y
    → AllByRecursion (λ x. x.byte_range.start ≡ c.byte_range.start → c ≡ x) (x ∷ cs)) [
      | true ↦ λ t. let e' = rw t at e in let same : x ≡ c = cc in (
        λ _. sym same,
        apart cs (starts_from x.doc_range.end x.byte_range.end cs r.3)
            (subst (λ (y : Checkpoint). y.byte_range.start < x.byte_range.end) same (omega (arith, f.0.1))),
      )
      | false ↦ λ t. let found = rw t at e in
          let past = All-found (λ y. x.byte_range.end ≤ y.byte_range.start) cs target c found (starts_from x.doc_range.end x.byte_range.end cs r.3) in
          (λ same. absurd (omega (arith, past, f.0.1)), one_start x.doc_range.end x.byte_range.end cs target c r.3 f.1 found)
    ]) refl
  where
    apart : (ys : List Checkpoint) → AllByRecursion (λ y. x.byte_range.end ≤ y.byte_range.start) ys → c.byte_range.start < x.byte_range.end
        → AllByRecursion (λ y. y.byte_range.start ≡ c.byte_range.start → c ≡ y) ys
    apart [] a lt = tt
    apart (y ∷ ys) a lt = (λ same. absurd (omega (arith, a.0)), apart ys a.1 lt)

-- below the count a seek finds one
pub some_below : (doc byte : ℕ) (cs : List Checkpoint) (target : ℕ) → IsInLineFrom doc byte cs → doc ≤ target → target < docs_end doc cs → IsSome (first_past cs target)
some_below doc byte cs target r le lt = (elim (first_past cs target) as (λ o. first_past cs target ≡ o → IsSome o) [
  | Some c ↦ λ e. refl
  | None ↦ λ e. let past = none_past doc byte cs target r e le in absurd (omega arith)
]) refl

-- the document after so many blocks is the first of the next one
pub next_block : (doc byte : ℕ) (cs : List Checkpoint) (n : ℕ) → IsInLineFrom doc byte cs → AllByRecursion IsFilled cs → n < length cs → first_past cs (docs_end doc (take n cs)) ≡ slice_get cs n
next_block doc byte [] n r f lt = absurd (omega arith)
next_block doc byte (c ∷ cs) zero r f lt = rw (lt-ltb doc c.doc_range.end (omega (arith, r.0, f.0.0))) refl
next_block doc byte (c ∷ cs) (suc n) r f lt =
    let on = docs_of c.doc_range.end c.byte_range.end cs n r.3 in
    rw (le-ltb (docs_end c.doc_range.end (take n cs)) c.doc_range.end on) (next_block c.doc_range.end c.byte_range.end cs n r.3 f.1 (omega arith))
  where
    docs_of : (doc byte : ℕ) (cs : List Checkpoint) (n : ℕ) → IsInLineFrom doc byte cs → doc ≤ docs_end doc (take n cs)
    docs_of doc byte cs zero r = omega arith
    docs_of doc byte [] (suc n) r = omega arith
    docs_of doc byte (c ∷ cs) (suc n) r = omega (arith, docs_of c.doc_range.end c.byte_range.end cs n r.3, r.0, r.2.doc_order)

-- its end is that of one block more
pub docs_end-take_more : (doc : ℕ) (cs : List Checkpoint) (n : ℕ) (c : Checkpoint) → slice_get cs n ≡ Some c → docs_end doc (take (n + 1) cs) ≡ c.doc_range.end
docs_end-take_more doc [] n c e = absurd cc
docs_end-take_more doc (x ∷ cs) zero c e = let same : x ≡ c = cc in ap (λ (y : Checkpoint). y.doc_range.end) same
docs_end-take_more doc (x ∷ cs) (suc n) c e = let on = docs_end-take_more x.doc_range.end cs n c e in rw (add-one) (rw (add-one) at on)

-- a document below the count stands after fewer blocks than all
pub not_all : (doc : ℕ) (cs : List Checkpoint) (n : ℕ) → docs_end doc (take n cs) < docs_end doc cs → n < length cs
not_all doc [] zero lt = absurd (omega arith)
not_all doc [] (suc n) lt = absurd (omega arith)
not_all doc (c ∷ cs) zero lt = omega arith
not_all doc (c ∷ cs) (suc n) lt = omega (arith, not_all c.doc_range.end cs n lt)

-- a seek of the first document of a block finds the block with its number
pub first_sought : (cs : List Checkpoint) (bytes n : ℕ) → Covers cs bytes → docs_end 0 (take n cs) < docs_end 0 cs → first_past cs (docs_end 0 (take n cs)) ≡ slice_get cs n
first_sought cs bytes n covers lt = next_block 0 0 cs n covers.in_line covers.filled (not_all 0 cs n lt)

-- each block has a document
pub docs_at_least : (doc byte : ℕ) (cs : List Checkpoint) (n : ℕ) → IsInLineFrom doc byte cs → AllByRecursion IsFilled cs → n ≤ length cs → doc + n ≤ docs_end doc (take n cs)
docs_at_least doc byte cs zero r f le = omega arith
docs_at_least doc byte [] (suc n) r f le = absurd (omega arith)
docs_at_least doc byte (c ∷ cs) (suc n) r f le = let on = docs_at_least c.doc_range.end c.byte_range.end cs n r.3 f.1 (omega arith) in omega (arith, on, r.0, f.0.0)
