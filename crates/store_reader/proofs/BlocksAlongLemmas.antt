-- Which blocks an iteration has looked up, and what look-ups one after the other do.
use Rattle.std.proofs.Common.{◌≡◌, ℕ, zero, suc, ◌+◌, ◌-◌, ◌<◌, ◌≤◌, Bool, true, cond, List, [], ◌∷◌, length, take, Option, refl, sym, ap, ◌∙◌, subst, arith}
use Rattle.std.specs.List.{AllByRecursion, count_by, range_with_len}
use Rattle.std.proofs.lemmas.Bool.{le-leb, lt-leb}
use Rattle.std.proofs.lemmas.List.Sums.{sum_by-cons}
use Rattle.layered_index.proofs.LayerLemmas.{docs_grow}
use Rattle.layered_index.specs.declared.checkpoint.Checkpoint.{Checkpoint}
use Rattle.store_reader.specs.declared.walk.Walk.{Walk}
use Rattle.layered_index.specs.Checkpoint.{IsInLineFrom, IsFilled, Covers, docs_end, doc_count}
use Rattle.store_reader.specs.Iteration.{is_in, alive_count, alive_below, looked_along, keys_along}
use Rattle.store_reader.specs.Reading.{Reading, num_docs}
use Rattle.store_reader.specs.Walking.{IsWalk}
use Rattle.store_reader.specs.LookLaws.{WalksLookUp}

module _ (set : Option (ℕ → Bool)) where
  -- how many of so many ids, from this one on, are in the set
  abbrev pub alive_in : ℕ → ℕ → ℕ
  alive_in a n = count_by (is_in set) (range_with_len a n)

  pub alive-split : (a m n : ℕ) → alive_in a (m + n) ≡ alive_in a m + alive_in (a + m) n
  alive-split a zero n = let e : a + 0 ≡ a = omega arith in let none : 0 + n ≡ n = omega arith in rw (e, none) (omega arith)
  alive-split a (suc m) n =
      let e : suc m + n ≡ suc (m + n) = omega arith in
      let at : (a + 1) + m ≡ a + suc m = omega arith in
      let one = sum_by-cons (λ x. cond (is_in set x) 1 0) a (range_with_len (a + 1) (m + n)) in
      let two = sum_by-cons (λ x. cond (is_in set x) 1 0) a (range_with_len (a + 1) m) in
      let on = rw at at (alive-split (a + 1) m n) in
      rw e (omega (arith, one, two, on))

  alive-more : (a m n : ℕ) → m ≤ n → alive_in a m ≤ alive_in a n
  alive-more a m n le =
      let e : m + (n - m) ≡ n = omega arith in
      let split = alive-split a m (n - m) in
      let split' = rw e at split in
      omega arith

  -- an id of the set is counted
  pub alive-one : (a n : ℕ) → is_in set (a + n) ≡ true → 1 ≤ alive_in a (n + 1)
  alive-one a n is =
      let one = sum_by-cons (λ x. cond (is_in set x) 1 0) (a + n) [] in
      let counted : ◌≡◌ {A = ℕ} (cond {A = ℕ} (is_in set (a + n)) 1 0) 1 = rw is refl in
      let split = alive-split a n 1 in
      omega (arith, split, one, counted)

  -- after an item
  looked_at : (doc byte : ℕ) (cs : List Checkpoint) (p id : ℕ) → IsInLineFrom doc byte cs → p < length cs → doc ≤ id → docs_end doc (take p cs) ≤ id → id < docs_end doc (take (suc p) cs)
      → is_in set id ≡ true
      → keys_along (take (suc p) cs) ≡ looked_along cs set (alive_in doc (id + 1 - doc))
  looked_at doc byte [] p id r few from lo hi is = absurd (omega arith)
  looked_at doc byte (c ∷ cs) zero id r few from lo hi is =
      let start = r.0 in
      let size : id + 1 - doc ≤ doc_count c = omega arith in
      let more : alive_in doc (id + 1 - doc) ≤ alive_in doc (doc_count c) = alive-more doc (id + 1 - doc) (doc_count c) size in
      let same : alive_count set c ≡ alive_in doc (doc_count c) = ap (λ (a : ℕ). alive_in a (doc_count c)) start in
      rw (le-leb (alive_in doc (id + 1 - doc)) (alive_count set c) (omega arith)) refl
  looked_at doc byte (c ∷ cs) (suc p) id r few from lo hi is =
      let start = r.0 in let order = r.2.doc_order in
      let past : c.doc_range.end ≤ docs_end c.doc_range.end (take p cs) = docs_from c.doc_range.end c.byte_range.end cs p r.3 in
      let size : doc_count c + (id + 1 - c.doc_range.end) ≡ id + 1 - doc = omega arith in
      let at : doc + doc_count c ≡ c.doc_range.end = omega arith in
      let split = alive-split doc (doc_count c) (id + 1 - c.doc_range.end) in
      let split' : alive_in doc (id + 1 - doc) ≡ alive_in doc (doc_count c) + alive_in c.doc_range.end (id + 1 - c.doc_range.end) = rw (size, at) at split in
      let same : alive_count set c ≡ alive_in doc (doc_count c) = ap (λ (a : ℕ). alive_in a (doc_count c)) start in
      let place : c.doc_range.end + (id - c.doc_range.end) ≡ id = omega arith in
      let last : (id - c.doc_range.end) + 1 ≡ id + 1 - c.doc_range.end = omega arith in
      let one = alive-one c.doc_range.end (id - c.doc_range.end) (ap (is_in set) place ∙ is) in
      let one' : 1 ≤ alive_in c.doc_range.end (id + 1 - c.doc_range.end) = rw last at one in
      let rest : alive_in doc (id + 1 - doc) - alive_count set c ≡ alive_in c.doc_range.end (id + 1 - c.doc_range.end) = omega arith in
      rw (lt-leb (alive_in doc (id + 1 - doc)) (alive_count set c) (omega arith), rest)
      (ap (λ (ks : List ℕ). c.byte_range.start ∷ ks) (looked_at c.doc_range.end c.byte_range.end cs p id r.3 (omega arith) (omega arith) lo hi is))
    where
      docs_from : (doc byte : ℕ) (cs : List Checkpoint) (n : ℕ) → IsInLineFrom doc byte cs → doc ≤ docs_end doc (take n cs)
      docs_from doc byte cs zero r = omega arith
      docs_from doc byte [] (suc n) r = omega arith
      docs_from doc byte (c ∷ cs) (suc n) r = omega (arith, docs_from c.doc_range.end c.byte_range.end cs n r.3, r.0, r.2.doc_order)

  -- at the end
  looked_all : (doc byte : ℕ) (cs : List Checkpoint) (count : ℕ) → IsInLineFrom doc byte cs → alive_in doc (docs_end doc cs - doc) < count → keys_along cs ≡ looked_along cs set count
  looked_all doc byte [] count r lt = refl
  looked_all doc byte (c ∷ cs) count r lt =
      let start = r.0 in let order = r.2.doc_order in
      let more = docs_grow c.doc_range.end c.byte_range.end cs r.3 in
      let size : doc_count c + (docs_end c.doc_range.end cs - c.doc_range.end) ≡ docs_end c.doc_range.end cs - doc = omega arith in
      let at : doc + doc_count c ≡ c.doc_range.end = omega arith in
      let split = alive-split doc (doc_count c) (docs_end c.doc_range.end cs - c.doc_range.end) in
      let split' : alive_in doc (docs_end c.doc_range.end cs - doc) ≡ alive_in doc (doc_count c) + alive_in c.doc_range.end (docs_end c.doc_range.end cs - c.doc_range.end) = rw (size, at) at split in
      let same : alive_count set c ≡ alive_in doc (doc_count c) = ap (λ (a : ℕ). alive_in a (doc_count c)) start in
      rw (lt-leb count (alive_count set c) (omega arith))
      (ap (λ (ks : List ℕ). c.byte_range.start ∷ ks) (looked_all c.doc_range.end c.byte_range.end cs (count - alive_count set c) r.3 (omega arith)))

-- where the documents of some blocks are all, so are the blocks
take_whole : (doc byte : ℕ) (cs : List Checkpoint) (p : ℕ) → IsInLineFrom doc byte cs → AllByRecursion IsFilled cs → docs_end doc cs ≤ docs_end doc (take p cs) → take p cs ≡ cs
take_whole doc byte [] zero r f le = refl
take_whole doc byte [] (suc p) r f le = refl
take_whole doc byte (c ∷ cs) zero r f le = absurd (let more = docs_grow c.doc_range.end c.byte_range.end cs r.3 in let some = f.0.0 in let start = r.0 in omega arith)
take_whole doc byte (c ∷ cs) (suc p) r f le = ap (λ (ys : List Checkpoint). c ∷ ys) (take_whole c.doc_range.end c.byte_range.end cs p r.3 f.1 le)

looked_none : (set : Option (ℕ → Bool)) (cs : List Checkpoint) → keys_along (take 1 cs) ≡ looked_along cs set 0
looked_none set [] = refl
looked_none set (c ∷ cs) = rw (le-leb 0 (alive_count set c) (omega arith)) refl

pub take_length_one : (cs : List Checkpoint) → take (length (take 1 cs)) cs ≡ take 1 cs
take_length_one [] = refl
take_length_one (c ∷ cs) = refl

-- after an item, by the place
following : (r : Reading) (w : Walk) (set : Option (ℕ → Bool)) (place : ℕ) → w.place ≡ place → Covers r.checkpoints (length r.file.content) → IsWalk r w → (id : ℕ) → w.next ≡ id + 1 → w.first ≤ id
    → is_in set id ≡ true
    → keys_along (take place r.checkpoints) ≡ looked_along r.checkpoints set (alive_below set (id + 1))
following r w set zero here covers is id next above alive =
    absurd (let end : w.end ≡ docs_end 0 (take 0 r.checkpoints) = is.end ∙ ap (λ (k : ℕ). docs_end 0 (take k r.checkpoints)) here in let below = is.below in omega arith)
following r w set (suc p) here covers is id next above alive =
    let before : w.place - 1 ≡ p = omega arith in
    let first : w.first ≡ docs_end 0 (take p r.checkpoints) = is.first ∙ ap (λ (k : ℕ). docs_end 0 (take k r.checkpoints)) before in
    let end : w.end ≡ docs_end 0 (take (suc p) r.checkpoints) = is.end ∙ ap (λ (k : ℕ). docs_end 0 (take k r.checkpoints)) here in
    let few = is.few in let below = is.below in
    let whole : id + 1 - 0 ≡ id + 1 = omega arith in
    looked_at set 0 0 r.checkpoints p id covers.in_line (omega arith) (omega arith) (omega arith) (omega arith) alive
    ∙ ap (λ (n : ℕ). looked_along r.checkpoints set (count_by (is_in set) (range_with_len 0 n))) whole

pub walks_look_up : WalksLookUp
walks_look_up r w set covers is = record {
  none = λ place. ap (λ (n : ℕ). keys_along (take n r.checkpoints)) place ∙ ap keys_along (take_length_one r.checkpoints) ∙ looked_none set r.checkpoints;
  item = λ id next above alive. following r w set w.place refl covers is id next above alive ∙ ap (λ (n : ℕ). looked_along r.checkpoints set (alive_below set n)) (sym next);
  all = λ count next lt.
      let below = is.below in let end = is.end in
      let whole : num_docs r - 0 ≡ num_docs r = omega arith in
      ap keys_along (take_whole 0 0 r.checkpoints w.place covers.in_line covers.filled (omega arith))
      ∙ looked_all set 0 0 r.checkpoints count covers.in_line (subst (λ (n : ℕ). count_by (is_in set) (range_with_len 0 n) < count) (sym whole) lt);
}
