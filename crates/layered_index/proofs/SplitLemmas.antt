-- The texts of an index are read as they were written.
use Rattle.std.proofs.Common.{◌≡◌, ℕ, zero, suc, ◌+◌, ◌-◌, ◌<◌, ◌≤◌, ◌^◌, false, cond, eqb, ltb, List, [], ◌∷◌, ◌++◌, length, take, drop, Some, None, refl, sym, ◌∙◌, ap, subst}
use Rattle.std.proofs.Common.{arith, append_assoc, length-append}
use Rattle.std.proofs.lemmas.Bool.{eqb-true, ltb-false, le-ltb}
use Rattle.std.proofs.lemmas.List.{take-append-drop, length-take, nil_from_length}
use Rattle.std.proofs.Math.Seq.{drop-append_seam, take-append_seam}
use Rattle.std.specs.List.{flat_map, concat, AllByRecursion}
use Rattle.store_base.specs.NumbersLemmas.{length-numbers}
use Rattle.store_base.proofs.ListLemmas.{pass_none}
use Rattle.store_base.specs.VInt.{number}
use Rattle.store_base.specs.VInt.{◌>>=◌, number_below}
use Rattle.store_base.specs.ReadingLemmas.{bind_some, some_is, pass_some, below_again, below_takes, bytes_after, SplitsOff, takes_then}
use Rattle.store_base.specs.Serialize.{IsBytes}
use Rattle.layered_index.specs.Layers.{ends_from}
use Rattle.layered_index.specs.IndexReading.{numbers_at, texts_at, ends_at, split_at}
use Rattle.layered_index.proofs.IndexLemmas.{length-ends_from}

-- ---- numbers

pub record AreNumbers (count : ℕ) (bytes ns rest : List ℕ) : Type 0 where
  pub counted : length ns ≡ count
  pub takes : SplitsOff bytes (flat_map number ns) rest

pub numbers_read : (count : ℕ) (bytes ns rest : List ℕ) → IsBytes bytes → numbers_at count bytes ≡ Some (ns, rest) → AreNumbers count bytes ns rest
unfolding numbers_at
numbers_read zero bytes ns rest fits e =
    subst (λ (x : List ℕ × List ℕ). AreNumbers 0 bytes x.0 x.1) (some_is ([], bytes) (ns, rest) e) (record { counted = refl; takes = record { parts = refl; rest_fits = fits } })
numbers_read (suc count) bytes ns rest fits e =
    let a = bind_some (number_below (2 ^ 64) bytes) (λ n. numbers_at count n.1 >>= λ others. Some (n.0 ∷ others.0, others.1)) (ns, rest) e in
    let b = bind_some (numbers_at count a.0.1) (λ others. Some (a.0.0 ∷ others.0, others.1)) (ns, rest) a.2 in
    let one = below_takes (2 ^ 64) bytes a.0.0 a.0.1 fits a.1 in
    let two = numbers_read count a.0.1 b.0.0 b.0.1 one.0.rest_fits b.1 in
    subst (λ (x : List ℕ × List ℕ). AreNumbers (suc count) bytes x.0 x.1) (some_is (a.0.0 ∷ b.0.0, b.0.1) (ns, rest) b.2)
    (record { counted = ap suc two.counted; takes = takes_then bytes (number a.0.0) a.0.1 (flat_map number b.0.0) b.0.1 one.0 two.takes })

pub numbers_again : (ns rest : List ℕ) → AllByRecursion (λ n. n < 2 ^ 64) ns → numbers_at (length ns) (flat_map number ns ++ rest) ≡ Some (ns, rest)
unfolding numbers_at
numbers_again [] rest all = refl
numbers_again (n ∷ ns) rest all =
    ap (numbers_at (suc (length ns))) (append_assoc (number n) (flat_map number ns) rest)
    ∙ rw (below_again (2 ^ 64) n (flat_map number ns ++ rest) all.0, numbers_again ns rest all.1) refl

-- ---- texts

pub texts_read : (place : ℕ) (ends bytes : List ℕ) (ts : List (List ℕ)) → texts_at place ends bytes ≡ Some ts → (ends ≡ ends_from place ts) × (bytes ≡ concat ts)
unfolding texts_at
texts_read place [] bytes ts e =
    let p = pass_some (eqb (length bytes) 0) [] ts e in
    subst (λ (us : List (List ℕ)). ([] ≡ ends_from place us) × (bytes ≡ concat us)) p.1 (refl, nil_from_length bytes (eqb-true (length bytes) 0 p.0))
texts_read place (end ∷ ends) bytes ts e =
    let text = take (end - place) bytes in
    let rest = drop (end - place) bytes in
    let p = pass_none (ltb end place) (cond (ltb (length bytes) (end - place)) None (texts_at end ends rest >>= λ others. Some (text ∷ others))) ts e in
    let q = pass_none (ltb (length bytes) (end - place)) (texts_at end ends rest >>= λ others. Some (text ∷ others)) ts p.1 in
    let a = bind_some (texts_at end ends rest) (λ others. Some (text ∷ others)) ts q.1 in
    let others = texts_read end ends rest a.0 a.1 in
    let ordered = ltb-false end place p.0 in
    let long = ltb-false (length bytes) (end - place) q.0 in
    let here : place + length text ≡ end = omega (arith, length-take (end - place) bytes) in
    subst (λ (us : List (List ℕ)). ((end ∷ ends) ≡ ends_from place us) × (bytes ≡ concat us)) (some_is (text ∷ a.0) ts a.2) (
      (λ i. sym here i ∷ (others.0 ∙ ap (λ (p : ℕ). ends_from p a.0) (sym here)) i),
      sym (take-append-drop (end - place) bytes) ∙ ap (λ (t : List ℕ). text ++ t) others.1,
    )

pub texts_again : (place : ℕ) (ts : List (List ℕ)) → texts_at place (ends_from place ts) (concat ts) ≡ Some ts
unfolding texts_at
texts_again place [] = refl
texts_again place (t ∷ ts) =
    let rest = concat ts in
    let size : place + length t - place ≡ length t = omega arith in
    let ordered : ltb (place + length t) place ≡ false = le-ltb _ _ (omega arith) in
    let long : ltb (length (t ++ rest)) (length t) ≡ false = le-ltb _ _ (omega (arith, length-append t rest)) in
    rw (ordered, size, long, take-append_seam t rest, drop-append_seam t rest, texts_again (place + length t) ts) refl

-- ---- the whole

-- the text of an index with these texts
abbrev pub joined : List (List ℕ) → List ℕ
joined ts = number (length ts) ++ (flat_map number (ends_from 0 ts) ++ concat ts)

pub split_read : (bytes : List ℕ) (ts : List (List ℕ)) → IsBytes bytes → split_at bytes ≡ Some ts → (bytes ≡ joined ts) × IsBytes (concat ts)
unfolding split_at ends_at
split_read bytes ts fits e =
    let a = bind_some (number_below 65 bytes >>= λ count. cond (ltb (length count.1) count.0) None (numbers_at count.0 count.1)) (λ ends. texts_at 0 ends.0 ends.1) ts e in
    let b = bind_some (number_below 65 bytes) (λ count. cond (ltb (length count.1) count.0) None (numbers_at count.0 count.1)) a.0 a.1 in
    let count = b.0.0 in
    let p = pass_none (ltb (length b.0.1) count) (numbers_at count b.0.1) a.0 b.2 in
    let one = below_takes 65 bytes count b.0.1 fits b.1 in
    let two = numbers_read count b.0.1 a.0.0 a.0.1 one.0.rest_fits p.1 in
    let three = texts_read 0 a.0.0 a.0.1 ts a.2 in
    let counts : count ≡ length ts = sym two.counted ∙ ap length three.0 ∙ length-ends_from 0 ts in (
      one.0.parts ∙ (λ i. number (counts i) ++ (two.takes.parts ∙ (λ j. flat_map number (three.0 j) ++ three.1 j)) i),
      subst IsBytes three.1 two.takes.rest_fits,
    )

ends_fit : (place : ℕ) (ts : List (List ℕ)) → place + length (concat ts) < 2 ^ 64 → AllByRecursion (λ n. n < 2 ^ 64) (ends_from place ts)
ends_fit place [] fits = tt
ends_fit place (t ∷ ts) fits = (omega (arith, length-append t (concat ts)), ends_fit (place + length t) ts (omega (arith, length-append t (concat ts))))

pub split_again : (ts : List (List ℕ)) → length ts ≤ 64 → length (joined ts) < 2 ^ 64 → split_at (joined ts) ≡ Some ts
unfolding split_at ends_at
split_again ts few fits =
    let ends = ends_from 0 ts in
    let texts = concat ts in
    let many : length ends ≡ length ts = length-ends_from 0 ts in
    let sizes = length-append (number (length ts)) (flat_map number ends ++ texts) in
    let inner = length-append (flat_map number ends) texts in
    let ge = length-numbers ends in
    let first : number_below 65 (joined ts) ≡ Some (length ts, flat_map number ends ++ texts) = below_again 65 (length ts) (flat_map number ends ++ texts) (omega arith) in
    let enough : ltb (length (flat_map number ends ++ texts)) (length ts) ≡ false = le-ltb _ _ (omega arith) in
    let second : numbers_at (length ts) (flat_map number ends ++ texts) ≡ Some (ends, texts) = ap (λ (n : ℕ). numbers_at n (flat_map number ends ++ texts)) (sym many)
    ∙ numbers_again ends texts (ends_fit 0 ts (omega arith)) in
    rw (first, enough, second) (texts_again 0 ts)

-- each text of bytes is of bytes
pub texts_are_bytes : (ts : List (List ℕ)) → IsBytes (concat ts) → AllByRecursion IsBytes ts
texts_are_bytes [] h = tt
texts_are_bytes (t ∷ ts) h = (bytes_before t (concat ts) h, texts_are_bytes ts (bytes_after t (concat ts) h))
  where
    bytes_before : (xs ys : List ℕ) → IsBytes (xs ++ ys) → IsBytes xs
    bytes_before [] ys h = tt
    bytes_before (x ∷ xs) ys h = (h.0, bytes_before xs ys h.1)
