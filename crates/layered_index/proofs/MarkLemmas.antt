-- Where the layers that are left lie in the bytes of an index.
use Rattle.std.proofs.Common.{◌≡◌, ℕ, zero, suc, ◌+◌, ◌-◌, ◌*◌, ◌^◌, true, false, cond, eqb, leb, ltb, List, [], ◌∷◌, ◌++◌, length, take, drop}
use Rattle.std.proofs.Common.{Some, None, refl, sym, ◌∙◌, ap, arith, append_assoc, length-append}
use Rattle.std.proofs.lemmas.List.{take-append-drop}
use Rattle.std.proofs.Math.Seq.{drop-append_seam}
use Rattle.store_base.proofs.ListLemmas.{pass_none}
use Rattle.store_base.specs.VInt.{◌>>=◌, number_at, number_below}
use Rattle.store_base.specs.ReadingLemmas.{bind_some, some_is, guard_some, pass_some}
use Rattle.layered_index.specs.IndexReading.{numbers_at}
use Rattle.layered_index.specs.Sought.{layers_left, next_layer, IsRest, IsHeaded}

-- ---- what is read is in front

pub after_then : (a b c : List ℕ) → IsRest a b → IsRest b c → IsRest a c
after_then a b c p q = record { front = p.front ++ q.front; parts = p.parts ∙ ap (λ (t : List ℕ). p.front ++ t) q.parts ∙ sym (append_assoc p.front q.front c) }

pub after_to : (bytes a b : List ℕ) → a ≡ b → IsRest bytes a → IsRest bytes b
after_to bytes a b e p = record { front = p.front; parts = p.parts ∙ ap (λ (t : List ℕ). p.front ++ t) e }

number_after : (bytes : List ℕ) (x : ℕ × List ℕ) → number_at bytes ≡ Some x → IsRest bytes x.1
unfolding number_at
number_after [] x e = absurd (cc)
number_after (b ∷ bytes) x e = elim (leb 128 b) as (λ v. cond v (Some (b - 128, bytes)) (number_at bytes >>= λ high. cond (eqb high.0 0) None (Some (b + 128 * high.0, high.1))) ≡ Some x
    → IsRest (b ∷ bytes) x.1) [
      | true ↦ λ h. after_to (b ∷ bytes) bytes x.1 (ap (λ (y : ℕ × List ℕ). y.1) (some_is (b - 128, bytes) x h)) (record { front = b ∷ []; parts = refl })
      | false ↦ λ h.
          let found = bind_some (number_at bytes) (λ high. cond (eqb high.0 0) None (Some (b + 128 * high.0, high.1))) x h in
          let passed = guard_some (eqb found.0.0 0) (b + 128 * found.0.0, found.0.1) x found.2 in
          let inner = number_after bytes found.0 found.1 in
          after_to (b ∷ bytes) found.0.1 x.1 (ap (λ (y : ℕ × List ℕ). y.1) passed.1) (record { front = b ∷ inner.front; parts = ap (λ (t : List ℕ). b ∷ t) inner.parts })
    ] e

pub below_after : (limit : ℕ) (bytes : List ℕ) (x : ℕ × List ℕ) → number_below limit bytes ≡ Some x → IsRest bytes x.1
below_after limit bytes x e =
    let a = bind_some (number_at bytes) (λ m. cond (ltb m.0 limit) (Some m) None) x e in
    let p = pass_some (ltb a.0.0 limit) a.0 x a.2 in
    after_to bytes a.0.1 x.1 (ap (λ (y : ℕ × List ℕ). y.1) p.1) (number_after bytes a.0 a.1)

pub numbers_after : (count : ℕ) (bytes : List ℕ) (x : List ℕ × List ℕ) → numbers_at count bytes ≡ Some x → IsRest bytes x.1
unfolding numbers_at
numbers_after zero bytes x e = after_to bytes bytes x.1 (ap (λ (y : List ℕ × List ℕ). y.1) (some_is ([], bytes) x e)) (record { front = []; parts = refl })
numbers_after (suc count) bytes x e =
    let a = bind_some (number_below (2 ^ 64) bytes) (λ n. numbers_at count n.1 >>= λ others. Some (n.0 ∷ others.0, others.1)) x e in
    let b = bind_some (numbers_at count a.0.1) (λ others. Some (a.0.0 ∷ others.0, others.1)) x a.2 in
    after_to bytes b.0.1 x.1 (ap (λ (y : List ℕ × List ℕ). y.1) (some_is (a.0.0 ∷ b.0.0, b.0.1) x b.2))
    (after_then bytes a.0.1 b.0.1 (below_after (2 ^ 64) bytes a.0 a.1) (numbers_after count a.0.1 b.0 b.1))

pub after_drop : (bytes rest : List ℕ) → IsRest bytes rest → drop (length bytes - length rest) bytes ≡ rest
after_drop bytes rest p =
    let size : length bytes - length rest ≡ length p.front = omega (arith, ap length p.parts, length-append p.front rest) in
    (λ i. drop (size i) (p.parts i)) ∙ drop-append_seam p.front rest

-- ---- the layers that are left

-- those of all layers
pub head_follows : (period : ℕ) (bytes : List ℕ) (count : ℕ) (ends texts : List ℕ) → IsHeaded period bytes count ends texts → IsRest bytes ends × IsRest bytes texts
head_follows period bytes count ends texts head =
    let first = below_after 65 bytes (count, ends) head.counted in
    let a = bind_some (numbers_at count ends) (λ ns. Some ns.1) texts head.following in
    (first, after_to bytes a.0.1 texts (some_is a.0.1 texts a.2) (after_then bytes ends a.0.1 first (numbers_after count ends a.0 a.1)))

-- those of the layers after the next
pub next_follows : (bytes : List ℕ) (place : ℕ) (ends texts layer : List ℕ) (end : ℕ) (more_ends more : List ℕ) → next_layer place ends texts ≡ Some (layer, end, more_ends, more)
    → IsRest bytes ends → IsRest bytes texts → IsRest bytes more_ends × IsRest bytes more
unfolding next_layer
next_follows bytes place ends texts layer end more_ends more e from_ends from_texts =
    let a = bind_some (number_below (2 ^ 64) ends) (λ n. cond (ltb n.0 place) None (cond (ltb (length texts) (n.0 - place)) None (Some
    (take (n.0 - place) texts, n.0, n.1, drop (n.0 - place) texts)))) (layer, end, more_ends, more) e in
    let n = a.0.0 in
    let p = pass_none (ltb n place) (cond (ltb (length texts) (n - place)) None (Some (take (n - place) texts, n, a.0.1, drop (n - place) texts))) (layer, end, more_ends, more) a.2 in
    let q = pass_none (ltb (length texts) (n - place)) (Some (take (n - place) texts, n, a.0.1, drop (n - place) texts)) (layer, end, more_ends, more) p.1 in
    let same = some_is (take (n - place) texts, n, a.0.1, drop (n - place) texts) (layer, end, more_ends, more) q.1 in
    let cut : IsRest texts (drop (n - place) texts) = record { front = take (n - place) texts; parts = sym (take-append-drop (n - place) texts) } in (
      after_to bytes a.0.1 more_ends (ap (λ (x : List ℕ × ℕ × List ℕ × List ℕ). x.2) same) (after_then bytes ends a.0.1 from_ends (below_after (2 ^ 64) ends a.0 a.1)),
      after_to bytes (drop (n - place) texts) more (ap (λ (x : List ℕ × ℕ × List ℕ × List ℕ). x.3) same) (after_then bytes texts (drop (n - place) texts) from_texts cut),
    )

-- how many bytes are before them finds them again
pub found_again : (bytes : List ℕ) (height place : ℕ) (ends texts : List ℕ) (ts : List (List ℕ)) → IsRest bytes ends → IsRest bytes texts → layers_left height place ends texts ≡ Some ts
    → layers_left height place (drop (length bytes - length ends) bytes) (drop (length bytes - length texts) bytes) ≡ Some ts
found_again bytes height place ends texts ts from_ends from_texts e = (λ i. layers_left height place (after_drop bytes ends from_ends i) (after_drop bytes texts from_texts i)) ∙ e
