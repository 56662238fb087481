-- The slots that are in a set.
use Rattle.std.proofs.Common.{◌≡◌, ℕ, ◌+◌, ◌<◌, ◌≤◌, Bool, true, false, cond, List, [], ◌∷◌, ◌++◌, length, map, Option, refl, ap, ◌∙◌, arith}
use Rattle.std.proofs.lemmas.List.Elements.{filter-append}
use Rattle.std.specs.List.{filter, enumerate_from}
use Rattle.store_base.proofs.ListLemmas.{enumerate_append}
use Rattle.store_format.specs.Block.{Slot}
use Rattle.store_reader.specs.Iteration.{is_in, alive, alive_from}
use Rattle.store_commands.specs.Documents.{numbered_from}

-- sets that agree below the end give the same
agreed : (n : ℕ) (xs : List Slot) (set other : Option (ℕ → Bool)) → ((id : ℕ) → n ≤ id → id < n + length xs → is_in set id ≡ is_in other id) → alive_from n xs set ≡ alive_from n xs other
agreed n [] set other h = refl
agreed n (x ∷ xs) set other h =
    let on = agreed (n + 1) xs set other (λ id le lt. h id (omega arith) (omega arith)) in
    step (is_in set n) (is_in other n) (h n (omega arith) (omega arith)) _ _ on
  where
    step : (a b : Bool) → a ≡ b → (ys zs : List (ℕ × Slot)) → map (λ x. x.1) ys ≡ map (λ x. x.1) zs → map (λ x. x.1) (cond a ((n, x) ∷ ys) ys) ≡ map (λ x. x.1) (cond b ((n, x) ∷ zs) zs)
    step true true e ys zs k = ap (λ (ws : List Slot). x ∷ ws) k
    step false false e ys zs k = k
    step true false e ys zs k = absurd cc
    step false true e ys zs k = absurd cc

pub alive_agreed : (xs : List Slot) (set other : Option (ℕ → Bool)) → ((id : ℕ) → id < length xs → is_in set id ≡ is_in other id) → alive xs set ≡ alive xs other
alive_agreed xs set other h = agreed 0 xs set other (λ id le lt. h id (omega arith))

-- ---- the slots that are in a set, each with its id

-- none of the set
pub none_numbered : (n : ℕ) (xs : List Slot) (set : Option (ℕ → Bool)) → ((id : ℕ) → n ≤ id → id < n + length xs → is_in set id ≡ false) → numbered_from n xs set ≡ []
none_numbered n [] set h = refl
none_numbered n (x ∷ xs) set h = rw (h n (omega arith) (omega arith)) (none_numbered (n + 1) xs set (λ id le lt. h id (omega arith) (omega arith)))

-- one slot
pub one_numbered : (n : ℕ) (x : Slot) (set : Option (ℕ → Bool)) → is_in set n ≡ true → numbered_from n (x ∷ []) set ≡ (n, x) ∷ []
one_numbered n x set h = rw h refl

-- those of a list and of one after it
pub numbered_joined : (n : ℕ) (xs ys : List Slot) (set : Option (ℕ → Bool)) → numbered_from n (xs ++ ys) set ≡ numbered_from n xs set ++ numbered_from (n + length xs) ys set
numbered_joined n xs ys set =
    let p : ℕ × Slot → Bool = λ x. is_in set x.0 in
    ap (filter p) (enumerate_append n xs ys) ∙ filter-append p (enumerate_from n xs) (enumerate_from (n + length xs) ys)
