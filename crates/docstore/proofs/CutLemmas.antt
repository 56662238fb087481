-- How documents are cut into groups.
use Rattle.std.proofs.Common.{◌≡◌, ℕ, ◌+◌, ◌-◌, ◌<◌, ◌≤◌, List, [], ◌∷◌, ◌++◌, length, take, drop, map, refl, sym, ◌∙◌, ap, subst, arith, length-append}
use Rattle.std.proofs.lemmas.List.{append-nil, map-append, take-append-le, take_all, take-append-drop}
use Rattle.std.proofs.lemmas.List.Concat.{flat_map-append}
use Rattle.std.proofs.lemmas.List.Sums.{sum_by-append}
use Rattle.std.specs.List.{flat_map, AllByRecursion}
use Rattle.store_base.proofs.ListLemmas.{all_append, all_take}
use Rattle.docstore.specs.Trace.{weight, without_last, AreFlushed}
use Rattle.store_format.specs.StoreFile.{block_of}

-- ---- groups that were cut, and what is pending after them

-- a group that was cut when its last document came
pub record IsFull (size : ℕ) (g : List (List ℕ)) : Type 0 where
  pub some : 0 < length g
  pub not_late : weight (without_last g) ≤ size
  pub not_early : size < weight g

pub without_last-push : {A : Type 0} (xs : List A) (x : A) → without_last (xs ++ x ∷ []) ≡ xs
without_last-push xs x =
    let len : length (xs ++ x ∷ []) - 1 ≡ length xs = omega (arith, length-append xs (x ∷ [])) in
    ap (λ (n : ℕ). take n (xs ++ x ∷ [])) len ∙ take-append-le (length xs) xs (x ∷ []) (omega arith) ∙ take_all (length xs) xs (omega arith)

all_weaker : {A : Type 0} (P Q : A → Type 0) (xs : List A) → ((x : A) → P x → Q x) → AllByRecursion P xs → AllByRecursion Q xs
all_weaker P Q [] f h = tt
all_weaker P Q (x ∷ xs) f h = (f x h.0, all_weaker P Q xs f h.1)

-- nothing is pending
pub flushed_none : (size : ℕ) (gs : List (List (List ℕ))) → AllByRecursion (IsFull size) gs → AreFlushed size (flat_map (λ g. g) gs) (map block_of gs)
flushed_none size gs full = record {
  groups = gs;
  cut = record {
    joined = refl;
    some = all_weaker (IsFull size) (λ g. 0 < length g) gs (λ g h. h.some) full;
    not_late = all_weaker (IsFull size) (λ g. weight (without_last g) ≤ size) gs (λ g h. h.not_late) full;
    not_early = all_take (λ g. size < weight g) (length gs - 1) gs (all_weaker (IsFull size) (λ g. size < weight g) gs (λ g h. h.not_early) full);
  };
  blocks = refl;
}

-- some documents are pending, and are flushed as the last block
pub flushed_more : (size : ℕ) (gs : List (List (List ℕ))) (pending : List (List ℕ)) → AllByRecursion (IsFull size) gs → 0 < length pending → weight (without_last pending) ≤ size
    → AreFlushed size (flat_map (λ g. g) gs ++ pending) (map block_of gs ++ block_of pending ∷ [])
flushed_more size gs pending full some light = record {
  groups = gs ++ pending ∷ [];
  cut = record {
    joined = flat_map-append (λ (g : List (List ℕ)). g) gs (pending ∷ []) ∙ ap (λ (d : List (List ℕ)). flat_map (λ (g : List (List ℕ)). g) gs ++ d) (append-nil pending);
    some = all_append (λ g. 0 < length g) gs (pending ∷ []) (all_weaker (IsFull size) (λ g. 0 < length g) gs (λ g h. h.some) full) (some, tt);
    not_late = all_append (λ g. weight (without_last g) ≤ size) gs (pending ∷ []) (all_weaker (IsFull size) (λ g. weight (without_last g) ≤ size) gs (λ g h. h.not_late) full) (light, tt);
    not_early = subst (AllByRecursion (λ g. size < weight g)) (sym (without_last-push gs pending)) (all_weaker (IsFull size) (λ g. size < weight g) gs (λ g h. h.not_early) full);
  };
  blocks = sym (map-append block_of gs (pending ∷ []));
}

pub weight-append : (xs ys : List (List ℕ)) → weight (xs ++ ys) ≡ weight xs + weight ys
weight-append xs ys = omega (arith, sum_by-append (λ (d : List ℕ). length d) xs ys, length-append xs ys)

-- a group weighs no less than without its last document
pub weight-without_last : (xs : List (List ℕ)) → weight (without_last xs) ≤ weight xs
weight-without_last xs = omega (arith, ap weight (take-append-drop (length xs - 1) xs), weight-append (take (length xs - 1) xs) (drop (length xs - 1) xs))
