-- Lists, options and counts: what std has no lemma for.
use Rattle.std.proofs.Common.{◌≡◌, ◌⊎◌, inl, inr, ℕ, zero, suc, ◌+◌, ◌-◌, ◌<◌, ◌≤◌, List, [], ◌∷◌, ◌++◌, length, take, drop, get_or, set, Bool, true, false, ◌&&◌, cond, Option, Some, None}
use Rattle.std.proofs.Common.{Result, Ok, Err, refl, sym, ◌∙◌, ap, arith, length-drop}
use Rattle.std.proofs.lemmas.List.{take_more, get_or-drop, drop-set-lt, drop-drop, length-take-le, drop_at, take_at}
use Rattle.std.proofs.lemmas.Option.{slice_get_within, get_or_from_slice_get}
use Rattle.std.specs.Prelude.{slice_get, slice_range, OnOk, OnErr}
use Rattle.std.specs.List.{AllByRecursion, enumerate_from}
use Rattle.store_base.specs.Counts.{HasRisen}

-- ---- counts, choices and results

pub risen_later : (a b c : ℕ) → a ≤ b → HasRisen b c → HasRisen a c
risen_later a b c le h = record { no_lower = omega (arith, h.no_lower); risen = λ lt. omega (arith, h.risen lt) }

pub risen_on : (a b c : ℕ) → HasRisen a b → b ≤ c → HasRisen a c
risen_on a b c h le = record { no_lower = omega (arith, h.no_lower); risen = λ few. omega (arith, h.risen (omega (arith, few))) }

pub both : (a b : Bool) → (a && b) ≡ true → (a ≡ true) × (b ≡ true)
both true true is = (refl, refl)
both true false is = absurd cc
both false b is = absurd cc

pub pass_none : {A : Type 0} (b : Bool) (x : Option A) (y : A) → cond b None x ≡ Some y → (b ≡ false) × (x ≡ Some y)
pass_none true x y e = absurd (cc)
pass_none false x y e = (refl, e)

pub either : {T E P Q : Type 0} (r : Result T E) → OnOk r P → OnErr r Q → P ⊎ Q
either (Ok x) p q = inl p
either (Err e) p q = inr q

-- ---- a fact of each member

pub all_append : {A : Type 0} (P : A → Type 0) (xs ys : List A) → AllByRecursion P xs → AllByRecursion P ys → AllByRecursion P (xs ++ ys)
all_append P [] ys p q = q
all_append P (x ∷ xs) ys p q = (p.0, all_append P xs ys p.1 q)

pub all_take : {A : Type 0} (P : A → Type 0) (n : ℕ) (xs : List A) → AllByRecursion P xs → AllByRecursion P (take n xs)
all_take P zero xs h = tt
all_take P (suc n) [] h = tt
all_take P (suc n) (x ∷ xs) h = (h.0, all_take P n xs h.1)

pub all_following : {A : Type 0} (P : A → Type 0) (xs ys : List A) → AllByRecursion P (xs ++ ys) → AllByRecursion P ys
all_following P [] ys h = h
all_following P (x ∷ xs) ys h = all_following P xs ys h.1

-- ---- lists whose rest is the same from a place on

pub next_same : {A : Type 0} (olds news : List A) (i : ℕ) (d : A) → drop i news ≡ drop i olds → get_or news i d ≡ get_or olds i d
next_same olds news i d rest =
    let here : i + 0 ≡ i = omega arith in
    ap (λ (n : ℕ). get_or news n d) (sym here) ∙ sym (get_or-drop i news 0 d) ∙ ap (λ xs. get_or xs 0 d) rest ∙ get_or-drop i olds 0 d ∙ ap (λ (n : ℕ). get_or olds n d) here

pub front_more : {A : Type 0} (olds news : List A) (i : ℕ) (d : A) → drop i news ≡ drop i olds → i < length olds → take (i + 1) olds ≡ take i olds ++ get_or news i d ∷ []
front_more olds news i d rest lt = take_more olds i d lt ∙ ap (λ x. take i olds ++ x ∷ []) (sym (next_same olds news i d rest))

pub rest_more : {A : Type 0} (olds news : List A) (i : ℕ) (new : A) → drop i news ≡ drop i olds → drop (i + 1) (set news i new) ≡ drop (i + 1) olds
rest_more olds news i new rest = drop-set-lt (i + 1) news i new (omega arith) ∙ sym (drop-drop 1 i news) ∙ ap (λ xs. drop 1 xs) rest ∙ drop-drop 1 i olds

-- ---- parts and numbers of members

pub get_front : {A : Type 0} (xs ys : List A) (i : ℕ) → i < length xs → slice_get (xs ++ ys) i ≡ slice_get xs i
get_front [] ys i within = absurd (omega arith)
get_front (x ∷ xs) ys zero within = refl
get_front (x ∷ xs) ys (suc i) within = get_front xs ys i (omega arith)

pub get_back : {A : Type 0} (xs ys : List A) (i j : ℕ) → i ≡ length xs + j → slice_get (xs ++ ys) i ≡ slice_get ys j
get_back [] ys i j is = ap (λ (n : ℕ). slice_get ys n) (omega (arith, is))
get_back (x ∷ xs) ys zero j is = absurd (omega (arith, is))
get_back (x ∷ xs) ys (suc i) j is = get_back xs ys i j (omega (arith, is))

pub get_dropped : {A : Type 0} (k : ℕ) (xs : List A) (i j : ℕ) → j ≡ k + i → slice_get (drop k xs) i ≡ slice_get xs j
get_dropped zero xs i j is = ap (λ (n : ℕ). slice_get xs n) (omega (arith, is))
get_dropped (suc k) [] i j is = refl
get_dropped (suc k) (x ∷ xs) i zero is = absurd (omega (arith, is))
get_dropped (suc k) (x ∷ xs) i (suc j) is = get_dropped k xs i j (omega (arith, is))

pub take_next : {A : Type 0} (xs : List A) (i : ℕ) (x : A) → slice_get xs i ≡ Some x → take (i + 1) xs ≡ take i xs ++ x ∷ []
take_next xs i x is = take_more xs i x (slice_get_within xs i x is) ∙ ap (λ y. take i xs ++ y ∷ []) (get_or_from_slice_get xs i x x is)

pub length-slice : (xs : List ℕ) (from to : ℕ) → to ≤ length xs → length (slice_range xs from to) ≡ to - from
length-slice xs from to within = length-take-le (to - from) (drop from xs) (omega (arith, length-drop from xs))

pub range_at : (xs ys zs : List ℕ) (from to : ℕ) → from ≡ length xs → to ≡ from + length ys → slice_range (xs ++ (ys ++ zs)) from to ≡ ys
range_at xs ys zs from to f t =
    let size : length ys ≡ to - from = omega arith in
    ap (take (to - from)) (drop_at xs (ys ++ zs) from (sym f)) ∙ take_at ys zs (to - from) size

pub enumerate_append : {A : Type 0} (n : ℕ) (xs ys : List A) → enumerate_from n (xs ++ ys) ≡ enumerate_from n xs ++ enumerate_from (n + length xs) ys
enumerate_append n [] ys = let here : n ≡ n + 0 = omega arith in ap (λ (k : ℕ). enumerate_from k ys) here
enumerate_append {A} n (x ∷ xs) ys =
    let here : (n + 1) + length xs ≡ n + length (x ∷ xs) = omega arith in
    ap (λ (zs : List (ℕ × A)). (n, x) ∷ zs) (enumerate_append (n + 1) xs ys ∙ ap (λ (k : ℕ). enumerate_from (n + 1) xs ++ enumerate_from k ys) here)
