-- Cutting the layers of an index one after the other, as loops do.
use Rattle.std.proofs.Common.{◌≡◌, ℕ, zero, suc, ◌+◌, ◌-◌, ◌<◌, ◌≤◌, ◌^◌, Bool, true, false, cond, ltb, List, [], ◌∷◌, length, take, drop, Option, Some, None, refl, sym, ◌∙◌, ap, arith}
use Rattle.std.proofs.lemmas.Bool.{le-ltb}
use Rattle.std.specs.Prelude.{is_some, ◌==◌}
use Rattle.std.specs.List.{concat}
use Rattle.store_base.specs.VInt.{◌>>=◌, number_below}
use Rattle.store_base.specs.ReadingLemmas.{bind_some, some_is}
use Rattle.layered_index.proofs.SplitLemmas.{texts_read}
use Rattle.layered_index.specs.IndexReading.{numbers_at, texts_at, ends_at, split_at}
use Rattle.layered_index.specs.Sought.{layers_left, next_layer, after_numbers}
use Rattle.layered_index.proofs.CursorLemmas.{below_shorter}
use Rattle.layered_index.proofs.IndexHeadLemmas.{put_front, is_next, none_left}

-- ---- the next layer, and those after it

abbrev pub before : List ℕ → Option (List (List ℕ)) → Option (List (List ℕ))
before layer others = others >>= λ ts. Some (layer ∷ ts)

passed_on : {X Y : Type 0} (b c : Bool) (x : X) (f : X → Option Y) → cond b None (cond c None (f x)) ≡ (cond b None (cond c None (Some x)) >>= f)
passed_on true c x f = refl
passed_on false true x f = refl
passed_on false false x f = refl

no_others : {Y : Type 0} (b c : Bool) → ◌≡◌ {A = Option Y} None (cond b None (cond c None None))
no_others true c = refl
no_others false true = refl
no_others false false = refl

-- The layers that are left are the next one, and those after it.
pub left_next : (count place : ℕ) (ends texts : List ℕ)
    → layers_left (suc count) place ends texts ≡ (next_layer place ends texts >>= λ x. before x.0 (layers_left count x.1 x.2 x.3))
unfolding layers_left next_layer numbers_at texts_at
left_next count place ends texts = by_number (number_below (2 ^ 64) ends)
  where
    next_of : Option (ℕ × List ℕ) → Option (List ℕ × ℕ × List ℕ × List ℕ)
    next_of m = m >>= λ n. cond (ltb n.0 place) None (cond (ltb (length texts) (n.0 - place)) None (Some (take (n.0 - place) texts, n.0, n.1, drop (n.0 - place) texts)))

    by_numbers : (n : ℕ) (rest : List ℕ) (o : Option (List ℕ × List ℕ)) → (put_front n o >>= λ ns. texts_at place ns.0 texts)
        ≡ cond (ltb n place) None (cond (ltb (length texts) (n - place)) None (before (take (n - place) texts) (o >>= λ ns. texts_at n ns.0 (drop (n - place) texts))))
    by_numbers n rest None = no_others (ltb n place) (ltb (length texts) (n - place))
    by_numbers n rest (Some ns) = refl

    by_number : (m : Option (ℕ × List ℕ)) → ((m >>= λ n. put_front n.0 (numbers_at count n.1)) >>= λ ns. texts_at place ns.0 texts)
        ≡ (next_of m >>= λ x. before x.0 (numbers_at count x.2 >>= λ ns. texts_at x.1 ns.0 x.3))
    by_number None = refl
    by_number (Some n) = by_numbers n.0 n.1 (numbers_at count n.1)
        ∙ passed_on {X = List ℕ × ℕ × List ℕ × List ℕ} (ltb n.0 place) (ltb (length texts) (n.0 - place)) (take (n.0 - place) texts, n.0, n.1, drop (n.0 - place) texts)
        (λ x. before x.0 (numbers_at count x.2 >>= λ ns. texts_at x.1 ns.0 x.3))

-- ---- whether all can be cut

-- they can, if those after the next can
pub cut_on : (count i place : ℕ) (ends texts layer : List ℕ) (end : ℕ) (more_ends more : List ℕ) (all : Bool) → i < count → next_layer place ends texts ≡ Some (layer, end, more_ends, more)
    → is_some (layers_left (count - i) place ends texts) ≡ all → is_some (layers_left (count - (i + 1)) end more_ends more) ≡ all
cut_on count i place ends texts layer end more_ends more all lt e so_far =
    let k : count - i ≡ suc (count - (i + 1)) = omega arith in
    let one : layers_left (count - i) place ends texts ≡ before layer (layers_left (count - (i + 1)) end more_ends more) = ap (λ (n : ℕ). layers_left n place ends texts) k
    ∙ left_next (count - (i + 1)) place ends texts ∙ ap (λ (o : Option (List ℕ × ℕ × List ℕ × List ℕ)). o >>= λ x. before x.0 (layers_left (count - (i + 1)) x.1 x.2 x.3)) e in
    as_many (layers_left (count - (i + 1)) end more_ends more) ∙ sym (ap is_some one) ∙ so_far
  where
    as_many : (o : Option (List (List ℕ))) → is_some o ≡ is_some (before layer o)
    as_many None = refl
    as_many (Some ts) = refl

-- they can't, where there is no next one
pub cut_ends : (count i place : ℕ) (ends texts : List ℕ) (all : Bool) → i < count → next_layer place ends texts ≡ None → is_some (layers_left (count - i) place ends texts) ≡ all → false ≡ all
cut_ends count i place ends texts all lt e so_far =
    let k : count - i ≡ suc (count - (i + 1)) = omega arith in
    let none : layers_left (count - i) place ends texts ≡ None = ap (λ (n : ℕ). layers_left n place ends texts) k
    ∙ left_next (count - (i + 1)) place ends texts ∙ ap (λ (o : Option (List ℕ × ℕ × List ℕ × List ℕ)). o >>= λ x. before x.0 (layers_left (count - (i + 1)) x.1 x.2 x.3)) e in
    sym (ap is_some none) ∙ so_far

pub cut_done : (count i place : ℕ) (ends texts : List ℕ) (all : Bool) → count ≤ i → is_some (layers_left (count - i) place ends texts) ≡ all → (length texts == 0) ≡ all
unfolding layers_left numbers_at texts_at
cut_done count i place ends texts all le so_far =
    let k : count - i ≡ 0 = omega arith in
    at_end (length texts == 0) ∙ sym (ap (λ (n : ℕ). is_some (layers_left n place ends texts)) k) ∙ so_far
  where
    at_end : (b : Bool) → b ≡ is_some {T = List (List ℕ)} (cond b (Some []) None)
    at_end true = refl
    at_end false = refl

-- ---- what is cut

-- as many layers,
pub left_count : (count place : ℕ) (ends texts : List ℕ) (ts : List (List ℕ)) → layers_left count place ends texts ≡ Some ts → length ts ≡ count
left_count zero place ends texts ts e = ap length (none_left place ends texts ts e).0
left_count (suc count) place ends texts ts e =
    let next = is_next count place ends texts ts e in
    ap length next.parts ∙ ap suc (left_count count next.end next.more_ends next.more next.others next.left)

-- and all bytes
pub left_is : (count place : ℕ) (ends texts : List ℕ) (ts : List (List ℕ)) → layers_left count place ends texts ≡ Some ts → texts ≡ concat ts
unfolding layers_left
left_is count place ends texts ts e =
    let a = bind_some (numbers_at count ends) (λ ns. texts_at place ns.0 texts) ts e in
    (texts_read place a.0.0 texts ts a.2).1

numbers_take : (count : ℕ) (bytes : List ℕ) (x : List ℕ × List ℕ) → numbers_at count bytes ≡ Some x → count + length x.1 ≤ length bytes
unfolding numbers_at
numbers_take zero bytes x e = omega (arith, ap (λ (y : List ℕ × List ℕ). length y.1) (some_is ([], bytes) x e))
numbers_take (suc count) bytes x e =
    let a = bind_some (number_below (2 ^ 64) bytes) (λ n. numbers_at count n.1 >>= λ others. Some (n.0 ∷ others.0, others.1)) x e in
    let b = bind_some (numbers_at count a.0.1) (λ others. Some (a.0.0 ∷ others.0, others.1)) x a.2 in
    omega (arith, below_shorter (2 ^ 64) bytes a.0 a.1, numbers_take count a.0.1 b.0 b.1, ap (λ (y : List ℕ × List ℕ). length y.1) (some_is (a.0.0 ∷ b.0.0, b.0.1) x b.2))

-- an index is cut after its head
pub split_after_head : (bytes : List ℕ) (count : ℕ) (ends texts : List ℕ) → number_below 65 bytes ≡ Some (count, ends) → after_numbers count ends ≡ Some texts
    → split_at bytes ≡ layers_left count 0 ends texts
unfolding split_at ends_at layers_left
split_after_head bytes count ends texts head following =
    let a = bind_some (numbers_at count ends) (λ ns. Some ns.1) texts following in
    let long : count ≤ length ends = omega (arith, numbers_take count ends a.0 a.1) in
    rw (head, le-ltb (length ends) count long, a.1) (ap (texts_at 0 a.0.0) (some_is a.0.1 texts a.2))

-- there is nothing to cut without one
pub no_head : (bytes : List ℕ) → number_below 65 bytes ≡ None → split_at bytes ≡ None
unfolding split_at ends_at
no_head bytes none = rw none refl

pub no_ends : (bytes : List ℕ) (count : ℕ) (ends : List ℕ) → number_below 65 bytes ≡ Some (count, ends) → after_numbers count ends ≡ None → split_at bytes ≡ None
unfolding split_at ends_at
no_ends bytes count ends head none = rw head (by_read (numbers_at count ends) none)
  where
    by_read : (o : Option (List ℕ × List ℕ)) → (o >>= λ ns. Some ns.1) ≡ None
        → ◌≡◌ {A = Option (List (List ℕ))} (cond (ltb (length ends) count) None o >>= λ x. texts_at 0 x.0 x.1) None
    by_read (Some ns) e = cc
    by_read None e = by_test (ltb (length ends) count)
      where
        by_test : (b : Bool) → ◌≡◌ {A = Option (List (List ℕ))} (cond b None None >>= λ (x : List ℕ × List ℕ). texts_at 0 x.0 x.1) None
        by_test true = refl
        by_test false = refl

-- the layers lie within the bytes
pub head_within : (bytes : List ℕ) (count : ℕ) (ends texts : List ℕ) → number_below 65 bytes ≡ Some (count, ends) → after_numbers count ends ≡ Some texts → length texts ≤ length bytes
head_within bytes count ends texts head following =
    let a = bind_some (numbers_at count ends) (λ ns. Some ns.1) texts following in
    omega (arith, below_shorter 65 bytes (count, ends) head, numbers_take count ends a.0 a.1, ap length (some_is a.0.1 texts a.2))
