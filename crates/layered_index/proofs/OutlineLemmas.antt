-- The layer of which rows are kept, and the rows.
use Rattle.std.proofs.Common.{◌≡◌, ℕ, zero, suc, ◌+◌, ◌-◌, ◌<◌, ◌≤◌, ◌*◌, ◌/◌, ◌^◌, inl, inr, List, [], ◌∷◌, ◌++◌, length, take, drop, map, set, Some, refl, sym, ◌∙◌, ap, subst, arith}
use Rattle.std.proofs.Common.{drop-drop}
use Rattle.std.proofs.Math.Nat.{pow-suc, pow-zero}
use Rattle.std.proofs.lemmas.Bool.{cases_lt}
use Rattle.std.proofs.lemmas.List.{length-map, length-take-le, drop-set-lt}
use Rattle.std.specs.List.{AllByRecursion}
use Rattle.layered_index.specs.declared.checkpoint.Checkpoint.{Checkpoint}
use Rattle.layered_index.specs.declared.outline.LayerEnd.{LayerEnd}
use Rattle.layered_index.specs.declared.row.Row.{Row}
use Rattle.layered_index.specs.Checkpoint.{IsInLine}
use Rattle.layered_index.specs.Layers.{layer_text, pointers, layer_above, layers_from, digit_count}
use Rattle.layered_index.specs.LayerReading.{items}
use Rattle.layered_index.specs.IndexReading.{IsIndexPart}
use Rattle.layered_index.specs.Rows.{end_of, ends_in, ends_of, layer_at, lower_texts, AreRowsOf, AreRowsAbove, last_start, HasEnd, IsDeepest}
use Rattle.layered_index.specs.Sought.{layers_left, next_layer, IsHeaded}
use Rattle.layered_index.proofs.IndexLemmas.{digit_count_zero, no_layers}
use Rattle.layered_index.proofs.LayerLemmas.{layer_above_is_in_line}
use Rattle.layered_index.proofs.CursorLemmas.{items_layer, items_none}
use Rattle.layered_index.proofs.PassLemmas.{above_some}
use Rattle.layered_index.proofs.OpenLemmas.{small_texts}
use Rattle.layered_index.proofs.GrowthLemmas.{groups_one}
use Rattle.layered_index.proofs.DigitLemmas.{below_digits}
use Rattle.layered_index.proofs.DescentLemmas.{few_above}
use Rattle.layered_index.proofs.IndexHeadLemmas.{head_digits}
use Rattle.layered_index.proofs.LastRunLemmas.{no_longer}
use Rattle.layered_index.proofs.LowerLemmas.{AreSmall, IsLower, lower_first, lower_next}

-- ---- rows written

-- those after a place stay, where a row is written to it
pub after_stay : (n : ℕ) (xs ys : List Row) (x : Row) → drop n xs ≡ drop n ys → drop (n + 1) (set xs n x) ≡ drop (n + 1) ys
after_stay n xs ys x e = drop-set-lt (n + 1) xs n x (omega arith) ∙ sym (drop-drop 1 n xs) ∙ ap (drop 1) e ∙ drop-drop 1 n ys

-- a front written over by rows that end where those did
module _ (n : ℕ) (rows front : List Row) (le : n ≤ length rows) (is : ends_in front ≡ ends_in (take n rows)) where
  as_many : length front ≡ n
  as_many = omega (arith, length-map front end_of, length-map (take n rows) end_of, ap length is, length-take-le n rows le)

  pub same_front : ends_in (take n (front ++ drop n rows)) ≡ ends_in (take n rows)
  same_front = ap ends_in (ap (λ (k : ℕ). take k (front ++ drop n rows)) (sym as_many) ∙ front_of front (drop n rows)) ∙ is
    where
      front_of : (xs ys : List Row) → take (length xs) (xs ++ ys) ≡ xs
      front_of [] ys = none ys
        where
          none : (ys : List Row) → take 0 ys ≡ []
          none ys = refl
      front_of (x ∷ xs) ys = ap (λ (zs : List Row). x ∷ zs) (front_of xs ys)

-- ---- the layers

pub at_in_line : (period height count : ℕ) (cs : List Checkpoint) → 1 ≤ period → period ≤ 64 → height ≤ count → IsInLine cs → AreSmall period count cs → IsInLine (layer_at period height cs)
at_in_line period zero count cs one small le h all = h
at_in_line period (suc height) zero cs one small le h all = absurd (omega arith)
at_in_line period (suc height) (suc count) cs one small le h all =
    at_in_line period height count (layer_above period cs) one small (omega arith) (layer_above_is_in_line period cs one small h all.0) all.1

pub some_at : (period height : ℕ) (cs : List Checkpoint) → 1 ≤ period → 0 < length cs → 0 < length (layer_at period height cs)
some_at period zero cs one some = some
some_at period (suc height) cs one some = some_at period height (layer_above period cs) one (above_some period cs one some)

pub some_digits : (period height : ℕ) (cs : List Checkpoint) → height < digit_count period (length cs) → 0 < length cs
some_digits period height [] lt = absurd (omega (arith, lt, digit_count_zero period))
some_digits period height (c ∷ cs) lt = omega arith

-- ---- above the top layer

at_above : (period height : ℕ) (cs : List Checkpoint) → layer_at period (suc height) cs ≡ layer_above period (layer_at period height cs)
at_above period zero cs = refl
at_above period (suc height) cs = at_above period height (layer_above period cs)

pub few_at : (period height : ℕ) (cs : List Checkpoint) → 1 ≤ period → length cs ≤ period ^ suc height → length (layer_at period height cs) ≤ period
few_at period zero cs one few =
    let once : 1 * period ≡ period = omega arith in
    let power : period ^ 1 ≡ period = pow-suc period 0 ∙ ap (λ (n : ℕ). n * period) (pow-zero period) ∙ once in
    omega arith
few_at period (suc height) cs one few = few_at period height (layer_above period cs) one (few_above period (period ^ suc height) cs one (omega (arith, few, pow-suc period (suc height))))

-- one checkpoint would point to the only run
above_top : (period : ℕ) (cs : List Checkpoint) → 2 ≤ period → 0 < length cs
    → (length (layer_at period (digit_count period (length cs)) cs) ≡ 1) × (last_start 0 (layer_at period (digit_count period (length cs)) cs) ≡ 0)
above_top period [] two some = absurd (omega arith)
above_top period (c ∷ cs) two some = by_digits (digit_count period (length (c ∷ cs))) refl
  where
    by_digits : (k : ℕ) → digit_count period (length (c ∷ cs)) ≡ k → (length (layer_at period k (c ∷ cs)) ≡ 1) × (last_start 0 (layer_at period k (c ∷ cs)) ≡ 0)
    by_digits zero digits = absurd (omega (arith, ap length (no_layers period (c ∷ cs) two digits)))
    by_digits (suc k) digits =
        let few : length (c ∷ cs) < period ^ suc k = subst (λ (d : ℕ). length (c ∷ cs) < period ^ d) digits (below_digits period (length (c ∷ cs)) two) in
        let one : 1 ≤ period = omega arith in
        let top = layer_at period k (c ∷ cs) in
        let single = at_above period k (c ∷ cs) ∙ ap (pointers 0) (groups_one period top (some_at period k (c ∷ cs) one (omega arith)) (few_at period k (c ∷ cs) one (omega arith))) in
        (ap length single, ap (last_start 0) single)

-- ---- passing over layers

-- what was passed, down to these layers that are left: the last of it, if any, has these bytes
pub record ArePassed (period : ℕ) (cs : List Checkpoint) (left place : ℕ) (ends texts kept : List ℕ) : Type 0 where
  pub lower : layers_left left place ends texts ≡ Some (lower_texts period left cs)
  pub within : left ≤ digit_count period (length cs)
  pub is : left < digit_count period (length cs) → kept ≡ layer_text period (layer_at period left cs)
  pub none : left ≡ digit_count period (length cs) → kept ≡ []

-- nothing yet
pub passed_none : (period : ℕ) (bytes : List ℕ) (count : ℕ) (ends texts kept : List ℕ) (cs : List Checkpoint) → IsHeaded period bytes count ends texts → length bytes < 2 ^ 64
    → IsIndexPart period bytes cs → kept ≡ [] → ArePassed period cs count 0 ends texts kept
passed_none period bytes count ends texts kept cs head fits is empty =
    let digits = head_digits period bytes count ends texts cs head is in
    record { lower = lower_first period bytes count ends texts cs head fits is; within = omega (arith, digits); is = λ lt. absurd (omega (arith, digits, lt)); none = λ _. empty }

-- one more
pub passed_next : (period left place : ℕ) (ends texts kept layer : List ℕ) (end : ℕ) (more_ends more : List ℕ) (cs : List Checkpoint) → 0 < left → ArePassed period cs left place ends texts kept
    → next_layer place ends texts ≡ Some (layer, end, more_ends, more) → ArePassed period cs (left - 1) end more_ends more layer
passed_next period left place ends texts kept layer end more_ends more cs some are next =
    let on = lower_next period left place ends texts layer end more_ends more cs some are.lower next in
    record { lower = on.others; within = omega (arith, are.within); is = λ _. on.text; none = λ e. absurd (omega (arith, e, are.within, some)) }

-- ---- passing over layers that there is room for

-- The last of what was passed has this many checkpoints, no more than there is room for, and ends so.
pub record HaveRoom (period room : ℕ) (cs : List Checkpoint) (left place : ℕ) (ends texts kept : List ℕ) (count : ℕ) (last : LayerEnd) : Type 0 where
  pub passed : ArePassed period cs left place ends texts kept
  pub counted : count ≡ length (items 0 0 0 kept)
  pub fits : count ≤ room
  pub last_is : 0 < length cs → HasEnd (layer_at period left cs) last

pub room_first : (period room : ℕ) (bytes : List ℕ) (count : ℕ) (ends texts kept : List ℕ) (cs : List Checkpoint) → IsHeaded period bytes count ends texts → length bytes < 2 ^ 64
    → IsIndexPart period bytes cs → kept ≡ [] → HaveRoom period room cs count 0 ends texts kept 0 (record { count = 1; start = 0 })
room_first period room bytes count ends texts kept cs head fits is empty = record {
  passed = passed_none period bytes count ends texts kept cs head fits is empty;
  counted = sym (ap length (ap (items 0 0 0) empty ∙ items_none 0 0));
  fits = omega arith;
  last_is = λ some. subst (λ (n : ℕ). (length (layer_at period n cs) ≡ 1) × (last_start 0 (layer_at period n cs) ≡ 0)) (sym (head_digits period bytes count ends texts cs head is))
      (above_top period cs head.two some);
}

-- where no more are passed, the last of them is the deepest
pub passed_last : (period room : ℕ) (bytes : List ℕ) (left place : ℕ) (ends texts kept : List ℕ) (count : ℕ) (last : LayerEnd) (cs : List Checkpoint) → 2 ≤ period → period ≤ 64 → length bytes < 2 ^ 64
    → IsIndexPart period bytes cs
    → HaveRoom period room cs left place ends texts kept count last → (0 < left → room < length (layer_at period (left - 1) cs)) → IsDeepest period room cs left (items 0 0 0 kept)
passed_last period room bytes left place ends texts kept count last cs two small fits is are more =
    let one : 1 ≤ period = omega arith in
    let line = at_in_line period left (digit_count period (length cs)) cs one small are.passed.within is.0 (small_texts period (2 ^ 64) bytes cs fits is) in
    record {
      within = are.passed.within;
      is = λ lt. ap (items 0 0 0) (are.passed.is lt) ∙ items_layer period (layer_at period left cs) one small line;
      none = λ e. ap (items 0 0 0) (are.passed.none e) ∙ items_none 0 0;
      fits = omega (arith, are.counted, are.fits);
      last = more;
    }

-- how a layer ends follows from how the one above it ends
abbrev pub EndsBelow : ℕ → List ℕ → LayerEnd → LayerEnd → Type 0
EndsBelow period layer above last = (xs : List Checkpoint) → IsInLine xs → 0 < length xs → layer ≡ layer_text period xs → HasEnd (layer_above period xs) above → HasEnd xs last

-- the next layer
module _ (period room : ℕ) (bytes : List ℕ) (left place : ℕ) (ends texts kept layer : List ℕ) (end : ℕ) (more_ends more : List ℕ) (count : ℕ) (above last : LayerEnd) (cs : List Checkpoint)
    (two : 2 ≤ period) (small : period ≤ 64) (fits : length bytes < 2 ^ 64) (is : IsIndexPart period bytes cs) (left_some : 0 < left)
    (are : HaveRoom period room cs left place ends texts kept count above) (next : next_layer place ends texts ≡ Some (layer, end, more_ends, more))
    (ends_below : EndsBelow period layer above last) where
  abbrev this : List Checkpoint
  this = layer_at period (left - 1) cs

  line : IsInLine this
  line = at_in_line period (left - 1) (digit_count period (length cs)) cs (omega arith) small (omega (arith, are.passed.within)) is.0 (small_texts period (2 ^ 64) bytes cs fits is)

  on : IsLower period (left - 1) cs layer end more_ends more
  on = lower_next period left place ends texts layer end more_ends more cs left_some are.passed.lower next

  end_is : HasEnd this last
  end_is =
      let some = some_digits period (left - 1) cs (omega (arith, are.passed.within, left_some)) in
      let one_up : left ≡ suc (left - 1) = omega arith in
      let up : layer_at period left cs ≡ layer_above period this = ap (λ (n : ℕ). layer_at period n cs) one_up ∙ at_above period (left - 1) cs in
      ends_below this line (some_at period (left - 1) cs (omega arith) some) on.text (subst (λ (xs : List Checkpoint). HasEnd xs above) up (are.last_is some))

  -- it has more checkpoints than there is room for
  pub next_is_longer : room < last.count → room < length (layer_at period (left - 1) cs)
  next_is_longer more_than = omega (arith, more_than, end_is.0)

  -- it is passed
  pub room_next : last.count ≤ room → HaveRoom period room cs (left - 1) end more_ends more layer last.count last
  room_next few = record {
    passed = passed_next period left place ends texts kept layer end more_ends more cs left_some are.passed next;
    counted = sym (ap length (ap (items 0 0 0) on.text ∙ items_layer period this (omega arith) small line) ∙ end_is.0);
    fits = few;
    last_is = λ _. end_is;
  }

-- ---- where there is room for half as many as there are bytes

at_fits : (period most height count : ℕ) (cs : List Checkpoint) → height < count → AllByRecursion (λ t. length t < most) (map (layer_text period) (layers_from period count cs))
    → length (layer_text period (layer_at period height cs)) < most
at_fits period most zero zero cs lt all = absurd (omega arith)
at_fits period most zero (suc count) cs lt all = all.0
at_fits period most (suc height) zero cs lt all = absurd (omega arith)
at_fits period most (suc height) (suc count) cs lt all = at_fits period most height count (layer_above period cs) (omega arith) all.1

-- the bottom layer is the deepest
pub bottom_fits : (period : ℕ) (bytes : List ℕ) (height : ℕ) (cs layer : List Checkpoint) → 2 ≤ period → IsIndexPart period bytes cs → IsDeepest period (length bytes / 2) cs height layer → layer ≡ cs
bottom_fits period bytes zero cs layer two is deepest = elim (cases_lt 0 (digit_count period (length cs))) [
  | inl lt ↦ deepest.is lt
  | inr le ↦
      let none : digit_count period (length cs) ≡ 0 = omega (arith, le) in
      deepest.none (sym none) ∙ sym (no_layers period cs two none)
]
bottom_fits period bytes (suc height) cs layer two is deepest =
    let one_up : suc height - 1 ≡ height = omega arith in
    let longer = subst (λ (n : ℕ). length bytes / 2 < length (layer_at period n cs)) one_up (deepest.last (omega arith)) in
    let text = at_fits period (suc (length bytes)) height (digit_count period (length cs)) cs (omega (arith, deepest.within)) (small_texts period (suc (length bytes)) bytes cs (omega arith) is) in
    absurd (omega (arith, longer, text, no_longer period (layer_at period height cs) (omega arith)))

-- ---- the rows of the layer

pub rows_above : (period room height : ℕ) (cs layer : List Checkpoint) (rows : List Row) → 1 ≤ period → IsDeepest period room cs height layer → AreRowsOf layer rows
    → AreRowsAbove period height cs rows
rows_above period room height cs layer [] one is are = elim (cases_lt height (digit_count period (length cs))) [
  | inl lt ↦
      let none : length layer ≡ 0 = sym (length-map layer ends_of) ∙ sym (ap length are) in
      let some = some_at period height cs one (some_digits period height cs lt) in
      absurd (omega (arith, some, none, ap length (is.is lt)))
  | inr le ↦ omega (arith, is.within)
]
rows_above period room height cs layer (row ∷ rows) one is are = elim (cases_lt height (digit_count period (length cs))) [
  | inl lt ↦ are ∙ ap (map ends_of) (is.is lt)
  | inr le ↦
      let some : length (ends_in (row ∷ rows)) ≡ length layer = ap length are ∙ length-map layer ends_of in
      absurd (omega (arith, some, ap length (is.none (omega (arith, is.within)))))
]
