-- From the top down each layer leads to the first checkpoint past a target.
use Rattle.std.proofs.Common.{◌≡◌, ℕ, zero, suc, ◌+◌, ◌-◌, ◌*◌, ◌<◌, ◌≤◌, ◌^◌, inl, inr, true, false, List, [], ◌∷◌, ◌++◌, length, map, reverse, Option, Some, None, refl, sym, ◌∙◌, ap, subst, arith}
use Rattle.std.proofs.lemmas.Bool.{cases_lt}
use Rattle.std.proofs.lemmas.List.{append-nil}
use Rattle.std.proofs.lemmas.Nat.{mul-le}
use Rattle.std.proofs.Math.Nat.{pow-suc, pow-zero}
use Rattle.std.specs.Prelude.{is_some}
use Rattle.std.specs.List.{AllByRecursion}
use Rattle.store_base.specs.ReadingLemmas.{some_is}
use Rattle.layered_index.specs.declared.checkpoint.Checkpoint.{Checkpoint}
use Rattle.layered_index.specs.Checkpoint.{IsInLine, first_past}
use Rattle.layered_index.specs.Layers.{groups, layer_text, layer_above, digit_count, layers_from}
use Rattle.layered_index.specs.Sought.{IsFoundAbove, layers_left, next_layer, from_pointer, AreOn}
use Rattle.layered_index.proofs.IndexLemmas.{digit_count_zero, no_layers}
use Rattle.layered_index.proofs.DigitLemmas.{below_digits}
use Rattle.layered_index.proofs.LayerLemmas.{layer_above_is_in_line, length-groups, length-layer_above}
use Rattle.layered_index.proofs.PassLemmas.{turn, above_some}
use Rattle.layered_index.proofs.PointedLemmas.{none_pointed}
use Rattle.layered_index.proofs.RestOfLayerLemmas.{rest_found}
use Rattle.layered_index.proofs.IndexHeadLemmas.{is_next, none_left, none_is_some}

-- ---- from the top down

-- These layers lead from what was found above them to the first past the target in the bottom layer. It was found in these
-- bytes.
abbrev pub Leads : ℕ → ℕ → List Checkpoint → Option Checkpoint → List ℕ → List (List ℕ) → Type 0
Leads period target bottom found run [] = (first_past bottom target ≡ found) × AreOn bottom target found run
Leads period target bottom found run (t ∷ ts) = (cs : List Checkpoint) × IsInLine cs × (t ≡ layer_text period cs) × IsFoundAbove period target found cs
    × (first_past cs target ≡ None → first_past bottom target ≡ None)
    × ((c : Checkpoint) → first_past cs target ≡ Some c → Leads period target bottom (Some c) (from_pointer t found) ts)

pub few_above : (period power : ℕ) (cs : List Checkpoint) → 1 ≤ period → length cs ≤ power * period → length (layer_above period cs) ≤ power
few_above period power cs one few =
    let n = length (groups period cs) in
    let len = (length-groups period cs one).1 in
    elim (cases_lt power n) [
      | inl more ↦ absurd (omega (arith, mul-le (suc power) period n period more (omega arith), len))
      | inr le ↦ omega (arith, length-layer_above period cs)
    ]

leads_down : (period target k : ℕ) (bottom cs : List Checkpoint) (run : List ℕ) (us : List (List ℕ)) → 2 ≤ period → period ≤ 64 → 0 < length cs → length cs ≤ period ^ suc k → IsInLine cs
    → AllByRecursion (λ t. length t < 2 ^ 64) (map (layer_text period) (layers_from period (suc k) cs)) → (first_past cs target ≡ None → first_past bottom target ≡ None)
    → ((p : Option Checkpoint) (c : Checkpoint) → IsFoundAbove period target p cs → first_past cs target ≡ Some c → Leads period target bottom (Some c) (from_pointer (layer_text period cs) p) us)
    → Leads period target bottom None run (reverse (map (layer_text period) (layers_from period (suc k) cs)) ++ us)
leads_down period target zero bottom cs run us two small some few h all none found =
    let once : 1 * period ≡ period = omega arith in
    let power : period ^ 1 ≡ period = pow-suc period 0 ∙ ap (λ (n : ℕ). n * period) (pow-zero period) ∙ once in
    let top : IsFoundAbove period target None cs = (some, omega arith) in
    subst (Leads period target bottom None run) (sym (turn (layer_text period cs) [] us)) (cs, h, refl, top, none, λ c e. found None c top e)
leads_down period target (suc k) bottom cs run us two small some few h all none found =
    let above = layer_above period cs in
    let one : 1 ≤ period = omega arith in
    subst (Leads period target bottom None run) (sym (turn (layer_text period cs) (map (layer_text period) (layers_from period (suc k) above)) us))
    (leads_down period target k bottom above run (layer_text period cs ∷ us) two small (above_some period cs one some)
    (few_above period (period ^ suc k) cs one (omega (arith, few, pow-suc period (suc k))))
    (layer_above_is_in_line period cs one small h all.0) all.1 (λ e. none (none_pointed period target cs one h e)) (λ q p a f. (cs, h, refl, f, none, λ c e. found (Some p) c f e)))

pub leads_all : (period target count : ℕ) (cs : List Checkpoint) (run : List ℕ) → 2 ≤ period → period ≤ 64 → IsInLine cs → digit_count period (length cs) ≡ count
    → AllByRecursion (λ t. length t < 2 ^ 64) (map (layer_text period) (layers_from period count cs))
    → Leads period target cs None run (reverse (map (layer_text period) (layers_from period count cs)))
leads_all period target zero cs run two small h digits all = (ap (λ (xs : List Checkpoint). first_past xs target) (no_layers period cs two digits), tt)
leads_all period target (suc k) [] run two small h digits all = absurd (omega (arith, digit_count_zero period))
leads_all period target (suc k) (c ∷ cs) run two small h digits all =
    let few : length (c ∷ cs) < period ^ suc k = subst (λ (d : ℕ). length (c ∷ cs) < period ^ d) digits (below_digits period (length (c ∷ cs)) two) in
    subst (Leads period target (c ∷ cs) None run) (append-nil (reverse (map (layer_text period) (layers_from period (suc k) (c ∷ cs)))))
    (leads_down period target k (c ∷ cs) (c ∷ cs) run [] two small (omega arith) (omega arith) h all (λ e. e)
    (λ p d above e. (e, rest_found period target (c ∷ cs) p (omega arith) small h above)))

-- what the loop of a seek keeps: the layers that are left lead to the answer
abbrev pub LeadsOn : ℕ → ℕ → List Checkpoint → Option Checkpoint → List ℕ → Option (List (List ℕ)) → Type 0
LeadsOn period target bottom found run left = (ts : List (List ℕ)) × (left ≡ Some ts) × Leads period target bottom found run ts

-- ---- the loop of a seek

-- there is a next layer
pub leads_next : (period target : ℕ) (bottom : List Checkpoint) (found : Option Checkpoint) (run : List ℕ) (count i place : ℕ) (ends texts : List ℕ) → i < count → next_layer place ends texts ≡ None
    → LeadsOn period target bottom found run (layers_left (count - i) place ends texts) → ⊥
leads_next period target bottom found run count i place ends texts lt none leads =
    let k : count - i ≡ suc (count - (i + 1)) = omega arith in
    let next = is_next (count - (i + 1)) place ends texts leads.0 (ap (λ (n : ℕ). layers_left n place ends texts) (sym k) ∙ leads.1) in
    none_is_some (next_layer place ends texts) none next.next

-- what is known of it, and of the layers after it
record IsLed (period target : ℕ) (bottom : List Checkpoint) (found : Option Checkpoint) (count i : ℕ) (layer : List ℕ) (end : ℕ) (more_ends more : List ℕ) : Type 0 where
  list : List Checkpoint
  in_line : IsInLine list
  text : layer ≡ layer_text period list
  above : IsFoundAbove period target found list
  none : first_past list target ≡ None → first_past bottom target ≡ None
  goes_on : (c : Checkpoint) → first_past list target ≡ Some c → LeadsOn period target bottom (Some c) (from_pointer layer found) (layers_left (count - (i + 1)) end more_ends more)

led : (period target : ℕ) (bottom : List Checkpoint) (found : Option Checkpoint) (run : List ℕ) (count i place : ℕ) (ends texts layer : List ℕ) (end : ℕ) (more_ends more : List ℕ) → i < count
    → next_layer place ends texts ≡ Some (layer, end, more_ends, more) → LeadsOn period target bottom found run (layers_left (count - i) place ends texts)
    → IsLed period target bottom found count i layer end more_ends more
led period target bottom found run count i place ends texts layer end more_ends more lt e leads =
    let k : count - i ≡ suc (count - (i + 1)) = omega arith in
    let next = is_next (count - (i + 1)) place ends texts leads.0 (ap (λ (n : ℕ). layers_left n place ends texts) (sym k) ∙ leads.1) in
    let same = some_is (next.layer, next.end, next.more_ends, next.more) (layer, end, more_ends, more) (sym next.next ∙ e) in
    let down = subst (Leads period target bottom found run) next.parts leads.2 in
    record {
      list = down.0;
      in_line = down.1;
      text = sym (ap (λ (x : List ℕ × ℕ × List ℕ × List ℕ). x.0) same) ∙ down.2;
      above = down.3;
      none = down.4;
      goes_on = λ c f. (
        next.others,
        ap (λ (x : List ℕ × ℕ × List ℕ × List ℕ). layers_left (count - (i + 1)) x.1 x.2 x.3) (sym same) ∙ next.left,
        subst (λ (t : List ℕ). Leads period target bottom (Some c) (from_pointer t found) next.others) (ap (λ (x : List ℕ × ℕ × List ℕ × List ℕ). x.0) same) (down.5 c f),
      );
    }

-- what the seek of a layer answers
abbrev pub SeeksLayer : ℕ → ℕ → List ℕ → Option Checkpoint → Option (Option Checkpoint) → Type 0
SeeksLayer period target layer found result = (cs : List Checkpoint) → IsInLine cs → layer ≡ layer_text period cs → IsFoundAbove period target found cs → result ≡ Some (first_past cs target)

pub leads_sought : (period target : ℕ) (bottom : List Checkpoint) (found : Option Checkpoint) (run : List ℕ) (count i place : ℕ) (ends texts layer : List ℕ) (end : ℕ) (more_ends more : List ℕ)
    (result : Option (Option Checkpoint))
    → i < count → next_layer place ends texts ≡ Some (layer, end, more_ends, more) → LeadsOn period target bottom found run (layers_left (count - i) place ends texts)
    → SeeksLayer period target layer found result → result ≡ None → ⊥
leads_sought period target bottom found run count i place ends texts layer end more_ends more result lt e leads seeks none =
    let l = led period target bottom found run count i place ends texts layer end more_ends more lt e leads in
    none_is_some result none (seeks l.list l.in_line l.text l.above)

pub leads_to_none : (period target : ℕ) (bottom : List Checkpoint) (found next : Option Checkpoint) (run : List ℕ) (count i place : ℕ) (ends texts layer : List ℕ) (end : ℕ) (more_ends more : List ℕ)
    → i < count → next_layer place ends texts ≡ Some (layer, end, more_ends, more) → is_some next ≡ false → LeadsOn period target bottom found run (layers_left (count - i) place ends texts)
    → SeeksLayer period target layer found (Some next) → first_past bottom target ≡ None
leads_to_none period target bottom found (Some c) run count i place ends texts layer end more_ends more lt e none leads seeks = absurd (cc)
leads_to_none period target bottom found None run count i place ends texts layer end more_ends more lt e none leads seeks =
    let l = led period target bottom found run count i place ends texts layer end more_ends more lt e leads in
    l.none (sym (some_is None (first_past l.list target) (seeks l.list l.in_line l.text l.above)))

pub leads_on : (period target : ℕ) (bottom : List Checkpoint) (found next : Option Checkpoint) (run : List ℕ) (count i place : ℕ) (ends texts layer : List ℕ) (end : ℕ) (more_ends more : List ℕ)
    → i < count → next_layer place ends texts ≡ Some (layer, end, more_ends, more) → is_some next ≡ true → LeadsOn period target bottom found run (layers_left (count - i) place ends texts)
    → SeeksLayer period target layer found (Some next) → LeadsOn period target bottom next (from_pointer layer found) (layers_left (count - (i + 1)) end more_ends more)
leads_on period target bottom found None run count i place ends texts layer end more_ends more lt e some leads seeks = absurd (cc)
leads_on period target bottom found (Some c) run count i place ends texts layer end more_ends more lt e some leads seeks =
    let l = led period target bottom found run count i place ends texts layer end more_ends more lt e leads in
    l.goes_on c (sym (some_is (Some c) (first_past l.list target) (seeks l.list l.in_line l.text l.above)))

-- after the last layer
pub leads_last : (period target : ℕ) (bottom : List Checkpoint) (found : Option Checkpoint) (run : List ℕ) (count i place : ℕ) (ends texts : List ℕ) → count ≤ i
    → LeadsOn period target bottom found run (layers_left (count - i) place ends texts) → (first_past bottom target ≡ found) × AreOn bottom target found run × (length texts ≡ 0)
leads_last period target bottom found run count i place ends texts le leads =
    let k : count - i ≡ 0 = omega arith in
    let none = none_left place ends texts leads.0 (ap (λ (n : ℕ). layers_left n place ends texts) (sym k) ∙ leads.1) in
    let last : Leads period target bottom found run [] = subst (Leads period target bottom found run) none.0 leads.2 in
    (last.0, last.1, none.1)

-- at most a period for one more layer
pub one_more_counted : (steps before old period i : ℕ) → steps ≤ before + period → before ≤ old + period * i → steps ≤ old + period * (i + 1)
one_more_counted steps before old period i h so_far = omega (arith, h, so_far)
