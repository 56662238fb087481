-- Texts that are layers, each below the one before it, are the layers of one list.
use Rattle.std.proofs.Common.{◌≡◌, ℕ, zero, suc, ◌*◌, ◌<◌, ◌≤◌, ◌^◌, List, [], ◌∷◌, ◌++◌, length, map, reverse, Option, Some, None, refl, sym, ◌∙◌, ap, subst, arith, append_assoc, length-append}
use Rattle.std.proofs.lemmas.List.{reverse-append}
use Rattle.std.specs.Prelude.{◌↔◌, IsSome, is_some}
use Rattle.std.proofs.Math.Nat.{pow-le-pow_left}
use Rattle.std.specs.List.{flat_map, AllByRecursion}
use Rattle.store_base.specs.Serialize.{IsBytes}
use Rattle.layered_index.specs.declared.checkpoint.Checkpoint.{Checkpoint}
use Rattle.layered_index.specs.Checkpoint.{IsInLine, checkpoint_block}
use Rattle.layered_index.specs.Layers.{groups, layer_text, layer_above, digit_count, layers_from, layers}
use Rattle.layered_index.specs.LayerReading.{items, len_at, pointers_at}
use Rattle.layered_index.specs.IndexReading.{AreLayersBelow, last_items}
use Rattle.layered_index.proofs.LayerLemmas.{layer_above_is_in_line, length-groups, length-layer_above}
use Rattle.layered_index.proofs.IndexLemmas.{digit_count_zero, digit_count-le, no_layers}
use Rattle.layered_index.proofs.GroupLemmas.{groups_joined}
use Rattle.layered_index.proofs.BlockReadingLemmas.{length-block-ge}
use Rattle.layered_index.proofs.CursorLemmas.{items_layer}
use Rattle.layered_index.proofs.LayerTextLemmas.{layer_read, layer_again, pointers_layer}

-- ---- from the bottom up

-- each is a layer, and points to the runs of the one below it
abbrev pub Rises : ℕ → List ℕ → List (List ℕ) → Type 0
Rises period below [] = Unit {0}
Rises period below (t ∷ ts) = IsSome (len_at period t) × (items 0 0 0 t ≡ pointers_at 0 below) × Rises period t ts

abbrev pub AreLayersAbove : ℕ → List (List ℕ) → Type 0
AreLayersAbove period [] = Unit {0}
AreLayersAbove period (t ∷ ts) = IsSome (len_at period t) × Rises period t ts

-- the list that the first gives
abbrev pub first_items : List (List ℕ) → List Checkpoint
first_items [] = []
first_items (t ∷ ts) = items 0 0 0 t

pub turn : (t : List ℕ) (ts us : List (List ℕ)) → reverse (t ∷ ts) ++ us ≡ reverse ts ++ t ∷ us
turn t ts us = ap (λ (vs : List (List ℕ)). vs ++ us) (reverse-append (t ∷ []) ts) ∙ append_assoc (reverse ts) (t ∷ []) us

below_or_above : (period : ℕ) (a : List ℕ) (ts us : List (List ℕ)) → (AreLayersBelow period (Some (items 0 0 0 a)) ts × AreLayersAbove period (a ∷ us)) ↔ AreLayersAbove period (reverse ts ++ a ∷ us)
below_or_above period a [] us = (λ h. h.1, λ h. (tt, h))
below_or_above period a (t ∷ ts) us =
    let others = below_or_above period t ts (a ∷ us) in (
      λ h. subst (AreLayersAbove period) (sym (turn t ts (a ∷ us))) (others.0 (h.0.1, (h.0.0.0, (h.1.0, h.0.0.1, h.1.1)))),
      λ h.
          let both = others.1 (subst (AreLayersAbove period) (turn t ts (a ∷ us)) h) in
          (((both.1.0, both.1.1.1), both.0), (both.1.1.0, both.1.1.2)),
    )

-- Layers from the top down are layers from the bottom up.
pub turned : (period : ℕ) (ts : List (List ℕ)) → AreLayersBelow period None ts ↔ AreLayersAbove period (reverse ts)
turned period [] = (λ h. tt, λ h. tt)
turned period (t ∷ ts) =
    let others = below_or_above period t ts [] in
    let same : reverse (t ∷ ts) ≡ reverse ts ++ t ∷ [] = reverse-append (t ∷ []) ts in (
      λ h. subst (AreLayersAbove period) (sym same) (others.0 (h.1, (h.0.0, tt))),
      λ h.
          let both = others.1 (subst (AreLayersAbove period) same h) in
          ((both.1.0, tt), both.0),
    )

last_or_first : (a : List ℕ) (ts us : List (List ℕ)) → last_items (items 0 0 0 a) ts ≡ first_items (reverse ts ++ a ∷ us)
last_or_first a [] us = refl
last_or_first a (t ∷ ts) us = last_or_first t ts (a ∷ us) ∙ sym (ap first_items (turn t ts (a ∷ us)))

pub last_is_first : (ts : List (List ℕ)) → last_items [] ts ≡ first_items (reverse ts)
last_is_first [] = refl
last_is_first (t ∷ ts) = last_or_first t ts [] ∙ sym (ap first_items (reverse-append (t ∷ []) ts))

-- ---- what was read

some_from : {A : Type 0} (o : Option A) → IsSome o → (x : A) × (o ≡ Some x)
some_from (Some x) h = (x, refl)
some_from None h = absurd cc

rises_read : (period : ℕ) (cs : List Checkpoint) (below : List ℕ) (ts : List (List ℕ)) → 1 ≤ period → period ≤ 64 → IsInLine cs → below ≡ layer_text period cs → AllByRecursion IsBytes ts
    → Rises period below ts
    → ts ≡ map (layer_text period) (layers_from period (length ts) (layer_above period cs))
rises_read period cs below [] one small h e fits r = refl
rises_read period cs below (t ∷ ts) one small h e fits r =
    let n = some_from (len_at period t) r.0 in
    let layer = layer_read period t n.0 one fits.0 n.1 in
    let ds = layer.0 in
    let above : ds ≡ layer_above period cs = sym (items_layer period ds one small layer.1) ∙ ap (items 0 0 0) (sym layer.2) ∙ r.1 ∙ ap (pointers_at 0) e ∙ pointers_layer period cs one small h in
    let text : t ≡ layer_text period (layer_above period cs) = layer.2 ∙ ap (layer_text period) above in
    let in_line : IsInLine (layer_above period cs) = subst IsInLine above layer.1 in
    let others = rises_read period (layer_above period cs) t ts one small in_line text fits.1 r.2 in
    λ i. text i ∷ others i

-- Layers, as many as the lowest has digits, are the layers of its list, which is in line.
pub above_read : (period : ℕ) (ts : List (List ℕ)) → 2 ≤ period → period ≤ 64 → AllByRecursion IsBytes ts → AreLayersAbove period ts → digit_count period (length (first_items ts)) ≡ length ts
    → IsInLine (first_items ts) × (ts ≡ map (layer_text period) (layers period (first_items ts)))
above_read period [] two small fits p digits = (tt, sym (ap (λ (d : ℕ). map (layer_text period) (layers_from period d [])) (digit_count_zero period)))
above_read period (t ∷ ts) two small fits p digits =
    let n = some_from (len_at period t) p.0 in
    let layer = layer_read period t n.0 (omega arith) fits.0 n.1 in
    let cs = layer.0 in
    let given : items 0 0 0 t ≡ cs = ap (items 0 0 0) layer.2 ∙ items_layer period cs (omega arith) small layer.1 in
    let others = rises_read period cs t ts (omega arith) small layer.1 layer.2 fits.1 p.1 in
    let count : digit_count period (length cs) ≡ suc (length ts) = sym (ap (λ (xs : List Checkpoint). digit_count period (length xs)) given) ∙ digits in
    let whole : (t ∷ ts) ≡ map (layer_text period) (layers period cs) = (λ i. layer.2 i ∷ others i) ∙ ap (λ (d : ℕ). map (layer_text period) (layers_from period d cs)) (sym count) in
    subst (λ (xs : List Checkpoint). IsInLine xs × ((t ∷ ts) ≡ map (layer_text period) (layers period xs))) (sym given) (layer.1, whole)

-- ---- what is read again

pub above_some : (period : ℕ) (cs : List Checkpoint) → 1 ≤ period → 0 < length cs → 0 < length (layer_above period cs)
above_some period cs one some = by_count (length (groups period cs)) refl
  where
    by_count : (n : ℕ) → length (groups period cs) ≡ n → 0 < length (layer_above period cs)
    by_count zero e = absurd (omega (arith, (length-groups period cs one).0, ap (λ (k : ℕ). k * period) e))
    by_count (suc n) e = omega (arith, length-layer_above period cs)

rises_again : (period count : ℕ) (cs : List Checkpoint) → 1 ≤ period → period ≤ 64 → 0 < length cs → IsInLine cs → length (layer_text period cs) < 2 ^ 64
    → AllByRecursion (λ t. length t < 2 ^ 64) (map (layer_text period) (layers_from period count (layer_above period cs)))
    → Rises period (layer_text period cs) (map (layer_text period) (layers_from period count (layer_above period cs)))
rises_again period zero cs one small some h fits all = tt
rises_again period (suc count) cs one small some h fits all =
    let above = layer_above_is_in_line period cs one small h fits in
    let more = above_some period cs one some in (
      ap is_some (layer_again period (layer_above period cs) one small more above),
      items_layer period (layer_above period cs) one small above ∙ sym (pointers_layer period cs one small h),
      rises_again period count (layer_above period cs) one small more above all.0 all.1,
    )

above_by : (period count : ℕ) (cs : List Checkpoint) → 2 ≤ period → period ≤ 64 → IsInLine cs → digit_count period (length cs) ≡ count
    → AllByRecursion (λ t. length t < 2 ^ 64) (map (layer_text period) (layers_from period count cs))
    → AreLayersAbove period (map (layer_text period) (layers_from period count cs)) × (first_items (map (layer_text period) (layers_from period count cs)) ≡ cs)
above_by period zero cs two small h digits all = (tt, sym (no_layers period cs two digits))
above_by period (suc count) [] two small h digits all = absurd (omega (arith, digit_count_zero period))
above_by period (suc count) (c ∷ cs) two small h digits all = (
  (ap is_some (layer_again period (c ∷ cs) (omega arith) small (omega arith) h), rises_again period count (c ∷ cs) (omega arith) small (omega arith) h all.0 all.1),
  items_layer period (c ∷ cs) (omega arith) small h,
)

-- The layers of a list in line are layers, if their texts can be addressed, and the lowest gives the list.
pub above_again : (period : ℕ) (cs : List Checkpoint) → 2 ≤ period → period ≤ 64 → IsInLine cs → AllByRecursion (λ t. length t < 2 ^ 64) (map (layer_text period) (layers period cs))
    → AreLayersAbove period (map (layer_text period) (layers period cs)) × (first_items (map (layer_text period) (layers period cs)) ≡ cs)
above_again period cs two small h all = above_by period (digit_count period (length cs)) cs two small h refl all

-- ---- how many there are

pub length-texts-ge : (gs : List (List Checkpoint)) → 2 * length (flat_map (λ g. g) gs) ≤ length (flat_map checkpoint_block gs)
length-texts-ge [] = omega arith
length-texts-ge (g ∷ gs) = omega (
  arith,
  length-append g (flat_map (λ (x : List Checkpoint). x) gs),
  length-append (checkpoint_block g) (flat_map checkpoint_block gs),
  length-block-ge g,
  length-texts-ge gs,
)

few_by : (period count : ℕ) (cs : List Checkpoint) → 2 ≤ period → digit_count period (length cs) ≡ count
    → AllByRecursion (λ t. length t < 2 ^ 64) (map (layer_text period) (layers_from period count cs)) → count ≤ 64
few_by period zero cs two digits all = omega arith
few_by period (suc count) cs two digits all =
    let long = length-texts-ge (groups period cs) in
    let few : length cs < 2 ^ 64 = omega (arith, long, ap length (groups_joined period cs (omega arith)), all.0) in
    let powers : 2 ^ 64 ≤ period ^ 64 = pow-le-pow_left two 64 in
    omega (arith, digits, digit_count-le period 64 (length cs) two (omega (arith, few, powers)))

-- Texts that can be addressed are at most 64 layers.
pub few_layers : (period : ℕ) (cs : List Checkpoint) → 2 ≤ period → AllByRecursion (λ t. length t < 2 ^ 64) (map (layer_text period) (layers period cs)) → digit_count period (length cs) ≤ 64
few_layers period cs two all = few_by period (digit_count period (length cs)) cs two refl all
