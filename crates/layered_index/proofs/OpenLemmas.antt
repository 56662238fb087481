-- An index that passes is the index of its lowest layer's list, and the index of a list in line passes.
use Rattle.std.proofs.Common.{◌≡◌, ℕ, ◌<◌, ◌≤◌, ◌^◌, List, [], ◌∷◌, ◌++◌, length, map, reverse, Option, Some, None, refl, sym, ◌∙◌, ap, subst, arith, length-append}
use Rattle.std.proofs.lemmas.List.{length-reverse, reverse-reverse, reverse-append}
use Rattle.std.specs.List.{flat_map, concat, AllByRecursion}
use Rattle.store_base.proofs.ListLemmas.{all_append}
use Rattle.store_base.specs.VInt.{number}
use Rattle.store_base.specs.ReadingLemmas.{some_is}
use Rattle.store_base.specs.Serialize.{IsBytes}
use Rattle.layered_index.specs.declared.checkpoint.Checkpoint.{Checkpoint}
use Rattle.layered_index.specs.Checkpoint.{IsInLine}
use Rattle.layered_index.specs.Layers.{layer_text, digit_count, layers, ends_from, texts_down, index_part}
use Rattle.layered_index.specs.declared.index_fault.IndexFault.{IndexFault}
use Rattle.layered_index.specs.Faults.{fault_of_list, FaultOf, IsFirstFault}
use Rattle.layered_index.specs.IndexReading.{split_at, AreLayers, last_items, IsIndexPart, HasIndex}
use Rattle.layered_index.proofs.IndexLemmas.{index_parts, length-texts_down}
use Rattle.layered_index.proofs.SplitLemmas.{joined, split_read, split_again, texts_are_bytes}
use Rattle.layered_index.proofs.PassLemmas.{AreLayersAbove, first_items, turned, last_is_first, above_read, above_again, few_layers}

pub all_reverse : {A : Type 0} (P : A → Type 0) (xs : List A) → AllByRecursion P xs → AllByRecursion P (reverse xs)
all_reverse P [] p = tt
all_reverse {A} P (x ∷ xs) p = subst (AllByRecursion P) (sym (reverse-append (x ∷ []) xs)) (all_append P (reverse xs) (x ∷ []) (all_reverse P xs p.1) (p.0, tt))

pub texts_fit : (most : ℕ) (ts : List (List ℕ)) → length (concat ts) < most → AllByRecursion (λ t. length t < most) ts
texts_fit most [] fits = tt
texts_fit most (t ∷ ts) fits = (omega (arith, length-append t (concat ts)), texts_fit most ts (omega (arith, length-append t (concat ts))))

pub is_joined : (period : ℕ) (cs : List Checkpoint) → index_part period cs ≡ joined (texts_down period cs)
is_joined period cs = index_parts period cs ∙ ap (λ (n : ℕ). number n ++ (flat_map number (ends_from 0 (texts_down period cs)) ++ concat (texts_down period cs))) (sym (length-texts_down period cs))

-- Texts that are layers are those of an index.
pub opens_read : (period : ℕ) (bytes : List ℕ) (ts : List (List ℕ)) → 2 ≤ period → period ≤ 64 → IsBytes bytes → split_at bytes ≡ Some ts → AreLayers period ts
    → IsIndexPart period bytes (last_items [] ts)
opens_read period bytes ts two small fits e are =
    let split = split_read bytes ts fits e in
    let cs = last_items [] ts in
    let same = last_is_first ts in
    let digits : digit_count period (length (first_items (reverse ts))) ≡ length (reverse ts) = ap (λ (xs : List Checkpoint). digit_count period (length xs)) (sym same) ∙ are.count
    ∙ sym (length-reverse ts) in
    let read = above_read period (reverse ts) two small (all_reverse IsBytes ts (texts_are_bytes ts split.1)) ((turned period ts).0 are.below) digits in
    let down : ts ≡ texts_down period cs = sym (reverse-reverse ts) ∙ ap reverse (read.1 ∙ ap (λ (xs : List Checkpoint). map (layer_text period) (layers period xs)) (sym same)) in
    (subst IsInLine (sym same) read.0, split.0 ∙ ap joined down ∙ sym (is_joined period cs))

-- the texts of an index are no longer than its bytes
pub small_texts : (period most : ℕ) (bytes : List ℕ) (cs : List Checkpoint) → length bytes < most → IsIndexPart period bytes cs
    → AllByRecursion (λ t. length t < most) (map (layer_text period) (layers period cs))
small_texts period most bytes cs fits is =
    let ts = texts_down period cs in
    let up = map (layer_text period) (layers period cs) in
    let whole : bytes ≡ joined ts = is.1 ∙ is_joined period cs in
    let size : length (concat ts) < most = omega (
      arith,
      ap length whole,
      length-append (number (length ts)) (flat_map number (ends_from 0 ts) ++ concat ts),
      length-append (flat_map number (ends_from 0 ts)) (concat ts),
    ) in
    subst (AllByRecursion (λ t. length t < most)) (reverse-reverse up) (all_reverse (λ t. length t < most) ts (texts_fit most ts size))

-- The texts of the index of a list in line are layers.
pub opens_again : (period : ℕ) (bytes : List ℕ) (cs : List Checkpoint) → 2 ≤ period → period ≤ 64 → length bytes < 2 ^ 64 → IsIndexPart period bytes cs
    → (split_at bytes ≡ Some (texts_down period cs)) × AreLayers period (texts_down period cs)
opens_again period bytes cs two small fits is =
    let whole : bytes ≡ joined (texts_down period cs) = is.1 ∙ is_joined period cs in
    let ts = texts_down period cs in
    let same : reverse ts ≡ map (layer_text period) (layers period cs) = reverse-reverse (map (layer_text period) (layers period cs)) in
    let texts = small_texts period (2 ^ 64) bytes cs fits is in
    let again = above_again period cs two small is.0 texts in
    let last : last_items [] ts ≡ cs = last_is_first ts ∙ ap first_items same ∙ again.1 in (
      ap split_at whole ∙ split_again ts (omega (arith, length-texts_down period cs, few_layers period cs two texts)) (omega (arith, ap length whole)),
      record {
        below = (turned period ts).1 (subst (AreLayersAbove period) (sym same) again.0);
        count = ap (λ (xs : List Checkpoint). digit_count period (length xs)) last ∙ sym (length-texts_down period cs);
      },
    )

-- Bytes that can't be cut are no index, and their fault is that of the list of layers.
pub opens_fail : (period : ℕ) (bytes : List ℕ) → 2 ≤ period → period ≤ 64 → length bytes < 2 ^ 64 → split_at bytes ≡ None
    → (HasIndex period bytes → ⊥) × IsFirstFault period bytes fault_of_list
opens_fail period bytes two small fits none = (
  λ has. none_is_none (sym none ∙ (opens_again period bytes has.0 two small fits has.1).0),
  subst (λ (o : Option (List (List ℕ))). FaultOf period (length bytes) fault_of_list o) (sym none) refl,
)
  where
    none_is_none : {A : Type 0} {x : A} → None ≡ Some x → ⊥
    none_is_none e = cc

-- Texts that are no layers are those of no index.
pub opens_refused : (period : ℕ) (bytes : List ℕ) (ts : List (List ℕ)) → 2 ≤ period → period ≤ 64 → length bytes < 2 ^ 64 → split_at bytes ≡ Some ts → (AreLayers period ts → ⊥) → HasIndex period bytes
    → ⊥
opens_refused period bytes ts two small fits e fails has =
    let again = opens_again period bytes has.0 two small fits has.1 in
    fails (subst (AreLayers period) (some_is (texts_down period has.0) ts (sym again.0 ∙ e)) again.1)

-- a fault that is told of the texts
pub first_of : (period : ℕ) (bytes : List ℕ) (ts : List (List ℕ)) (fault : IndexFault) → split_at bytes ≡ Some ts → FaultOf period (length bytes) fault (Some ts) → IsFirstFault period bytes fault
first_of period bytes ts fault e told = subst (FaultOf period (length bytes) fault) (sym e) told
