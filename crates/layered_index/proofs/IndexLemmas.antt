-- The bytes of an index tell its list.
use Rattle.std.proofs.Common.{◌≡◌, ℕ, zero, suc, ◌+◌, ◌/◌, ◌^◌, ◌<◌, ◌≤◌, List, [], ◌∷◌, ◌++◌, length, map, reverse, refl, sym, ◌∙◌, ap, arith, append_assoc}
use Rattle.std.proofs.lemmas.List.{length-map, length-reverse, reverse-reverse}
use Rattle.std.proofs.lemmas.Int.Digits.{length-digits_of_step, length-digits_of-le}
use Rattle.std.specs.List.{flat_map, concat}
use Rattle.store_base.specs.NumbersLemmas.{lists_are_apart}
use Rattle.store_base.specs.VInt.{number}
use Rattle.store_base.specs.VIntLemmas.{numbers_are_apart}
use Rattle.layered_index.specs.declared.checkpoint.Checkpoint.{Checkpoint}
use Rattle.layered_index.specs.Checkpoint.{IsInLine}
use Rattle.layered_index.specs.Layers.{layer_text, layer_above, digit_count, layers_from, layers}
use Rattle.layered_index.specs.Layers.{ends_from, texts_down, index_part}
use Rattle.layered_index.specs.Laws.{IndexPartsAreApart}
use Rattle.layered_index.proofs.ListLemmas.{same_fronts}
use Rattle.layered_index.proofs.RunLemmas.{layer_texts_apart}

-- ---- how many layers there are

pub digit_count_zero : (base : ℕ) → digit_count base 0 ≡ 0
unfolding digit_count
digit_count_zero base = refl

pub digit_count_more : (base n : ℕ) → 2 ≤ base → 0 < n → digit_count base n ≡ digit_count base (n / base) + 1
unfolding digit_count
digit_count_more base n two some = length-digits_of_step base n two some

pub digit_count-le : (base k n : ℕ) → 2 ≤ base → n < base ^ k → digit_count base n ≤ k
unfolding digit_count
digit_count-le base k n two lt = length-digits_of-le base k n two lt

-- a list without layers is empty
pub no_layers : (period : ℕ) (cs : List Checkpoint) → 2 ≤ period → digit_count period (length cs) ≡ 0 → cs ≡ []
no_layers period [] two e = refl
no_layers period (c ∷ cs) two e = absurd (omega (arith, digit_count_more period (length (c ∷ cs)) two (omega arith)))

pub length-layers_from : (period count : ℕ) (cs : List Checkpoint) → length (layers_from period count cs) ≡ count
length-layers_from period zero cs = refl
length-layers_from period (suc count) cs = ap suc (length-layers_from period count (layer_above period cs))

pub length-layers : (period : ℕ) (cs : List Checkpoint) → length (layers period cs) ≡ digit_count period (length cs)
length-layers period cs = length-layers_from period (digit_count period (length cs)) cs

pub length-texts_down : (period : ℕ) (cs : List Checkpoint) → length (texts_down period cs) ≡ digit_count period (length cs)
length-texts_down period cs = length-reverse (map (layer_text period) (layers period cs)) ∙ length-map (layers period cs) (layer_text period) ∙ length-layers period cs

-- ---- the ends of texts

pub length-ends_from : (place : ℕ) (ts : List (List ℕ)) → length (ends_from place ts) ≡ length ts
length-ends_from place [] = refl
length-ends_from place (t ∷ ts) = ap suc (length-ends_from (place + length t) ts)

-- where texts end tells them apart in what they are joined to
pub texts_from_ends : (place : ℕ) (ts us : List (List ℕ)) → ends_from place ts ≡ ends_from place us → concat ts ≡ concat us → ts ≡ us
texts_from_ends place [] [] ends e = refl
texts_from_ends place [] (u ∷ us) ends e = absurd (omega (arith, ap length ends))
texts_from_ends place (t ∷ ts) [] ends e = absurd (omega (arith, ap length ends))
texts_from_ends place (t ∷ ts) (u ∷ us) ends e =
    let first : place + length t ≡ place + length u = cc in
    let rest : ends_from (place + length t) ts ≡ ends_from (place + length u) us = cc in
    let parts = same_fronts t u (concat ts) (concat us) (omega arith) e in
    let others = texts_from_ends (place + length t) ts us (rest ∙ ap (λ (p : ℕ). ends_from p us) (sym first)) parts.1 in
    λ i. parts.0 i ∷ others i

-- ---- the whole

pub index_parts : (period : ℕ) (cs : List Checkpoint) → index_part period cs ≡ number (digit_count period (length cs))
    ++ (flat_map number (ends_from 0 (texts_down period cs)) ++ concat (texts_down period cs))
unfolding index_part
index_parts period cs = append_assoc (number (digit_count period (length cs))) (flat_map number (ends_from 0 (texts_down period cs))) (concat (texts_down period cs))

-- the texts from the bottom up
texts_up : (period : ℕ) (cs ds : List Checkpoint) → texts_down period cs ≡ texts_down period ds → map (layer_text period) (layers period cs) ≡ map (layer_text period) (layers period ds)
texts_up period cs ds e = sym (reverse-reverse (map (layer_text period) (layers period cs))) ∙ ap reverse e ∙ reverse-reverse (map (layer_text period) (layers period ds))

-- the bottom layer's text, where there is one
bottom : (period j k : ℕ) (cs ds : List Checkpoint) → map (layer_text period) (layers_from period (suc j) cs) ≡ map (layer_text period) (layers_from period (suc k) ds)
    → layer_text period cs ≡ layer_text period ds
bottom period j k cs ds e = cc

same_lists : (period j k : ℕ) (cs ds : List Checkpoint) → 2 ≤ period → IsInLine cs → IsInLine ds → digit_count period (length cs) ≡ j → digit_count period (length ds) ≡ k → j ≡ k
    → map (layer_text period) (layers_from period j cs) ≡ map (layer_text period) (layers_from period k ds) → cs ≡ ds
same_lists period zero zero cs ds two p q a b same e = no_layers period cs two a ∙ sym (no_layers period ds two b)
same_lists period zero (suc k) cs ds two p q a b same e = absurd (omega arith)
same_lists period (suc j) zero cs ds two p q a b same e = absurd (omega arith)
same_lists period (suc j) (suc k) cs ds two p q a b same e = layer_texts_apart period cs ds (omega arith) p q (bottom period j k cs ds e)

pub index_parts_are_apart : IndexPartsAreApart
index_parts_are_apart period cs ds two p q e =
    let counts = numbers_are_apart (digit_count period (length cs)) (digit_count period (length ds)) _ _ (sym (index_parts period cs) ∙ e ∙ index_parts period ds) in
    let as_many : length (ends_from 0 (texts_down period cs)) ≡ length (ends_from 0 (texts_down period ds)) =
    length-ends_from 0 (texts_down period cs) ∙ length-texts_down period cs ∙ counts.0 ∙ sym (length-texts_down period ds) ∙ sym (length-ends_from 0 (texts_down period ds)) in
    let ends = lists_are_apart (ends_from 0 (texts_down period cs)) (ends_from 0 (texts_down period ds)) (concat (texts_down period cs)) (concat (texts_down period ds)) as_many counts.1 in
    let texts = texts_from_ends 0 (texts_down period cs) (texts_down period ds) ends.0 ends.1 in
    same_lists period (digit_count period (length cs)) (digit_count period (length ds)) cs ds two p q refl refl counts.0 (texts_up period cs ds texts)
