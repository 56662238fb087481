-- The layers above a list in line are in line.
use Rattle.std.proofs.Common.{◌≡◌, ℕ, zero, suc, ◌+◌, ◌-◌, ◌*◌, ◌^◌, ◌<◌, ◌≤◌, List, [], ◌∷◌, ◌++◌, length, drop, refl, sym, ap, subst, arith, length-append}
use Rattle.std.proofs.lemmas.List.{length-drop}
use Rattle.std.specs.List.{flat_map, AllByRecursion}
use Rattle.store_base.specs.VInt.{number}
use Rattle.store_base.specs.VIntLemmas.{length-number-le_5, length-number-le_10}
use Rattle.layered_index.specs.declared.checkpoint.Checkpoint.{Checkpoint}
use Rattle.layered_index.specs.Checkpoint.{doc_count, byte_len, docs_end, bytes_end, IsWithinLimits, IsInLineFrom, IsInLine, step, starts, checkpoint_block}
use Rattle.layered_index.specs.Layers.{groups, layer_text, docs_start, pointers, layer_above, digit_count, layers_from}
use Rattle.layered_index.specs.Laws.{LayerAboveIsInLine, LayersAreInLine}
use Rattle.layered_index.proofs.GroupLemmas.{groups_none, groups_more, groups_joined, by_runs}
use Rattle.layered_index.proofs.LineLemmas.{in_line-split, in_line_from, in_line_somewhere}
use Rattle.layered_index.proofs.RunLemmas.{IsRun, groups_are_runs}
use Rattle.layered_index.proofs.IndexLemmas.{length-layers}

-- ---- how long a block can be

length-step-le : (c : Checkpoint) → IsWithinLimits c → length (step c) ≤ 10
length-step-le c h = omega (
  arith,
  length-append (number (doc_count c)) (number (byte_len c)),
  length-number-le_5 (doc_count c) (omega (arith, h.doc_end)),
  length-number-le_5 (byte_len c) (omega (arith, h.byte_len)),
)

pub length-steps-le : (doc byte : ℕ) (cs : List Checkpoint) → IsInLineFrom doc byte cs → length (flat_map step cs) ≤ 10 * length cs
length-steps-le doc byte [] h = omega arith
length-steps-le doc byte (c ∷ cs) h = omega (arith, length-append (step c) (flat_map step cs), length-step-le c h.2, length-steps-le c.doc_range.end c.byte_range.end cs h.3)

pub length-starts-le : (cs : List Checkpoint) → IsInLine cs → length (starts cs) ≤ 15
length-starts-le [] h = omega arith
length-starts-le (c ∷ cs) h = omega (
  arith,
  length-append (number c.doc_range.start) (number c.byte_range.start),
  length-number-le_5 c.doc_range.start (omega (arith, h.2.doc_order, h.2.doc_end)),
  length-number-le_10 c.byte_range.start (omega (arith, h.2.byte_order, h.2.byte_end)),
)

pub length-block-le : (cs : List Checkpoint) → IsInLine cs → length cs < 2 ^ 64 → length (checkpoint_block cs) ≤ 25 + 10 * length cs
unfolding checkpoint_block
length-block-le cs h few =
    let from = in_line_somewhere cs h in
    omega (
      arith,
      length-append (number (length cs) ++ starts cs) (flat_map step cs),
      length-append (number (length cs)) (starts cs),
      length-number-le_10 (length cs) (omega arith),
      length-starts-le cs h,
      length-steps-le from.0 from.1 cs from.2,
    )

-- ---- where runs begin and end

pub docs_grow : (doc byte : ℕ) (cs : List Checkpoint) → IsInLineFrom doc byte cs → doc ≤ docs_end doc cs
docs_grow doc byte [] h = omega arith
docs_grow doc byte (c ∷ cs) h = omega (arith, h.0, h.2.doc_order, docs_grow c.doc_range.end c.byte_range.end cs h.3)

pub docs_fit : (doc byte : ℕ) (cs : List Checkpoint) → doc < 2 ^ 32 → IsInLineFrom doc byte cs → docs_end doc cs < 2 ^ 32
docs_fit doc byte [] lt h = lt
docs_fit doc byte (c ∷ cs) lt h = docs_fit c.doc_range.end c.byte_range.end cs h.2.doc_end h.3

-- the documents of a run, which is not empty
run_docs : (period doc byte : ℕ) (run : List Checkpoint) → IsRun period run → IsInLineFrom doc byte run
    → (docs_start run ≡ doc) × (docs_end 0 run ≡ docs_end doc run) × (doc ≤ docs_end doc run) × (docs_end doc run < 2 ^ 32)
run_docs period doc byte [] is_run h = absurd (omega (arith, is_run.some))
run_docs period doc byte (c ∷ cs) is_run h = (h.0, refl, docs_grow doc byte (c ∷ cs) h, docs_fit c.doc_range.end c.byte_range.end cs h.2.doc_end h.3)

-- ---- the pointers of runs

pub pointers_in_line : (period doc byte place : ℕ) (gs : List (List Checkpoint)) → period ≤ 64 → AllByRecursion (IsRun period) gs → IsInLineFrom doc byte (flat_map (λ g. g) gs)
    → place + length (flat_map checkpoint_block gs) < 2 ^ 64 → IsInLineFrom doc place (pointers place gs)
pointers_in_line period doc byte place [] small runs h fits = tt
pointers_in_line period doc byte place (g ∷ gs) small runs h fits =
    let both = in_line-split doc byte g (flat_map (λ (x : List Checkpoint). x) gs) h in
    let docs = run_docs period doc byte g runs.0 both.0 in
    let size = length-append (checkpoint_block g) (flat_map checkpoint_block gs) in
    let len = length-block-le g runs.0.in_line (omega (arith, runs.0.few)) in (
      docs.0,
      refl,
      record {
        doc_order = omega (arith, docs.0, docs.1, docs.2);
        doc_end = omega (arith, docs.1, docs.3);
        byte_order = omega arith;
        byte_len = omega (arith, len, runs.0.few);
        byte_end = omega (arith, size, fits);
      },
      pointers_in_line period (docs_end 0 g) (bytes_end byte g) (place + length (checkpoint_block g)) gs small runs.1
          (subst (λ (d : ℕ). IsInLineFrom d (bytes_end byte g) (flat_map (λ (x : List Checkpoint). x) gs)) (sym docs.1) both.1) (omega (arith, size, fits)),
    )

pub layer_above_is_in_line : LayerAboveIsInLine
layer_above_is_in_line period cs one small h fits =
    let from = in_line_somewhere cs h in
    in_line_from from.0 0 (layer_above period cs) (pointers_in_line period from.0 from.1 0 (groups period cs) small (groups_are_runs period from.0 from.1 cs one from.2)
    (subst (IsInLineFrom from.0 from.1) (sym (groups_joined period cs one)) from.2) (omega (arith, fits)))

-- ---- how long the layers are

pub length-pointers : (place : ℕ) (gs : List (List Checkpoint)) → length (pointers place gs) ≡ length gs
length-pointers place [] = refl
length-pointers place (g ∷ gs) = ap suc (length-pointers (place + length (checkpoint_block g)) gs)

few_more : (count n rest period : ℕ) → 1 ≤ n → rest ≡ n - period → count * period < rest + period → suc count * period < n + period
few_more zero n rest period some is lt = omega arith
few_more (suc count) n rest period some is lt = omega arith

-- the number of runs is the length over the period, rounded up
pub length-groups : {A : Type 0} (period : ℕ) (xs : List A) → 1 ≤ period → (length xs ≤ length (groups period xs) * period) × (length (groups period xs) * period < length xs + period)
length-groups {A} period xs one = by_runs period (λ ys. (length ys ≤ length (groups period ys) * period) × (length (groups period ys) * period < length ys + period)) one
    (rw groups_none (omega arith, omega arith))
    (λ y ys h.
    let rest = drop period (y ∷ ys) in
    let count = length (groups period rest) in
    let more : length (groups period (y ∷ ys)) ≡ suc count = ap length (groups_more period y ys one) in
    let len = length-drop period (y ∷ ys) in
    let many : length (y ∷ ys) ≤ suc count * period = omega (arith, h.0, len) in
    let few = few_more count (length (y ∷ ys)) (length rest) period (omega arith) len h.1 in
    rw more (many, few))
    xs

pub length-groups-le : {A : Type 0} (period : ℕ) (xs : List A) → 1 ≤ period → length (groups period xs) ≤ length xs
length-groups-le {A} period xs one = by_runs period (λ ys. length (groups period ys) ≤ length ys) one
    (rw groups_none (omega arith))
    (λ y ys h. omega (arith, ap length (groups_more period y ys one), h, length-drop period (y ∷ ys)))
    xs

pub length-layer_above : (period : ℕ) (cs : List Checkpoint) → length (layer_above period cs) ≡ length (groups period cs)
length-layer_above period cs = length-pointers 0 (groups period cs)

-- what the blocks of runs take at most
length-texts-le : (period : ℕ) (gs : List (List Checkpoint)) → period ≤ 64 → AllByRecursion (IsRun period) gs
    → length (flat_map checkpoint_block gs) ≤ 25 * length gs + 10 * length (flat_map (λ g. g) gs)
length-texts-le period [] small runs = omega arith
length-texts-le period (g ∷ gs) small runs =
    omega (
      arith,
      length-append (checkpoint_block g) (flat_map checkpoint_block gs),
      length-append g (flat_map (λ (x : List Checkpoint). x) gs),
      length-block-le g runs.0.in_line (omega (arith, runs.0.few)),
      length-texts-le period gs small runs.1,
    )

-- what a layer's text takes at most
pub length-layer_text-le : (period doc byte : ℕ) (cs : List Checkpoint) → 1 ≤ period → period ≤ 64 → IsInLineFrom doc byte cs → length (layer_text period cs) ≤ 35 * length cs
length-layer_text-le period doc byte cs one small h =
    omega (arith, length-texts-le period (groups period cs) small (groups_are_runs period doc byte cs one h), length-groups-le period cs one, ap length (groups_joined period cs one))

-- so many layers are in line
layers_in_line : (period count : ℕ) (cs : List Checkpoint) → 1 ≤ period → period ≤ 64 → IsInLine cs → length cs < 2 ^ 58 → AllByRecursion IsInLine (layers_from period count cs)
layers_in_line period zero cs one small h few = tt
layers_in_line period (suc count) cs one small h few =
    let from = in_line_somewhere cs h in
    let fits : length (layer_text period cs) < 2 ^ 64 = omega (arith, length-layer_text-le period from.0 from.1 cs one small from.2) in
    (h, layers_in_line period count (layer_above period cs) one small (layer_above_is_in_line period cs one small h fits) (omega (arith, length-layer_above period cs, length-groups-le period cs one)))

pub layers_are_in_line : LayersAreInLine
layers_are_in_line period cs two small h few = (layers_in_line period (digit_count period (length cs)) cs (omega arith) small h few, length-layers period cs)
