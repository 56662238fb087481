-- The runs of a list in line are in line, and their texts tell them.
use Rattle.std.proofs.Common.{◌≡◌, ℕ, zero, suc, ◌<◌, ◌≤◌, List, [], ◌∷◌, ◌++◌, length, get_or, take, drop, refl, sym, ◌∙◌, ap, subst, arith, length-append}
use Rattle.std.proofs.lemmas.List.{take-append-drop, length-take}
use Rattle.std.specs.List.{flat_map, AllByRecursion}
use Rattle.layered_index.specs.declared.checkpoint.Checkpoint.{Checkpoint}
use Rattle.layered_index.specs.Checkpoint.{IsWithinLimits, IsInLineFrom, IsInLine, checkpoint_block}
use Rattle.layered_index.proofs.LineLemmas.{in_line-split, in_line_from, in_line_somewhere}
use Rattle.layered_index.specs.Layers.{groups, layer_text}
use Rattle.layered_index.proofs.GroupLemmas.{groups_none, groups_more, groups_joined, by_runs}
use Rattle.layered_index.proofs.CheckpointLemmas.{block_some, checkpoint_blocks_are_apart}

-- a run of a layer
pub record IsRun (period : ℕ) (run : List Checkpoint) : Type 0 where
  pub some : 0 < length run
  pub few : length run ≤ period
  pub in_line : IsInLine run

pub groups_are_runs : (period doc byte : ℕ) (cs : List Checkpoint) → 1 ≤ period → IsInLineFrom doc byte cs → AllByRecursion (IsRun period) (groups period cs)
groups_are_runs period doc byte cs one h = by_runs period (λ xs. (d b : ℕ) → IsInLineFrom d b xs → AllByRecursion (IsRun period) (groups period xs)) one
    (λ d b r. subst (AllByRecursion (IsRun period)) (sym (groups_none period)) tt)
    (λ x xs others d b r.
    let parts : take period (x ∷ xs) ++ drop period (x ∷ xs) ≡ x ∷ xs = take-append-drop period (x ∷ xs) in
    let both = in_line-split d b (take period (x ∷ xs)) (drop period (x ∷ xs)) (subst (IsInLineFrom d b) (sym parts) r) in
    let first : IsRun period (take period (x ∷ xs)) = record {
      some = omega (arith, length-take period (x ∷ xs));
      few = omega (arith, length-take period (x ∷ xs));
      in_line = in_line_from d b (take period (x ∷ xs)) both.0;
    } in
    subst (AllByRecursion (IsRun period)) (sym (groups_more period x xs one)) (first, others _ _ both.1))
    cs doc byte h

-- the joined blocks of runs tell the runs
pub texts_apart : (period : ℕ) (gs hs : List (List Checkpoint)) → AllByRecursion (IsRun period) gs → AllByRecursion (IsRun period) hs → flat_map checkpoint_block gs ≡ flat_map checkpoint_block hs
    → gs ≡ hs
texts_apart period [] [] p q e = refl
texts_apart period [] (h ∷ hs) p q e = absurd (omega (arith, block_some h, ap length e, length-append (checkpoint_block h) (flat_map checkpoint_block hs)))
texts_apart period (g ∷ gs) [] p q e = absurd (omega (arith, block_some g, ap length e, length-append (checkpoint_block g) (flat_map checkpoint_block gs)))
texts_apart period (g ∷ gs) (h ∷ hs) p q e =
    let first = checkpoint_blocks_are_apart g h (flat_map checkpoint_block gs) (flat_map checkpoint_block hs) p.0.in_line q.0.in_line e in
    let others = texts_apart period gs hs p.1 q.1 first.1 in
    λ i. first.0 i ∷ others i

-- the text of a layer tells the layer
pub layer_texts_apart : (period : ℕ) (cs ds : List Checkpoint) → 1 ≤ period → IsInLine cs → IsInLine ds → layer_text period cs ≡ layer_text period ds → cs ≡ ds
layer_texts_apart period cs ds one p q e =
    let from_c = in_line_somewhere cs p in
    let from_d = in_line_somewhere ds q in
    let same = texts_apart period (groups period cs) (groups period ds) (groups_are_runs period from_c.0 from_c.1 cs one from_c.2) (groups_are_runs period from_d.0 from_d.1 ds one from_d.2) e in
    sym (groups_joined period cs one) ∙ ap (flat_map (λ (g : List Checkpoint). g)) same ∙ groups_joined period ds one

-- each checkpoint of a list in line is within the limits, by its place
limits_along : (doc byte : ℕ) (cs : List Checkpoint) (i : ℕ) (d : Checkpoint) → IsInLineFrom doc byte cs → i < length cs → IsWithinLimits (get_or cs i d)
limits_along doc byte [] i d h lt = absurd (omega arith)
limits_along doc byte (c ∷ cs) zero d h lt = h.2
limits_along doc byte (c ∷ cs) (suc i) d h lt = limits_along c.doc_range.end c.byte_range.end cs i d h.3 (omega arith)

pub limits_at : (cs : List Checkpoint) (i : ℕ) (d : Checkpoint) → IsInLine cs → i < length cs → IsWithinLimits (get_or cs i d)
limits_at cs i d h lt = let from = in_line_somewhere cs h in limits_along from.0 from.1 cs i d from.2 lt
