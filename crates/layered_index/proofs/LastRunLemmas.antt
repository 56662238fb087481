-- The last run of a layer: the last checkpoint of the layer above points to it.
use Rattle.std.proofs.Common.{◌≡◌, ℕ, suc, ◌+◌, ◌-◌, ◌*◌, ◌<◌, ◌≤◌, inl, inr, List, [], ◌∷◌, ◌++◌, length, take, drop, refl, sym, ◌∙◌, ap, subst, arith, append_assoc}
use Rattle.std.proofs.lemmas.List.{append-nil, take-append-drop, length-drop, drop-drop}
use Rattle.std.proofs.lemmas.Bool.{cases_lt}
use Rattle.std.proofs.Math.Seq.{drop-append_seam}
use Rattle.std.specs.List.{flat_map}
use Rattle.layered_index.specs.declared.checkpoint.Checkpoint.{Checkpoint}
use Rattle.layered_index.specs.Checkpoint.{IsInLineFrom, IsInLine, checkpoint_block}
use Rattle.layered_index.specs.Layers.{groups, layer_text, pointers, layer_above}
use Rattle.layered_index.specs.LayerReading.{items}
use Rattle.layered_index.specs.Rows.{last_start}
use Rattle.layered_index.proofs.PassLemmas.{length-texts-ge}
use Rattle.layered_index.proofs.LineLemmas.{in_line-split, in_line_from, in_line_somewhere}
use Rattle.layered_index.proofs.GroupLemmas.{groups_more, groups_joined, by_runs}
use Rattle.layered_index.proofs.GrowthLemmas.{groups_one}
use Rattle.layered_index.proofs.CursorLemmas.{items_block, items_none}
use Rattle.layered_index.proofs.LayerLemmas.{length-layer_above}

last_start-append : (byte : ℕ) (xs ys : List Checkpoint) → last_start byte (xs ++ ys) ≡ last_start (last_start byte xs) ys
last_start-append byte [] ys = refl
last_start-append byte (x ∷ xs) ys = last_start-append x.byte_range.start xs ys

last_start_any : (a b : ℕ) (cs : List Checkpoint) → 0 < length cs → last_start a cs ≡ last_start b cs
last_start_any a b [] some = absurd (omega arith)
last_start_any a b (c ∷ cs) some = refl

-- a list has its last run after so many full ones, and the text of that run is at the end of the list's text
record EndsWithRun (period : ℕ) (cs : List Checkpoint) : Type 0 where
  before : List Checkpoint
  run : List Checkpoint
  parts : cs ≡ before ++ run
  some : 0 < length run
  few : length run ≤ period
  full : ℕ
  counted : length cs ≡ full * period + length run
  pointed : length (groups period cs) ≡ suc full
  at : ℕ
  text : drop at (layer_text period cs) ≡ checkpoint_block run
  points : (byte place : ℕ) → last_start byte (pointers place (groups period cs)) ≡ place + at

one_run : (period : ℕ) (cs : List Checkpoint) → 0 < length cs → length cs ≤ period → EndsWithRun period cs
one_run period cs some few =
    let one = groups_one period cs some few in
    record {
      before = [];
      run = cs;
      parts = refl;
      some = some;
      few = few;
      full = 0;
      counted = omega arith;
      pointed = ap length one;
      at = 0;
      text = ap (flat_map checkpoint_block) one ∙ append-nil (checkpoint_block cs);
      points = λ byte place. ap (λ (gs : List (List Checkpoint)). last_start byte (pointers place gs)) one ∙ omega arith;
    }

-- where a run stands before others
one_more : (period : ℕ) (c : Checkpoint) (cs : List Checkpoint) → 1 ≤ period → period < length (c ∷ cs) → EndsWithRun period (drop period (c ∷ cs)) → EndsWithRun period (c ∷ cs)
one_more period c cs one lt e =
    let first = take period (c ∷ cs) in
    let rest = drop period (c ∷ cs) in
    let more = groups_more period c cs one in
    let size = length (checkpoint_block first) in
    record {
      before = first ++ e.before;
      run = e.run;
      parts = sym (take-append-drop period (c ∷ cs)) ∙ ap (λ (xs : List Checkpoint). first ++ xs) e.parts ∙ sym (append_assoc first e.before e.run);
      some = e.some;
      few = e.few;
      full = suc e.full;
      counted = omega (arith, e.counted, length-drop period (c ∷ cs));
      pointed = ap length more ∙ ap suc e.pointed;
      at = size + e.at;
      text = ap (λ (gs : List (List Checkpoint)). drop (size + e.at) (flat_map checkpoint_block gs)) more ∙ past (checkpoint_block first) (layer_text period rest) e.at ∙ e.text;
      points = λ byte place. ap (λ (gs : List (List Checkpoint)). last_start byte (pointers place gs)) more ∙ e.points place (place + size) ∙ omega arith;
    }
  where
    past : (xs ys : List ℕ) (n : ℕ) → drop (length xs + n) (xs ++ ys) ≡ drop n ys
    past xs ys n = ap (λ (k : ℕ). drop k (xs ++ ys)) (omega arith) ∙ sym (drop-drop n (length xs) (xs ++ ys)) ∙ ap (drop n) (drop-append_seam xs ys)

ends_with_run : (period : ℕ) (cs : List Checkpoint) → 1 ≤ period → 0 < length cs → EndsWithRun period cs
ends_with_run period cs one = by_runs period (λ xs. 0 < length xs → EndsWithRun period xs) one
    (λ some. absurd (omega arith))
    (λ x xs later some. elim (cases_lt period (length (x ∷ xs))) [
      | inl lt ↦ one_more period x xs one lt (later (omega (arith, length-drop period (x ∷ xs))))
      | inr le ↦ one_run period (x ∷ xs) some le
    ])
    cs

-- What is decoded of a layer from the last pointer on: the last run.
pub record LastRun (period : ℕ) (cs : List Checkpoint) : Type 0 where
  pub run : List Checkpoint
  pub few : length run ≤ period
  pub read : items 0 0 0 (drop (last_start 0 (layer_above period cs)) (layer_text period cs)) ≡ run
  pub counted : (length (layer_above period cs) - 1) * period + length run ≡ length cs
  pub last : last_start 0 run ≡ last_start 0 cs

pub last_run : (period : ℕ) (cs : List Checkpoint) → 1 ≤ period → period ≤ 64 → IsInLine cs → 0 < length cs → LastRun period cs
last_run period cs one small h some =
    let e = ends_with_run period cs one some in
    let from = in_line_somewhere cs h in
    let both = in_line-split from.0 from.1 e.before e.run (subst (IsInLineFrom from.0 from.1) e.parts from.2) in
    let line : IsInLine e.run = in_line_from _ _ e.run both.1 in
    let read : items 0 0 0 (checkpoint_block e.run) ≡ e.run =
    ap (items 0 0 0) (sym (append-nil (checkpoint_block e.run))) ∙ items_block 0 0 e.run [] e.some line (omega (arith, e.few))
    ∙ ap (λ (xs : List Checkpoint). e.run ++ xs) (items_none 0 0) ∙ append-nil e.run in
    let full : length (layer_above period cs) - 1 ≡ e.full = omega (arith, length-layer_above period cs, e.pointed) in
    record {
      run = e.run;
      few = e.few;
      read = ap (λ (k : ℕ). items 0 0 0 (drop k (layer_text period cs))) (e.points 0 0 ∙ omega arith) ∙ ap (items 0 0 0) e.text ∙ read;
      counted = ap (λ (n : ℕ). n * period + length e.run) full ∙ sym e.counted;
      last = last_start_any 0 (last_start 0 e.before) e.run e.some ∙ sym (last_start-append 0 e.before e.run) ∙ ap (last_start 0) (sym e.parts);
    }

-- a checkpoint takes two bytes
pub no_longer : (period : ℕ) (cs : List Checkpoint) → 1 ≤ period → 2 * length cs ≤ length (layer_text period cs)
no_longer period cs one = omega (arith, length-texts-ge (groups period cs), ap length (groups_joined period cs one))
