-- The checkpoints of a layer from a run on that has the first one past a target.
use Rattle.std.proofs.Common.{◌≡◌, ℕ, ◌<◌, ◌≤◌, inl, inr, Bool, true, false, cond, ltb, List, [], ◌∷◌, ◌++◌, length, drop, Option, Some, None, refl, sym, ◌∙◌, ap, subst, arith}
use Rattle.std.proofs.lemmas.Bool.{cond-true, cond-false, lt-ltb, le-ltb, cases_lt}
use Rattle.std.proofs.Math.Seq.{drop-append_seam}
use Rattle.std.specs.Option.{option_map}
use Rattle.std.specs.List.{flat_map}
use Rattle.store_base.specs.ReadingLemmas.{some_is}
use Rattle.layered_index.specs.declared.checkpoint.Checkpoint.{Checkpoint}
use Rattle.layered_index.specs.Checkpoint.{IsInLineFrom, IsInLine, checkpoint_block, first_past}
use Rattle.layered_index.specs.Layers.{groups, layer_text}
use Rattle.layered_index.specs.LayerReading.{items}
use Rattle.layered_index.proofs.LineLemmas.{in_line_somewhere}
use Rattle.layered_index.specs.Sought.{from_pointer, past_on, IsFoundAbove}
use Rattle.layered_index.proofs.CursorLemmas.{items_runs, items_layer}
use Rattle.layered_index.proofs.GroupLemmas.{groups_joined}
use Rattle.layered_index.proofs.PointedLemmas.{past_here, past_later, is_pointer}
use Rattle.layered_index.proofs.RunLemmas.{groups_are_runs}

-- ---- the first past a target, and those after it

pub on_here : (c : Checkpoint) (cs : List Checkpoint) (target : ℕ) → target < c.doc_range.end → past_on (c ∷ cs) target ≡ Some (c, cs)
on_here c cs target lt = cond-true (ltb target c.doc_range.end) (Some (c, cs)) (past_on cs target) (lt-ltb target c.doc_range.end lt)

pub on_later : (c : Checkpoint) (cs : List Checkpoint) (target : ℕ) → c.doc_range.end ≤ target → past_on (c ∷ cs) target ≡ past_on cs target
on_later c cs target le = cond-false (ltb target c.doc_range.end) (Some (c, cs)) (past_on cs target) (le-ltb target c.doc_range.end le)

-- none of these is it
on_after : (xs ys : List Checkpoint) (target : ℕ) → first_past xs target ≡ None → past_on (xs ++ ys) target ≡ past_on ys target
on_after [] ys target e = refl
on_after (x ∷ xs) ys target e = elim (cases_lt target x.doc_range.end) [
  | inl here ↦ absurd (not_both (sym (past_here x xs target here) ∙ e))
  | inr later ↦ on_later x (xs ++ ys) target later ∙ on_after xs ys target (sym (past_later x xs target later) ∙ e)
]
  where
    not_both : Some x ≡ None → ⊥
    not_both e = cc

-- it is the one that a seek finds
pub first_is_on : (cs : List Checkpoint) (target : ℕ) → first_past cs target ≡ option_map (λ x. x.0) (past_on cs target)
first_is_on [] target = refl
first_is_on (c ∷ cs) target = by_test (ltb target c.doc_range.end) (first_is_on cs target)
  where
    by_test : (b : Bool) → first_past cs target ≡ option_map (λ x. x.0) (past_on cs target) → cond b (Some c) (first_past cs target) ≡ option_map (λ x. x.0) (cond b (Some (c, cs)) (past_on cs target))
    by_test true e = refl
    by_test false e = e

-- the list has it, with those after it after it
pub on_parts : (cs : List Checkpoint) (target : ℕ) (c : Checkpoint) (left : List Checkpoint) → past_on cs target ≡ Some (c, left) → (before : List Checkpoint) × (cs ≡ before ++ c ∷ left)
on_parts [] target c left e = absurd (cc)
on_parts (x ∷ xs) target c left e = elim (cases_lt target x.doc_range.end) [
  | inl here ↦
      let same = some_is (x, xs) (c, left) (sym (on_here x xs target here) ∙ e) in
      ([], ap (λ (y : Checkpoint × List Checkpoint). y.0 ∷ y.1) same)
  | inr later ↦
      let on = on_parts xs target c left (sym (on_later x xs target later) ∙ e) in
      (x ∷ on.0, ap (λ (ys : List Checkpoint). x ∷ ys) on.1)
]

-- ---- from the run on that is pointed to

-- The text of a layer from the run on that was found above has the first past the target, and those after it.
pub rest_found : (period target : ℕ) (cs : List Checkpoint) (found : Option Checkpoint) → 1 ≤ period → period ≤ 64 → IsInLine cs → IsFoundAbove period target found cs
    → past_on (items 0 0 0 (from_pointer (layer_text period cs) found)) target ≡ past_on cs target
rest_found period target cs None one small h above = ap (λ (xs : List Checkpoint). past_on xs target) (items_layer period cs one small h)
rest_found period target cs (Some p) one small h above =
    let from = in_line_somewhere cs h in
    let gs = groups period cs in
    let joined = groups_joined period cs one in
    let is = is_pointer period target 0 from.0 from.1 gs p (groups_are_runs period from.0 from.1 cs one from.2) (subst (IsInLineFrom from.0 from.1) (sym joined) from.2) above in
    let runs = is.run ∷ is.after in
    let start : p.byte_range.start ≡ length is.front = omega (arith, is.start) in
    let text : from_pointer (layer_text period cs) (Some p) ≡ flat_map checkpoint_block runs =
    (λ i. drop (start i) (is.text i)) ∙ drop-append_seam is.front (flat_map checkpoint_block runs) in
    let goes_on : past_on (flat_map (λ (g : List Checkpoint). g) gs) target ≡ past_on (flat_map (λ (g : List Checkpoint). g) runs) target =
    ap (λ (xs : List Checkpoint). past_on xs target) is.whole ∙ on_after is.before (flat_map (λ (g : List Checkpoint). g) runs) target is.none in
    ap (λ (t : List ℕ). past_on (items 0 0 0 t) target) text ∙ ap (λ (xs : List Checkpoint). past_on xs target) (items_runs period 0 0 runs small is.are_runs)
    ∙ sym goes_on ∙ ap (λ (xs : List Checkpoint). past_on xs target) joined

-- ---- a cursor that goes on to it

pub none_on : (cs : List Checkpoint) (target : ℕ) → first_past cs target ≡ None → None ≡ past_on cs target
none_on cs target e = nothing (past_on cs target) (sym (first_is_on cs target) ∙ e)
  where
    nothing : (o : Option (Checkpoint × List Checkpoint)) → option_map (λ x. x.0) o ≡ None → None ≡ o
    nothing None f = refl
    nothing (Some x) f = absurd (cc)

-- the cursor stands before the first checkpoint past the target
pub on_found : (cs cursor : List Checkpoint) (target : ℕ) (found c : Checkpoint) (rest : List Checkpoint) → cursor ≡ c ∷ rest → target < c.doc_range.end → past_on cursor target ≡ past_on cs target
    → Some found ≡ first_past cs target → Some (found, rest) ≡ past_on cs target
on_found cs cursor target found c rest is lt same first =
    let on : Some (c, rest) ≡ past_on cs target = sym (on_here c rest target lt) ∙ ap (λ (xs : List Checkpoint). past_on xs target) (sym is) ∙ same in
    let which : Some found ≡ Some c = first ∙ first_is_on cs target ∙ ap (λ (o : Option (Checkpoint × List Checkpoint)). option_map (λ x. x.0) o) (sym on) in
    ap (λ (x : Checkpoint). Some (x, rest)) (some_is found c which) ∙ on

-- it doesn't end before
pub on_there : (cs cursor : List Checkpoint) (target : ℕ) (found : Checkpoint) → cursor ≡ [] → past_on cursor target ≡ past_on cs target → Some found ≡ first_past cs target → ⊥
on_there cs cursor target found none same first =
    let on : None ≡ past_on cs target = ap (λ (xs : List Checkpoint). past_on xs target) (sym none) ∙ same in
    nothing (first ∙ first_is_on cs target ∙ ap (λ (o : Option (Checkpoint × List Checkpoint)). option_map (λ x. x.0) o) (sym on))
  where
    nothing : Some found ≡ None → ⊥
    nothing e = cc
