-- The lowest layers of a list, and what a layer leads to below it.
use Rattle.std.proofs.Common.{◌≡◌, ℕ, zero, suc, ◌-◌, ◌<◌, ◌≤◌, ◌^◌, inl, inr, false, eqb, List, [], ◌∷◌, ◌++◌, length, map, Option, Some, None, refl, sym, ◌∙◌, ap, subst, arith}
use Rattle.std.proofs.lemmas.Bool.{cases_lt}
use Rattle.std.proofs.lemmas.List.{append-nil, reverse-reverse}
use Rattle.std.specs.Prelude.{Result, Ok, IfSome}
use Rattle.store_base.specs.declared.error.StoreError.{StoreError}
use Rattle.std.specs.List.{concat, AllByRecursion}
use Rattle.store_base.specs.ReadingLemmas.{bind_some, some_is}
use Rattle.layered_index.specs.declared.checkpoint.Checkpoint.{Checkpoint}
use Rattle.layered_index.specs.declared.row.Row.{Row}
use Rattle.layered_index.specs.Checkpoint.{IsInLineFrom, IsInLine, first_past}
use Rattle.layered_index.specs.Layers.{groups, layer_text, layer_above, layers_from, texts_down}
use Rattle.layered_index.specs.IndexReading.{numbers_at, texts_at, IsIndexPart}
use Rattle.layered_index.specs.Rows.{layer_at, lower_texts, LayersBelow, lower_layers, AreRowsOf, AreRowsAbove, IsFoundIn}
use Rattle.layered_index.specs.Sought.{IsFoundAbove, layers_left, next_layer, IsHeaded, from_pointer, IsPast}
use Rattle.layered_index.proofs.GroupLemmas.{groups_joined}
use Rattle.layered_index.proofs.RunLemmas.{groups_are_runs}
use Rattle.layered_index.proofs.LayerLemmas.{layer_above_is_in_line, pointers_in_line}
use Rattle.layered_index.proofs.PassLemmas.{turn}
use Rattle.layered_index.proofs.SplitLemmas.{texts_read}
use Rattle.layered_index.proofs.OpenLemmas.{opens_again, texts_fit, all_reverse}
use Rattle.layered_index.proofs.PointedLemmas.{none_pointed, past_here, past_later, found_past}
use Rattle.layered_index.proofs.RestOfLayerLemmas.{rest_found}
use Rattle.layered_index.proofs.IndexHeadLemmas.{is_next, none_is_some, head_left, head_digits}
use Rattle.layered_index.proofs.DescentLemmas.{Leads, LeadsOn, leads_all}

-- the texts of the layers of a list can be addressed
abbrev pub AreSmall : ℕ → ℕ → List Checkpoint → Type 0
AreSmall period height cs = AllByRecursion (λ t. length t < 2 ^ 64) (map (layer_text period) (layers_from period height cs))

-- ---- the texts

-- one more layer stands before the others
more_before : (period height : ℕ) (cs : List Checkpoint) (us : List (List ℕ))
    → lower_texts period (suc height) cs ++ us ≡ layer_text period (layer_at period height cs) ∷ (lower_texts period height cs ++ us)
more_before period zero cs us = turn (layer_text period cs) [] us
more_before period (suc height) cs us =
    let above = layer_above period cs in
    let text = layer_text period cs in
    turn text (map (layer_text period) (layers_from period (suc height) above)) us ∙ more_before period height above (text ∷ us)
    ∙ ap (λ (ts : List (List ℕ)). layer_text period (layer_at period height above) ∷ ts) (sym (turn text (map (layer_text period) (layers_from period height above)) us))

pub lower_more : (period height : ℕ) (cs : List Checkpoint) → lower_texts period (suc height) cs ≡ layer_text period (layer_at period height cs) ∷ lower_texts period height cs
lower_more period height cs =
    sym (append-nil (lower_texts period (suc height) cs)) ∙ more_before period height cs []
    ∙ ap (λ (ts : List (List ℕ)). layer_text period (layer_at period height cs) ∷ ts) (append-nil (lower_texts period height cs))

-- what is cut off is the bytes
left_is : (count place : ℕ) (ends texts : List ℕ) (ts : List (List ℕ)) → layers_left count place ends texts ≡ Some ts → texts ≡ concat ts
unfolding layers_left
left_is count place ends texts ts e =
    let a = bind_some (numbers_at count ends) (λ ns. texts_at place ns.0 texts) ts e in
    (texts_read place a.0.0 texts ts a.2).1

pub small_left : (period height place : ℕ) (ends texts : List ℕ) (cs : List Checkpoint) → length texts < 2 ^ 64 → layers_left height place ends texts ≡ Some (lower_texts period height cs)
    → AreSmall period height cs
small_left period height place ends texts cs fits e =
    let ts = lower_texts period height cs in
    let up = map (layer_text period) (layers_from period height cs) in
    subst (AllByRecursion (λ t. length t < 2 ^ 64)) (reverse-reverse up)
    (all_reverse (λ t. length t < 2 ^ 64) ts (texts_fit (2 ^ 64) ts (omega (arith, ap length (left_is height place ends texts ts e)))))

-- ---- passing over the layers above

-- all layers are left
pub lower_first : (period : ℕ) (bytes : List ℕ) (count : ℕ) (ends texts : List ℕ) (cs : List Checkpoint) → IsHeaded period bytes count ends texts → length bytes < 2 ^ 64 → IsIndexPart period bytes cs
    → layers_left count 0 ends texts ≡ Some (lower_texts period count cs)
lower_first period bytes count ends texts cs head fits is =
    head_left bytes count ends texts (texts_down period cs) head.counted head.following (opens_again period bytes cs head.two head.few fits is).0
    ∙ ap (λ (n : ℕ). Some (lower_texts period n cs)) (sym (head_digits period bytes count ends texts cs head is))

-- there is a next layer
pub lower_there : (period left place : ℕ) (ends texts : List ℕ) (cs : List Checkpoint) → 0 < left → layers_left left place ends texts ≡ Some (lower_texts period left cs)
    → next_layer place ends texts ≡ None → ⊥
lower_there period zero place ends texts cs some e none = absurd (omega arith)
lower_there period (suc left) place ends texts cs some e none = none_is_some (next_layer place ends texts) none (is_next left place ends texts (lower_texts period (suc left) cs) e).next

-- it is that of the list so many layers above, and the others are left
pub record IsLower (period left : ℕ) (cs : List Checkpoint) (layer : List ℕ) (end : ℕ) (more_ends more : List ℕ) : Type 0 where
  pub text : layer ≡ layer_text period (layer_at period left cs)
  pub others : layers_left left end more_ends more ≡ Some (lower_texts period left cs)

lower_on : (period left place : ℕ) (ends texts layer : List ℕ) (end : ℕ) (more_ends more : List ℕ) (cs : List Checkpoint)
    → layers_left (suc left) place ends texts ≡ Some (lower_texts period (suc left) cs)
    → next_layer place ends texts ≡ Some (layer, end, more_ends, more) → IsLower period left cs layer end more_ends more
lower_on period left place ends texts layer end more_ends more cs e next =
    let is = is_next left place ends texts (lower_texts period (suc left) cs) e in
    let same = some_is (is.layer, is.end, is.more_ends, is.more) (layer, end, more_ends, more) (sym is.next ∙ next) in
    let parts : layer_text period (layer_at period left cs) ∷ lower_texts period left cs ≡ is.layer ∷ is.others = sym (lower_more period left cs) ∙ is.parts in
    let first : layer_text period (layer_at period left cs) ≡ is.layer = firsts _ _ _ _ parts in
    let rest : lower_texts period left cs ≡ is.others = rests _ _ _ _ parts in
    record {
      text = sym (ap (λ (x : List ℕ × ℕ × List ℕ × List ℕ). x.0) same) ∙ sym first;
      others = ap (λ (x : List ℕ × ℕ × List ℕ × List ℕ). layers_left left x.1 x.2 x.3) (sym same) ∙ is.left ∙ ap (λ (ts : List (List ℕ)). Some ts) (sym rest);
    }
  where
    firsts : (x y : List ℕ) (xs ys : List (List ℕ)) → x ∷ xs ≡ y ∷ ys → x ≡ y
    firsts x y xs ys e = cc

    rests : (x y : List ℕ) (xs ys : List (List ℕ)) → x ∷ xs ≡ y ∷ ys → xs ≡ ys
    rests x y xs ys e = cc

pub lower_next : (period left place : ℕ) (ends texts layer : List ℕ) (end : ℕ) (more_ends more : List ℕ) (cs : List Checkpoint) → 0 < left
    → layers_left left place ends texts ≡ Some (lower_texts period left cs) → next_layer place ends texts ≡ Some (layer, end, more_ends, more) → IsLower period (left - 1) cs layer end more_ends more
lower_next period zero place ends texts layer end more_ends more cs some e next = absurd (omega arith)
lower_next period (suc left) place ends texts layer end more_ends more cs some e next =
    let same : left ≡ suc left - 1 = omega arith in
    subst (λ (n : ℕ). IsLower period n cs layer end more_ends more) same (lower_on period left place ends texts layer end more_ends more cs e next)

-- ---- the lists of the layers

-- one that begins at the first document and the first byte has such layers
pub above_from_zero : (period : ℕ) (cs : List Checkpoint) → 1 ≤ period → period ≤ 64 → IsInLineFrom 0 0 cs → length (layer_text period cs) < 2 ^ 64 → IsInLineFrom 0 0 (layer_above period cs)
above_from_zero period cs one small h fits =
    pointers_in_line period 0 0 0 (groups period cs) small (groups_are_runs period 0 0 cs one h) (subst (IsInLineFrom 0 0) (sym (groups_joined period cs one)) h) (omega (arith, fits))

pub from_zero : (period height : ℕ) (cs : List Checkpoint) → 1 ≤ period → period ≤ 64 → IsInLineFrom 0 0 cs → AreSmall period height cs → IsInLineFrom 0 0 (layer_at period height cs)
from_zero period zero cs one small h all = h
from_zero period (suc height) cs one small h all = from_zero period height (layer_above period cs) one small (above_from_zero period cs one small h all.0) all.1

-- where none of a layer is past the target, none of the list is
pub none_at : (period target height : ℕ) (cs : List Checkpoint) → 1 ≤ period → period ≤ 64 → IsInLine cs → AreSmall period height cs → first_past (layer_at period height cs) target ≡ None
    → first_past cs target ≡ None
none_at period target zero cs one small h all none = none
none_at period target (suc height) cs one small h all none =
    none_pointed period target cs one h (none_at period target height (layer_above period cs) one small (layer_above_is_in_line period cs one small h all.0) all.1 none)

-- what is found begins at the target or before it
pub begins_by : (doc byte : ℕ) (cs : List Checkpoint) (target : ℕ) (c : Checkpoint) → IsInLineFrom doc byte cs → doc ≤ target → first_past cs target ≡ Some c → c.doc_range.start ≤ target
begins_by doc byte [] target c h le e = absurd cc
begins_by doc byte (x ∷ cs) target c h le e = elim (cases_lt target x.doc_range.end) [
  | inl here ↦
      let same : x ≡ c = some_is x c (sym (past_here x cs target here) ∙ e) in
      omega (arith, h.0, ap (λ (y : Checkpoint). y.doc_range.start) same)
  | inr later ↦ begins_by x.doc_range.end x.byte_range.end cs target c h.3 later (sym (past_later x cs target later) ∙ e)
]

-- ---- what a layer leads to

-- what is found in a list, by what was found above it, leads on
abbrev LeadsFrom : ℕ → ℕ → List Checkpoint → List Checkpoint → List (List ℕ) → Type 0
LeadsFrom period target bottom cs us = (p : Option Checkpoint) (c : Checkpoint) → IsFoundAbove period target p cs → first_past cs target ≡ Some c
    → Leads period target bottom (Some c) (from_pointer (layer_text period cs) p) us

leads_at : (period target height : ℕ) (bottom cs : List Checkpoint) (us : List (List ℕ)) → 1 ≤ period → period ≤ 64 → IsInLine cs → AreSmall period height cs
    → (first_past cs target ≡ None → first_past bottom target ≡ None) → LeadsFrom period target bottom cs us
    → IsInLine (layer_at period height cs) × LeadsFrom period target bottom (layer_at period height cs) (lower_texts period height cs ++ us)
leads_at period target zero bottom cs us one small h all none found = (h, found)
leads_at period target (suc height) bottom cs us one small h all none found =
    let above = layer_above period cs in
    let text = layer_text period cs in
    let on = leads_at period target height bottom above (text ∷ us) one small (layer_above_is_in_line period cs one small h all.0) all.1 (λ e. none (none_pointed period target cs one h e))
    (λ q p a f. (cs, h, refl, f, none, λ c e. found (Some p) c f e)) in (
      on.0,
      subst (LeadsFrom period target bottom (layer_at period height above)) (sym (turn text (map (layer_text period) (layers_from period height above)) us)) on.1,
    )

-- There is a pointer to what is found.
pointed_to : (period target : ℕ) (cs : List Checkpoint) (c : Checkpoint) → 1 ≤ period → IsInLine cs → first_past cs target ≡ Some c
    → (p : Checkpoint) × (first_past (layer_above period cs) target ≡ Some p)
pointed_to period target cs c one h e = by_case (first_past (layer_above period cs) target) refl
  where
    by_case : (o : Option Checkpoint) → first_past (layer_above period cs) target ≡ o → (p : Checkpoint) × (first_past (layer_above period cs) target ≡ Some p)
    by_case None none = absurd (none_is_some (first_past cs target) (none_pointed period target cs one h none) e)
    by_case (Some p) some = (p, some)

-- The lowest layers lead from what was found to the first past the target. It was found in these bytes, where nothing was
-- found above the highest.
abbrev pub LeadsLower : ℕ → ℕ → List Checkpoint → Option Checkpoint → Option Checkpoint → List ℕ → Option (List (List ℕ)) → Type 0
LeadsLower period target bottom above found run left = (in_run : List ℕ) × LeadsOn period target bottom found in_run left × (above ≡ None → in_run ≡ run)

pub leads_lower : (period target height place : ℕ) (ends texts : List ℕ) (cs : List Checkpoint) (found : Option Checkpoint) (run : List ℕ) → 2 ≤ period → period ≤ 64 → IsInLine cs
    → length texts < 2 ^ 64
    → layers_left height place ends texts ≡ Some (lower_texts period height cs) → IsFoundIn period height cs target found
    → LeadsLower period target cs found found run (layers_left height place ends texts)
leads_lower period target height place ends texts cs None run two small h fits left digits =
    let all = small_left period height place ends texts cs fits left in
    (run, (lower_texts period height cs, left, leads_all period target height cs run two small h (sym digits) all), λ _. refl)
leads_lower period target height place ends texts cs (Some p) run two small h fits left found =
    let one : 1 ≤ period = omega arith in
    let all = small_left period height place ends texts cs fits left in
    let at = leads_at period target height cs cs [] one small h all (λ e. e) (λ q d above e. (e, rest_found period target cs q one small h above)) in
    let layer = layer_at period height cs in
    let above = pointed_to period target layer p one at.0 found in (
      from_pointer (layer_text period layer) (Some above.0),
      (
        lower_texts period height cs,
        left,
        subst (Leads period target cs (Some p) (from_pointer (layer_text period layer) (Some above.0))) (append-nil (lower_texts period height cs)) (at.1 (Some above.0) p above.1 found),
      ),
      λ none. absurd cc,
    )

-- what holds of the layers that are seen holds of those inside
pub inside_lower : (u v : LayersBelow) (cs : List Checkpoint) → u ≡ v → v ≡ lower_layers v.period v.height cs → u.texts ≡ Some (lower_texts u.period u.height cs)
inside_lower u v cs e is = ap (λ (w : LayersBelow). w.texts) (subst (λ (w : LayersBelow). w ≡ lower_layers w.period w.height cs) (sym e) is)

pub inside_found : (u v : LayersBelow) (cs : List Checkpoint) (target : ℕ) (found : Option Checkpoint) → u ≡ v → IsFoundIn v.period v.height cs target found
    → IsFoundIn u.period u.height cs target found
inside_found u v cs target found e is = subst (λ (w : LayersBelow). IsFoundIn w.period w.height cs target found) (sym e) is

-- The layer of these rows is so many layers above the list, and begins where all begin.
pub record HasRows (period height : ℕ) (cs : List Checkpoint) (rows : List Row) : Type 0 where
  pub are : AreRowsOf (layer_at period height cs) rows
  pub line : IsInLineFrom 0 0 (layer_at period height cs)
  pub small : AreSmall period height cs
  pub least : 1 ≤ period
  pub most : period ≤ 64

pub has_rows : (u v : LayersBelow) (place : ℕ) (ends texts : List ℕ) (cs : List Checkpoint) (rows : List Row) → u ≡ v → u.texts ≡ layers_left u.height place ends texts → 2 ≤ u.period → u.period ≤ 64
    → length texts < 2 ^ 64 → false ≡ eqb (length rows) 0 → IsInLineFrom 0 0 cs → v ≡ lower_layers v.period v.height cs → AreRowsAbove v.period v.height cs rows → HasRows v.period v.height cs rows
has_rows u v place ends texts cs [] e left two small fits some line is rows = absurd cc
has_rows u v place ends texts cs (row ∷ rows) e left two small fits some line is are =
    let one : 1 ≤ u.period = omega arith in
    let all = small_left u.period u.height place ends texts cs fits (sym left ∙ inside_lower u v cs e is) in
    let at = from_zero u.period u.height cs one small line all in
    record {
      are = are;
      line = subst (λ (w : LayersBelow). IsInLineFrom 0 0 (layer_at w.period w.height cs)) e at;
      small = subst (λ (w : LayersBelow). AreSmall w.period w.height cs) e all;
      least = subst (λ (w : LayersBelow). 1 ≤ w.period) e one;
      most = subst (λ (w : LayersBelow). w.period ≤ 64) e small;
    }

-- what a seek in a list that begins where all begin finds has the target
pub found_has : (cs : List Checkpoint) (target : ℕ) (c : Checkpoint) → IsInLineFrom 0 0 cs → first_past cs target ≡ Some c
    → (c.doc_range.start ≤ target) × (target < c.doc_range.end) × (c.byte_range.start ≤ c.byte_range.end)
found_has cs target c line e =
    let past : IsPast target c = subst (λ (o : Option Checkpoint). IfSome o (IsPast target)) e (found_past 0 0 cs target line) in
    (begins_by 0 0 cs target c line (omega arith) e, past.past, past.bytes)

-- what is answered
pub answer_is : (a b : Option Checkpoint) → a ≡ b → ◌≡◌ {A = Result (Option Checkpoint) StoreError} (Ok a) (Ok b)
answer_is a b e = ap (λ (o : Option Checkpoint). Ok o) e
