-- What the first pointer past a target points to: the run that has the first checkpoint past it.
use Rattle.std.proofs.Common.{◌≡◌, ℕ, ◌+◌, ◌<◌, ◌≤◌, inl, inr, ltb, List, [], ◌∷◌, ◌++◌, length, Option, Some, None, refl, sym, ◌∙◌, ap, subst, arith, append_assoc, length-append}
use Rattle.std.proofs.lemmas.Bool.{cond-true, cond-false, lt-ltb, le-ltb, cases_lt}
use Rattle.std.proofs.lemmas.List.Folds.{find-append}
use Rattle.std.specs.Prelude.{slice_range, nat_lt, IfSome}
use Rattle.std.specs.Option.{option_or}
use Rattle.std.specs.List.{flat_map, AllByRecursion}
use Rattle.store_base.proofs.ListLemmas.{range_at}
use Rattle.layered_index.specs.declared.checkpoint.Checkpoint.{Checkpoint}
use Rattle.layered_index.specs.Checkpoint.{checkpoint, docs_end, bytes_end, IsInLineFrom, IsInLine, checkpoint_block, first_past}
use Rattle.layered_index.specs.Layers.{groups, layer_text, docs_start, pointers, layer_above}
use Rattle.layered_index.proofs.LineLemmas.{in_line-split, in_line_somewhere}
use Rattle.layered_index.specs.Sought.{IsPast}
use Rattle.layered_index.proofs.GroupLemmas.{groups_joined}
use Rattle.layered_index.proofs.LayerLemmas.{docs_grow}
use Rattle.layered_index.proofs.RunLemmas.{IsRun, groups_are_runs}

-- ---- the first past a target

pub past_here : (c : Checkpoint) (cs : List Checkpoint) (target : ℕ) → target < c.doc_range.end → first_past (c ∷ cs) target ≡ Some c
past_here c cs target lt = cond-true (ltb target c.doc_range.end) (Some c) (first_past cs target) (lt-ltb target c.doc_range.end lt)

pub past_later : (c : Checkpoint) (cs : List Checkpoint) (target : ℕ) → c.doc_range.end ≤ target → first_past (c ∷ cs) target ≡ first_past cs target
past_later c cs target le = cond-false (ltb target c.doc_range.end) (Some c) (first_past cs target) (le-ltb target c.doc_range.end le)

-- the first of two lists
first_past-append : (xs ys : List Checkpoint) (target : ℕ) → first_past (xs ++ ys) target ≡ option_or (first_past xs target) (first_past ys target)
first_past-append xs ys target = find-append (λ c. nat_lt target c.doc_range.end) xs ys

-- none is past it where the documents end at it or before
pub none_before : (doc byte : ℕ) (cs : List Checkpoint) (target : ℕ) → IsInLineFrom doc byte cs → docs_end doc cs ≤ target → first_past cs target ≡ None
none_before doc byte [] target h le = refl
none_before doc byte (c ∷ cs) target h le =
    let grow = docs_grow c.doc_range.end c.byte_range.end cs h.3 in
    past_later c cs target (omega arith) ∙ none_before c.doc_range.end c.byte_range.end cs target h.3 le

-- and one is where they end past it
some_past : (doc byte : ℕ) (c : Checkpoint) (cs : List Checkpoint) (target : ℕ) → IsInLineFrom doc byte (c ∷ cs) → target < docs_end c.doc_range.end cs
    → (x : Checkpoint) × (first_past (c ∷ cs) target ≡ Some x)
some_past doc byte c [] target h lt = (c, past_here c [] target lt)
some_past doc byte c (d ∷ cs) target h lt = elim (cases_lt target c.doc_range.end) [
  | inl here ↦ (c, past_here c (d ∷ cs) target here)
  | inr later ↦
      let on = some_past c.doc_range.end c.byte_range.end d cs target h.3 lt in
      (on.0, past_later c (d ∷ cs) target later ∙ on.1)
]

-- it is not reversed
pub found_past : (doc byte : ℕ) (cs : List Checkpoint) (target : ℕ) → IsInLineFrom doc byte cs → IfSome (first_past cs target) (IsPast target)
found_past doc byte [] target h = tt
found_past doc byte (c ∷ cs) target h = elim (cases_lt target c.doc_range.end) [
  | inl here ↦ subst (λ (o : Option Checkpoint). IfSome o (IsPast target)) (sym (past_here c cs target here)) (record { docs = h.2.doc_order; bytes = h.2.byte_order; past = here })
  | inr later ↦ subst (λ (o : Option Checkpoint). IfSome o (IsPast target)) (sym (past_later c cs target later)) (found_past c.doc_range.end c.byte_range.end cs target h.3)
]

-- ---- the run that is pointed to

-- The pointer is that to one of the runs, which has the first checkpoint past the target; the first run is at this place.
pub record IsPointer (period target place : ℕ) (gs : List (List Checkpoint)) (p : Checkpoint) : Type 0 where
  pub run : List Checkpoint
  pub front : List ℕ
  pub after : List (List Checkpoint)
  pub text : flat_map checkpoint_block gs ≡ front ++ (checkpoint_block run ++ flat_map checkpoint_block after)
  pub before : List Checkpoint
  pub whole : flat_map (λ g. g) gs ≡ before ++ (run ++ flat_map (λ g. g) after)
  pub none : first_past before target ≡ None
  pub start : p.byte_range.start ≡ place + length front
  pub end : p.byte_range.end ≡ p.byte_range.start + length (checkpoint_block run)
  pub docs_first : p.doc_range.start ≡ docs_start run
  pub docs_last : p.doc_range.end ≡ docs_end 0 run
  pub are_runs : AllByRecursion (IsRun period) (run ∷ after)
  pub first : first_past (flat_map (λ g. g) gs) target ≡ first_past run target

-- What a look at the pointers finds: the pointer to a run, or that no checkpoint is past the target.
abbrev Found : (period target place : ℕ) → List (List Checkpoint) → Option Checkpoint → Type 0
Found period target place gs None = first_past (flat_map (λ g. g) gs) target ≡ None
Found period target place gs (Some p) = IsPointer period target place gs p

-- a run before the others has no checkpoint past the target
passed : (period target place : ℕ) (g : List Checkpoint) (gs : List (List Checkpoint)) (o : Option Checkpoint) → first_past g target ≡ None
    → Found period target (place + length (checkpoint_block g)) gs o → Found period target place (g ∷ gs) o
passed period target place g gs None none on =
    first_past-append g (flat_map (λ (x : List Checkpoint). x) gs) target
    ∙ ap (λ (o : Option Checkpoint). option_or o (first_past (flat_map (λ (x : List Checkpoint). x) gs) target)) none ∙ on
passed period target place g gs (Some p) none on =
    let rest = flat_map (λ (x : List Checkpoint). x) gs in
    let block = checkpoint_block g in
    record {
      run = on.run;
      front = block ++ on.front;
      after = on.after;
      text = ap (λ (t : List ℕ). block ++ t) on.text ∙ sym (append_assoc block on.front (checkpoint_block on.run ++ flat_map checkpoint_block on.after));
      before = g ++ on.before;
      whole = ap (λ (xs : List Checkpoint). g ++ xs) on.whole ∙ sym (append_assoc g on.before (on.run ++ flat_map (λ (x : List Checkpoint). x) on.after));
      none = first_past-append g on.before target ∙ ap (λ (o : Option Checkpoint). option_or o (first_past on.before target)) none ∙ on.none;
      start = omega (arith, on.start, length-append block on.front);
      end = on.end;
      docs_first = on.docs_first;
      docs_last = on.docs_last;
      are_runs = on.are_runs;
      first = first_past-append g rest target ∙ ap (λ (o : Option Checkpoint). option_or o (first_past rest target)) none ∙ on.first;
    }

-- the first run is it, or one of the others
found : (period target place doc byte : ℕ) (gs : List (List Checkpoint)) → AllByRecursion (IsRun period) gs → IsInLineFrom doc byte (flat_map (λ g. g) gs)
    → Found period target place gs (first_past (pointers place gs) target)
found period target place doc byte [] runs h = refl
found period target place doc byte ([] ∷ gs) runs h = absurd (omega (arith, runs.0.some))
found period target place doc byte ((c ∷ cs) ∷ gs) runs h =
    let g = c ∷ cs in
    let rest = flat_map (λ (x : List Checkpoint). x) gs in
    let block = checkpoint_block g in
    let others = pointers (place + length block) gs in
    let q = checkpoint c.doc_range.start (docs_end c.doc_range.end cs) place (place + length block) in
    let both = in_line-split doc byte g rest h in
    elim (cases_lt target (docs_end c.doc_range.end cs)) [
      | inl here ↦
          let past = some_past doc byte c cs target both.0 here in
          let at_front : place ≡ place + 0 = omega arith in
          let is : IsPointer period target place (g ∷ gs) q = record {
            run = g;
            front = [];
            after = gs;
            text = refl;
            before = [];
            whole = refl;
            none = refl;
            start = at_front;
            end = refl;
            docs_first = refl;
            docs_last = refl;
            are_runs = runs;
            first = first_past-append g rest target ∙ ap (λ (o : Option Checkpoint). option_or o (first_past rest target)) past.1 ∙ sym past.1;
          } in
          subst (Found period target place (g ∷ gs)) (sym (past_here q others target here)) is
      | inr later ↦
          subst (Found period target place (g ∷ gs)) (sym (past_later q others target later))
          (passed period target place g gs (first_past others target) (none_before doc byte g target both.0 later)
          (found period target (place + length block) (docs_end doc g) (bytes_end byte g) gs runs.1 both.1))
    ]

pub is_pointer : (period target place doc byte : ℕ) (gs : List (List Checkpoint)) (p : Checkpoint) → AllByRecursion (IsRun period) gs → IsInLineFrom doc byte (flat_map (λ g. g) gs)
    → first_past (pointers place gs) target ≡ Some p → IsPointer period target place gs p
is_pointer period target place doc byte gs p runs h e = subst (Found period target place gs) e (found period target place doc byte gs runs h)

-- where no pointer is past it, no checkpoint is
no_pointer : (period target place doc byte : ℕ) (gs : List (List Checkpoint)) → AllByRecursion (IsRun period) gs → IsInLineFrom doc byte (flat_map (λ g. g) gs)
    → first_past (pointers place gs) target ≡ None → first_past (flat_map (λ g. g) gs) target ≡ None
no_pointer period target place doc byte gs runs h e = subst (Found period target place gs) e (found period target place doc byte gs runs h)

-- ---- a layer

-- What is pointed to is a run of the layer. Its block is this part of the text, and it has the first past the target.
pub record IsRunPointed (period target : ℕ) (cs : List Checkpoint) (p : Checkpoint) : Type 0 where
  pub run : List Checkpoint
  pub order : p.byte_range.start ≤ p.byte_range.end
  pub within : p.byte_range.end ≤ length (layer_text period cs)
  pub part : slice_range (layer_text period cs) p.byte_range.start p.byte_range.end ≡ checkpoint_block run
  pub docs_first : p.doc_range.start ≡ docs_start run
  pub docs_last : p.doc_range.end ≡ docs_end 0 run
  pub is_run : IsRun period run
  pub first : first_past cs target ≡ first_past run target

pub run_pointed : (period target : ℕ) (cs : List Checkpoint) (p : Checkpoint) → 1 ≤ period → IsInLine cs → first_past (layer_above period cs) target ≡ Some p → IsRunPointed period target cs p
run_pointed period target cs p one h e =
    let from = in_line_somewhere cs h in
    let gs = groups period cs in
    let joined = groups_joined period cs one in
    let is = is_pointer period target 0 from.0 from.1 gs p (groups_are_runs period from.0 from.1 cs one from.2) (subst (IsInLineFrom from.0 from.1) (sym joined) from.2) e in
    let start : p.byte_range.start ≡ length is.front = omega (arith, is.start) in
    let back = flat_map checkpoint_block is.after in
    record {
      run = is.run;
      order = omega (arith, is.end);
      within = omega (arith, is.end, start, ap length is.text, length-append is.front (checkpoint_block is.run ++ back), length-append (checkpoint_block is.run) back);
      part = ap (λ (t : List ℕ). slice_range t p.byte_range.start p.byte_range.end) is.text ∙ range_at is.front (checkpoint_block is.run) back p.byte_range.start p.byte_range.end start is.end;
      docs_first = is.docs_first;
      docs_last = is.docs_last;
      is_run = is.are_runs.0;
      first = ap (λ (xs : List Checkpoint). first_past xs target) (sym joined) ∙ is.first;
    }

pub none_pointed : (period target : ℕ) (cs : List Checkpoint) → 1 ≤ period → IsInLine cs → first_past (layer_above period cs) target ≡ None → first_past cs target ≡ None
none_pointed period target cs one h e =
    let from = in_line_somewhere cs h in
    let gs = groups period cs in
    let joined = groups_joined period cs one in
    ap (λ (xs : List Checkpoint). first_past xs target) (sym joined)
    ∙ no_pointer period target 0 from.0 from.1 gs (groups_are_runs period from.0 from.1 cs one from.2) (subst (IsInLineFrom from.0 from.1) (sym joined) from.2) e
