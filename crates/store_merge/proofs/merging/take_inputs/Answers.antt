use Rattle.std.proofs.Common.{◌≡◌, ◌⊎◌, inl, inr, Result, Ok, Err, ◌<◌, ◌+◌, List, length, get_or, set, refl, sym, ◌∙◌, subst, arith}
use Rattle.store_base.proofs.ListLemmas.{rest_more, next_same}
use Rattle.store_base.proofs.Steady.{still}
use Rattle.store_base.specs.declared.error.StoreError.{StoreError}
use Rattle.store_base.specs.declared.error.StoreError.TheVariants.{Read}
use Rattle.store_merge.specs.declared.input.MergeInput.{MergeInput}
use Rattle.store_merge.specs.Inputs.{CanBeTaken, IsInputKept, IsSteadyInput}
use Rattle.store_merge.specs.Stacking.{IsReadBy, IsStackedBy}
use Rattle.store_merge.proofs.MergeLemmas.{all_at, named_is, left_is, each_more, each_all, rest_all, steady_same, kept_all, none_merged, merged_more, merged_all}
use Rattle.store_merge.proofs.merging.take_inputs.Goals as goal

no_read : {P : Type 0} → (◌≡◌ {A = Result (Unit {0}) StoreError} (Ok tt) (Err Read)) ⊎ P → P
no_read (inl read) = absurd cc
no_read (inr p) = p

same_error : {e : StoreError} → ◌≡◌ {A = Result (Unit {0}) StoreError} (Err e) (Err Read) → e ≡ Read
same_error is = cc

pub loop-place-init : goal.loop-place-init
loop-place-init g c = record { merged = none_merged c.args.writer.now; kept = tt; read = tt; faults = tt; rest = refl; count = omega arith; steady = refl; sound = c.requires.sound }

pub take_input-requires-clause-input : goal.take_input-requires-clause-input
take_input-requires-clause-input g c =
    let olds : List (MergeInput g.row.H.Denot) = c.args.inputs.now in
    let news : List (MergeInput g.row.H.Denot) = c.loop-place.inputs in
    let i = c.loop-place.place in
    let d = c.index-inputs-place.result in
    subst CanBeTaken (sym (next_same olds news i d c.loop-place.invariant.rest)) (all_at CanBeTaken olds i d c.requires.inputs c.loop-place-test.true)

pub returns-in-Err-clause-ended : goal.returns-in-Err-clause-ended
returns-in-Err-clause-ended g c =
    let olds : List (MergeInput g.row.H.Denot) = c.args.inputs.now in
    let news : List (MergeInput g.row.H.Denot) = c.loop-place.inputs in
    let i = c.loop-place.place in
    let d = c.index-inputs-place.result in
    let lt : i < length news = omega arith in
    record {
      before = c.loop-place.writer;
      taken_before = c.loop-place.invariant.merged;
      count = c.loop-place.invariant.count;
      named = get_or news i d;
      is_named = named_is olds news i d c.loop-place.invariant.rest c.loop-place-test.true;
      rest = c.take_input.new.input;
      is_left = left_is news i c.take_input.new.input lt;
      refused = c.in-Err.ensures.refused;
      more = c.in-Err.ensures.grown;
    }

pub returns-in-Err-clause-kept : goal.returns-in-Err-clause-kept
returns-in-Err-clause-kept g c =
    let olds : List (MergeInput g.row.H.Denot) = c.args.inputs.now in
    let news : List (MergeInput g.row.H.Denot) = c.loop-place.inputs in
    let i = c.loop-place.place in
    let y = c.take_input.new.input in
    kept_all (i + 1) olds (set news i y)
    (each_more IsInputKept olds news i c.index-inputs-place.result y c.loop-place.auto.inputs c.loop-place-test.true c.loop-place.invariant.rest c.take_input.ensures.kept c.loop-place.invariant.kept)
    (rest_more olds news i y c.loop-place.invariant.rest)

pub returns-in-Err-clause-faults : goal.returns-in-Err-clause-faults
returns-in-Err-clause-faults g c =
    let olds : List (MergeInput g.row.H.Denot) = c.args.inputs.now in
    let news : List (MergeInput g.row.H.Denot) = c.loop-place.inputs in
    let i = c.loop-place.place in
    let d = c.index-inputs-place.result in
    let y = c.take_input.new.input in
    let inv = c.loop-place.invariant in
    elim c.in-Err.ensures.faults [
      | inl read ↦ inl (same_error read)
      | inr steady ↦ inr (rest_all IsSteadyInput steady_same (i + 1) olds (set news i y)
          (each_more IsSteadyInput olds news i d y c.loop-place.auto.inputs c.loop-place-test.true inv.rest steady inv.faults) (rest_more olds news i y inv.rest))
    ]

pub loop-place-preserved : goal.loop-place-preserved
loop-place-preserved g c =
    let olds : List (MergeInput g.row.H.Denot) = c.args.inputs.now in
    let news : List (MergeInput g.row.H.Denot) = c.loop-place.inputs in
    let i = c.loop-place.place in
    let d = c.index-inputs-place.result in
    let y = c.take_input.new.input in
    let inv = c.loop-place.invariant in
    record {
      merged = merged_more olds news i d c.args.writer.now c.loop-place.writer c.take_input.new.writer c.loop-place-test.true inv.rest inv.merged c.in_default.ensures.taken;
      kept = each_more IsInputKept olds news i d y c.loop-place.auto.inputs c.loop-place-test.true inv.rest c.take_input.ensures.kept inv.kept;
      read = each_more (IsStackedBy (IsReadBy c.args.stacking)) olds news i d y c.loop-place.auto.inputs c.loop-place-test.true inv.rest c.in_default.ensures.read inv.read;
      faults = each_more IsSteadyInput olds news i d y c.loop-place.auto.inputs c.loop-place-test.true inv.rest (no_read c.in_default.ensures.faults) inv.faults;
      rest = rest_more olds news i y inv.rest;
      count = omega (arith, inv.count, c.take_input.ensures.count);
      steady = still c.in_default.ensures.steady ∙ inv.steady;
      sound = c.take_input.ensures.sound;
    }

pub returns-clause-merged : goal.returns-clause-merged
returns-clause-merged g c =
    merged_all c.loop-place.place c.args.inputs.now c.args.writer.now c.loop-place.writer (omega arith) c.loop-place.invariant.merged

pub returns-clause-kept : goal.returns-clause-kept
returns-clause-kept g c = kept_all c.loop-place.place c.args.inputs.now c.loop-place.inputs c.loop-place.invariant.kept c.loop-place.invariant.rest

pub returns-clause-read : goal.returns-clause-read
returns-clause-read g c = each_all (IsStackedBy (IsReadBy c.args.stacking)) c.loop-place.place c.args.inputs.now c.loop-place.inputs c.loop-place.auto.inputs (omega arith) c.loop-place.invariant.read

pub returns-clause-faults : goal.returns-clause-faults
returns-clause-faults g c = inr (each_all IsSteadyInput c.loop-place.place c.args.inputs.now c.loop-place.inputs c.loop-place.auto.inputs (omega arith) c.loop-place.invariant.faults)
