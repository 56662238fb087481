use Rattle.std.proofs.Common.{◌≡◌, ◌⊎◌, inr, List, ◌++◌, sym, ◌∙◌, ap}
use Rattle.std.specs.List.{AllByRecursion, flat_map}
use Rattle.store_format.specs.Block.{Slot}
use Rattle.docstore.specs.Laws.{taken}
use Rattle.store_merge.specs.declared.input.MergeInput.{MergeInput}
use Rattle.store_merge.specs.Choice.{alive_slots}
use Rattle.store_merge.specs.Inputs.{IsSteadyInput}
use Rattle.store_merge.specs.Stacking.{Leaves}
use Rattle.store_merge.specs.Merge.{IsHonest, IsMerged, IsEnded, IsFailed, HasBegun}
use Rattle.store_merge.proofs.HonestLemmas.{can_be_taken, all_slots}
use Rattle.store_merge.proofs.MergeLemmas.{all_kept, each_same, steady_same}
use Rattle.store_merge.proofs.TakeLemmas.{ok_then, err_then}
use Rattle.store_merge.proofs.EndLemmas.{IsUnfailed, unfailed_end, begun}
use Rattle.store_merge.proofs.merging.merge_by.Goals as goal

pub returns-in-Some-clause-kept : goal.returns-in-Some-clause-kept
returns-in-Some-clause-kept g c = all_kept c.args.inputs.now

pub take_inputs-requires-clause-inputs : goal.take_inputs-requires-clause-inputs
take_inputs-requires-clause-inputs g c = can_be_taken c.args.inputs.now c.requires.sets (sym c.first_old.ensures ∙ c.in_default.is)

pub returns-clause-grown : goal.returns-clause-grown
returns-clause-grown g c =
    let inputs : List (MergeInput g.row.H.Denot) = c.args.inputs.now in
    let old = c.args.writer.now in
    let new = c.take_inputs.new.writer in
    ok_then (IsMerged inputs old new) (AllByRecursion IsHonest inputs → taken new ≡ taken old ++ flat_map alive_slots inputs) c.take_inputs.result
    (λ h honest. h.grown ∙ ap (λ (ss : List Slot). taken old ++ ss) (all_slots c.stacked_slots_are_counted.ensures inputs h.parts honest h.came)) c.take_inputs.ensures.merged

pub returns-clause-begun : goal.returns-clause-begun
returns-clause-begun g c = λ none honest.
    let inputs : List (MergeInput g.row.H.Denot) = c.args.inputs.now in
    let left : List (MergeInput g.row.H.Denot) = c.take_inputs.new.inputs in
    let old = c.args.writer.now in
    let new = c.take_inputs.new.writer in
    err_then (IsEnded (Leaves c.args.stacking) inputs left old new) (λ e. IsFailed e.error ⊎ HasBegun inputs e.input old new) c.take_inputs.result
    (λ e. begun c.stacked_slots_are_counted.ensures c.args.stacking inputs left old new e honest) c.take_inputs.ensures.ended

pub returns-clause-works : goal.returns-clause-works
returns-clause-works g c =
    let inputs : List (MergeInput g.row.H.Denot) = c.args.inputs.now in
    let left : List (MergeInput g.row.H.Denot) = c.take_inputs.new.inputs in
    let old = c.args.writer.now in
    let new = c.take_inputs.new.writer in
    err_then (IsEnded (Leaves c.args.stacking) inputs left old new) (λ e. IsUnfailed e.error old new) c.take_inputs.result
    (unfailed_end c.args.stacking inputs left old new) c.take_inputs.ensures.ended

pub returns-in-Some-clause-faults : goal.returns-in-Some-clause-faults
returns-in-Some-clause-faults g c = inr (each_same IsSteadyInput steady_same c.args.inputs.now)
