use Rattle.std.proofs.Common.{◌≡◌, inl, inr, ℕ, Bool, Option, sym, subst}
use Rattle.store_reader.specs.Walking.{set_of as set_of_lent, PassesDead}
use Rattle.store_reader.specs.Reading.{num_docs}
use Rattle.store_merge.specs.Bringing.{IsCopied}
use Rattle.store_merge.specs.Choice.{alive_of}
use Rattle.store_merge.specs.Inputs.{IsStacked, IsInputTaken}
use Rattle.store_merge.specs.Refusals.{StopsAt, HasGrown}
use Rattle.store_merge.specs.Stacking.{BeginsSlots}
use Rattle.store_merge.proofs.StackedLemmas.{begun_grown}
use Rattle.store_merge.proofs.TakeLemmas.{ok_then, err_then, lent, stacked_taken, copied_taken, stopped_grown}
use Rattle.store_merge.proofs.taking.take_input.Goals as goal

pub returns-then-is_stacked-clause-taken : goal.returns-then-is_stacked-clause-taken
returns-then-is_stacked-clause-taken g c =
    let x = c.args.input.now in
    let old = c.args.writer.now in
    let new = c.stack_store.new.writer in
    ok_then (IsStacked x.reader old new) (IsInputTaken x old new) c.stack_store.result (stacked_taken x old new (sym c.if-is_stacked.ensures.stacked)) c.stack_store.ensures.stacked

pub returns-clause-taken : goal.returns-clause-taken
returns-clause-taken g c =
    let x = c.args.input.now in
    let old = c.args.writer.now in
    let new = c.copy_documents.new.writer in
    let set = set_of_lent c.as_ref.result in
    ok_then (IsCopied x.reader.file.honest (alive_of x.reader set) old new) (IsInputTaken x old new) c.copy_documents.result
    (copied_taken x set old new (sym c.if-is_stacked.ensures.stacked) (lent c.as_ref.result x.alive c.as_ref.ensures.value)) c.copy_documents.ensures.copied

pub returns-clause-grown : goal.returns-clause-grown
returns-clause-grown g c =
    let x = c.args.input.now in
    let old = c.args.writer.now in
    let new = c.copy_documents.new.writer in
    let set = set_of_lent c.as_ref.result in
    err_then (StopsAt set x.reader c.copy_documents.new.reader old new) (λ _. new.output.failure ≡ old.output.failure → HasGrown x old new) c.copy_documents.result
    (λ e. stopped_grown x set c.copy_documents.new.reader old new e (lent c.as_ref.result x.alive c.as_ref.ensures.value)) c.copy_documents.ensures.stopped

pub returns-then-is_stacked-clause-grown : goal.returns-then-is_stacked-clause-grown
returns-then-is_stacked-clause-grown g c =
    let x = c.args.input.now in
    let old = c.args.writer.now in
    let new = c.stack_store.new.writer in
    err_then (λ _. new.output.failure ≡ old.output.failure → BeginsSlots x.reader old new) (λ _. new.output.failure ≡ old.output.failure → HasGrown x old new) c.stack_store.result
    (λ e grown same. begun_grown x old new (sym c.if-is_stacked.ensures.stacked) c.if-is_stacked.ensures.count (grown same)) c.stack_store.ensures.grown

pub returns-then-is_stacked-clause-faults : goal.returns-then-is_stacked-clause-faults
returns-then-is_stacked-clause-faults g c = elim c.stack_store.ensures.faults [ inl read ↦ inl read | inr same ↦ inr (inl same) ]

pub returns-clause-faults : goal.returns-clause-faults
returns-clause-faults g c =
    let x = c.args.input.now in
    let same = lent c.as_ref.result x.alive c.as_ref.ensures.value in
    elim c.copy_documents.ensures.faults [
      | inl read ↦ inl read
      | inr steady ↦ inr (elim steady [
        | inl still ↦ inl still
        | inr p ↦ inr (
          sym c.if-is_stacked.ensures.stacked,
          subst (λ (s : Option (ℕ → Bool)). PassesDead s x.reader.checkpoints 0 (num_docs x.reader)) same p,
        )
      ])
    ]
