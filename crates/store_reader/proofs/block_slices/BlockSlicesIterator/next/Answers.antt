use Rattle.std.proofs.Common.{None, Some, true, subst}
use Rattle.std.specs.Prelude.{Ok, Err}
use Rattle.store_base.specs.declared.error.StoreError.TheVariants.{BadIndex}
use Rattle.store_reader.specs.StoreSlices.{BlocksLeft}
use Rattle.store_reader.proofs.BlocksLeftLemmas.{Steps, not_true, steps_end, steps_on, steps_fail}
use Rattle.store_reader.proofs.block_slices.BlockSlicesIterator.next.Goals as goal

pub returns-in_err-checkpoint-clause-steps : goal.returns-in_err-checkpoint-clause-steps
returns-in_err-checkpoint-clause-steps c =
    let i = c.self.inside in
    let rest = c.next.new.self in
    let left : BlocksLeft = record { bytes = i.file.now; data_len = i.data_len; next = i.next; checkpoints = i.checkpoints; failed = i.failed } in
    rw c.from_residual.ensures
    (subst (λ (l : BlocksLeft). Steps l None (record left { checkpoints = rest })) c.self.view_is (steps_end left rest c.in_err-checkpoint.ensures.steps))

pub returns-in-Some-clause-steps : goal.returns-in-Some-clause-steps
returns-in-Some-clause-steps c =
    let i = c.self.inside in
    let rest = c.next.new.self in
    let b = c.in-Some.block in
    let left : BlocksLeft = record { bytes = i.file.now; data_len = i.data_len; next = i.next; checkpoints = i.checkpoints; failed = i.failed } in
    subst (λ (l : BlocksLeft). Steps l (Some (Ok b)) (record left { next = b.end; checkpoints = rest })) c.self.view_is
    (steps_on left c.in_ok-checkpoint.checkpoint rest b c.in_ok-checkpoint.ensures.steps c.if-self.false c.in-Some.ensures.part c.in-Some.ensures.block)

pub returns-in-None-clause-steps : goal.returns-in-None-clause-steps
returns-in-None-clause-steps c =
    let i = c.self.inside in
    let rest = c.next.new.self in
    let left : BlocksLeft = record { bytes = i.file.now; data_len = i.data_len; next = i.next; checkpoints = i.checkpoints; failed = i.failed } in
    subst (λ (l : BlocksLeft). Steps l (Some (Err BadIndex)) (record left { failed = true; checkpoints = rest })) c.self.view_is
    (steps_fail left c.in_ok-checkpoint.checkpoint rest c.in_ok-checkpoint.ensures.steps c.if-self.false (λ follows. not_true (c.in-None.ensures.taken follows)))
