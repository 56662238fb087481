use Rattle.std.proofs.Common.{◌≡◌, ℕ, ◌-◌, sym, subst, arith}
use Rattle.layered_index.specs.Checkpoint.{docs_end}
use Rattle.layered_index.proofs.IndexHeadLemmas.{none_is_some}
use Rattle.layered_index.proofs.OuterLayersLemmas.{AreSteps, head_of, head_is, steps_there, steps_on}
use Rattle.layered_index.proofs.index_slice.block_docs_end.Goals as goal

pub returns-in_err-heading : goal.returns-in_err-heading
returns-in_err-heading c cs h some few text =
    let is = head_of cs c.args.bytes.now h some (omega (arith, few, c.requires)) text in
    absurd (none_is_some _ (sym c.in_err-heading.ensures) is.is)

pub returns-then-most-heading : goal.returns-then-most-heading
returns-then-most-heading c cs h some few text =
    let is = head_is cs _ c.in_ok-heading.heading c.in_ok-heading.steps.now (head_of cs c.args.bytes.now h some (omega (arith, few, c.requires)) text) (sym c.in_ok-heading.ensures) in
    absurd (omega (arith, few, is.0, c.if-most-heading.true))

pub loop-init : goal.loop-init
loop-init c cs h some few text =
    let is = head_is cs _ c.in_ok-heading.heading c.in_ok-heading.steps.now (head_of cs c.args.bytes.now h some (omega (arith, few, c.requires)) text) (sym c.in_ok-heading.ensures) in
    let head = c.in_ok-heading.heading in
    let all : head.count ≡ head.count - 0 = omega arith in
    subst (λ (n : ℕ). AreSteps head.doc head.byte n c.in_ok-heading.steps.now (docs_end 0 cs)) all is.1

pub returns-in_err-checkpoint : goal.returns-in_err-checkpoint
returns-in_err-checkpoint c cs h some few text =
    let l = c.loop in
    absurd (steps_there l.doc_end l.byte_end c.in_ok-heading.heading.count l.counter l.rest.now (docs_end 0 cs) c.loop-test.true (l.invariant cs h some few text) (sym c.in_err-checkpoint.ensures))

pub loop-preserved : goal.loop-preserved
loop-preserved c cs h some few text =
    let l = c.loop in
    steps_on l.doc_end l.byte_end c.in_ok-heading.heading.count l.counter l.rest.now (docs_end 0 cs) c.in_ok-checkpoint.checkpoint c.in_ok-checkpoint.after.now c.loop-test.true
    (l.invariant cs h some few text) (sym c.in_ok-checkpoint.ensures)
