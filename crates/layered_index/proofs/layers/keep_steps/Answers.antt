use Rattle.std.proofs.Common.{◌-◌, ◌+◌, List, sym, ◌∙◌, ap, arith}
use Rattle.layered_index.specs.declared.row.Row.{Row}
use Rattle.layered_index.specs.declared.tally.Tally.{Tally}
use Rattle.layered_index.specs.BlockReading.{steps_at, ends_of}
use Rattle.layered_index.specs.LayerReading.{items}
use Rattle.layered_index.specs.Tallies.{kept}
use Rattle.layered_index.proofs.SkipLemmas.{goes_on, ends, is_done}
use Rattle.layered_index.proofs.CursorLemmas.{items_left, items_over, step_takes}
use Rattle.layered_index.proofs.layers.keep_steps.Goals as goal

pub returns-in_err-checkpoint-clause-read : goal.returns-in_err-checkpoint-clause-read
returns-in_err-checkpoint-clause-read c =
    let h = c.args.heading in
    rw c.from_residual.ensures (sym (ends h.count c.loop.counter c.loop.doc_end c.loop.byte_end c.loop.rest.now (ends_of h.doc h.byte (steps_at h.count h.doc h.byte c.args.bytes.now))
    c.loop-test.true (sym c.in_err-checkpoint.ensures) c.loop.invariant.read))

pub add-requires : goal.add-requires
add-requires c =
    let l = c.loop in
    omega (arith, c.requires, l.invariant.few, step_takes l.doc_end l.byte_end l.rest.now (c.in_ok-checkpoint.checkpoint, c.in_ok-checkpoint.after.now) (sym c.in_ok-checkpoint.ensures))

pub loop-preserved : goal.loop-preserved
loop-preserved c =
    let h = c.args.heading in
    let l = c.loop in
    let one = c.in_ok-checkpoint.checkpoint in
    let after = c.in_ok-checkpoint.after.now in
    let left = items (h.count - (l.counter + 1)) one.doc_range.end one.byte_range.end after in
    record {
      read = goes_on h.count l.counter l.doc_end l.byte_end l.rest.now one after (ends_of h.doc h.byte (steps_at h.count h.doc h.byte c.args.bytes.now)) c.loop-test.true
          (sym c.in_ok-checkpoint.ensures) l.invariant.read;
      kept = ap (λ (k : Tally × List Row). kept k left) c.add.ensures
          ∙ ap (kept (l.tally, l.rows)) (sym (items_left h.count l.counter l.doc_end l.byte_end l.rest.now one after c.loop-test.true (sym c.in_ok-checkpoint.ensures))) ∙ l.invariant.kept;
      few = omega (arith, l.invariant.few, step_takes l.doc_end l.byte_end l.rest.now (one, after) (sym c.in_ok-checkpoint.ensures), ap (λ (k : Tally × List Row). k.0.count) c.add.ensures);
    }

pub returns-clause-read : goal.returns-clause-read
returns-clause-read c =
    let h = c.args.heading in
    sym (is_done h.count c.loop.counter c.loop.doc_end c.loop.byte_end c.loop.rest.now (ends_of h.doc h.byte (steps_at h.count h.doc h.byte c.args.bytes.now)) c.loop-test.false c.loop.invariant.read)

pub returns-clause-kept : goal.returns-clause-kept
returns-clause-kept c =
    let l = c.loop in
    ap (kept (l.tally, l.rows)) (sym (items_over c.args.heading.count l.counter l.doc_end l.byte_end l.rest.now c.loop-test.false)) ∙ l.invariant.kept
