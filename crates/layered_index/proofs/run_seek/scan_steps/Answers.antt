use Rattle.std.proofs.Common.{sym, arith}
use Rattle.layered_index.specs.Sought.{scanned}
use Rattle.layered_index.proofs.SoughtLemmas.{scan_goes_on, scan_finds, scan_ends, scan_is_done}
use Rattle.layered_index.proofs.run_seek.scan_steps.Goals as goal

pub returns-in_err-checkpoint-clause-read : goal.returns-in_err-checkpoint-clause-read
returns-in_err-checkpoint-clause-read c =
    let h = c.args.heading in
    let l = c.loop in
    rw c.from_residual.ensures (scan_ends c.args.target h.count l.counter l.doc_end l.byte_end l.rest.now (scanned c.args.target h.count h.doc h.byte c.args.bytes.now) c.loop-test.true
    (sym c.in_err-checkpoint.ensures) l.invariant.read)

pub returns-then-target-checkpoint-clause-read : goal.returns-then-target-checkpoint-clause-read
returns-then-target-checkpoint-clause-read c =
    let h = c.args.heading in
    let l = c.loop in
    scan_finds c.args.target h.count l.counter l.doc_end l.byte_end l.rest.now c.in_ok-checkpoint.checkpoint c.in_ok-checkpoint.after.now
    (scanned c.args.target h.count h.doc h.byte c.args.bytes.now) c.loop-test.true (sym c.in_ok-checkpoint.ensures) c.if-target-checkpoint.true l.invariant.read

pub loop-preserved : goal.loop-preserved
loop-preserved c =
    let h = c.args.heading in
    let l = c.loop in
    record {
      read = scan_goes_on c.args.target h.count l.counter l.doc_end l.byte_end l.rest.now c.in_ok-checkpoint.checkpoint c.in_ok-checkpoint.after.now
          (scanned c.args.target h.count h.doc h.byte c.args.bytes.now) c.loop-test.true (sym c.in_ok-checkpoint.ensures) c.if-target-checkpoint.false l.invariant.read;
      counted = omega (arith, c.add.ensures.count, l.invariant.counted);
      more = omega (arith, c.add.ensures.more, l.invariant.more);
    }

pub returns-clause-read : goal.returns-clause-read
returns-clause-read c =
    let h = c.args.heading in
    let l = c.loop in
    scan_is_done c.args.target h.count l.counter l.doc_end l.byte_end l.rest.now (scanned c.args.target h.count h.doc h.byte c.args.bytes.now) c.loop-test.false l.invariant.read
