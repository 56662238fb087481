use Rattle.std.proofs.Common.{◌≡◌, ◌≤◌, ◌-◌, ◌+◌}
use Rattle.layered_index.specs.Sought.{scanned}
use Rattle.layered_index.proofs.run_seek.scan_steps.Given as goal

abbrev pub invariant-loop : goal.invariant-loop
invariant-loop l = record {
  read : scanned l.target (l.fn.heading.count - l.counter) l.doc_end l.byte_end l.rest ≡ scanned l.target l.fn.heading.count l.fn.heading.doc l.fn.heading.byte l.bytes;
  counted : l.steps ≤ l.initial.steps + l.counter;
  more : l.initial.steps ≤ l.steps;
}
