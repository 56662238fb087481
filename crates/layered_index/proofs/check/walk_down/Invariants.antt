use Rattle.std.proofs.Common.{◌≡◌, ◌<◌, ◌≤◌, List, ℕ, length, Some}
use Rattle.std.specs.Prelude.{IsSome}
use Rattle.layered_index.specs.Sought.{layers_left}
use Rattle.layered_index.specs.Tallies.{no_tally, kept}
use Rattle.layered_index.proofs.WalkDownLemmas.{WalksOn, given}
use Rattle.layered_index.proofs.check.walk_down.Given as goal

-- those left are layers exactly if all are, and only the bottom one's checkpoints get rows
abbrev pub invariant-loop-left : goal.invariant-loop-left
invariant-loop-left l = record {
  cut : IsSome (layers_left l.left l.place l.ends_left l.texts_left);
  within : length l.texts_left ≤ length l.bytes;
  walk : (ts : List (List ℕ)) → layers_left l.count 0 l.ends l.texts ≡ Some ts → WalksOn l.period (length l.bytes) ts l.above l.left l.place l.ends_left l.texts_left;
  same : 0 < l.left → l.rows ≡ l.initial.rows;
  done : l.left ≡ 0 → (l.tally, l.rows) ≡ kept (no_tally, l.initial.rows) (given l.above);
}

abbrev pub decreases-loop-left : goal.decreases-loop-left
decreases-loop-left l = l.left
