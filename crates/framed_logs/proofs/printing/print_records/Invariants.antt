-- The records of the numbers before this one are written. Where there are none, it is the first one.
use Rattle.std.proofs.Common.{◌≡◌, ◌≤◌, ◌-◌, ℕ, List}
use Rattle.std.specs.Prelude.{IsTrue}
use Rattle.store_format.specs.Block.{Slot}
use Rattle.segmented_log.specs.Log.{IsLog}
use Rattle.framed_logs.specs.Reading.{PrintsRecords}
use Rattle.framed_logs.proofs.printing.print_records.Given as goal

abbrev pub invariant-loop-number : goal.invariant-loop-number
invariant-loop-number g l = (l.read.folder ≡ l.initial.read.folder) × (l.read.end ≡ l.initial.read.end) × (l.to ≤ l.from → l.number ≡ l.from)
    × (IsTrue g.F.Folder.honest → (first : ℕ) (all : List Slot) → IsLog first all (g.F.Folder.seen l.initial.read.folder)
    → PrintsRecords l.form first all l.from (l.number - l.from) (g.W.Write.contents l.initial.output) (g.W.Write.contents l.output))
