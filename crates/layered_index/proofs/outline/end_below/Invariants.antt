use Rattle.std.proofs.Common.{◌≡◌, ◌+◌, ◌<◌, ◌≤◌, List, length}
use Rattle.layered_index.specs.declared.checkpoint.Checkpoint.{Checkpoint}
use Rattle.layered_index.specs.Checkpoint.{IsInLine}
use Rattle.layered_index.specs.Layers.{layer_text, layer_above}
use Rattle.layered_index.specs.Rows.{HasEnd, last_start}
use Rattle.layered_index.proofs.outline.end_below.Given as goal

-- what is left of the last run of a layer ends as the layer does, and is no longer than the turns that are left
abbrev pub invariant-loop : goal.invariant-loop
invariant-loop l = (cs : List Checkpoint) → IsInLine cs → 0 < length cs → l.fn.layer ≡ layer_text l.period cs → HasEnd (layer_above l.period cs) l.fn.above
    → (l.count + length l.run ≡ length cs) × (last_start l.start l.run ≡ last_start 0 cs) × (l.counter + length l.run ≤ l.period)
