use Rattle.std.proofs.Common.{◌+◌}
use Rattle.store_commands.proofs.SpanLemmas.{IsMerging}
use Rattle.store_commands.proofs.left_out.merged.Given as goal

-- the ranges so far were merged
abbrev pub invariant-loop-span : goal.invariant-loop-span
invariant-loop-span l = IsMerging l.spans l.merged.items l.last (l.span-index + 1)
