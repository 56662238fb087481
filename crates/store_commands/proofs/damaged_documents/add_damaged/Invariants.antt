use Rattle.std.proofs.Common.{◌≡◌, ℕ}
use Rattle.std.specs.Prelude.{◌||◌}
use Rattle.std.specs.List.{AllByRecursion}
use Rattle.store_commands.specs.Checks.{slots_in}
use Rattle.store_commands.specs.Damaged.{damaged_from}
use Rattle.store_commands.specs.LeftOut.{is_among, HasId}
use Rattle.store_commands.proofs.damaged_documents.add_damaged.Given as goal

-- the damaged ones so far were added
abbrev pub invariant-loop-position : goal.invariant-loop-position
invariant-loop-position l = record {
  added : (id : ℕ) → is_among l.spans.items id ≡ (is_among l.fn.spans.items id || damaged_from l.first (slots_in l.block l.position) id);
  filled : AllByRecursion HasId l.spans.items;
}
