use Rattle.std.proofs.Common.{◌≡◌, take, reverse}
use Rattle.store_files.specs.Knowledge.{said, known_by, entries_by, IsOf}
use Rattle.store_files.specs.Mark.{claimed, others_of, claims_entries}
use Rattle.store_files.proofs.laws.doings_are_known.Given as goal

abbrev pub invariant-loop-doing : goal.invariant-loop-doing
invariant-loop-doing l = record {
  known : IsOf (others_of l.mark.kind) (known_by (others_of l.mark.kind) (claimed l.mark) (reverse (take l.doing-index l.doings))) l.knowledge.others (said l.knowledge);
  entries : l.knowledge.has_kept_entries ≡ entries_by (claims_entries l.mark.kind) (reverse (take l.doing-index l.doings));
}
