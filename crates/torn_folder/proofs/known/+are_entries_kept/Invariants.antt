use Rattle.std.proofs.Common.{length}
use Rattle.torn_folder.proofs.known.+are_entries_kept.Given as goal

abbrev pub decreases-are_entries_kept : goal.decreases-are_entries_kept
decreases-are_entries_kept l = length l.events.now
