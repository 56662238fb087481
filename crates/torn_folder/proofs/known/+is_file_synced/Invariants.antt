use Rattle.std.proofs.Common.{length}
use Rattle.torn_folder.proofs.known.+is_file_synced.Given as goal

abbrev pub decreases-is_file_synced : goal.decreases-is_file_synced
decreases-is_file_synced l = length l.events.now
