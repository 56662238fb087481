use Rattle.std.proofs.Common.{length}
use Rattle.torn_folder.proofs.known.+is_file_trusted.Given as goal

abbrev pub decreases-is_file_trusted : goal.decreases-is_file_trusted
decreases-is_file_trusted l = length l.events.now
