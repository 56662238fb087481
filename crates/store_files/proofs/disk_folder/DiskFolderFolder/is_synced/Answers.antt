use Rattle.std.proofs.Common.{rules}
use Rattle.store_files.specs.Disk.{replay}
use Rattle.store_files.specs.Knowledge.{said}
use Rattle.store_files.specs.Known.{Knows}
use Rattle.store_files.proofs.disk_folder.DiskFolderFolder.is_synced.Goals as goal

pub returns-clause-durable : goal.returns-clause-durable
returns-clause-durable g c = λ h is bytes holds.
    let d = c.args.self.now.path in
    let before = (c.self.invariant h).0 in
    let known : Knows (said c.self.inside.mark.knowledge) c.self.inside.mark.knowledge.has_kept_entries
    (replay (g.S.SystemFiles.changes c.args.self.now.system d) (g.S.SystemFiles.start d)) = search rules in
    known.synced c.args.name.now bytes (c.is_synced.ensures.0 is) holds
