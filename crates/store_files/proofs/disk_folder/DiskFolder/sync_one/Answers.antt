use Rattle.std.proofs.Common.{rules, true, is_ok}
use Rattle.store_files.specs.Disk.{replay}
use Rattle.store_files.specs.Steps.{SyncsFile}
use Rattle.store_files.proofs.StepLemmas.{syncs_any}
use Rattle.store_files.proofs.disk_folder.DiskFolder.sync_one.Goals as goal

pub returns-in-true-clause-synced : goal.returns-in-true-clause-synced
returns-in-true-clause-synced g c = λ h.
    let d = c.args.self.now.path in
    let did : SyncsFile c.args.name.now true (replay (g.S.SystemFiles.changes c.args.self.now.system d) (g.S.SystemFiles.start d))
    (replay (g.S.SystemFiles.changes c.renew.new.self.system d) (g.S.SystemFiles.start d)) = search rules in
    syncs_any c.args.name.now (is_ok c.renew.result) _ _ did
