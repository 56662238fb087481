use Rattle.std.proofs.Common.{rules, string_bytes, is_ok}
use Rattle.store_files.specs.Disk.{replay}
use Rattle.store_files.specs.Steps.{SyncsFile}
use Rattle.store_files.proofs.DiskLemmas.{when_ok}
use Rattle.store_files.proofs.disk_folder.DiskFolderFolder.sync_file.Goals as goal

pub returns-clause-durable : goal.returns-clause-durable
returns-clause-durable g c = λ h.
    let d = c.args.self.now.path in
    let did : SyncsFile c.args.name.now (is_ok c.count.result) (replay (g.S.SystemFiles.changes c.args.self.now.system d) (g.S.SystemFiles.start d))
    (replay (g.S.SystemFiles.changes c.self.inside.system (string_bytes c.self.inside.path)) (g.S.SystemFiles.start (string_bytes c.self.inside.path))) = search rules in
    when_ok c.count.result did.durable
