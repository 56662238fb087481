use Rattle.std.proofs.Common.{rules, ◌≡◌, ℕ, List, Some, subst}
use Rattle.store_files.specs.Disk.{replay, seen, held}
use Rattle.store_files.proofs.disk_folder.DiskFolder.is_left_synced.Goals as goal

pub returns-in-Ok-clause-durable : goal.returns-in-Ok-clause-durable
returns-in-Ok-clause-durable g c = λ h is.
    let name = c.args.name.now in
    let system = c.self.inside.system in
    let path : c.as_str.result.now ≡ c.args.self.now.path = search rules in
    let same : system ≡ c.args.self.now.system = search rules in
    let given = subst
    (λ p. (bytes : List ℕ) → held (replay (g.S.SystemFiles.changes system p) (g.S.SystemFiles.start p)) name bytes
    → seen (replay (g.S.SystemFiles.changes system p) (g.S.SystemFiles.start p)) name ≡ Some bytes) path (c.in-Ok.ensures.durable h is) in
    let d = c.args.self.now.path in
    subst
    (λ s. (bytes : List ℕ) → held (replay (g.S.SystemFiles.changes s d) (g.S.SystemFiles.start d)) name bytes
    → seen (replay (g.S.SystemFiles.changes s d) (g.S.SystemFiles.start d)) name ≡ Some bytes) same given
