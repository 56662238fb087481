use Rattle.segmented_log.proofs.FoundLemmas.{seen_after}
use Rattle.segmented_log.proofs.found_files.sync_found_file.Goals as goal

pub returns-then-can_sync-clause-seen : goal.returns-then-can_sync-clause-seen
returns-then-can_sync-clause-seen g c = λ h n.
    let F = g.F.Folder in
    seen_after c.args.name.now (F.seen c.args.folder.now) (F.seen c.sync_file.new.self) (c.in_ok-sync_file.ensures.seen h) (c.sync_file.ensures.elsewhere h) n
