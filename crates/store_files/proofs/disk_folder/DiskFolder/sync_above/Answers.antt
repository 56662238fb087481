use Rattle.std.proofs.Common.{◌≡◌, false, string_bytes, is_ok, rules, subst}
use Rattle.store_files.specs.Disk.{replay, seen}
use Rattle.store_files.specs.Steps.{SyncsEntries}
use Rattle.store_files.proofs.StepLemmas.{syncs_beside}
use Rattle.store_files.proofs.KnownLemmas.{ready, entries_same, still_tracked, held_not_read}
use Rattle.store_files.proofs.MarkedLemmas.{still}
use Rattle.store_files.proofs.disk_folder.DiskFolder.sync_above.Goals as goal

pub invariant_of-self : goal.invariant_of-self
invariant_of-self g c = λ h.
    let d = string_bytes c.self.inside.path in
    let before = c.self.invariant h in
    let old = g.S.SystemFiles.changes c.self.inside.system d in
    let new = g.S.SystemFiles.changes c.sync_folder.new.self d in
    let above = g.S.SystemFiles.opened_as c.in_ok-above.above in
    let did = syncs_beside (is_ok c.sync_folder.result) (g.S.SystemFiles.start d) above d old new (c.sync_folder.ensures.synced h d) (c.sync_folder.ensures.others h d) in (
      ready _ _ _ _ d _ _ _ before.0 (entries_same false _ _ _ _ before.0.knows did),
      still_tracked _ _ d g.S.SystemFiles.opened_as g.S.SystemFiles.number c.self.inside.open_file did.names before.1,
      λ read. held_not_read c.self.inside.mark.lock c.in_ok-check_lock.ensures read,
      λ kept. still _ _ _ _ _ _ d _ _ c.self.inside.mark.mark (before.3 kept) (c.sync_folder.ensures.mark h d) (entries_same false _ _ _ _ (before.3 kept).so did),
    )

pub returns-clause-seen : goal.returns-clause-seen
returns-clause-seen g c h =
    let d = c.args.self.now.path in
    let changes : g.S.SystemFiles.changes c.self.inside.system ≡ g.S.SystemFiles.changes c.args.self.now.system = search rules in
    let start = g.S.SystemFiles.start d in
    let new = g.S.SystemFiles.changes c.sync_folder.new.self d in
    let did : SyncsEntries false (replay (g.S.SystemFiles.changes c.self.inside.system d) start) (replay new start) =
    syncs_beside (is_ok c.sync_folder.result) start (g.S.SystemFiles.opened_as c.in_ok-above.above) d _ new (c.sync_folder.ensures.synced h d) (c.sync_folder.ensures.others h d) in
    let same : seen (replay new start) ≡ seen (replay (g.S.SystemFiles.changes c.self.inside.system d) start) = λ i n. did.same n i in
    subst (λ changes. seen (replay new start) ≡ seen (replay (changes d) start)) changes same
