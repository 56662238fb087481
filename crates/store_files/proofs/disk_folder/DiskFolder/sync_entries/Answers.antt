use Rattle.std.proofs.Common.{rules, ◌≡◌, ◌∙◌, true, false, subst, string_bytes}
use Rattle.store_files.specs.Disk.{replay}
use Rattle.store_files.specs.Steps.{SyncsEntries}
use Rattle.store_files.specs.Knowledge.{said}
use Rattle.store_files.proofs.StepLemmas.{syncs_entries}
use Rattle.store_files.proofs.KnownLemmas.{ready, less, entries_synced, entries_same, still_tracked, held_not_read}
use Rattle.store_files.proofs.MarkedLemmas.{still}
use Rattle.store_files.proofs.disk_folder.DiskFolder.sync_entries.Goals as goal

pub invariant_of-self : goal.invariant_of-self
invariant_of-self g c = λ h.
    let d = string_bytes c.self.inside.path in
    let before = c.self.invariant h in
    let old = g.S.SystemFiles.changes c.self.inside.system d in
    let new = g.S.SystemFiles.changes c.sync_folder.new.self d in
    let did = syncs_entries true (g.S.SystemFiles.start d) old new (c.in-Ok.ensures.synced h d before.0.folder) in
    let all = entries_synced (said c.self.inside.mark.knowledge) c.self.inside.mark.knowledge.has_kept_entries c.note.new.self.has_kept_entries _ _ before.0.knows did in (
      ready _ _ _ _ d _ _ _ before.0 (less _ (said c.note.new.self) _ _ _ c.note.ensures.files.no_more (λ kept. kept) all),
      still_tracked _ _ d g.S.SystemFiles.opened_as g.S.SystemFiles.number c.self.inside.open_file did.names before.1,
      λ read. held_not_read c.self.inside.mark.lock c.in_ok-check_lock.ensures read,
      λ kept. still _ _ _ _ _ _ d _ _ c.self.inside.mark.mark (before.3 kept) (c.in-Ok.ensures.mark h d) (entries_same true _ _ _ _ (before.3 kept).so did),
    )

pub invariant_of-self-in-Err : goal.invariant_of-self-in-Err
invariant_of-self-in-Err g c = λ h.
    let d = string_bytes c.self.inside.path in
    let before = c.self.invariant h in
    let old = g.S.SystemFiles.changes c.self.inside.system d in
    let new = g.S.SystemFiles.changes c.sync_folder.new.self d in
    let did = syncs_entries false (g.S.SystemFiles.start d) old new (c.in-Err.ensures.synced h d before.0.folder) in (
      ready _ _ _ _ d _ _ _ before.0 (entries_same false _ _ _ _ before.0.knows did),
      still_tracked _ _ d g.S.SystemFiles.opened_as g.S.SystemFiles.number c.self.inside.open_file did.names before.1,
      λ read. held_not_read c.self.inside.mark.lock c.in_ok-check_lock.ensures read,
      λ kept. still _ _ _ _ _ _ d _ _ c.self.inside.mark.mark (before.3 kept) (c.in-Err.ensures.mark h d) (entries_same false _ _ _ _ (before.3 kept).so did),
    )

pub returns-in-Ok-clause-synced : goal.returns-in-Ok-clause-synced
returns-in-Ok-clause-synced g c = λ h.
    let d = c.args.self.now.path in
    let changes : g.S.SystemFiles.changes c.self.inside.system ≡ g.S.SystemFiles.changes c.args.self.now.system = search rules in
    let path : string_bytes c.self.inside.path ≡ d = search rules in
    subst (λ changes. SyncsEntries true (replay (changes d) (g.S.SystemFiles.start d)) (replay (g.S.SystemFiles.changes c.sync_folder.new.self d) (g.S.SystemFiles.start d))) changes
    (syncs_entries true (g.S.SystemFiles.start d) (g.S.SystemFiles.changes c.self.inside.system d) (g.S.SystemFiles.changes c.sync_folder.new.self d)
    (c.in-Ok.ensures.synced h d ((c.self.invariant h).0.folder ∙ path)))

pub returns-in-Err-clause-synced : goal.returns-in-Err-clause-synced
returns-in-Err-clause-synced g c = λ h.
    let d = c.args.self.now.path in
    let changes : g.S.SystemFiles.changes c.self.inside.system ≡ g.S.SystemFiles.changes c.args.self.now.system = search rules in
    let path : string_bytes c.self.inside.path ≡ d = search rules in
    subst (λ changes. SyncsEntries false (replay (changes d) (g.S.SystemFiles.start d)) (replay (g.S.SystemFiles.changes c.sync_folder.new.self d) (g.S.SystemFiles.start d))) changes
    (syncs_entries false (g.S.SystemFiles.start d) (g.S.SystemFiles.changes c.self.inside.system d) (g.S.SystemFiles.changes c.sync_folder.new.self d)
    (c.in-Err.ensures.synced h d ((c.self.invariant h).0.folder ∙ path)))
