use Rattle.std.proofs.Common.{rules, ◌≡◌, true, false, refl, subst, string_bytes, le_refl, IsTrue}
use Rattle.std.specs.Prelude.{is_some, not}
use Rattle.store_files.specs.Disk.{replay, Syncs}
use Rattle.store_files.specs.Knowledge.{said}
use Rattle.store_files.specs.Opened.{IsTracked}
use Rattle.store_files.proofs.StepLemmas.{syncs}
use Rattle.store_files.proofs.KnownLemmas.{ready, less_known, synced, sync_failed, tracked_as, not_read}
use Rattle.store_files.specs.Known.{AreSo}
use Rattle.store_files.proofs.MarkedLemmas.{synced_stays, unsynced_stays, still}
use Rattle.store_files.specs.declared.knowledge.Standing.TheVariants.{Failed}
use Rattle.store_files.proofs.disk_folder.DiskFolder.sync_open.Goals as goal

pub invariant_of-self : goal.invariant_of-self
invariant_of-self g c = λ h.
    let d = string_bytes c.self.inside.path in
    let name = c.args.name.now in
    let before = (c.self.invariant h).0 in
    let writable : not (is_some c.self.inside.mark.lock) ≡ false = search rules in
    let file = c.args.open.file in
    let opened : IsTracked (replay (g.S.SystemFiles.changes c.self.inside.system d) (g.S.SystemFiles.start d)) d name (g.S.SystemFiles.opened_as file) (g.S.SystemFiles.number file) = search rules in
    let did = syncs name true (g.S.SystemFiles.number file) (g.S.SystemFiles.start d) (g.S.SystemFiles.changes c.self.inside.system d) (g.S.SystemFiles.changes c.sync_file.new.self d)
    ((g.met.S.SystemFiles.sound c.self.inside.system d).possible h) opened.there (c.in-Ok.ensures.synced h d opened.inside) in
    let known = synced name (said c.self.inside.mark.knowledge) (said c.note.new.self) c.self.inside.mark.knowledge.has_kept_entries _ _ c.note.ensures.files.no_more before.knows did in (
      ready _ _ _ _ d _ _ _ before (less_known _ (said c.note.new.self) _ _ _ (λ n. le_refl _) c.note.ensures.entries known),
      tracked_as _ _ d name _ _ _ _ _ did.names c.requires.name refl refl opened,
      not_read c.self.inside.mark.lock writable,
      λ kept.
          let keeps : IsTrue c.args.self.now.keeps_mark = search rules in
          let given = c.requires.permitted h keeps in
          let claims = g.S.SystemFiles.claims c.self.inside.system d in
          let disk = replay (g.S.SystemFiles.changes c.self.inside.system d) (g.S.SystemFiles.start d) in
          let may : AreSo claims disk × (claims.files name ≡ Failed) = search rules in
          still _ _ claims _ _ _ d _ _ c.self.inside.mark.mark ((c.self.invariant h).3 kept) (c.in-Ok.ensures.mark h d) (synced_stays name claims _ _ may.0 did),
    )

pub invariant_of-self-in-Err-1 : goal.invariant_of-self-in-Err-1
invariant_of-self-in-Err-1 g c = λ h.
    let d = string_bytes c.self.inside.path in
    let name = c.args.name.now in
    let before = (c.self.invariant h).0 in
    let writable : not (is_some c.self.inside.mark.lock) ≡ false = search rules in
    let file = c.args.open.file in
    let opened : IsTracked (replay (g.S.SystemFiles.changes c.self.inside.system d) (g.S.SystemFiles.start d)) d name (g.S.SystemFiles.opened_as file) (g.S.SystemFiles.number file) = search rules in
    let did = syncs name false (g.S.SystemFiles.number file) (g.S.SystemFiles.start d) (g.S.SystemFiles.changes c.self.inside.system d) (g.S.SystemFiles.changes c.sync_file.new.self d)
    ((g.met.S.SystemFiles.sound c.self.inside.system d).possible h) opened.there (c.in-Err.ensures.synced h d opened.inside) in
    let known = sync_failed name (said c.self.inside.mark.knowledge) (said c.note-in-Err.new.self) c.self.inside.mark.knowledge.has_kept_entries _ _ c.note-in-Err.ensures.files.no_more
    before.knows did in (
      ready _ _ _ _ d _ _ _ before (less_known _ (said c.note-in-Err.new.self) _ _ _ (λ n. le_refl _) c.note-in-Err.ensures.entries known),
      tt,
      not_read c.self.inside.mark.lock writable,
      λ kept.
          let keeps : IsTrue c.args.self.now.keeps_mark = search rules in
          let given = c.requires.permitted h keeps in
          let claims = g.S.SystemFiles.claims c.self.inside.system d in
          let disk = replay (g.S.SystemFiles.changes c.self.inside.system d) (g.S.SystemFiles.start d) in
          let may : AreSo claims disk × (claims.files name ≡ Failed) = search rules in
          still _ _ claims _ _ _ d _ _ c.self.inside.mark.mark ((c.self.invariant h).3 kept) (c.in-Err.ensures.mark h d) (unsynced_stays name claims _ _ may.0 may.1 did),
    )

pub returns-in-Ok-clause-synced : goal.returns-in-Ok-clause-synced
returns-in-Ok-clause-synced g c = λ h.
    let d = c.args.self.now.path in
    let name = c.args.name.now in
    let file = c.args.open.file in
    let opened = c.requires.tracked h in
    let changes : g.S.SystemFiles.changes c.self.inside.system ≡ g.S.SystemFiles.changes c.args.self.now.system = search rules in
    syncs name true (g.S.SystemFiles.number file) (g.S.SystemFiles.start d) (g.S.SystemFiles.changes c.args.self.now.system d) (g.S.SystemFiles.changes c.sync_file.new.self d)
    ((g.met.S.SystemFiles.sound c.args.self.now.system d).possible h) opened.there
    (subst (λ changes. Syncs true (g.S.SystemFiles.number file) (changes d) (g.S.SystemFiles.changes c.sync_file.new.self d)) changes (c.in-Ok.ensures.synced h d opened.inside))

pub returns-in-Err-clause-synced : goal.returns-in-Err-clause-synced
returns-in-Err-clause-synced g c = λ h.
    let d = c.args.self.now.path in
    let name = c.args.name.now in
    let file = c.args.open.file in
    let opened = c.requires.tracked h in
    let changes : g.S.SystemFiles.changes c.self.inside.system ≡ g.S.SystemFiles.changes c.args.self.now.system = search rules in
    syncs name false (g.S.SystemFiles.number file) (g.S.SystemFiles.start d) (g.S.SystemFiles.changes c.args.self.now.system d) (g.S.SystemFiles.changes c.sync_file.new.self d)
    ((g.met.S.SystemFiles.sound c.args.self.now.system d).possible h) opened.there
    (subst (λ changes. Syncs false (g.S.SystemFiles.number file) (changes d) (g.S.SystemFiles.changes c.sync_file.new.self d)) changes (c.in-Err.ensures.synced h d opened.inside))
