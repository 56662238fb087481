use Rattle.std.proofs.Common.{rules, true, false, le_refl}
use Rattle.store_files.specs.Disk.{replay}
use Rattle.store_files.specs.Knowledge.{said}
use Rattle.store_files.specs.Known.{Knows}
use Rattle.store_files.specs.Opened.{IsTracked}
use Rattle.store_files.specs.declared.knowledge.Doing.TheVariants.{SyncFailed}
use Rattle.store_files.proofs.StepLemmas.{syncs}
use Rattle.store_files.proofs.KnownLemmas.{less_known, synced, sync_failed}
use Rattle.store_files.proofs.MarkedLemmas.{permitted, synced_stays, unsynced_stays, still}
use Rattle.store_files.proofs.open_file.sync_cut.Goals as goal

pub returns-in-Ok-sync_file-clause-known : goal.returns-in-Ok-sync_file-clause-known
returns-in-Ok-sync_file-clause-known g c = λ h d tracked known.
    let old = g.S.SystemFiles.changes c.begin.new.system d in
    let new = g.S.SystemFiles.changes c.sync_file.new.self d in
    let start = g.S.SystemFiles.start d in
    let number = g.S.SystemFiles.number c.args.open.now.file in
    let name = c.as_str-name.result.now in
    let knows = said c.note.new.self in
    let at : IsTracked (replay old start) d name (g.S.SystemFiles.opened_as c.args.open.now.file) number = search rules in
    let did = syncs name true number start old new ((g.met.S.SystemFiles.sound c.begin.new.system d).possible h) at.there (c.in-Ok-sync_file.ensures.synced h d at.inside) in
    let before : Knows (said c.begin.new.self.knowledge) c.begin.new.self.knowledge.has_kept_entries (replay old start) = search rules in
    let now = synced name _ knows _ _ _ c.note.ensures.files.no_more before did in
    less_known _ knows _ _ _ (λ n. le_refl _) c.note.ensures.entries now

pub returns-in-Err-clause-known : goal.returns-in-Err-clause-known
returns-in-Err-clause-known g c = λ h d tracked known.
    let old = g.S.SystemFiles.changes c.begin.new.system d in
    let new = g.S.SystemFiles.changes c.sync_file.new.self d in
    let start = g.S.SystemFiles.start d in
    let number = g.S.SystemFiles.number c.args.open.now.file in
    let name = c.as_str-name.result.now in
    let knows = said c.note-in-Err.new.self in
    let at : IsTracked (replay old start) d name (g.S.SystemFiles.opened_as c.args.open.now.file) number = search rules in
    let did = syncs name false number start old new ((g.met.S.SystemFiles.sound c.begin.new.system d).possible h) at.there (c.in-Err.ensures.synced h d at.inside) in
    let before : Knows (said c.begin.new.self.knowledge) c.begin.new.self.knowledge.has_kept_entries (replay old start) = search rules in
    let now = sync_failed name _ knows _ _ _ c.note-in-Err.ensures.files.no_more before did in
    less_known _ knows _ _ _ (λ n. le_refl _) c.note-in-Err.ensures.entries now

pub returns-in-Ok-sync_file-clause-marked : goal.returns-in-Ok-sync_file-clause-marked
returns-in-Ok-sync_file-clause-marked g c = λ h kept d tracked known was.
    let old = g.S.SystemFiles.changes c.begin.new.system d in
    let new = g.S.SystemFiles.changes c.sync_file.new.self d in
    let start = g.S.SystemFiles.start d in
    let number = g.S.SystemFiles.number c.args.open.now.file in
    let name = c.as_str-name.result.now in
    let at : IsTracked (replay old start) d name (g.S.SystemFiles.opened_as c.args.open.now.file) number = search rules in
    let did = syncs name true number start old new ((g.met.S.SystemFiles.sound c.begin.new.system d).possible h) at.there (c.in-Ok-sync_file.ensures.synced h d at.inside) in
    let marked = c.begin.ensures.marked h kept d was in
    still _ _ (g.S.SystemFiles.claims c.begin.new.system d) _ _ _ d _ _ c.begin.new.self.mark marked (c.in-Ok-sync_file.ensures.mark h d) (synced_stays name _ _ _ marked.so did)

pub returns-in-Err-clause-marked : goal.returns-in-Err-clause-marked
returns-in-Err-clause-marked g c = λ h kept d tracked known was.
    let old = g.S.SystemFiles.changes c.begin.new.system d in
    let new = g.S.SystemFiles.changes c.sync_file.new.self d in
    let start = g.S.SystemFiles.start d in
    let number = g.S.SystemFiles.number c.args.open.now.file in
    let name = c.as_str-name.result.now in
    let at : IsTracked (replay old start) d name (g.S.SystemFiles.opened_as c.args.open.now.file) number = search rules in
    let did = syncs name false number start old new ((g.met.S.SystemFiles.sound c.begin.new.system d).possible h) at.there (c.in-Err.ensures.synced h d at.inside) in
    let marked = c.begin.ensures.marked h kept d was in
    let before : Knows (said c.args.mark.now.knowledge) c.args.mark.now.knowledge.has_kept_entries (replay old start) = search rules in
    let may = permitted c.begin.new.self.mark (g.S.SystemFiles.claims c.begin.new.system d) _ _ _ (SyncFailed c.as_str-name.result) marked.claimed (c.in-Ok.ensures.covered kept) before in
    still _ _ (g.S.SystemFiles.claims c.begin.new.system d) _ _ _ d _ _ c.begin.new.self.mark marked (c.in-Err.ensures.mark h d) (unsynced_stays name _ _ _ marked.so may did)
