use Rattle.std.proofs.Common.{true, false, sym, ◌∙◌, subst}
use Rattle.store_files.specs.Disk.{Cuts, replay}
use Rattle.store_files.specs.Known.{AreSo}
use Rattle.store_files.proofs.MarkedLemmas.{written_stays}
use Rattle.store_files.specs.Paths.{IsIn}
use Rattle.store_files.proofs.DiskLemmas.{appends, appends_undone}
use Rattle.store_files.proofs.open_file.append.Goals as goal

pub returns-in-Ok-clause-appended : goal.returns-in-Ok-clause-appended
returns-in-Ok-clause-appended g c = λ h d n held.
    let was = (g.met.S.SystemFiles.sound c.args.system.now d).possible h in
    appends n c.args.bytes.now true _ (g.S.SystemFiles.start d) (g.S.SystemFiles.changes c.args.system.now d) (g.S.SystemFiles.changes c.write.new.self d) was held.there
    (c.in-Ok.ensures.written h d held.inside)

pub returns-in-Err-clause-appended : goal.returns-in-Err-clause-appended
returns-in-Err-clause-appended g c = λ h d n held.
    let was = (g.met.S.SystemFiles.sound c.args.system.now d).possible h in
    appends_undone n c.args.bytes.now _ c.in_ok-len.len (g.S.SystemFiles.start d) (g.S.SystemFiles.changes c.args.system.now d) (g.S.SystemFiles.changes c.write.new.self d)
    (g.S.SystemFiles.changes c.cut.new.self d) was held.there (c.in_ok-len.ensures h d held.inside) (c.in-Err.ensures.written h d held.inside)
    (subst (λ f. Cuts f c.in_ok-len.len (g.S.SystemFiles.start d) (g.S.SystemFiles.changes c.write.new.self d) (g.S.SystemFiles.changes c.cut.new.self d)) c.in-Err.ensures.number
    (c.cut.ensures.cut h d (subst (λ p. IsIn d p) (sym c.in-Err.ensures.opened) held.inside)))

pub returns-in-Ok-clause-mark : goal.returns-in-Ok-clause-mark
returns-in-Ok-clause-mark g c = λ h d n held none so. c.in-Ok.ensures.mark h d

pub returns-in-Err-clause-mark : goal.returns-in-Err-clause-mark
returns-in-Err-clause-mark g c = λ h d n held none so.
    let was = (g.met.S.SystemFiles.sound c.args.system.now d).possible h in
    let start = g.S.SystemFiles.start d in
    let claims = g.S.SystemFiles.claims c.args.system.now d in
    let written = c.in-Err.ensures.mark h d in
    let cut = c.cut.ensures.mark h d in
    let old = g.S.SystemFiles.changes c.args.system.now d in
    let mid = g.S.SystemFiles.changes c.write.new.self d in
    let did = appends n c.args.bytes.now false _ start old mid was held.there (c.in-Err.ensures.written h d held.inside) in
    let between = written_stays n c.args.bytes.now false claims _ _ so none did in
    record {
      same = cut.same ∙ written.same;
      so = λ always now. cut.so (written.so always between) (subst (λ x. AreSo x (replay (g.S.SystemFiles.changes c.cut.new.self d) start)) (sym written.same) now);
    }
