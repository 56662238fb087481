use Rattle.std.proofs.Common.{rules, ◌≡◌, ◌∙◌, false, is_ok, string_bytes, IsTrue}
use Rattle.std.specs.Prelude.{is_some, not}
use Rattle.store_files.specs.Disk.{replay}
use Rattle.store_files.specs.Knowledge.{said}
use Rattle.store_files.specs.Opened.{IsTracked}
use Rattle.store_files.proofs.KnownLemmas.{ready, less_known, passed_unsynced, passed_less, written, tracked_as, not_read}
use Rattle.store_files.specs.Known.{AreSo}
use Rattle.store_files.proofs.MarkedLemmas.{written_stays, still}
use Rattle.store_files.specs.declared.knowledge.Standing.TheVariants.{Failed}
use Rattle.store_files.proofs.disk_folder.DiskFolder.write.Goals as goal

pub invariant_of-self : goal.invariant_of-self
invariant_of-self g c = λ h.
    let d = string_bytes c.self.inside.path in
    let name = c.args.name.now in
    let file = c.in_ok-open.open.file in
    let knew = said c.self.inside.mark.knowledge in
    let knows = said c.note.new.self in
    let entries = c.note.new.self.has_kept_entries in
    let no_more = c.note.ensures.files.no_more in
    let before = (c.self.invariant h).0 in
    let writable : not (is_some c.self.inside.mark.lock) ≡ false = search rules in
    let known = less_known _ knows _ entries _ (passed_less name knew knows no_more) c.note.ensures.entries before.knows in
    let opened : IsTracked (replay (g.S.SystemFiles.changes c.self.inside.system d) (g.S.SystemFiles.start d)) d name
    (g.S.SystemFiles.opened_as file) (g.S.SystemFiles.number file) = search rules in
    let did = c.append-outcome.ensures.appended h d name opened in
    let after = written name c.args.bytes.now (is_ok c.append-outcome.result) knows entries _ _ (passed_unsynced name knew knows no_more) known did in (
      ready _ _ _ _ d _ _ _ before after,
      tracked_as _ _ d name _ _ _ _ _ did.names (c.append-outcome.ensures.name ∙ c.in_ok-open.ensures.name)
          c.append-outcome.ensures.opened c.append-outcome.ensures.number opened,
      not_read c.self.inside.mark.lock writable,
      λ kept.
          let keeps : IsTrue c.take.new.self.keeps_mark = search rules in
          let given = c.in_ok-begin.ensures.permitted h keeps in
          let claims = g.S.SystemFiles.claims c.self.inside.system d in
          let disk = replay (g.S.SystemFiles.changes c.self.inside.system d) (g.S.SystemFiles.start d) in
          let may : AreSo claims disk × (claims.files name ≡ Failed) = search rules in
          still _ _ claims _ _ _ d _ _ c.self.inside.mark.mark ((c.self.invariant h).3 kept) (c.append-outcome.ensures.mark h d name opened may.1 may.0)
          (written_stays name c.args.bytes.now (is_ok c.append-outcome.result) claims _ _ may.0 may.1 did),
    )
