use Rattle.std.proofs.Common.{rules, ◌≡◌, true, false, subst, string_bytes, IsTrue}
use Rattle.std.specs.Prelude.{is_some, not}
use Rattle.store_files.specs.Disk.{replay}
use Rattle.store_files.specs.Paths.{IsPath}
use Rattle.store_files.specs.Steps.{Removes}
use Rattle.store_files.specs.Knowledge.{said}
use Rattle.store_files.specs.Opened.{IsTracked}
use Rattle.store_files.proofs.StepLemmas.{removes}
use Rattle.store_files.proofs.KnownLemmas.{ready, doubted, removed, forgotten_no_more, remove_failed, none_open, not_read}
use Rattle.store_files.specs.Known.{AreSo}
use Rattle.store_files.proofs.MarkedLemmas.{removed_stays, still}
use Rattle.store_files.proofs.disk_folder.DiskFolder.remove_file.Goals as goal

pub invariant_of-self : goal.invariant_of-self
invariant_of-self g c = λ h.
    let d = string_bytes c.self.inside.path in
    let name = c.args.name.now in
    let at : IsPath d name c.as_str.result.now = search rules in
    let did = removes name true (g.S.SystemFiles.start d) (g.S.SystemFiles.changes c.self.inside.system d) (g.S.SystemFiles.changes c.remove.new.self d) (c.in-Ok.ensures.removed h d name at) in
    let before = (c.self.invariant h).0 in
    let writable : not (is_some c.self.inside.mark.lock) ≡ false = search rules in
    let doubts = doubted _ (said c.doubt_entries.new.self) _ _ _ c.doubt_entries.ensures.files c.doubt_entries.ensures.entries before.knows in (
      ready _ _ _ _ d _ _ _ before (removed name _ _ (said c.note.new.self) _ _ _ _ (forgotten_no_more name _ _ _ c.note.ensures.files.no_more) c.note.ensures.entries doubts did),
      none_open
          (λ f. IsTracked (replay (g.S.SystemFiles.changes c.remove.new.self d) (g.S.SystemFiles.start d)) d (string_bytes f.name) (g.S.SystemFiles.opened_as f.file) (g.S.SystemFiles.number f.file))
          c.take-closed.new.self c.take-closed.ensures.after,
      not_read c.self.inside.mark.lock writable,
      λ kept.
          let keeps : IsTrue c.args.self.now.keeps_mark = search rules in
          let given = c.in_ok-begin.ensures.permitted h keeps in
          let claims = g.S.SystemFiles.claims c.self.inside.system d in
          let disk = replay (g.S.SystemFiles.changes c.self.inside.system d) (g.S.SystemFiles.start d) in
          let may : AreSo claims disk × (claims.entries ≡ false) = search rules in
          still _ _ claims _ _ _ d _ _ c.self.inside.mark.mark ((c.self.invariant h).3 kept) (c.in-Ok.ensures.mark h d)
          (removed_stays name true claims (g.S.SystemFiles.start d) _ _ may.0 may.1 (c.in-Ok.ensures.removed h d name at)),
    )

pub invariant_of-self-in-Err : goal.invariant_of-self-in-Err
invariant_of-self-in-Err g c = λ h.
    let d = string_bytes c.self.inside.path in
    let name = c.args.name.now in
    let at : IsPath d name c.as_str.result.now = search rules in
    let before = (c.self.invariant h).0 in
    let writable : not (is_some c.self.inside.mark.lock) ≡ false = search rules in
    let doubts = doubted _ (said c.doubt_entries.new.self) _ _ _ c.doubt_entries.ensures.files c.doubt_entries.ensures.entries before.knows in (
      ready _ _ _ _ d _ _ _ before
          (remove_failed name (said c.doubt_entries.new.self) _ _ _ _ c.doubt_entries.ensures.entries doubts (c.in-Err.ensures.removed h d name at)),
      none_open
          (λ f. IsTracked (replay (g.S.SystemFiles.changes c.remove.new.self d) (g.S.SystemFiles.start d)) d (string_bytes f.name) (g.S.SystemFiles.opened_as f.file) (g.S.SystemFiles.number f.file))
          c.take-closed.new.self c.take-closed.ensures.after,
      not_read c.self.inside.mark.lock writable,
      λ kept.
          let keeps : IsTrue c.args.self.now.keeps_mark = search rules in
          let given = c.in_ok-begin.ensures.permitted h keeps in
          let claims = g.S.SystemFiles.claims c.self.inside.system d in
          let disk = replay (g.S.SystemFiles.changes c.self.inside.system d) (g.S.SystemFiles.start d) in
          let may : AreSo claims disk × (claims.entries ≡ false) = search rules in
          still _ _ claims _ _ _ d _ _ c.self.inside.mark.mark ((c.self.invariant h).3 kept) (c.in-Err.ensures.mark h d)
          (removed_stays name false claims (g.S.SystemFiles.start d) _ _ may.0 may.1 (c.in-Err.ensures.removed h d name at)),
    )

pub returns-in-Ok-clause-removed : goal.returns-in-Ok-clause-removed
returns-in-Ok-clause-removed g c = λ h.
    let d = c.args.self.now.path in
    let name = c.args.name.now in
    let at : IsPath d name c.as_str.result.now = search rules in
    let changes : g.S.SystemFiles.changes c.self.inside.system ≡ g.S.SystemFiles.changes c.args.self.now.system = search rules in
    subst (λ changes. Removes name true (replay (changes d) (g.S.SystemFiles.start d)) (replay (g.S.SystemFiles.changes c.remove.new.self d) (g.S.SystemFiles.start d))) changes
    (removes name true (g.S.SystemFiles.start d) (g.S.SystemFiles.changes c.self.inside.system d) (g.S.SystemFiles.changes c.remove.new.self d) (c.in-Ok.ensures.removed h d name at))

pub returns-clause-removed : goal.returns-clause-removed
returns-clause-removed g c = λ h.
    let d = c.args.self.now.path in
    let name = c.args.name.now in
    let at : IsPath d name c.as_str.result.now = search rules in
    let changes : g.S.SystemFiles.changes c.self.inside.system ≡ g.S.SystemFiles.changes c.args.self.now.system = search rules in
    subst (λ changes. Removes name false (replay (changes d) (g.S.SystemFiles.start d)) (replay (g.S.SystemFiles.changes c.remove.new.self d) (g.S.SystemFiles.start d))) changes
    (removes name false (g.S.SystemFiles.start d) (g.S.SystemFiles.changes c.self.inside.system d) (g.S.SystemFiles.changes c.remove.new.self d) (c.in-Err.ensures.removed h d name at))
