use Rattle.std.proofs.Common.{rules, ◌≡◌, ◌∙◌, true, Some, ap, sym, subst, string_bytes}
use Rattle.std.specs.Prelude.{IfSome, map, option_map}
use Rattle.store_folder.specs.Folder.{AreNames}
use Rattle.store_files.specs.Disk.{replay, seen}
use Rattle.store_files.specs.Knowledge.{said}
use Rattle.store_files.specs.Known.{Knows}
use Rattle.store_files.specs.Opened.{IsTracked}
use Rattle.store_files.proofs.MarkedLemmas.{one_folder}
use Rattle.store_files.proofs.disk_folder.DiskFolder.drop.Goals as goal
use Rattle.store_files.proofs.disk_folder.DiskFolder.drop.Goals.{in-Some-open_file, in_default-open_file}

pub end-requires-clause-so : goal.end-requires-clause-so
end-requires-clause-so g c = λ h d locks.
    let path = string_bytes c.self.inside.path in
    let system = c.match-open_file-2.system in
    let mark = c.match-open_file-2.mark in
    let disk = λ (s : _) (p : _). replay (g.S.SystemFiles.changes s p) (g.S.SystemFiles.start p) in
    let before = c.self.invariant h in
    let kept : mark.is_kept ≡ true = search rules in
    let at : Knows (said mark.knowledge) mark.knowledge.has_kept_entries (disk system path) × (option_map g.S.SystemFiles.locks mark.lock ≡ Some (Some path)) =
    elim c.match-open_file-2.branch [
      | in-Some-open_file w ↦
          let tracked = subst
          (λ o. IfSome o (λ f. IsTracked (disk c.self.inside.system path) path (string_bytes f.name) (g.S.SystemFiles.opened_as f.file) (g.S.SystemFiles.number f.file)))
          w.in-Some-open_file.is before.1 in
          let kept_before = sym w.sync_cut.ensures.kept ∙ ap (λ m. m.is_kept) (sym w.mark-is) ∙ kept in
          let marked = w.sync_cut.ensures.marked h kept_before path tracked before.0.knows (before.3 kept_before) in
          let known = w.sync_cut.ensures.known h path tracked before.0.knows in (
            subst (λ m. Knows (said m.knowledge) m.knowledge.has_kept_entries (disk system path)) (sym w.mark-is)
                (subst (λ s. Knows (said w.sync_cut.new.mark.knowledge) w.sync_cut.new.mark.knowledge.has_kept_entries (disk s path)) (sym w.system-is) known),
            ap (λ m. option_map g.S.SystemFiles.locks m.lock) w.mark-is ∙ marked.lock,
          )
      | in_default-open_file w ↦
          let kept_before = ap (λ m. m.is_kept) (sym w.mark-is) ∙ kept in (
            subst (λ m. Knows (said m.knowledge) m.knowledge.has_kept_entries (disk system path)) (sym w.mark-is)
                (subst (λ s. Knows (said c.self.inside.mark.knowledge) c.self.inside.mark.knowledge.has_kept_entries (disk s path)) (sym w.system-is) before.0.knows),
            ap (λ m. option_map g.S.SystemFiles.locks m.lock) w.mark-is ∙ (before.3 kept_before).lock,
          )
    ] in
    let names : AreNames (seen (disk system path)) (map string_bytes c.deref.result.now) = search rules in
    subst (λ p. Knows (said mark.knowledge) mark.knowledge.has_kept_entries (disk system p) × AreNames (seen (disk system p)) (map string_bytes c.deref.result.now))
    (one_folder path d _ at.1 locks) (at.0, names)
