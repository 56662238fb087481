use Rattle.std.proofs.Common.{rules, ◌≡◌, ◌∙◌, true, false, sym, subst, string_bytes, IsTrue}
use Rattle.std.specs.Prelude.{IfSome, is_some, not}
use Rattle.store_files.specs.Disk.{replay}
use Rattle.store_files.specs.Paths.{IsPath}
use Rattle.store_files.specs.Steps.{Renames}
use Rattle.store_files.specs.Knowledge.{said}
use Rattle.store_files.specs.Opened.{IsTracked}
use Rattle.store_files.proofs.StepLemmas.{renames}
use Rattle.store_files.proofs.KnownLemmas.{ready, doubted, moved_over, moved_no_more, less_known, move_failed, renamed_tracked, none_open, not_read, as_equal}
use Rattle.store_files.proofs.MarkedLemmas.{MayMove, moved_stays, still}
use Rattle.store_files.proofs.disk_folder.DiskFolder.move_file.Goals as goal

pub invariant_of-self : goal.invariant_of-self
invariant_of-self g c = λ h.
    let d = string_bytes c.self-2.inside.path in
    let from = c.args.from.now in
    let to = c.args.to.now in
    let from_at : IsPath d from c.as_str-2.result.now = search rules in
    let to_at : IsPath d to c.as_str-3.result.now = search rules in
    let did = renames from to true (g.S.SystemFiles.start d) (g.S.SystemFiles.changes c.self-2.inside.system d) (g.S.SystemFiles.changes c.rename.new.self d) c.requires
    (c.in-Ok.ensures.moved h d from to from_at to_at) in
    let before = c.self-2.invariant h in
    let writable : not (is_some c.self-2.inside.mark.lock) ≡ false = search rules in
    let doubts = doubted _ (said c.doubt_entries.new.self) _ _ _ c.doubt_entries.ensures.files c.doubt_entries.ensures.entries before.0.knows in
    let before_it = said c.doubt_entries.new.self in
    let fewer = moved_no_more from to c.doubt_entries.new.self.others before_it (said c.note.new.self) c.note.ensures.files.no_more in
    let known = moved_over from to _ before_it (said c.note.new.self) _ _ _ _ c.requires fewer c.note.ensures.entries doubts did in
    let tracked = subst (λ o. IfSome o (λ f. IsTracked (replay (g.S.SystemFiles.changes c.self-2.inside.system d) (g.S.SystemFiles.start d)) d (string_bytes f.name) (g.S.SystemFiles.opened_as f.file)
    (g.S.SystemFiles.number f.file))) (sym c.take-open_file.ensures.value) before.1 in
    let named : string_bytes c.in_ok-name.name ≡ to = search rules in (
      ready _ _ _ _ d _ _ _ before.0 known,
      renamed_tracked _ _ d from to g.S.SystemFiles.opened_as g.S.SystemFiles.number c.in_ok-name.name c.take-open_file.result c.renamed.result named did tracked c.renamed.ensures,
      not_read c.self-2.inside.mark.lock writable,
      λ kept.
          let keeps : IsTrue c.args.self.now.keeps_mark = search rules in
          let given = c.in_ok-begin.ensures.permitted h keeps in
          let claims = g.S.SystemFiles.claims c.self-2.inside.system d in
          let system : c.begin.new.self.system ≡ c.self-2.inside.system = search rules in
          let path : c.begin.new.self.path ≡ d = search rules in
          let may = as_equal (λ s p. MayMove from to (g.S.SystemFiles.claims s p) (replay (g.S.SystemFiles.changes s p) (g.S.SystemFiles.start p))) _ _ _ _ system path given in
          still _ _ claims _ _ _ d _ _ c.self-2.inside.mark.mark (before.3 kept) (c.in-Ok.ensures.mark h d)
          (moved_stays from to true claims (g.S.SystemFiles.start d) _ _ c.requires may (c.in-Ok.ensures.moved h d from to from_at to_at)),
    )

pub invariant_of-self-in-Err : goal.invariant_of-self-in-Err
invariant_of-self-in-Err g c = λ h.
    let d = string_bytes c.self-2.inside.path in
    let from = c.args.from.now in
    let to = c.args.to.now in
    let from_at : IsPath d from c.as_str-2.result.now = search rules in
    let to_at : IsPath d to c.as_str-3.result.now = search rules in
    let before = c.self-2.invariant h in
    let writable : not (is_some c.self-2.inside.mark.lock) ≡ false = search rules in
    let doubts = doubted _ (said c.doubt_entries.new.self) _ _ _ c.doubt_entries.ensures.files c.doubt_entries.ensures.entries before.0.knows in
    let none = c.doubt_move.ensures.entries ∙ c.doubt_entries.ensures.entries in
    let fewer = less_known _ (said c.doubt_move.new.self) _ _ _ c.doubt_move.ensures.files c.doubt_move.ensures.entries doubts in
    let known = move_failed from to (said c.doubt_move.new.self) _ _ _ _ c.requires c.doubt_move.ensures.moved none fewer (c.in-Err.ensures.moved h d from to from_at to_at) in (
      ready _ _ _ _ d _ _ _ before.0 known,
      none_open
          (λ f. IsTracked (replay (g.S.SystemFiles.changes c.rename.new.self d) (g.S.SystemFiles.start d)) d (string_bytes f.name) (g.S.SystemFiles.opened_as f.file) (g.S.SystemFiles.number f.file))
          c.take-open_file.new.self c.take-open_file.ensures.after,
      not_read c.self-2.inside.mark.lock writable,
      λ kept.
          let keeps : IsTrue c.args.self.now.keeps_mark = search rules in
          let given = c.in_ok-begin.ensures.permitted h keeps in
          let claims = g.S.SystemFiles.claims c.self-2.inside.system d in
          let system : c.begin.new.self.system ≡ c.self-2.inside.system = search rules in
          let path : c.begin.new.self.path ≡ d = search rules in
          let may = as_equal (λ s p. MayMove from to (g.S.SystemFiles.claims s p) (replay (g.S.SystemFiles.changes s p) (g.S.SystemFiles.start p))) _ _ _ _ system path given in
          still _ _ claims _ _ _ d _ _ c.self-2.inside.mark.mark (before.3 kept) (c.in-Err.ensures.mark h d)
          (moved_stays from to false claims (g.S.SystemFiles.start d) _ _ c.requires may (c.in-Err.ensures.moved h d from to from_at to_at)),
    )

pub returns-in-Ok-clause-moved : goal.returns-in-Ok-clause-moved
returns-in-Ok-clause-moved g c = λ h.
    let d = c.args.self.now.path in
    let from = c.args.from.now in
    let to = c.args.to.now in
    let from_at : IsPath d from c.as_str-2.result.now = search rules in
    let to_at : IsPath d to c.as_str-3.result.now = search rules in
    let changes : g.S.SystemFiles.changes c.self-2.inside.system ≡ g.S.SystemFiles.changes c.args.self.now.system = search rules in
    subst (λ changes. Renames from to true (replay (changes d) (g.S.SystemFiles.start d)) (replay (g.S.SystemFiles.changes c.rename.new.self d) (g.S.SystemFiles.start d))) changes
    (renames from to true (g.S.SystemFiles.start d) (g.S.SystemFiles.changes c.self-2.inside.system d) (g.S.SystemFiles.changes c.rename.new.self d) c.requires
    (c.in-Ok.ensures.moved h d from to from_at to_at))

pub returns-clause-moved : goal.returns-clause-moved
returns-clause-moved g c = λ h.
    let d = c.args.self.now.path in
    let from = c.args.from.now in
    let to = c.args.to.now in
    let from_at : IsPath d from c.as_str-2.result.now = search rules in
    let to_at : IsPath d to c.as_str-3.result.now = search rules in
    let changes : g.S.SystemFiles.changes c.self-2.inside.system ≡ g.S.SystemFiles.changes c.args.self.now.system = search rules in
    subst (λ changes. Renames from to false (replay (changes d) (g.S.SystemFiles.start d)) (replay (g.S.SystemFiles.changes c.rename.new.self d) (g.S.SystemFiles.start d))) changes
    (renames from to false (g.S.SystemFiles.start d) (g.S.SystemFiles.changes c.self-2.inside.system d) (g.S.SystemFiles.changes c.rename.new.self d) c.requires
    (c.in-Err.ensures.moved h d from to from_at to_at))
