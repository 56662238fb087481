use Rattle.std.proofs.Common.{rules, ◌≡◌, ◌∙◌, true, ap, sym, subst, string_bytes}
use Rattle.std.specs.Prelude.{not}
use Rattle.store_files.specs.Disk.{replay}
use Rattle.store_files.specs.Knowledge.{said}
use Rattle.store_files.specs.Known.{Knows, AreSo}
use Rattle.store_files.specs.Mark.{Permits}
use Rattle.store_files.proofs.DiskLemmas.{ok_map}
use Rattle.store_files.proofs.MarkedLemmas.{permitted}
use Rattle.store_files.proofs.disk_folder.DiskFolder.begin.Goals as goal

pub returns-clause-permitted : goal.returns-clause-permitted
returns-clause-permitted g c = λ h keeps.
    let kept : c.self.inside.mark.is_kept ≡ true = search rules in
    let d = string_bytes c.self.inside.path in
    let start = g.S.SystemFiles.start d in
    let claims = g.S.SystemFiles.claims c.begin.new.system d in
    let disk = replay (g.S.SystemFiles.changes c.begin.new.system d) start in
    let known = said c.self.inside.mark.knowledge in
    let entries = c.self.inside.mark.knowledge.has_kept_entries in
    let before = c.self.invariant h in
    let marked = c.begin.ensures.marked h kept d (before.3 kept) in
    let knows = subst (λ changes. Knows known entries (replay (changes d) start)) (sym c.begin.ensures.changes) before.0.knows in
    ok_map c.begin.result _ (AreSo claims disk × Permits claims disk c.args.doing.now)
    (λ covers. (marked.so, permitted c.begin.new.self.mark claims known entries disk c.args.doing.now marked.claimed covers knows)) (c.begin.ensures.covered kept)

pub invariant_of-self : goal.invariant_of-self
invariant_of-self g c = λ h.
    let before = c.self.invariant h in (
      search rules,
      search rules,
      λ none. c.begin.ensures.so h (string_bytes c.self.inside.path) (before.2 (ap not (sym c.begin.ensures.same) ∙ none)),
      search rules,
    )
