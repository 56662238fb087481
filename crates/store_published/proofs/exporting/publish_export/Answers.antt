use Rattle.std.proofs.Common.{◌++◌, List, ℕ, Option, ◌∙◌, ap, subst, sym}
use Rattle.std.specs.Prelude.{IsTrue}
use Rattle.store_folder.specs.Moments.{LeavesOnly}
use Rattle.store_folder.specs.Publishing.{part, IsOldOrWhole}
use Rattle.store_folder.specs.Beside.{standing, TouchesOnly}
use Rattle.store_published.proofs.OutcomeLemmas.{Run, beside_run, published_run}
use Rattle.tantivy_export.specs.Exporting.{IsExportOf}
use Rattle.store_published.proofs.exporting.publish_export.Goals.{After-export_in, After-publish}
use Rattle.store_published.proofs.exporting.publish_export.Goals as goal

-- only the file beside was touched
beside : (g : _) (c : After-export_in g) → IsTrue g.F.Folder.honest → TouchesOnly (c.args.name.now ++ part)
    (standing g.F.Folder.seen g.F.Folder.may_hold g.F.Folder.may_leave g.F.Folder.moment g.F.Folder.left_since g.F.Folder.entry_kept g.F.Folder.trusted g.F.Folder.handle g.F.Folder.failures
    c.args.folder.now)
    (standing g.F.Folder.seen g.F.Folder.may_hold g.F.Folder.may_leave g.F.Folder.moment g.F.Folder.left_since g.F.Folder.entry_kept g.F.Folder.trusted g.F.Folder.handle g.F.Folder.failures
    c.export_in.new.folder)
beside g c h =
    subst (λ (n : List ℕ). TouchesOnly n
    (standing g.F.Folder.seen g.F.Folder.may_hold g.F.Folder.may_leave g.F.Folder.moment g.F.Folder.left_since g.F.Folder.entry_kept g.F.Folder.trusted g.F.Folder.handle g.F.Folder.failures
    c.args.folder.now)
    (standing g.F.Folder.seen g.F.Folder.may_hold g.F.Folder.may_leave g.F.Folder.moment g.F.Folder.left_since g.F.Folder.entry_kept g.F.Folder.trusted g.F.Folder.handle g.F.Folder.failures
    c.export_in.new.folder))
    (c.in-Ok-from_str.ensures.ok ∙ c.as_str.ensures.value ∙ c.in-Ok.ensures.ok) (c.export_in.ensures.touched h)

pub returns-in_err-written-clause-any_moment : goal.returns-in_err-written-clause-any_moment
returns-in_err-written-clause-any_moment g c = λ h.
    let F = g.F.Folder in
    let b = beside g (goal.at.returns-in_err-written-clause-any_moment g c).After-export_in h in
    beside_run F.may_leave F.moment F.left_since c.args.name.now _ c.args.folder.now c.export_in.new.folder (record { later = b.later; each = b.each; before = b.before })

published : (g : _) (c : After-publish g) → IsTrue g.F.Folder.honest
    → Run g.F.Folder.may_leave g.F.Folder.moment g.F.Folder.left_since c.args.name.now (IsExportOf c.args.reader.now) c.args.folder.now c.publish.new.folder
published g c h =
    let F = g.F.Folder in
    let mid = c.export_in.new.folder in
    let new = c.publish.new.folder in
    let stored = c.in_ok-written.ensures.exported in
    let named = c.as_str-2.ensures.value ∙ c.in-Ok.ensures.ok in
    let file_is = c.in-Ok-from_str.ensures.ok ∙ c.as_str.ensures.value ∙ c.in-Ok.ensures.ok in
    let b =
    subst (λ (n : List ℕ). TouchesOnly n
    (standing F.seen F.may_hold F.may_leave F.moment F.left_since F.entry_kept F.trusted F.handle F.failures c.args.folder.now)
    (standing F.seen F.may_hold F.may_leave F.moment F.left_since F.entry_kept F.trusted F.handle F.failures mid)) file_is (c.export_in.ensures.touched h) in
    let run = subst (λ (n : List ℕ). LeavesOnly F.moment F.left_since mid new (IsOldOrWhole (F.may_leave mid) n c.args.name.now (F.seen mid n))) named (c.publish.ensures.any_moment h) in
    let whole = ap (F.seen mid) (sym file_is) ∙ stored.2 h in
    published_run F.may_leave F.moment F.left_since c.args.name.now _ c.args.folder.now mid new stored.0 stored.1.0 (record { later = b.later; each = b.each; before = b.before }) b.crash
    (subst (λ (w : Option (List ℕ)). LeavesOnly F.moment F.left_since mid new (IsOldOrWhole (F.may_leave mid) (c.args.name.now ++ part) c.args.name.now w)) whole run)

pub returns-in-Ok-publish-clause-any_moment : goal.returns-in-Ok-publish-clause-any_moment
returns-in-Ok-publish-clause-any_moment g c = published g (goal.at.returns-in-Ok-publish-clause-any_moment g c).After-publish

pub returns-clause-any_moment : goal.returns-clause-any_moment
returns-clause-any_moment g c = published g (goal.at.returns-clause-any_moment g c).After-publish
