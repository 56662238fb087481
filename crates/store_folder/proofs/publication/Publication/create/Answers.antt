use Rattle.std.proofs.Common.{◌≡◌, ◌++◌, List, ℕ, Some, sym, ap, ◌∙◌, subst, string_bytes, IsTrue, rules}
use Rattle.store_folder.specs.Moments.{LeavesOnly}
use Rattle.store_folder.specs.Publishing.{part, IsUntouched}
use Rattle.store_folder.specs.Beside.{Standing, standing, TouchesOnly}
use Rattle.store_folder.proofs.Runs.{part_apart}
use Rattle.store_folder.proofs.BesideLemmas.{touched}
use Rattle.store_folder.proofs.publication.Publication.create.Goals.{After-create}
use Rattle.store_folder.proofs.publication.Publication.create.Goals as goal

abbrev at : (g : _) → After-create g → g.row.F.Denot → Standing
at g c = standing g.F.Folder.seen g.F.Folder.may_hold g.F.Folder.may_leave g.F.Folder.moment g.F.Folder.left_since g.F.Folder.entry_kept g.F.Folder.trusted g.F.Folder.handle g.F.Folder.failures

-- only the file beside was touched
made : (g : _) (c : After-create g) (name : List ℕ) → c.as_str.result.now ≡ name → IsTrue g.F.Folder.honest → TouchesOnly name (at g c c.args.folder) (at g c c.create.new.self)
made g c name is h =
    subst (λ n. TouchesOnly n (at g c c.args.folder) (at g c c.create.new.self)) is
    (touched c.as_str.result.now _ _ (g.met.F.Folder.only_now c.args.folder) (c.create.ensures.elsewhere h) (c.create.ensures.files h) (c.create.ensures.entries h) (c.create.ensures.trust h)
    (c.create.ensures.crash h) (c.create.ensures.time h))

pub returns-in-Err-create-clause-untouched : goal.returns-in-Err-create-clause-untouched
returns-in-Err-create-clause-untouched g c = λ h.
    let t = made g (goal.at.returns-in-Err-create-clause-untouched g c).After-create (c.args.name.now ++ part) (c.as_str.ensures.value ∙ c.in-Ok.ensures.beside) h in
    record { later = t.later; each = t.each; before = t.before }

pub invariant_of-result : goal.invariant_of-result
invariant_of-result g c =
    let F = g.F.Folder in
    let here = (goal.at.invariant_of-result g c).After-create in
    let beside = string_bytes c.in-Ok.names.1 in
    let t : IsTrue F.honest → TouchesOnly beside (at g here c.args.folder) (at g here c.create.new.self) = made g here beside c.as_str.ensures.value in (
      λ e. part_apart c.args.name.now (sym c.in-Ok.ensures.beside ∙ e ∙ c.in-Ok.ensures.name),
      λ h. record {
        file = ap (F.seen c.create.new.self) (sym c.as_str.ensures.value) ∙ c.in_default.ensures.created h ∙ ap Some (sym c.new.ensures.sent);
        trust = subst (F.trusted c.create.new.self) c.as_str.ensures.value (c.in_default.ensures.fresh h);
        touched = subst (λ f. TouchesOnly beside (at g here f) (at g here c.create.new.self)) (sym c.of-first.ensures) (t h);
      },
      λ h none. subst (λ f. LeavesOnly F.moment F.left_since f c.create.new.self (IsUntouched (F.may_leave f) beside)) (sym c.of-first.ensures)
          (record { later = (t h).later; each = (t h).each; before = (t h).before }),
      search rules,
    )
