use Rattle.std.specs.Prelude.{IsTrue}
use Rattle.store_folder.specs.Beside.{standing, Follows}
use Rattle.store_folder.proofs.Steps.{written_elsewhere}
use Rattle.store_folder.proofs.BesideLemmas.{touched}
use Rattle.store_folder.proofs.beside.pass_on.Goals.{After-append}
use Rattle.store_folder.proofs.beside.pass_on.Goals as goal

one_call : (g : _) (c : After-append g) → Follows (IsTrue g.F.Folder.honest) c.args.name.now
    (standing g.F.Folder.seen g.F.Folder.may_hold g.F.Folder.may_leave g.F.Folder.moment g.F.Folder.left_since g.F.Folder.entry_kept g.F.Folder.trusted g.F.Folder.handle g.F.Folder.failures
    c.args.folder.now)
    (standing g.F.Folder.seen g.F.Folder.may_hold g.F.Folder.may_leave g.F.Folder.moment g.F.Folder.left_since g.F.Folder.entry_kept g.F.Folder.trusted g.F.Folder.handle g.F.Folder.failures
    c.append.new.self)
one_call g c =
    let old = c.args.folder.now in
    record {
      same = c.append.ensures.same;
      count = c.append.ensures.count;
      touched = λ h. touched c.args.name.now _ _ (g.met.F.Folder.only_now old) (c.append.ensures.elsewhere h) (c.append.ensures.files h) (λ n ne kept. c.append.ensures.entries h n kept)
          (λ n ne was. c.append.ensures.trust h n was)
          (written_elsewhere _ _ _ _ (c.append.ensures.crash h)) (c.append.ensures.time h);
    }

pub returns-in_err-append-clause-follows : goal.returns-in_err-append-clause-follows
returns-in_err-append-clause-follows g c = one_call g (goal.at.returns-in_err-append-clause-follows g c).After-append

pub returns-clause-follows : goal.returns-clause-follows
returns-clause-follows g c = one_call g (goal.at.returns-clause-follows g c).After-append
