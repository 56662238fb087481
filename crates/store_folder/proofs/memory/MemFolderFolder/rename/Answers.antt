use Rattle.std.proofs.Common.{◌∙◌, ap, ℕ, List, inl, inr, ⊎_elim}
use Rattle.std.specs.Prelude.{Vec}
use Rattle.std.specs.declared.alloc.Global.{Global}
use Rattle.store_base.proofs.ListLemmas.{either}
use Rattle.store_folder.specs.declared.memory.Change.{Change}
use Rattle.store_folder.specs.Changes.{look_of}
use Rattle.store_folder.proofs.ChangesLemmas.{crash_renamed}
use Rattle.store_folder.proofs.memory.MemFolderFolder.rename.Goals as goal

pub returns-in-Ok-clause-crash : goal.returns-in-Ok-clause-crash
returns-in-Ok-clause-crash c = λ h.
    let old = look_of c.args.self.now.changes.items in
    let new = look_of c.make.new.self.changes.items in
    crash_renamed c.args.from.now c.args.to.now old new (λ n nf nt. c.make.ensures.elsewhere n nt nf) (c.requires.there h)
    (⊎_elim (λ is. inl (is ∙ c.in-Ok.ensures ∙ ap (λ (xs : List Change). look_of xs c.args.from.now) c.deref.ensures.value)) (λ same. inr (ap (λ (xs : List Change). look_of xs c.args.to.now) same))
    (either c.make.result c.make.ensures.placed c.make.ensures.kept))

pub returns-in-Err-clause-crash : goal.returns-in-Err-clause-crash
returns-in-Err-clause-crash c = λ h.
    let same = λ (n : List ℕ). ap (λ (v : Vec Change Global). look_of v.items n) c.refuse.ensures.changes in
    crash_renamed c.args.from.now c.args.to.now (look_of c.args.self.now.changes.items) (look_of c.refuse.new.self.changes.items) (λ n nf nt. same n) (c.requires.there h) (inr (same c.args.to.now))
