use Rattle.std.proofs.Common.{refl, ◌∙◌, ap}
use Rattle.store_files.specs.Knowledge.{said, unless_failed}
use Rattle.store_files.proofs.KnowledgeLemmas.{is_with}
use Rattle.store_files.proofs.knowledge.Knowledge.pass_to.Goals as goal

pub returns-clause-kept : goal.returns-clause-kept
returns-clause-kept c =
    is_with _ c.args.name.now _ _ (said c.args.self.now) (said c.args.self.now) _ _
    (c.unless_failed_before.ensures ∙ ap (λ s. unless_failed s c.args.standing) c.standing-old.ensures) (λ n. refl) c.set.ensures.kept
