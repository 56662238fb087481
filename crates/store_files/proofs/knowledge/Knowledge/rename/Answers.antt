use Rattle.std.proofs.Common.{◌≡◌, ℕ, List, subst, nat_eq}
use Rattle.std.specs.Prelude.{if◌then◌else◌}
use lib.Pointwise.{pointwise}
use Rattle.store_files.specs.Knowledge.{said, standing_in, untouched}
use Rattle.store_files.proofs.KnowledgeLemmas.{is_with}
use Rattle.store_files.proofs.knowledge.Knowledge.rename.Goals as goal

pub returns-clause-kept : goal.returns-clause-kept
returns-clause-kept c =
    let others = c.args.self.now.others in
    is_with _ c.args.to.now _ _ (λ n. standing_in others c.forget.new.touched.items n) (λ n. if pointwise nat_eq c.args.from.now n then untouched others n else said c.args.self.now n) _ _
    c.standing-standing.ensures
    (λ n. subst (λ (m : List ℕ). standing_in others c.forget.new.touched.items n ≡ (if pointwise nat_eq m n then untouched others n else said c.args.self.now n))
    c.as_bytes.ensures.value (c.forget.ensures others n))
    c.set.ensures.kept
