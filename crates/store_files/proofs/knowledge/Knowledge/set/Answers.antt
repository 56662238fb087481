use Rattle.std.proofs.Common.{◌≡◌, ℕ, List, refl, subst, nat_eq}
use Rattle.std.specs.Prelude.{if◌then◌else◌}
use lib.Pointwise.{pointwise}
use Rattle.store_files.specs.Knowledge.{said, standing_in}
use Rattle.store_files.proofs.KnowledgeLemmas.{is_exact, is_lost}
use Rattle.store_files.proofs.knowledge.Knowledge.set.Goals as goal

pub returns-in-Ok-clause-kept : goal.returns-in-Ok-clause-kept
returns-in-Ok-clause-kept c =
    let others = c.args.self.now.others in
    is_exact _ _ _ _ refl (λ n.
    subst (λ (m : List ℕ). standing_in others c.put.new.touched.items n ≡ (if pointwise nat_eq m n then c.args.standing else said c.args.self.now n))
    c.as_bytes.ensures.value (c.in-Ok.ensures others n))

pub returns-in-Err-clause-kept : goal.returns-in-Err-clause-kept
returns-in-Err-clause-kept c = is_lost _ _ _ _ c.lose.ensures.others c.lose.ensures.touched
