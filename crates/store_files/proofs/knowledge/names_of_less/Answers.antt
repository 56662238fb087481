use Rattle.std.proofs.Common.{◌≡◌, ◌≤◌, true, subst, nat_eq}
use lib.Pointwise.{pointwise}
use Rattle.store_files.specs.Knowledge.{rank}
use Rattle.store_files.specs.declared.knowledge.TouchedFile.{TouchedFile}
use Rattle.store_files.proofs.KnowledgeLemmas.{less_so_far}
use Rattle.store_files.proofs.knowledge.names_of_less.Goals as goal

pub loop-file-preserved : goal.loop-file-preserved
loop-file-preserved c = λ n beside named le.
    let added = c.in_ok-add_if_less.ensures n beside named in
    c.loop-file.invariant n beside added.0
    (less_so_far c.args.others c.args.touched.now c.loop-file.file-index c.file-item.result n c.loop-file-test.true
    (subst (λ (f : TouchedFile). pointwise nat_eq f.name.items n ≡ true → rank c.args.others ≤ rank f.standing) c.file-item.is added.1) le)
