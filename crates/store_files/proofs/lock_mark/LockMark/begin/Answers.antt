use Rattle.std.proofs.Common.{◌≢◌, rules, true, ◌≡◌}
use Rattle.store_files.specs.declared.knowledge.Standing.TheVariants.{Failed}
use Rattle.store_files.proofs.MarkedLemmas.{no_more}
use Rattle.store_files.proofs.lock_mark.LockMark.begin.Goals as goal

pub replace-requires : goal.replace-requires
replace-requires g c = λ h d locks.
    let kept : c.args.self.now.is_kept ≡ true = search rules in
    let known : c.args.self.now.knowledge.others ≢ Failed = search rules in
    no_more c.in_ok-mark.mark _ _ _ _ (c.in_ok-mark.ensures.claims known) (c.requires h kept d locks)
