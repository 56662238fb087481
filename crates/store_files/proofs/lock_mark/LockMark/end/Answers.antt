use Rattle.store_files.proofs.MarkedLemmas.{end_is_so}
use Rattle.store_files.proofs.lock_mark.LockMark.end.Goals as goal

pub replace-requires : goal.replace-requires
replace-requires g c = λ h d locks.
    let claims = c.in_ok-mark.ensures.claims c.requires.known in
    end_is_so c.in_ok-mark.mark _ _ c.args.names.now _ claims (c.in_ok-mark.ensures.entries c.requires.known) (c.requires.so h d locks).0 (c.requires.so h d locks).1
