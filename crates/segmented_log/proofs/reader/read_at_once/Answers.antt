use Rattle.std.proofs.Common.{◌∙◌, map, string_bytes, sym, subst}
use Rattle.std.proofs.lemmas.Bool.{false≢true}
use Rattle.store_folder.specs.Folder.{AreNames}
use Rattle.segmented_log.proofs.reader.read_at_once.Goals as goal

pub returns-then-not-branch-clause-changed : goal.returns-then-not-branch-clause-changed
returns-then-not-branch-clause-changed g c = λ h is.
    let seen = g.F.Folder.seen c.args.folder.now in
    let names = subst (λ l. AreNames seen (map string_bytes l)) (sym c.deref.ensures.value) (c.in_ok-names.ensures.names h) in
    let again = subst (λ l. AreNames seen (map string_bytes l)) (sym c.deref-2.ensures.value) (c.in_ok-again.ensures.names h) in
    absurd (false≢true (sym c.if-not-branch.true ∙ c.in_ok-have_same_segments.ensures seen names again))
