use Rattle.std.proofs.Common.{◌≡◌, Some, sym, ap, subst}
use Rattle.store_format.specs.Block.{doc}
use Rattle.segmented_log.specs.Log.{IsLog, slot_at}
use Rattle.framed_logs.proofs.ReadLemmas.{reads_one, slot_of_one}
use Rattle.framed_logs.proofs.read_log.ReadLog.try_get.Goals as goal

pub returns-in-Ok-Some-clause-found : goal.returns-in-Ok-Some-clause-found
returns-in-Ok-Some-clause-found g c honest first all is =
    let seen = subst (λ f. IsLog first all (g.F.Folder.seen f)) (sym (ap (λ v. v.folder) c.self.view_is)) is in
    let one = reads_one c.folders_are_one_log.ensures _ _ _ first _ all (c.self.invariant honest) seen in
    let given = rw c.in-Ok-Some.field-0-is at (c.in-Ok-Some.ensures.found honest) in
    let bytes = c.in-Ok-Some.found.items in
    slot_of_one c.args.number c.self.inside.log.value.first first c.self.inside.log.value.slots all bytes one.0 one.1
    (subst (λ l. slot_at l.first l.slots c.args.number ≡ Some (doc bytes)) c.deref_mut.ensures.value given)
