use Rattle.std.proofs.Common.{◌≡◌, ◌+◌, length, ◌∙◌, ap, arith}
use Rattle.segmented_log.proofs.SyncLemmas.{tail_number}
use Rattle.segmented_log.proofs.reader.LogReader.end.Goals as goal

pub returns : goal.returns
returns g c = λ h.
    let len : c.len.result ≡ length c.self.inside.places.items = omega arith in
    ap (λ n. c.self.inside.bounds.tail_first + n) len
    ∙ tail_number _ _ _ _ _ _ c.self.invariant.0.1 _ _ (c.self.invariant.1 h).1.parts
    ∙ ap (λ v. v.first + length v.slots) c.self.view_is
