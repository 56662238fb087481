use Rattle.std.proofs.Common.{◌≡◌, ◌+◌, ◌<◌, ◌^◌, length, ◌∙◌, ap, arith}
use Rattle.std.proofs.Math.Nat.{mod-eq_of_lt}
use Rattle.std.proofs.lemmas.Bool.{OnFalse_at}
use Rattle.segmented_log.proofs.SyncLemmas.{tail_number}
use Rattle.segmented_log.proofs.log.SegmentedLog.end.Goals as goal

pub returns : goal.returns
returns g c = λ h works.
    let known = OnFalse_at (ap (λ v. v.is_broken) c.self.view_is ∙ works) c.self.invariant in
    let s = known.0 in
    let places = c.self.inside.places.items in
    let len : c.len.result ≡ length places = omega arith in
    let small : c.self.inside.tail_first + c.len.result < 2 ^ 64 = omega (arith, s.next_is, s.fits, len) in
    mod-eq_of_lt small
    ∙ ap (λ n. c.self.inside.tail_first + n) len
    ∙ tail_number _ _ _ _ _ _ s _ _ (known.1 h).0.parts
    ∙ ap (λ v. v.first + length v.slots) c.self.view_is
