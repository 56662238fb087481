use Rattle.std.proofs.Common.{◌≡◌}
use Rattle.program_stores.proofs.GivenLemmas.{if_ok_given}
use Rattle.program_stores.proofs.append.append.Goals as goal

pub returns : goal.returns
returns g c = record {
  appended = λ honest.
      let shape = if_ok_given c.shape_with.result c.in_ok-shape.shape _ c.in_ok-shape.ensures c.shape_with.ensures in
      let period : c.into_inner.result.period ≡ c.in_ok-shape.shape.period = cc (shape, c.period.ensures.period, c.deref-2.ensures, c.into_inner.ensures) in (
        c.into_inner.result,
        c.in_ok-shape.shape.period,
        rw c.into_inner.ensures (if_ok_given c.open_store.result c.in_ok-reader.reader _ c.in_ok-reader.ensures (c.open_store.ensures honest)),
        period,
        c.in_ok-publish_packed.ensures honest,
      );
}
