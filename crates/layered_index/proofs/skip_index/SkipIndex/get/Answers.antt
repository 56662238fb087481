use Rattle.std.proofs.Common.{length, sym, ap, arith}
use Rattle.layered_index.specs.Layers.{Index}
use Rattle.layered_index.proofs.HalvingLemmas.{none_following}
use Rattle.layered_index.proofs.RowListLemmas.{length-from}
use Rattle.layered_index.proofs.skip_index.SkipIndex.get.Goals as goal

pub at-requires : goal.at-requires
at-requires c =
    let s = c.self.inside in
    omega (arith, c.if-place-len.false, c.len.ensures, s.rows.ok, ap (λ (x : Index). length x.checkpoints) c.self.view_is, length-from s.start s.rows.items)

pub returns-then-place-len : goal.returns-then-place-len
returns-then-place-len c =
    let s = c.self.inside in
    sym (none_following c.args.self.now.checkpoints c.args.place
    (omega (arith, c.if-place-len.true, c.len.ensures, s.rows.ok, ap (λ (x : Index). length x.checkpoints) c.self.view_is, length-from s.start s.rows.items)))
