use Rattle.std.proofs.Common.{length, ap, arith}
use Rattle.layered_index.specs.Layers.{Index}
use Rattle.layered_index.proofs.RowListLemmas.{length-from}
use Rattle.layered_index.proofs.skip_index.SkipIndex.len.Goals as goal

pub returns : goal.returns
returns c =
    let s = c.self.inside in
    omega (arith, c.len.ensures, s.rows.ok, ap (λ (x : Index). length x.checkpoints) c.self.view_is, length-from s.start s.rows.items)
