use Rattle.std.proofs.Common.{length, ap, arith}
use Rattle.layered_index.specs.Layers.{Index}
use Rattle.layered_index.proofs.RowListLemmas.{length-from}
use Rattle.layered_index.proofs.skip_index.IndexLooksLooks.len.Goals as goal

pub returns-clause-len : goal.returns-clause-len
returns-clause-len c =
    let s = c.index.inside in
    omega (arith, c.len.ensures, s.rows.ok, ap (λ (x : Index). length x.checkpoints) c.index.view_is, length-from s.start s.rows.items)
