use Rattle.std.proofs.Common.{List, length, sym, ap, ◌∙◌, arith}
use Rattle.std.specs.Prelude.{slice_get}
use Rattle.layered_index.specs.declared.row.Row.{Row}
use Rattle.layered_index.specs.Layers.{Index}
use Rattle.layered_index.specs.Rows.{ends_in, checkpoints_from}
use Rattle.layered_index.proofs.RowListLemmas.{length-from}
use Rattle.layered_index.proofs.skip_index.SkipIndex.at.Goals as goal

pub checkpoint_at-requires : goal.checkpoint_at-requires
checkpoint_at-requires c =
    let s = c.self.inside in
    omega (arith, c.requires, ap (λ (x : Index). length x.checkpoints) c.self.view_is, length-from s.start s.rows.items, ap length c.as_slice.ensures.value)

pub returns : goal.returns
returns c =
    let s = c.self.inside in
    ap (λ (x : Index). slice_get x.checkpoints c.args.place) (sym c.self.view_is)
    ∙ ap (λ (rs : List Row). slice_get (checkpoints_from s.start (ends_in rs)) c.args.place) (sym c.as_slice.ensures.value)
    ∙ c.checkpoint_at.ensures
