use Rattle.std.proofs.Common.{refl, ◌∙◌}
use Rattle.std.proofs.Math.Seq.{map-set_same}
use Rattle.layered_index.specs.Rows.{end_of}
use Rattle.layered_index.proofs.row_guide.write_guides.Goals as goal

pub loop-stretch-preserved : goal.loop-stretch-preserved
loop-stretch-preserved c = map-set_same end_of c.loop-stretch.rows c.loop-stretch.stretch _ _ refl ∙ c.loop-stretch.invariant
