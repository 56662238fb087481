use Rattle.std.proofs.Common.{ℕ, List, ap, ◌∙◌}
use Rattle.std.specs.Prelude.{slice_range}
use Rattle.store_reader.proofs.StoreSliceLemmas.{range_is_part}
use Rattle.store_reader.proofs.store_slice.StoreSlice.get.Goals as goal

pub returns-clause-part : goal.returns-clause-part
returns-clause-part c =
    let range = c.in_ok-range.range in
    range_is_part c.args.self.now c.part.result.now range.start range.end
    (c.part.ensures ∙ ap (λ (bytes : List ℕ). slice_range bytes range.start range.end) c.self.view_is) c.in_ok-range.ensures.order c.in_ok-range.ensures.within
