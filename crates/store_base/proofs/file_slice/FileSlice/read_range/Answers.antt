use Rattle.std.proofs.Common.{ap}
use Rattle.store_base.specs.Files.{Part}
use Rattle.store_base.proofs.Ranges.{part_of_part}
use Rattle.store_base.proofs.file_slice.FileSlice.read_range.Goals as goal

pub returns-clause-bytes : goal.returns-clause-bytes
returns-clause-bytes g c honest =
    let same = part_of_part (g.H.FileHandle.content c.self.inside.handle) c.args.self.now.content c.self.inside.start c.self.inside.end c.args.range.start c.args.range.end
    (ap (λ (p : Part). p.content) c.self.view_is) c.self.invariant.0 c.self.invariant.1 c.requires.order c.requires.within in
    rw (← same) (c.read_bytes.ensures.bytes (rw (ap (λ (p : Part). p.honest) c.self.view_is) honest))
