use Rattle.std.proofs.Common.{ap, arith}
use Rattle.store_base.specs.Files.{Part}
use Rattle.store_base.proofs.Ranges.{part_of_part, length-part}
use Rattle.store_base.proofs.file_slice.FileSlice.narrow.Goals as goal

pub overflow_add-start : goal.overflow_add-start
overflow_add-start g c =
    omega (arith, length-part (g.H.FileHandle.content c.self.inside.handle) c.args.self.content c.self.inside.start c.self.inside.end (ap (λ (p : Part). p.content) c.self.view_is) c.self.invariant.1)

pub overflow_add-end : goal.overflow_add-end
overflow_add-end g c =
    omega (arith, length-part (g.H.FileHandle.content c.self.inside.handle) c.args.self.content c.self.inside.start c.self.inside.end (ap (λ (p : Part). p.content) c.self.view_is) c.self.invariant.1)

pub returns-clause-content : goal.returns-clause-content
returns-clause-content g c =
    part_of_part (g.H.FileHandle.content c.self.inside.handle) c.args.self.content c.self.inside.start c.self.inside.end c.args.range.start c.args.range.end
    (ap (λ (p : Part). p.content) c.self.view_is) c.self.invariant.0 c.self.invariant.1 c.requires.order c.requires.within
