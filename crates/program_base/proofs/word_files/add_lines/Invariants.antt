-- The lines so far that are not empty were added.
use Rattle.std.proofs.Common.{◌≡◌, ◌++◌, map, length}
use Rattle.std.specs.Prelude.{nat_lt}
use Rattle.std.specs.List.{filter}
use Rattle.program_base.proofs.word_files.add_lines.Given as goal

abbrev pub invariant-loop-line : goal.invariant-loop-line
invariant-loop-line l = map (λ line. line.now) l.lines.items
    ≡ map (λ line. line.now) l.fn.lines.items ++ filter (λ line. nat_lt 0 (length line)) (map (λ line. line.now) l.yielded)
