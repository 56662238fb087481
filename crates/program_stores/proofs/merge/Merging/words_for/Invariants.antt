-- The words of the parts so far.
use Rattle.std.proofs.Common.{◌≡◌, map, take}
use Rattle.program_stores.specs.Merged.{words_for}
use Rattle.program_stores.proofs.merge.Merging.words_for.Given as goal

abbrev pub invariant-loop-left_out : goal.invariant-loop-left_out
invariant-loop-left_out l = map (λ word. word.now) l.words.items ≡ words_for (take l.left_out-index l.left_out-items) l.path
