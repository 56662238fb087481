use Rattle.std.proofs.Common.{◌∙◌, ◌++◌, List, ℕ, map, length, ap}
use Rattle.std.specs.Prelude.{nat_lt}
use Rattle.std.specs.List.{filter}
use Rattle.std.proofs.lemmas.Iterator.Consumers.{YieldsList-at, YieldsList-end}
use Rattle.std.proofs.lemmas.Iterator.Splits.{YieldsList-from_lines}
use Rattle.program_base.proofs.word_files.add_lines.Goals as goal

pub returns : goal.returns
returns c =
    let seen = YieldsList-end (YieldsList-at c.into_iter-line-iterator.ensures.into_iter_gives (YieldsList-from_lines c.args.text.now c.lines-line-items.ensures.rest))
    c.loop-line.yielded _ c.loop-line.yielded_by _ _ c.in-None.is c.next.ensures.steps in
    c.loop-line.invariant ∙ ap (λ (ls : List (List ℕ)). map (λ line. line.now) c.args.lines.now.items ++ filter (λ line. nat_lt 0 (length line)) ls) seen.0
