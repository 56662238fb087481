use Rattle.std.proofs.Common.{◌+◌, sym, ◌∙◌, ap, arith, ℕ}
use Rattle.layered_index.specs.Layers.{digit_count}
use Rattle.layered_index.proofs.IndexLemmas.{digit_count_zero, digit_count_more}
use Rattle.layered_index.proofs.layers.+digit_count.Goals as goal

pub returns-then-n-eq0-clause-digits : goal.returns-then-n-eq0-clause-digits
returns-then-n-eq0-clause-digits t c = sym (ap (digit_count c.args.base) c.if-n-eq0.true ∙ digit_count_zero c.args.base)

pub returns-clause-digits : goal.returns-clause-digits
returns-clause-digits t c = ap (λ (d : ℕ). d + 1) c.digit_count.ensures.digits ∙ sym (digit_count_more c.args.base c.args.n (omega arith) (omega arith))
