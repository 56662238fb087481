use Rattle.std.proofs.Common.{Option, Some, None}
use Rattle.std.specs.Prelude.{MatchOption, IfSome, codes}
use Rattle.std.proofs.lemmas.Slice.Eq.{strip_suffix_is}
use Rattle.std.proofs.lemmas.Bool.Decides.{Decides-eqb}
use Rattle.segmented_log.proofs.numbers.front_of.Goals as goal

some_of : {X : Type 0} (r : Option X) (Q : Type 0) (P : X → Type 0) → MatchOption r Q P → IfSome r P
some_of None Q P cases = tt
some_of (Some x) Q P cases = cases

pub returns-clause-some : goal.returns-clause-some
returns-clause-some c = some_of c.strip_suffix.result _ _ (strip_suffix_is Decides-eqb c.args.name.now (codes ".store") c.strip_suffix.result c.strip_suffix.ensures.cases)
