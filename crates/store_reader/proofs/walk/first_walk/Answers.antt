use Rattle.std.proofs.Common.{◌≡◌, [], refl, arith}
use Rattle.store_reader.proofs.WalkingLemmas.{no_block}
use Rattle.store_reader.proofs.walk.first_walk.Goals as goal

none : (g : _) (c : goal.Then-num_docs-eq0 g) → c.args.reader.now.checkpoints ≡ []
none g c =
    let count = c.num_docs.ensures.count in let zero = c.if-num_docs-eq0.true in
    no_block _ _ c.num_docs.ensures.covers (omega arith)

pub returns-then-num_docs-eq0-clause-place : goal.returns-then-num_docs-eq0-clause-place
returns-then-num_docs-eq0-clause-place g c = let nil = none g c in rw (c.new_walk-walk.ensures, nil) refl

pub returns-then-num_docs-eq0-clause-looks : goal.returns-then-num_docs-eq0-clause-looks
returns-then-num_docs-eq0-clause-looks g c = let nil = none g c in rw (c.new_walk-walk.ensures, nil) (refl, refl)
