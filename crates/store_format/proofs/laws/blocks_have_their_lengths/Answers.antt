-- Both follow from the length of a block.
use Rattle.std.specs.Prelude.{◌≡◌, ℕ, ◌+◌, List, [], ◌∷◌, length}
use Rattle.std.proofs.Common.{arith, length-append}
use Rattle.store_format.specs.Block.{block}
use Rattle.store_format.proofs.BlockLemmas.{length-block}
use Rattle.store_format.proofs.laws.blocks_have_their_lengths.Goals as goal

alone : (doc : List ℕ) → length (block (doc ∷ [])) ≡ length doc + 8
alone doc = omega (arith, length-block (doc ∷ []), length-append doc [])

after_an_empty_one : (doc : List ℕ) → length (block ([] ∷ doc ∷ [])) ≡ length doc + 12
after_an_empty_one doc = omega (arith, length-block ([] ∷ doc ∷ []), length-append doc [])

pub returns-clause-lengths : goal.returns-clause-lengths
returns-clause-lengths c = length-block

pub returns-clause-longest : goal.returns-clause-longest
returns-clause-longest c doc = (
  ((λ h. omega (arith, h, alone doc)), (λ h. omega (arith, h, alone doc))),
  ((λ h. omega (arith, h, after_an_empty_one doc)), (λ h. omega (arith, h, after_an_empty_one doc))),
)
