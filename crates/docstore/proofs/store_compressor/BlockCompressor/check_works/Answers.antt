use Rattle.std.proofs.Common.{subst}
use Rattle.docstore.specs.BlockOutput.{IsSound}
use Rattle.docstore.proofs.OutputLemmas.{sound}
use Rattle.docstore.proofs.store_compressor.BlockCompressor.check_works.Goals as goal

pub returns-in-Some-clause-sound : goal.returns-in-Some-clause-sound
returns-in-Some-clause-sound g c = subst IsSound c.self.view_is (sound _ _ _ _ _ _ _ _ _ c.self.invariant)

pub returns-clause-sound : goal.returns-clause-sound
returns-clause-sound g c = subst IsSound c.self.view_is (sound _ _ _ _ _ _ _ _ _ c.self.invariant)
