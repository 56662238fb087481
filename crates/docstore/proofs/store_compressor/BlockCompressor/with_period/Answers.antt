use Rattle.docstore.proofs.OutputLemmas.{begins, sound, first_seen}
use Rattle.docstore.proofs.store_compressor.BlockCompressor.with_period.Goals as goal

pub invariant_of-result : goal.invariant_of-result
invariant_of-result g c = rw (c.with_period.ensures, c.wrap.ensures.written) (begins _ _ _ c.requires.least c.requires.most)

pub returns-clause-output : goal.returns-clause-output
returns-clause-output g c = rw (c.with_period.ensures, c.wrap.ensures.output, c.wrap.ensures.written) (first_seen _ _ _ _ _)

pub returns-clause-sound : goal.returns-clause-sound
returns-clause-sound g c = sound _ _ _ _ _ _ _ _ _ (invariant_of-result g c)
