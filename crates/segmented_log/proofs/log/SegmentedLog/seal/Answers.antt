use Rattle.segmented_log.proofs.FrameLemmas.{keeps_all}
use Rattle.segmented_log.proofs.log.SegmentedLog.seal.Goals as goal

pub returns-then-self-clause-files : goal.returns-then-self-clause-files
returns-then-self-clause-files g c = λ h. keeps_all _
