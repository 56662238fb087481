-- The sink took the documents by which those that are left became fewer.
use Rattle.std.proofs.Common.{map, drop}
use Rattle.document_framing.specs.Feeding.{Feeds, all_documents}
use Rattle.document_framing.specs.Inputs.{inputs_of}
use Rattle.document_framing.proofs.inputs.feed_inputs.Given as goal

abbrev pub invariant-loop-place : goal.invariant-loop-place
invariant-loop-place g l = Feeds g.S.DocumentSink.adds
    (all_documents l.fn.framing (inputs_of (g.F.InputFiles.holds l.initial.files) (map (λ path. path.now) l.paths)))
    (all_documents l.fn.framing (inputs_of (g.F.InputFiles.holds l.files) (map (λ path. path.now) (drop l.place l.paths))))
    l.initial.sink l.sink
