use Rattle.document_framing.proofs.feeding.wait_unless.Goals as goal

pub returns-then-is_there : goal.returns-then-is_there
returns-then-is_there g c = record { kept = g.met.S.DocumentSink.adds_none c.args.sink.now; failed = tt }
