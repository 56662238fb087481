use Rattle.std.proofs.Common.{refl}
use Rattle.store_reader.proofs.DocumentReadLemmas.{looked_up_unkept}
use Rattle.store_reader.proofs.two_reads.look_document_up.Goals as goal

pub returns : goal.returns
returns g c =
    let found = looked_up_unkept c.args.checkpoint.now c.args.doc_id c.args.file.now c.read_apart.new.file c.args.cache.now c.look_up.new.self c.read_apart.result c.in_default.ensures.answer
    (c.in_default.ensures.miss refl) c.read_apart.ensures in
    record { comes = found.0; cache = found.1 }
