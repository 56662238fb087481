use Rattle.std.proofs.Common.{ap, ◌∙◌}
use Rattle.store_format.specs.Footer.{version_number}
use Rattle.store_format.specs.StoreFile.{docs_in}
use Rattle.store_reader.specs.Reading.{store_of}
use Rattle.main_theorem.proofs.ListLemmas.{docs_seen}
use Rattle.main_theorem.proofs.lists.count_of.Goals as goal

pub returns-clause-count : goal.returns-clause-count
returns-clause-count c period version bs store =
    let r = c.in_ok-reader.reader in
    let opened = c.in_ok-reader.ensures in
    let same = (c.stores_are_apart.ensures r.period period c.args.bytes.now (version_number r.version) version (store_of r) bs opened.store store).2 in
    c.num_docs.ensures.count ∙ docs_seen r opened.seen ∙ ap docs_in same
