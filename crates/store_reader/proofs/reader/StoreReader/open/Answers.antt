use Rattle.std.proofs.Common.{ℕ, ◌-◌, List, length, refl, sym, ap, ◌∙◌, inl, inr}
use Rattle.store_base.specs.Counts.{raised}
use Rattle.store_reader.specs.Opening.{IsOpened}
use Rattle.store_reader.specs.contracts.reader.StoreReader.{the_view}
use denote.Param.{param}
use Rattle.store_reader.proofs.OpenedCoverLemmas.{opened_covers}
use Rattle.store_reader.proofs.ReaderStoreLemmas.{store_seen}
use Rattle.store_reader.proofs.OpenedLemmas.{opened_is_store}
use Rattle.store_reader.proofs.RefusedLemmas.{refused_is_none}
use Rattle.store_reader.proofs.HandedLemmas.{given_back, accepted_handed, opening_failed, opening_steady, accepted_steady, opening_asked, accepted_most, kept_asked}
use Rattle.store_reader.proofs.reader.StoreReader.open.Goals as goal

opened : (g : _) (c : goal.After-narrow g) → IsOpened c.args.file c.args.cache_num_blocks (the_view (param 0 g.row.H) g.H.FileHandle
    (record { file = c.narrow.result; index = c.in-Ok.found.1; version = c.in-Ok.found.0.doc_store_version; decompressor = c.in-Ok.found.0.decompressor; cache = c.in-Ok-new.cache }))
opened g c = record {
  footer = c.in-Ok.found.0;
  after = c.read_store.new.file;
  opens = c.in-Ok.ensures;
  part = λ i. record {
    content = c.narrow.ensures.content i;
    honest = c.narrow.ensures.honest i;
    failures = c.narrow.ensures.failures i;
    reads = c.narrow.ensures.reads i;
    asked = c.narrow.ensures.asked i;
  };
  version = refl;
  decompressor = refl;
  cache = c.in-Ok-new.ensures;
}

pub returns-clause-honest : goal.returns-clause-honest
returns-clause-honest g c honest = opened_is_store _ _ _ honest (opened g c)

pub returns-clause-opened : goal.returns-clause-opened
returns-clause-opened g c = opened g c

pub returns-in-Err-clause-refused : goal.returns-in-Err-clause-refused
returns-in-Err-clause-refused g c = inl c.in-Err.ensures

pub returns-in-Err-clause-honest : goal.returns-in-Err-clause-honest
returns-in-Err-clause-honest g c honest = refused_is_none _ _ _ honest c.in-Err.ensures

pub returns-in-Err-clause-given_back : goal.returns-in-Err-clause-given_back
returns-in-Err-clause-given_back g c = given_back _ _ _ c.in-Err.ensures

pub returns-in-Err-clause-failed : goal.returns-in-Err-clause-failed
returns-in-Err-clause-failed g c is = opening_failed _ _ _ is c.in-Err.ensures

pub returns-in-Err-new-clause-given_back : goal.returns-in-Err-new-clause-given_back
returns-in-Err-new-clause-given_back g c = accepted_handed _ _ _ c.in-Ok.ensures

pub returns-clause-seen : goal.returns-clause-seen
returns-clause-seen g c =
    let covers = opened_covers _ _ _ (opened g c) in
    let seen = store_seen _ _ covers in
    record { blocks = seen.blocks; checkpoints_are = seen.checkpoints_are; data_is = seen.data_is }

pub returns-in-Err-clause-steady : goal.returns-in-Err-clause-steady
returns-in-Err-clause-steady g c = opening_steady _ _ _ c.in-Err.ensures

pub returns-in-Err-clause-asked : goal.returns-in-Err-clause-asked
returns-in-Err-clause-asked g c = opening_asked _ _ _ c.in-Err.ensures

pub returns-in-Err-new-clause-steady : goal.returns-in-Err-new-clause-steady
returns-in-Err-new-clause-steady g c = inr (accepted_steady _ _ _ c.in-Ok.ensures)

pub returns-in-Err-new-clause-asked : goal.returns-in-Err-new-clause-asked
returns-in-Err-new-clause-asked g c = accepted_most _ _ _ c.in-Ok.ensures

pub returns-clause-steady : goal.returns-clause-steady
returns-clause-steady g c = c.narrow.ensures.failures ∙ accepted_steady _ _ _ c.in-Ok.ensures

pub returns-clause-asked : goal.returns-clause-asked
returns-clause-asked g c =
    let all = kept_asked _ _ _ c.in-Ok.ensures in
    c.narrow.ensures.asked ∙ all ∙ ap (λ (bytes : List ℕ). raised (raised c.args.file.asked 28) (length c.args.file.content - 28 - length bytes)) (sym c.narrow.ensures.content)
