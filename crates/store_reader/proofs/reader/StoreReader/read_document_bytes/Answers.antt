use Rattle.std.proofs.Common.{◌≤◌, ◌<◌, refl, sym, ap, arith}
use Rattle.store_reader.specs.Reading.{num_docs, with_parts}
use Rattle.store_reader.specs.TwoReads.{IsDocumentRead}
use Rattle.store_reader.specs.contracts.reader.StoreReader.{the_view}
use denote.Param.{param}
use Rattle.store_reader.proofs.SeekLemmas.{IsWithin, within, none_past}
use Rattle.store_reader.proofs.RecentLemmas.{same_as_it_is}
use Rattle.store_reader.proofs.GetAnswerLemmas.{none_truly}
use Rattle.store_reader.proofs.DocumentReadLemmas.{reader_after_read, read_not_none, read_causes, read_risen, read_steady, read_twice, read_same_store, read_truly}
use Rattle.store_reader.proofs.reader.StoreReader.read_document_bytes.Goals as goal
use Rattle.store_reader.proofs.reader.StoreReader.read_document_bytes.Goals.{In-Some}

-- where the document of a seek that found one lies
place : (g : _) (c : In-Some g) → IsWithin 0 0 c.self.inside.index.checkpoints c.args.doc_id c.in-Some.checkpoint
place g c = within 0 0 c.self.inside.index.checkpoints c.args.doc_id c.in-Some.checkpoint (omega arith) c.self.invariant.covers.in_line (sym c.in-Some.ensures.answer)

-- no seek finds one: the id is at or past the count
past : (g : _) (c : goal.In_default g) → num_docs c.args.self.now ≤ c.args.doc_id
past g c = rw (← c.self.view_is) (none_past 0 0 c.self.inside.index.checkpoints c.args.doc_id c.self.invariant.covers.in_line (sym c.in_default.ensures.answer) (omega arith))

pub returns-in_default-clause-no_document : goal.returns-in_default-clause-no_document
returns-in_default-clause-no_document g c = (λ _. past g c, λ _. refl)

pub returns-in_default-clause-read : goal.returns-in_default-clause-read
returns-in_default-clause-read g c lt = let le = past g c in absurd (omega arith)

pub returns-in_default-clause-honest : goal.returns-in_default-clause-honest
returns-in_default-clause-honest g c honest = none_truly c.args.self.now c.args.self.now c.args.doc_id (rw (← c.self.view_is) c.self.invariant.covers) (past g c)

pub returns-in_default-clause-same_store : goal.returns-in_default-clause-same_store
returns-in_default-clause-same_store g c = same_as_it_is _

pub look_document_up-requires-clause-from : goal.look_document_up-requires-clause-from
look_document_up-requires-clause-from g c = (place g (goal.at.look_document_up-requires-clause-from g c).In-Some).from

pub look_document_up-requires-clause-to : goal.look_document_up-requires-clause-to
look_document_up-requires-clause-to g c = (place g (goal.at.look_document_up-requires-clause-to g c).In-Some).to

pub look_document_up-requires-clause-order : goal.look_document_up-requires-clause-order
look_document_up-requires-clause-order g c = (place g (goal.at.look_document_up-requires-clause-order g c).In-Some).order

pub look_document_up-requires-clause-within : goal.look_document_up-requires-clause-within
look_document_up-requires-clause-within g c = let end = (place g (goal.at.look_document_up-requires-clause-within g c).In-Some).end in omega (arith, c.self.invariant.covers.end)

-- the document is below the count
below : (g : _) (c : goal.After-look_document_up g) → c.args.doc_id < num_docs c.args.self.now
below g c =
    let w = within 0 0 c.self.inside.index.checkpoints c.args.doc_id c.in-Some.checkpoint (omega arith) c.self.invariant.covers.in_line (sym c.in-Some.ensures.answer) in
    rw (← c.self.view_is) (let to = w.to in let last = w.last in omega arith)

-- the document is read
read : (g : _) (c : goal.After-look_document_up g) → IsDocumentRead c.args.self.now c.args.doc_id c.look_document_up.result
    (the_view (param 0 g.row.H) g.H.FileHandle (record {
      file = c.look_document_up.new.file;
      index = c.self.inside.index;
      version = c.self.inside.version;
      decompressor = c.self.inside.decompressor;
      cache = c.look_document_up.new.cache;
    }))
read g c = rw (← c.self.view_is) (record {
  checkpoint = c.in-Some.checkpoint;
  seeks = sym c.in-Some.ensures.answer;
  comes = c.look_document_up.ensures.comes;
  stays = ap (with_parts (the_view (param 0 g.row.H) g.H.FileHandle c.self.inside) c.look_document_up.new.file) c.look_document_up.ensures.cache;
})

pub invariant_of-self : goal.invariant_of-self
invariant_of-self g c = reader_after_read c.self.inside.file c.look_document_up.new.file c.self.inside.index.checkpoints c.self.inside.index.period c.args.doc_id c.in-Some.checkpoint
    c.self.inside.cache c.look_document_up.new.cache c.look_document_up.result c.self.invariant c.look_document_up.ensures.comes c.look_document_up.ensures.cache

pub returns-clause-no_document : goal.returns-clause-no_document
returns-clause-no_document g c = (λ is. absurd (read_not_none _ _ _ _ (read g c) is), λ le. let lt = below g c in absurd (omega arith))

pub returns-clause-no_read : goal.returns-clause-no_read
returns-clause-no_read g c le = let lt = below g c in absurd (omega arith)

pub returns-clause-read : goal.returns-clause-read
returns-clause-read g c lt = read g c

pub returns-clause-honest : goal.returns-clause-honest
returns-clause-honest g c honest = read_truly _ _ _ _ (read g c) (rw (← c.self.view_is) c.self.invariant) honest

pub returns-clause-causes : goal.returns-clause-causes
returns-clause-causes g c = read_causes _ _ _ _ (read g c)

pub returns-clause-failed : goal.returns-clause-failed
returns-clause-failed g c is = read_risen _ _ _ _ (read g c) is

pub returns-clause-steady : goal.returns-clause-steady
returns-clause-steady g c = read_steady _ _ _ _ (read g c)

pub returns-clause-two_reads : goal.returns-clause-two_reads
returns-clause-two_reads g c = read_twice _ _ _ _ (read g c)

pub returns-clause-same_store : goal.returns-clause-same_store
returns-clause-same_store g c = read_same_store _ _ _ _ (read g c)
