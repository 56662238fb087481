use Rattle.std.proofs.Common.{◌≤◌, ◌<◌, refl, sym, arith}
use Rattle.store_reader.specs.Reading.{num_docs}
use Rattle.store_reader.specs.GetAnswer.{IsAnswered}
use Rattle.store_reader.specs.contracts.reader.StoreReader.{the_view}
use denote.Param.{param}
use Rattle.store_reader.proofs.SeekLemmas.{IsWithin, within, none_past}
use Rattle.store_reader.proofs.LookUpLemmas.{stays_honest, reader_after}
use Rattle.store_reader.proofs.RecentLemmas.{same_store, same_as_it_is}
use Rattle.store_reader.proofs.GetAnswerLemmas.{not_none_such, read_failed, answer_steady, answers_truly, none_truly}
use Rattle.store_reader.proofs.reader.StoreReader.get_document_bytes.Goals as goal

-- where the document of a seek that found one lies
place : (g : _) (c : goal.After-checkpoint-2-1 g) → IsWithin 0 0 c.self.inside.index.checkpoints c.args.doc_id c.in-Some.checkpoint
place g c = within 0 0 c.self.inside.index.checkpoints c.args.doc_id c.in-Some.checkpoint (omega arith) c.self.invariant.covers.in_line (sym c.in-Some.ensures.answer)

-- no seek finds one: the id is at or past the count
past : (g : _) (c : goal.In_default g) → num_docs c.args.self.now ≤ c.args.doc_id
past g c = rw (← c.self.view_is) (none_past 0 0 c.self.inside.index.checkpoints c.args.doc_id c.self.invariant.covers.in_line (sym c.in_default.ensures.answer) (omega arith))

pub returns-in_default-clause-no_document : goal.returns-in_default-clause-no_document
returns-in_default-clause-no_document g c = (λ _. past g c, λ _. refl)

pub returns-in_default-clause-answered : goal.returns-in_default-clause-answered
returns-in_default-clause-answered g c lt = let le = past g c in absurd (omega arith)

pub overflow_sub-doc_id : goal.overflow_sub-doc_id
overflow_sub-doc_id g c = (place g c).from

pub look_up-requires-clause-order : goal.look_up-requires-clause-order
look_up-requires-clause-order g c = (place g c).order

pub look_up-requires-clause-within : goal.look_up-requires-clause-within
look_up-requires-clause-within g c = let end = (place g c).end in omega (arith, c.self.invariant.covers.end)

-- the document is below the count
below : (g : _) (c : goal.After-look_up g) → c.args.doc_id < num_docs c.args.self.now
below g c =
    let w = within 0 0 c.self.inside.index.checkpoints c.args.doc_id c.in-Some.checkpoint (omega arith) c.self.invariant.covers.in_line (sym c.in-Some.ensures.answer) in
    rw (← c.self.view_is) (let to = w.to in let last = w.last in omega arith)

pub invariant_of-self : goal.invariant_of-self
invariant_of-self g c = reader_after c.self.inside.file c.look_up.new.file c.self.inside.index.checkpoints c.self.inside.index.period c.args.doc_id c.in-Some.checkpoint c.self.inside.cache
    c.look_up.new.cache c.look_up.ensures.0 c.self.invariant (sym c.in-Some.ensures.answer) c.look_up.ensures.1

answered : (g : _) (c : goal.After-look_up g) → IsAnswered c.args.self.now c.args.doc_id c.look_up.result
    (the_view (param 0 g.row.H) g.H.FileHandle (record {
      file = c.look_up.new.file;
      index = c.self.inside.index;
      version = c.self.inside.version;
      decompressor = c.self.inside.decompressor;
      cache =
          c.look_up.new.cache;
    }))
answered g c = rw (← c.self.view_is) (record {
  checkpoint = c.in-Some.checkpoint;
  came = c.look_up.ensures.0;
  looked = record {
    seeks = sym c.in-Some.ensures.answer;
    looks_up = c.look_up.ensures.1;
    stays = refl;
    honest = (stays_honest c.self.inside.file c.look_up.new.file c.self.inside.index.checkpoints c.self.inside.index.period c.args.doc_id c.in-Some.checkpoint c.self.inside.cache c.look_up.new.cache
        c.look_up.ensures.0 c.self.invariant (sym c.in-Some.ensures.answer) c.look_up.ensures.1).given;
  };
  answer = c.look_up.ensures.2;
})

pub returns-in_default-clause-honest : goal.returns-in_default-clause-honest
returns-in_default-clause-honest g c honest = none_truly c.args.self.now c.args.self.now c.args.doc_id (rw (← c.self.view_is) c.self.invariant.covers) (past g c)

pub returns-clause-no_document : goal.returns-clause-no_document
returns-clause-no_document g c = (λ e. absurd (not_none_such _ _ _ _ (answered g c) e), λ le. let lt = below g c in absurd (omega arith))

pub returns-clause-no_read : goal.returns-clause-no_read
returns-clause-no_read g c le = let lt = below g c in absurd (omega arith)

pub returns-clause-answered : goal.returns-clause-answered
returns-clause-answered g c lt = answered g c

pub returns-clause-honest : goal.returns-clause-honest
returns-clause-honest g c honest = answers_truly _ _ _ _ (rw (← c.self.view_is) c.self.invariant.covers) (answered g c) honest

pub returns-clause-failed : goal.returns-clause-failed
returns-clause-failed g c e = read_failed _ _ _ _ (answered g c) e

pub returns-in_default-clause-same_store : goal.returns-in_default-clause-same_store
returns-in_default-clause-same_store g c = same_as_it_is _

pub returns-clause-same_store : goal.returns-clause-same_store
returns-clause-same_store g c = same_store _ _ _ _ _ (answered g c).looked

pub returns-clause-steady : goal.returns-clause-steady
returns-clause-steady g c = answer_steady _ _ _ _ (answered g c)
