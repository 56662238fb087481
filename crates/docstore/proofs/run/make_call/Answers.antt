use Rattle.std.proofs.Common.{ℕ, List, refl, subst, sym, ap}
use Rattle.docstore.specs.declared.run.StoreCommand.{StoreCommand}
use Rattle.docstore.specs.Run.{stage_of, IsStep, answer_of}
use Rattle.docstore.specs.Trace.{store, store_bytes, stack}
use Rattle.docstore.specs.declared.run.StoreCommand.TheVariants.{Doc, Bytes, Stack}
use Rattle.docstore.specs.Causes.{CommandGets, BytesGet}
use Rattle.docstore.proofs.CauseLemmas.{document_gets, bytes_get, store_gets}
use Rattle.docstore.proofs.CallLemmas.{Made, document_made, bytes_made, IsStacked, store_made}
use Rattle.docstore.proofs.run.make_call.Goals as goal

pub returns-in-Doc-clause-made : goal.returns-in-Doc-clause-made
returns-in-Doc-clause-made g c = λ works.
    let doc_bytes = λ (d : g.row.D.Denot). g.D.Document.doc_bytes d c.args.schema.now in
    let made : Made (store (doc_bytes c.in-Doc.document)) (answer_of c.store.result) c.args.writer.now c.store.new.self =
    document_made (doc_bytes c.in-Doc.document) c.store.result c.args.writer.now c.store.new.self c.store.ensures.stored c.store.ensures.failed c.store.ensures.err works in
    record {
      step = record { call = store (doc_bytes c.in-Doc.document); answer = answer_of c.store.result };
      is = subst (λ (x : StoreCommand g.row.D.Denot g.row.H.Denot). IsStep (λ d. g.D.Document.doc_bytes d c.args.schema.now) x c.store.result
          (record { call = store (doc_bytes c.in-Doc.document); answer = answer_of c.store.result })) (sym c.in-Doc.is) refl;
      cause = subst (λ (x : StoreCommand g.row.D.Denot g.row.H.Denot). CommandGets (λ d. g.D.Document.doc_bytes d c.args.schema.now) (stage_of c.args.writer.now) x
          (Doc c.in-Doc.document) c.store.result) (sym c.in-Doc.is) (document_gets (doc_bytes c.in-Doc.document) c.store.result c.args.writer.now c.store.new.self c.requires.sound made.works works
          c.store.ensures.stored c.store.ensures.too_many c.store.ensures.unserializable c.store.ensures.too_large c.store.ensures.too_much c.store.ensures.err);
      works = made.works;
      after = made.after;
    }

pub returns-in-Bytes-clause-made : goal.returns-in-Bytes-clause-made
returns-in-Bytes-clause-made g c = λ works.
    let made : Made (store_bytes c.deref.result.now) (answer_of c.store_bytes.result) c.args.writer.now c.store_bytes.new.self =
    bytes_made c.deref.result.now c.store_bytes.result c.args.writer.now c.store_bytes.new.self c.store_bytes.ensures.stored c.store_bytes.ensures.failed c.store_bytes.ensures.err works in
    record {
      step = record { call = store_bytes c.deref.result.now; answer = answer_of c.store_bytes.result };
      is = subst (λ (x : StoreCommand g.row.D.Denot g.row.H.Denot). IsStep (λ d. g.D.Document.doc_bytes d c.args.schema.now) x c.store_bytes.result
          (record { call = store_bytes c.deref.result.now; answer = answer_of c.store_bytes.result })) (sym c.in-Bytes.is)
          (ap (λ (b : List ℕ). record { call = store_bytes b; answer = answer_of c.store_bytes.result }) c.deref.ensures.value);
      cause = subst (λ (x : StoreCommand g.row.D.Denot g.row.H.Denot). CommandGets (λ d. g.D.Document.doc_bytes d c.args.schema.now) (stage_of c.args.writer.now) x
          (Bytes c.in-Bytes.document) c.store_bytes.result) (sym c.in-Bytes.is) (subst (λ (b : List ℕ). BytesGet (stage_of c.args.writer.now) b c.store_bytes.result) c.deref.ensures.value
          (bytes_get c.deref.result.now c.store_bytes.result c.args.writer.now c.store_bytes.new.self c.requires.sound made.works works c.store_bytes.ensures.too_many c.store_bytes.ensures.too_large
          c.store_bytes.ensures.err));
      works = made.works;
      after = made.after;
    }

pub returns-in-Stack-clause-made : goal.returns-in-Stack-clause-made
returns-in-Stack-clause-made g c = λ works.
    let made : IsStacked c.in-Stack.reader c.stack.result c.args.writer.now c.stack.new.self =
    store_made c.in-Stack.reader c.stack.new.reader c.stack.result c.args.writer.now c.stack.new.self c.stack.ensures.stacked c.stack.ensures.works c.stack.ensures.err works in
    record {
      step = record { call = stack made.blocks; answer = answer_of c.stack.result };
      is = subst (λ (x : StoreCommand g.row.D.Denot g.row.H.Denot). IsStep (λ d. g.D.Document.doc_bytes d c.args.schema.now) x c.stack.result
          (record { call = stack made.blocks; answer = answer_of c.stack.result })) (sym c.in-Stack.is) (record { blocks = made.blocks; step = refl; read = made.read });
      cause = subst (λ (x : StoreCommand g.row.D.Denot g.row.H.Denot). CommandGets (λ d. g.D.Document.doc_bytes d c.args.schema.now) (stage_of c.args.writer.now) x
          (Stack c.stack.new.reader) c.stack.result) (sym c.in-Stack.is) (store_gets c.stack.result c.in-Stack.reader c.stack.new.reader c.args.writer.now c.stack.new.self made.made.works works
          c.stack.ensures.old_version c.stack.ensures.too_many c.stack.ensures.err);
      works = made.made.works;
      after = made.made.after;
    }
