use Rattle.std.proofs.Common.{◌≡◌, ℕ, ◌+◌, inl, List, [], ◌∷◌, ◌++◌, length, take, get_or, set, Result, Err, refl, sym, ◌∙◌, ap, subst, arith, length-append}
use Rattle.std.specs.Prelude.{IfErr}
use Rattle.std.proofs.lemmas.Grind.{common_steps}
use Rattle.std.proofs.lemmas.List.{take_all, take_more_set, length-set}
use Rattle.std.proofs.lemmas.Result.{err_from_is_err_and}
use Rattle.store_base.proofs.ListLemmas.{front_more, rest_more}
use Rattle.store_base.specs.declared.error.StoreError.{StoreError}
use Rattle.docstore.specs.declared.run.StoreCommand.{StoreCommand}
use Rattle.docstore.specs.Causes.{first_stage, HaveCauses}
use Rattle.docstore.specs.Run.{output_state, stage_of, AreCommandsKept, IsTrace, AfterRun}
use Rattle.store_format.specs.StoreFile.{file, IsStore}
use Rattle.docstore.specs.Trace.{Blocks}
use Rattle.docstore.specs.Writer.{Writing, flushed}
use Rattle.docstore.proofs.CommandLemmas.{IsRun, none_failed, run_by_more, all_kept, kept_more, failed_more, after_run}
use Rattle.docstore.proofs.MeaningLemmas.{blocks_mean_their_calls}
use Rattle.docstore.proofs.RunSoFarLemmas.{run_begins, run_closes}
use Rattle.docstore.proofs.run.write_store_with_period.Goals as goal

pub returns-in_default-clause-kept : goal.returns-in_default-clause-kept
returns-in_default-clause-kept g c = all_kept c.args.commands.now

pub loop-command-init : goal.loop-command-init
loop-command-init g c =
    let writer = c.with_period-writer.result in
    let new = c.with_period-writer.ensures.writer in
    record {
      run = λ works. record {
        trace = [];
        calls = subst (λ (rs : List (Result (Unit {0}) StoreError)). IsTrace {D = g.row.D.Denot} {H = g.row.H.Denot} (λ d. g.D.Document.doc_bytes d c.args.schema.now) [] rs [])
            (sym c.in-Ok.ensures.items) tt;
        causes = subst (λ (rs : List (Result (Unit {0}) StoreError)). HaveCauses {D = g.row.D.Denot} {H =
            g.row.H.Denot} c.args.block_size (λ d. g.D.Document.doc_bytes d c.args.schema.now) first_stage [] [] rs []) (sym c.in-Ok.ensures.items) tt;
        stage = ap stage_of c.with_period-writer.ensures.writer;
        so_far = run_begins c.args.block_size c.args.period (g.W.TerminatingWrite.content c.args.output) writer (ap (λ (w : Writing). w.block_size) new) (ap (λ (w : Writing). w.output.period) new)
            (ap (λ (w : Writing). w.output.before) new) (ap (λ (w : Writing). w.pending) new) (ap (λ (w : Writing). w.output.finished) new);
      };
      failed = none_failed (g.W.TerminatingWrite.content c.args.output) (g.W.TerminatingWrite.failures c.args.output) writer (ap (λ (w : Writing). w.output.failure) new);
      termination = ap (λ (w : Writing). w.output.termination) new;
      count = omega (arith, ap (λ (w : Writing). w.output.failures) new);
      kept = tt;
      rest = refl;
      len = ap length c.in-Ok.ensures.items;
      room = c.in-Ok.ensures.capacity;
      sound = c.with_period-writer.ensures.sound;
    }

pub loop-command-preserved : goal.loop-command-preserved
loop-command-preserved g c =
    let i = c.loop-command.command-index in
    let olds : List (StoreCommand g.row.D.Denot g.row.H.Denot) = c.args.commands.now in
    let commands : List (StoreCommand g.row.D.Denot g.row.H.Denot) = c.loop-command.commands in
    let results = c.loop-command.results.items in
    let held = g.W.TerminatingWrite.content c.args.output in
    let doc_bytes = λ (d : g.row.D.Denot). g.D.Document.doc_bytes d c.args.schema.now in
    let old = c.loop-command.writer in
    let new = c.make_call.new.writer in
    let command : StoreCommand g.row.D.Denot g.row.H.Denot = get_or commands i c.command-item.result in
    let after : StoreCommand g.row.D.Denot g.row.H.Denot = c.make_call.new.command in
    let long : length commands ≡ length olds = omega arith in
    let pushed : c.push.new.self.items ≡ results ++ c.make_call.result ∷ [] = grind (arith, common_steps) in
    let front : take (i + 1) olds ≡ take i olds ++ command ∷ [] = front_more olds commands i c.command-item.result c.loop-command.invariant.rest (omega arith) in
    let left : take (i + 1) (set commands i after) ≡ take i commands ++ after ∷ [] = take_more_set commands i after (omega arith) in
    record {
      run = subst (λ (rs : List (Result (Unit {0}) StoreError)). IsRun c.args.block_size c.args.period held doc_bytes (take (i + 1) olds) (take (i + 1) (set commands i after)) rs new) (sym pushed)
          (subst (λ (cs : List (StoreCommand g.row.D.Denot g.row.H.Denot)). IsRun c.args.block_size c.args.period held doc_bytes cs (take (i + 1) (set commands i after))
          (results ++ c.make_call.result ∷ []) new) (sym front)
          (subst (λ (cs : List (StoreCommand g.row.D.Denot g.row.H.Denot)). IsRun c.args.block_size c.args.period held doc_bytes (take i olds ++ command ∷ []) cs
          (results ++ c.make_call.result ∷ []) new) (sym left)
          (run_by_more c.args.block_size c.args.period held doc_bytes (take i olds) (take i commands) results command after c.make_call.result old new c.make_call.ensures.made
          c.loop-command.invariant.run)));
      failed = failed_more held (g.W.TerminatingWrite.failures c.args.output) old new c.loop-command.invariant.count c.loop-command.invariant.sound
          (λ works. (c.loop-command.invariant.run works).so_far.before) c.loop-command.invariant.failed c.make_call.ensures.failed;
      termination = c.make_call.ensures.termination ∙ c.loop-command.invariant.termination;
      count = omega (arith, c.loop-command.invariant.count, c.make_call.ensures.count);
      kept = subst (λ (cs : List (StoreCommand g.row.D.Denot g.row.H.Denot)). AreCommandsKept cs (take (i + 1) (set commands i after))) (sym front)
          (subst (AreCommandsKept (take i olds ++ command ∷ [])) (sym left)
          (kept_more (take i olds) (take i commands) command after c.loop-command.invariant.kept c.make_call.ensures.kept));
      rest = rest_more olds commands i after c.loop-command.invariant.rest;
      len = ap length pushed ∙ length-append results (c.make_call.result ∷ []) ∙ ap (λ (n : ℕ). n + 1) c.loop-command.invariant.len;
      room = omega (arith, c.loop-command.invariant.room, c.push.ensures.capacity, length-set commands i after);
      sound = c.make_call.ensures.sound;
    }

pub returns-in_default-clause-err : goal.returns-in_default-clause-err
returns-in_default-clause-err g c = inl (refl, refl)

pub returns-in_err-output-clause-err : goal.returns-in_err-output-clause-err
returns-in_err-output-clause-err g c =
    let i = c.loop-command.command-index in
    let olds : List (StoreCommand g.row.D.Denot g.row.H.Denot) = c.args.commands.now in
    let commands : List (StoreCommand g.row.D.Denot g.row.H.Denot) = c.loop-command.commands in
    let results = c.loop-command.results.items in
    let doc_bytes = λ (d : g.row.D.Denot). g.D.Document.doc_bytes d c.args.schema.now in
    let output = g.W.TerminatingWrite in
    let tells = λ (w : g.row.W.Denot). output_state (output.content w) (output.termination w) (output.failures w) in
    let held = tells c.args.output in
    let writer = c.loop-command.writer in
    let e = c.in_err-output.field-0.0 in
    let given = err_from_is_err_and c.from_residual.result c.from_residual.ensures.1 in
    let run : IsRun c.args.block_size c.args.period held.content doc_bytes olds commands results writer =
    subst (λ (cs : List (StoreCommand g.row.D.Denot g.row.H.Denot)). IsRun c.args.block_size c.args.period held.content doc_bytes cs commands results writer) (take_all i olds (omega arith))
    (subst (λ (cs : List (StoreCommand g.row.D.Denot g.row.H.Denot)). IsRun c.args.block_size c.args.period held.content doc_bytes (take i olds) cs results writer)
    (take_all i commands (omega arith)) c.loop-command.invariant.run) in
    let after : AfterRun c.args.block_size doc_bytes olds commands held (tells e.output) e.error =
    after_run c.args.block_size c.args.period doc_bytes olds commands results held writer e.error (tells e.output)
    c.loop-command.invariant.count c.loop-command.invariant.termination c.loop-command.invariant.sound run c.loop-command.invariant.failed c.in_err-output.ensures.err in
    subst (λ r. IfErr r (λ e. AfterRun c.args.block_size doc_bytes olds commands held (tells e.output) e.error)) (sym (given.1 ∙ ap Err given.2)) after

pub returns-clause-written : goal.returns-clause-written
returns-clause-written g c =
    let i = c.loop-command.command-index in
    let olds : List (StoreCommand g.row.D.Denot g.row.H.Denot) = c.args.commands.now in
    let results = c.loop-command.results.items in
    let doc_bytes = λ (d : g.row.D.Denot). g.D.Document.doc_bytes d c.args.schema.now in
    let writer = c.loop-command.writer in
    let run = c.loop-command.invariant.run c.in_ok-output.ensures.works in
    let bs = (flushed writer).output.finished in
    let commands : List (StoreCommand g.row.D.Denot g.row.H.Denot) = c.loop-command.commands in
    let all : take i olds ≡ olds = take_all i olds (omega arith) in
    let all_left : take i commands ≡ commands = take_all i commands (omega arith) in
    let cut : Blocks c.args.block_size run.trace bs = run_closes c.args.block_size c.args.period (g.W.TerminatingWrite.content c.args.output) run.trace writer run.so_far in
    let store : IsStore c.args.period (file c.args.period 3 bs) 3 bs = subst (λ (p : ℕ). IsStore p (file p 3 bs) 3 bs) run.so_far.period_is c.in_ok-output.ensures.store in
    record {
      trace = run.trace;
      blocks = bs;
      calls = subst (λ (cs : List (StoreCommand g.row.D.Denot g.row.H.Denot)). IsTrace doc_bytes cs results run.trace) all run.calls;
      causes = subst (λ (cs : List (StoreCommand g.row.D.Denot g.row.H.Denot)). HaveCauses c.args.block_size doc_bytes first_stage cs commands results run.trace) all
          (subst (λ (cs : List (StoreCommand g.row.D.Denot g.row.H.Denot)). HaveCauses c.args.block_size doc_bytes first_stage (take i olds) cs results run.trace) all_left run.causes);
      cut = cut;
      store = store;
      slots_are = blocks_mean_their_calls c.args.block_size run.trace bs store.blocks cut;
      output = c.in_ok-output.ensures.file ∙ (λ j. run.so_far.before j ++ file (run.so_far.period_is j) 3 bs);
    }
