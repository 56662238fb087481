use Rattle.std.proofs.Common.{◌∙◌, sym, subst, length}
use Rattle.std.specs.Prelude.{IsTrue}
use Rattle.std.proofs.lemmas.Iterator.Adapters.{YieldsList-from_vec}
use Rattle.std.proofs.lemmas.Iterator.Consumers.{YieldsList-turn, YieldsList-end}
use Rattle.docstore.proofs.FileLemmas.{file_goes_on}
use Rattle.program_stores.specs.Merged.{words_for, IsReaderIn, AreMerged, AddsSlots}
use Rattle.program_stores.proofs.GivenLemmas.{on_ok_given}
use Rattle.program_stores.proofs.MergedLemmas.{adds_more, all_at, map_same}
use Rattle.program_stores.proofs.merge.Merging.merge_inputs.Goals as goal

pub loop-input-preserved : goal.loop-input-preserved
loop-input-preserved g c = record {
  file = file_goes_on c.args.writer.now c.loop-input.writer c.merge_input-merged.new.writer c.loop-input.invariant.file
      (on_ok_given c.merge_input-merged.result c.in_ok-with_file.field-0 _ c.in_ok-with_file.ensures c.merge_input-merged.ensures.file);
  added = λ honest.
      let gives = c.into_iter-input-iterator.ensures.into_iter_gives in
      let turn = YieldsList-turn (YieldsList-from_vec c.args.inputs.items gives.0 (gives.1 ∙ c.args.inputs.ok.0))
      c.loop-input.yielded c.loop-input.input-iterator c.loop-input.yielded_by c.next.result c.next.new.self c.in-Some.input c.in-Some.is c.next.ensures.steps in
      let here = subst (λ input. IsTrue input.file.honest) (sym turn.1)
      (all_at (λ input. IsTrue input.file.honest) c.args.inputs.items (length c.loop-input.yielded) c.in-Some.input turn.0 honest) in
      adds_more (λ input. IsReaderIn input.file.content) (λ input. words_for c.args.self.now.without.now input.path.now) c.loop-input.yielded c.in-Some.input
      c.args.writer.now c.loop-input.writer c.merge_input-merged.new.writer (c.loop-input.invariant.added honest)
      (on_ok_given c.merge_input-merged.result c.in_ok-with_file.field-0 _ c.in_ok-with_file.ensures (c.merge_input-merged.ensures.added here));
}

pub returns-clause-added : goal.returns-clause-added
returns-clause-added g c honest =
    let gives = c.into_iter-input-iterator.ensures.into_iter_gives in
    let seen = YieldsList-end (YieldsList-from_vec c.args.inputs.items gives.0 (gives.1 ∙ c.args.inputs.ok.0))
    c.loop-input.yielded c.loop-input.input-iterator c.loop-input.yielded_by c.next.result c.next.new.self c.in-None.is c.next.ensures.steps in
    subst (λ inputs. AddsSlots (AreMerged (λ input. IsReaderIn input.file.content) (λ input. words_for c.args.self.now.without.now input.path.now) inputs)
    c.args.writer.now c.loop-input.writer) (sym (map_same c.loop-input.yielded) ∙ seen.0) (c.loop-input.invariant.added honest)
