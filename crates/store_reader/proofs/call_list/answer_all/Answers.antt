use Rattle.std.proofs.Common.{◌≡◌, ◌+◌, List, take, sym, subst, arith}
use Rattle.std.specs.List.{AllByRecursion, AllZip}
use Rattle.store_base.specs.Counts.{HasRisen}
use Rattle.store_base.specs.declared.error.StoreError.TheVariants.{Read}
use Rattle.store_reader.specs.declared.call_list.Answer.{Answer}
use Rattle.store_reader.specs.CallAnswers.{ShowsEachBlock, AreAnswers, HasRefusal, RefusesPast}
use Rattle.store_reader.specs.Reading.{num_docs, store_of}
use Rattle.store_format.specs.Slots.{slots}
use Rattle.store_reader.proofs.CallAnswersLemmas.{answers_more, looks_more, past_more}
use Rattle.store_reader.proofs.FailedLemmas.{answer_failed, answers_steady}
use Rattle.store_reader.proofs.RecentLemmas.{same_on}
use Rattle.store_reader.proofs.call_list.answer_all.Goals as goal

pub loop-call-preserved : goal.loop-call-preserved
loop-call-preserved g c =
    let first = c.args.reader.now in
    let old = c.loop-call.reader in
    let calls = c.args.calls.now in
    let i = c.loop-call.call-index in
    let answers = c.loop-call.answers.items in
    record {
      same = same_on first old c.answer_one.new.reader c.loop-call.invariant.same c.answer_one.ensures.same_store;
      looks = looks_more first old c.answer_one.new.reader calls i c.call-item.result (omega arith) c.call-item.is c.loop-call.invariant.same c.loop-call.invariant.looks c.in_ok-answer.ensures.looks;
      so_far = λ honest. subst (AreAnswers (slots (store_of first)) (take (i + 1) calls)) (sym c.in_ok-push.ensures.items)
          (answers_more first old calls i c.call-item.result answers c.in_ok-answer.answer
          (omega arith) c.call-item.is c.loop-call.invariant.same c.loop-call.invariant.so_far c.in_ok-answer.ensures.answer honest);
      past = subst (AllZip (RefusesPast (num_docs first)) (take (i + 1) calls)) (sym c.in_ok-push.ensures.items)
          (past_more first old calls i c.call-item.result answers c.in_ok-answer.answer (omega arith) c.call-item.is c.loop-call.invariant.same c.loop-call.invariant.past c.in_ok-answer.ensures.past);
      steady = subst (λ (xs : List Answer). AllByRecursion (ShowsEachBlock first.checkpoints) (take (i + 1) calls) → (HasRefusal xs Read → ⊥)
          → c.answer_one.new.reader.file.failures ≡ first.file.failures)
          (sym c.in_ok-push.ensures.items)
          (answers_steady first old c.answer_one.new.reader calls i c.call-item.result answers c.in_ok-answer.answer (omega arith) c.call-item.is c.loop-call.invariant.same.checkpoints
          c.loop-call.invariant.steady c.in_ok-answer.ensures.steady);
      failed = subst (λ (xs : List Answer). HasRefusal xs Read → HasRisen first.file.failures c.answer_one.new.reader.file.failures) (sym c.in_ok-push.ensures.items)
          (answer_failed first old c.answer_one.new.reader answers c.in_ok-answer.answer c.loop-call.invariant.same c.answer_one.ensures.same_store
          c.loop-call.invariant.failed c.in_ok-answer.ensures.failed);
    }
