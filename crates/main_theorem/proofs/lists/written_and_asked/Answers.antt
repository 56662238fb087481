use Rattle.std.proofs.Common.{◌≡◌, ◌++◌, ℕ, List, sym, ap, ◌∙◌, subst}
use Rattle.std.proofs.lemmas.Result.{err_from_is_err_and}
use Rattle.store_format.specs.StoreFile.{file, IsStore}
use Rattle.main_theorem.proofs.ListLemmas.{only_want, asked_of}
use Rattle.main_theorem.proofs.lists.written_and_asked.Goals as goal

pub returns-in_err-calls-clause-refused : goal.returns-in_err-calls-clause-refused
returns-in_err-calls-clause-refused g c =
    let w = c.in-Ok.ensures.written in
    let text : c.deref.result.now ≡ file c.args.period 3 w.blocks = c.deref.ensures.value ∙ c.into_bytes-file.ensures ∙ w.output
    ∙ ap (λ (xs : List ℕ). xs ++ file c.args.period 3 w.blocks) c.new-output.ensures.content in
    let given = err_from_is_err_and c.from_residual.result c.from_residual.ensures.1 in
    rw (given.1, given.2) (only_want c.deref.result.now c.args.period w.blocks _ (subst (λ (b : List ℕ). IsStore c.args.period b 3 w.blocks) (sym text) w.store) c.in_err-calls.ensures.refused)

pub returns-clause-answers : goal.returns-clause-answers
returns-clause-answers g c =
    let w = c.in-Ok.ensures.written in
    let text = c.into_bytes-file.result.items in
    let written : text ≡ file c.args.period 3 w.blocks = c.into_bytes-file.ensures ∙ w.output
    ∙ ap (λ (xs : List ℕ). xs ++ file c.args.period 3 w.blocks) c.new-output.ensures.content in
    let same_text : c.deref.result.now ≡ text = c.deref.ensures.value in
    let store = subst (λ (b : List ℕ). IsStore c.args.period b 3 w.blocks) (sym (same_text ∙ written)) w.store in
    let calls = c.in_ok-calls.calls.items in
    record {
      written = record {
        trace = w.trace;
        blocks = w.blocks;
        calls = w.calls;
        causes = w.causes;
        cut = w.cut;
        store = w.store;
        slots_are = w.slots_are;
        output = written;
      };
      first_are = asked_of _ text c.args.first_capacity _ _ calls _ same_text w.slots_are (c.in_ok-calls.ensures.first c.args.period 3 w.blocks store);
      second_are = asked_of _ text c.args.second_capacity _ _ calls _ same_text w.slots_are (c.in_ok-calls.ensures.second c.args.period 3 w.blocks store);
    }
