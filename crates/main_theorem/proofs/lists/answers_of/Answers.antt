use Rattle.std.proofs.Common.{◌≡◌, ℕ, List, map, sym, ap, ◌∙◌, subst}
use Rattle.std.specs.List.{AllByRecursion}
use Rattle.store_base.specs.Files.{Part}
use Rattle.store_base.specs.declared.error.StoreError.TheVariants.{Read, Memory}
use Rattle.store_reader.specs.CallAnswers.{CanAnswer, HasRefusal, exact_results, keys_of_calls, results_of}
use Rattle.store_reader.specs.LookLaws.{AreLookUps}
use Rattle.store_format.specs.Footer.{version_number}
use Rattle.store_reader.specs.Reading.{Reading, IsSameStore, store_of}
use Rattle.store_format.specs.Slots.{slots}
use Rattle.store_format.specs.StoreFile.{StoreBlock}
use Rattle.main_theorem.proofs.ListLemmas.{docs_seen}
use Rattle.main_theorem.proofs.StackingLemmas.{no_rise}
use Rattle.main_theorem.proofs.lists.answers_of.Goals as goal

pub answer_all-requires : goal.answer_all-requires
answer_all-requires c =
    let r = c.in_ok-reader.reader in
    let opened = c.in_ok-reader.ensures in
    subst (λ (n : ℕ). AllByRecursion (CanAnswer n) c.args.calls.now) (sym (docs_seen r opened.seen)) (c.requires.sets r.period (version_number r.version) (store_of r) opened.store)

pub returns-clause-exact : goal.returns-clause-exact
returns-clause-exact c period version bs store =
    let r = c.in_ok-reader.reader in
    let opened = c.in_ok-reader.ensures in
    let answers = c.in_ok-answers.answers.items in
    let left = c.answer_all.new.reader in
    let same = (c.stores_are_apart.ensures r.period period c.args.bytes.now (version_number r.version) version (store_of r) bs opened.store store).2 in
    let file : left.file ≡ c.reader.inside.file = sym (ap (λ (x : Reading). x.file) c.reader.view_is) in
    let none = ap (λ (p : Part). p.failures) file ∙ ap (λ (p : Part). p.failures) (sym c.reader-2.view_is) in
    let read : HasRefusal answers Read → ⊥ = λ h. no_rise _ _ opened.failures none (c.in_ok-answers.ensures.failed h) in
    let memory : HasRefusal answers Memory → ⊥ = λ h. let no = c.if-any_lacks_memory.ensures.1 (subst (λ xs. HasRefusal xs Memory) (sym c.deref.ensures.value) h) in cc in
    record {
      opened = r;
      store = opened.store;
      cache = opened.cache;
      same_store = subst (λ (x : Reading). IsSameStore r x) (sym c.of.ensures) c.in_ok-answers.ensures.same_store;
      looks = subst (λ (x : Reading). AreLookUps (keys_of_calls r.checkpoints c.args.calls.now) r x) (sym c.of.ensures) c.in_ok-answers.ensures.looks;
      answers = subst (λ (xs : List StoreBlock). map results_of answers ≡ map (exact_results (slots xs)) c.args.calls.now) same
          (c.answers_are_exact.ensures (slots (store_of r)) c.args.calls.now answers (c.in_ok-answers.ensures.answers opened.honest) read memory);
    }
