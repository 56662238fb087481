use Rattle.std.proofs.Common.{ℕ, List, sym, subst}
use Rattle.std.specs.List.{AllByRecursion}
use Rattle.store_reader.specs.declared.call_list.ReadCall.{ReadCall}
use Rattle.store_reader.specs.CallAnswers.{CanAnswer}
use Rattle.store_format.specs.Slots.{slots}
use Rattle.store_format.specs.StoreFile.{docs_in}
use Rattle.main_theorem.specs.Lists.{Answers}
use Rattle.main_theorem.proofs.lists.answers_to.Goals as goal

pub answers_of-requires : goal.answers_of-requires
answers_of-requires g c = record {
  sets = λ p v bs store.
      let calls = c.in_ok-calls.calls.items in
      let reach : AllByRecursion (CanAnswer (docs_in bs)) calls = subst (λ (n : ℕ). AllByRecursion (CanAnswer n) calls) (c.in_ok-count.ensures.count p v bs store) c.in_ok-calls.ensures.sets in
      subst (λ (cs : List ReadCall). AllByRecursion (CanAnswer (docs_in bs)) cs) (sym c.deref.ensures.value) reach;
}

pub answers_of-requires-2 : goal.answers_of-requires-2
answers_of-requires-2 g c = record {
  sets = λ p v bs store.
      let calls = c.in_ok-calls.calls.items in
      let reach : AllByRecursion (CanAnswer (docs_in bs)) calls = subst (λ (n : ℕ). AllByRecursion (CanAnswer n) calls) (c.in_ok-count.ensures.count p v bs store) c.in_ok-calls.ensures.sets in
      subst (λ (cs : List ReadCall). AllByRecursion (CanAnswer (docs_in bs)) cs) (sym c.deref-2.ensures.value) reach;
}

pub returns-clause-first : goal.returns-clause-first
returns-clause-first g c p v bs store =
    subst (λ (cs : List ReadCall). Answers c.args.bytes.now c.args.first_capacity (slots bs) cs c.in_ok-first.first) c.deref.ensures.value (c.in_ok-first.ensures.exact p v bs store)

pub returns-clause-second : goal.returns-clause-second
returns-clause-second g c p v bs store =
    subst (λ (cs : List ReadCall). Answers c.args.bytes.now c.args.second_capacity (slots bs) cs c.in_ok-second.second) c.deref-2.ensures.value (c.in_ok-second.ensures.exact p v bs store)
