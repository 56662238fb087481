use Rattle.std.proofs.Common.{rules, ◌≡◌, inr, ◌+◌, ◌-◌, ℕ, Bool, Bor, Option, Some, None, List, [], ◌∷◌, length, min, sym, ◌∙◌, ap, subst, arith, length-append}
use Rattle.std.specs.List.{AllByRecursion, Contains}
use Rattle.std.specs.Prelude.{Result, Err}
use Rattle.store_base.specs.Counts.{HasRisen}
use Rattle.store_base.specs.declared.error.StoreError.{StoreError}
use Rattle.store_base.specs.declared.error.StoreError.TheVariants.{Read}
use Rattle.store_reader.specs.CallAnswers.{IsNotPast}
use Rattle.store_reader.specs.CallList.{AreItems}
use Rattle.store_reader.specs.Reading.{num_docs, store_of}
use Rattle.store_format.specs.Slots.{slots}
use Rattle.store_reader.specs.Walking.{taken_last, set_of, set_in, GivesNext}
use Rattle.store_reader.proofs.CallAnswersLemmas.{walked_not_past, items_not_past}
use Rattle.store_reader.proofs.FailedLemmas.{item_failed}
use Rattle.store_reader.proofs.IterationLookUpLemmas.{IsListedTo, listed_on, looked_enough, looked_all}
use Rattle.store_reader.proofs.ItemsSoFarLemmas.{alive_so_far, listed_more, below_more, listed_end, listed_enough}
use Rattle.store_reader.proofs.RecentLemmas.{same_on}
use Rattle.store_reader.proofs.SteadyLemmas.{IsSteadySoFar, steady_next, steady_all, steady_enough, steady_where_alive}
use Rattle.store_reader.proofs.call_list.list_items.Goals as goal

pub loop-iter-preserved : goal.loop-iter-preserved
loop-iter-preserved g c =
    let first = c.args.reader.now in
    let set = set_of c.args.alive in
    let old = c.loop-iter.iter in
    let new = c.next.new.self in
    let docs : num_docs first ≡ length (slots (store_of first)) = sym c.num_docs.ensures.count ∙ c.num_docs.ensures.slots in
    let steps = c.in-Some.ensures.steps in
    let gives : GivesNext set old.reader.now old.walk (Some c.in-Some.item) new.reader.now new.walk =
    subst (λ (x : Option (ℕ → Bool)). GivesNext x old.reader.now old.walk (Some c.in-Some.item) new.reader.now new.walk) c.loop-iter.invariant.set steps.0 in
    let pushed = c.in_ok-push.ensures.items in
    let listed : IsListedTo first set (length c.loop-iter.items.items + 1) new.reader.now new.walk =
    listed_on first set (length c.loop-iter.items.items) old.reader.now old.walk c.in-Some.item new.reader.now new.walk c.loop-iter.invariant.same.checkpoints c.loop-iter.invariant.looks gives in
    let not_past = walked_not_past gives.last (gives.last - new.walk.first) (taken_last new.walk) c.in-Some.item gives.walk.only gives.gives.answers in
    record {
      name = steps.2 ∙ c.loop-iter.invariant.name;
      walk = c.in-Some.ensures.goes.keeps;
      same = same_on first old.reader.now new.reader.now c.loop-iter.invariant.same gives.same;
      set = ap (λ (a : Bor (List (List Bool))). set_in a.now) steps.1 ∙ c.loop-iter.invariant.set;
      listed = λ honest. subst (AreItems (alive_so_far set (slots (store_of first)) new.walk.next)) (sym pushed)
          (listed_more first old.reader.now new.reader.now set old.walk new.walk c.in-Some.item c.loop-iter.items.items docs c.loop-iter.invariant.same gives c.loop-iter.invariant.listed honest);
      looks = subst (λ (n : ℕ). IsListedTo first set n new.reader.now new.walk) (sym (ap length pushed ∙ length-append c.loop-iter.items.items (c.in-Some.item ∷ []))) listed;
      past = subst (AllByRecursion IsNotPast) (sym pushed) (items_not_past c.loop-iter.items.items c.in-Some.item c.loop-iter.invariant.past not_past);
      failed = subst (λ (xs : List (Result (List ℕ) StoreError)). Contains xs (Err Read) → HasRisen first.file.failures new.reader.now.file.failures) (sym pushed)
          (item_failed first old.reader.now new.reader.now set (length c.loop-iter.items.items + 1) old.walk new.walk c.in-Some.item c.loop-iter.items.items listed gives c.loop-iter.invariant.failed);
      steady = subst (λ (xs : List (Result (List ℕ) StoreError)). (Contains xs (Err Read) → ⊥) → IsSteadySoFar set first new.reader.now new.walk) (sym pushed)
          (steady_next set first old.reader.now old.walk c.loop-iter.invariant.same c.num_docs.ensures.covers c.loop-iter.invariant.walk c.in-Some.item new.reader.now new.walk gives
          c.loop-iter.items.items
          c.loop-iter.invariant.steady);
      begun = inr (omega (arith, gives.gives.next));
      below = below_more first old.reader.now new.reader.now set old.walk new.walk c.in-Some.item docs c.loop-iter.invariant.same gives;
      few = omega (arith, ap length pushed, length-append c.loop-iter.items.items (c.in-Some.item ∷ []));
    }

pub returns-clause-items : goal.returns-clause-items
returns-clause-items g c = λ honest.
    let first = c.args.reader.now in
    let set = set_of c.args.alive in
    let all = slots (store_of first) in
    let most : c.min-most.result ≡ min c.args.count (length all) = omega (arith, c.min-most.ensures, c.num_docs.ensures.slots) in
    listed_enough set all c.loop-iter.iter.walk.next c.args.count c.loop-iter.items.items (c.loop-iter.invariant.listed honest) (omega (arith, most, c.loop-iter.invariant.few)) (omega (arith, most))

pub returns-in_default-clause-items : goal.returns-in_default-clause-items
returns-in_default-clause-items g c = λ honest.
    let first = c.args.reader.now in
    let set = set_of c.args.alive in
    let old = c.loop-iter.iter in
    let new = c.next.new.self in
    let all = slots (store_of first) in
    let docs : num_docs first ≡ length (slots (store_of first)) = sym c.num_docs.ensures.count ∙ c.num_docs.ensures.slots in
    let most : c.min-most.result ≡ min c.args.count (length all) = omega (arith, c.min-most.ensures, c.num_docs.ensures.slots) in
    let gives : GivesNext set old.reader.now old.walk None new.reader.now new.walk =
    subst (λ (x : Option (ℕ → Bool)). GivesNext x old.reader.now old.walk None new.reader.now new.walk) c.loop-iter.invariant.set (c.in_default.ensures.steps.0) in
    listed_end first old.reader.now new.reader.now set old.walk new.walk c.args.count c.loop-iter.items.items docs c.loop-iter.invariant.same gives c.loop-iter.invariant.below
    (omega (arith, most, c.loop-iter.invariant.few)) (c.loop-iter.invariant.listed honest)

pub returns-clause-looks : goal.returns-clause-looks
returns-clause-looks g c =
    let first = c.args.reader.now in
    let most : c.min-most.result ≡ min c.args.count (num_docs first) = omega (arith, c.min-most.ensures, c.num_docs.ensures.count) in
    let items = c.loop-iter.items.items in
    let invariant = c.loop-iter.invariant in
    let looks = looked_enough first (set_of c.args.alive) (length items) c.args.count c.loop-iter.iter.reader.now c.loop-iter.iter.walk invariant.same c.num_docs.ensures.covers invariant.walk
    invariant.looks
    (omega (arith, most, invariant.few)) (omega (arith, invariant.below, c.num_docs.ensures.count, c.num_docs.ensures.slots)) in
    search (rules, looks)

pub returns-in_default-clause-looks : goal.returns-in_default-clause-looks
returns-in_default-clause-looks g c =
    let first = c.args.reader.now in
    let set = set_of c.args.alive in
    let old = c.loop-iter.iter in
    let new = c.next.new.self in
    let items = c.loop-iter.items.items in
    let invariant = c.loop-iter.invariant in
    let most : c.min-most.result ≡ min c.args.count (num_docs first) = omega (arith, c.min-most.ensures, c.num_docs.ensures.count) in
    let gives : GivesNext set old.reader.now old.walk None new.reader.now new.walk =
    subst (λ (x : Option (ℕ → Bool)). GivesNext x old.reader.now old.walk None new.reader.now new.walk) invariant.set (c.in_default.ensures.steps.0) in
    let looks = looked_all first set (length items) c.args.count old.reader.now old.walk new.reader.now new.walk invariant.same c.num_docs.ensures.covers invariant.looks gives
    (same_on first old.reader.now new.reader.now invariant.same gives.same) (omega (arith, most)) in
    search (rules, looks)

pub returns-clause-steady : goal.returns-clause-steady
returns-clause-steady g c = λ some all none.
    let first = c.args.reader.now in
    let set = set_of c.args.alive in
    let invariant = c.loop-iter.invariant in
    let now = c.loop-iter.iter.reader.now in
    let most : c.min-most.result ≡ min c.args.count (num_docs first) = omega (arith, c.min-most.ensures, c.num_docs.ensures.count) in
    let stays : now.file.failures ≡ first.file.failures =
    steady_enough set first now c.loop-iter.iter.walk (length c.loop-iter.items.items) c.args.count invariant.same c.num_docs.ensures.covers invariant.walk some
    (omega (arith, most, invariant.few)) invariant.begun all (invariant.steady none) in
    search (rules, stays)

pub returns-in_default-clause-steady : goal.returns-in_default-clause-steady
returns-in_default-clause-steady g c = λ some all none.
    let first = c.args.reader.now in
    let set = set_of c.args.alive in
    let old = c.loop-iter.iter in
    let new = c.next.new.self in
    let invariant = c.loop-iter.invariant in
    let gives : GivesNext set old.reader.now old.walk None new.reader.now new.walk =
    subst (λ (x : Option (ℕ → Bool)). GivesNext x old.reader.now old.walk None new.reader.now new.walk) invariant.set (c.in_default.ensures.steps.0) in
    let stays : new.reader.now.file.failures ≡ first.file.failures =
    steady_where_alive set first new.reader.now 0 (num_docs first) all
    (steady_all set first old.reader.now old.walk invariant.same c.num_docs.ensures.covers invariant.walk (invariant.steady none) new.reader.now new.walk gives) in
    search (rules, stays)
