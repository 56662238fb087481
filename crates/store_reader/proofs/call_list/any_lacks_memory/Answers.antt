use Rattle.std.proofs.Common.{rules, tests, ℕ, zero, suc, ◌<◌, ◌≤◌, ◌↔◌, Bool, true, false, IsTrue, MatchBool, List, [], ◌∷◌, length, get_or, inl, inr, refl, arith}
use Rattle.std.proofs.lemmas.Bool.{false≢true}
use Rattle.std.proofs.lemmas.Iterator.{cases_from_any, YieldsList-from_slice}
use Rattle.std.proofs.lemmas.List.Elements.{Contains-append_left, Contains-append_right, Contains-append_cases}
use Rattle.std.specs.List.{AllWithin, Contains, HoldsAt, flat_map}
use Rattle.std.specs.Prelude.{Err}
use Rattle.store_base.specs.declared.error.StoreError.TheVariants.{Memory}
use Rattle.store_reader.specs.declared.call_list.Answer.{Answer}
use Rattle.store_reader.specs.declared.call_list.Answer.TheVariants.{Got}
use Rattle.store_reader.specs.CallAnswers.{HasRefusal, results_of}
use Rattle.store_reader.proofs.call_list.any_lacks_memory.Goals as goal

abbrev Lacks : Answer → Type 0
Lacks answer = Contains (results_of answer) (Err Memory)

-- one answer that lacks memory, at any place
lacks_at : (answers : List Answer) (k : ℕ) (d : Answer) → k < length answers → Lacks (get_or answers k d) → HasRefusal answers Memory
lacks_at [] k d lt h = absurd (omega (arith, lt))
lacks_at (a ∷ answers) zero d lt h = Contains-append_left (results_of a) (flat_map results_of answers) (Err Memory) h
lacks_at (a ∷ answers) (suc k) d lt h = Contains-append_right (results_of a) (flat_map results_of answers) (Err Memory) (lacks_at answers k d (omega (arith, lt)) h)

-- none at all
none_lacks : (answers : List Answer) → ((k : ℕ) (d : Answer) → 0 ≤ k → k < length answers → ¬ Lacks (get_or answers k d)) → ¬ HasRefusal answers Memory
none_lacks [] none some = let lt = some.1 in omega arith
none_lacks (a ∷ answers) none some = elim (Contains-append_cases (results_of a) (flat_map results_of answers) (Err Memory) some) [
  | inl here ↦ none 0 a (omega arith) (omega arith) here
  | inr later ↦ none_lacks answers (λ k d from lt. none (suc k) d (omega arith) (omega arith)) later
]

told : (answers : List Answer) (r : Bool) → MatchBool r ((k : ℕ) × (k < length answers) × HoldsAt Lacks answers k) (AllWithin (λ a. ¬ Lacks a) answers 0 (length answers))
    → IsTrue r ↔ HasRefusal answers Memory
told answers true h = (λ _. lacks_at answers h.0 (Got (Err Memory)) h.1 (h.2 (Got (Err Memory))), λ _. refl)
told answers false h = (λ e. absurd (false≢true e), λ some. absurd (none_lacks answers h some))

pub returns : goal.returns
returns c =
    let answers = c.args.answers.now in
    told answers c.any.result
    (cases_from_any _ _ _ Lacks (λ a. ¬ Lacks a) c.any.ensures.ran (YieldsList-from_slice answers cc) (λ x q k. search (rules, tests)) (λ x q k. search (rules, tests)))
