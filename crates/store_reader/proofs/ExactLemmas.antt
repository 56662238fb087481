-- What the slots and the calls say exactly is answered, where no read failed and memory was found.
use Rattle.std.proofs.Common.{◌≡◌, inl, inr, ℕ, List, [], ◌∷◌, map, Option, Some, refl, sym, ap, ◌∙◌, subst}
use Rattle.std.proofs.lemmas.List.Elements.{Contains-append_left, Contains-append_right, Contains-push}
use Rattle.std.specs.List.{Contains, flat_map}
use Rattle.std.specs.Prelude.{Result, Ok, Err, slice_get}
use Rattle.store_base.specs.declared.error.StoreError.{StoreError}
use Rattle.store_base.specs.declared.error.StoreError.TheVariants.{Read, Memory}
use Rattle.store_reader.specs.declared.call_list.Answer.{Answer}
use Rattle.store_reader.specs.declared.call_list.Answer.TheVariants.{Got, Listed}
use Rattle.store_reader.specs.declared.call_list.ReadCall.{ReadCall}
use Rattle.store_reader.specs.declared.call_list.ReadCall.TheVariants.{Bytes, Iter}
use Rattle.store_reader.specs.GetAnswer.{AnswersTruly}
use Rattle.store_reader.specs.CallAnswers.{IsAnswer, AnswersAreExact, results_of, exact_result, exact_results}
use Rattle.store_reader.specs.Iteration.{flags_of}
use Rattle.store_format.specs.Block.{Slot}
use Rattle.store_reader.specs.CallList.{AreItems, first_alive}

pub exact : (id : ℕ) (s : Option Slot) (r : Result (List ℕ) StoreError) → AnswersTruly id s r → ¬ (r ≡ Err Read) → ¬ (r ≡ Err Memory) → r ≡ exact_result id s
exact id s (Ok bytes) truly no_read no_memory = sym (ap (exact_result id) truly)
exact id s (Err e) (inl none) no_read no_memory = ap Err none.0 ∙ sym (ap (exact_result id) none.1)
exact id s (Err e) (inr (inl bad)) no_read no_memory = ap Err bad.0 ∙ sym (ap (exact_result id) bad.1)
exact id s (Err e) (inr (inr (inl read))) no_read no_memory = absurd (no_read (ap Err read))
exact id s (Err e) (inr (inr (inr memory))) no_read no_memory = absurd (no_memory (ap Err memory))

contains_first : (r : Result (List ℕ) StoreError) (rs : List (Result (List ℕ) StoreError)) (x : Result (List ℕ) StoreError) → r ≡ x → Contains (r ∷ rs) x
contains_first r rs x is = subst (Contains (r ∷ rs)) is (Contains-append_left (r ∷ []) rs r (Contains-push [] r))

exact_items : (xs : List (ℕ × Slot)) (rs : List (Result (List ℕ) StoreError)) → AreItems xs rs → ¬ Contains rs (Err Read) → ¬ Contains rs (Err Memory) → rs ≡ map (λ x. exact_result x.0 (Some x.1)) xs
exact_items [] [] h no_read no_memory = refl
exact_items (x ∷ xs) (r ∷ rs) h no_read no_memory =
    let first = exact x.0 (Some x.1) r h.0 (λ is. no_read (contains_first r rs (Err Read) is)) (λ is. no_memory (contains_first r rs (Err Memory) is)) in
    let others = exact_items xs rs h.1 (λ some. no_read (Contains-append_right (r ∷ []) rs (Err Read) some)) (λ some. no_memory (Contains-append_right (r ∷ []) rs (Err Memory) some)) in
    λ i. first i ∷ others i
exact_items [] (r ∷ rs) h no_read no_memory = absurd h
exact_items (x ∷ xs) [] h no_read no_memory = absurd h

exact_answer : (all : List Slot) (call : ReadCall) (answer : Answer) → IsAnswer all call answer
    → ¬ Contains (results_of answer) (Err Read) → ¬ Contains (results_of answer) (Err Memory) → results_of answer ≡ exact_results all call
exact_answer all (Bytes id) (Got r) h no_read no_memory =
    ap (λ (x : Result (List ℕ) StoreError). x ∷ []) (exact id (slice_get all id) r h (λ is. no_read (contains_first r [] (Err Read) is)) (λ is. no_memory (contains_first r [] (Err Memory) is)))
exact_answer all (Iter alive take) (Listed v) h no_read no_memory = exact_items (first_alive take all (flags_of alive)) v.items h no_read no_memory
exact_answer all (Bytes id) (Listed v) h no_read no_memory = absurd h
exact_answer all (Iter alive take) (Got r) h no_read no_memory = absurd h

pub answers_are_exact : AnswersAreExact
answers_are_exact all [] [] h no_read no_memory = refl
answers_are_exact all (call ∷ calls) (a ∷ answers) h no_read no_memory =
    let here = results_of a in
    let later = flat_map results_of answers in
    let first = exact_answer all call a h.0 (λ c. no_read (Contains-append_left here later (Err Read) c)) (λ c. no_memory (Contains-append_left here later (Err Memory) c)) in
    let others = answers_are_exact all calls answers h.1 (λ c. no_read (Contains-append_right here later (Err Read) c)) (λ c. no_memory (Contains-append_right here later (Err Memory) c)) in
    λ i. first i ∷ others i
answers_are_exact all [] (a ∷ answers) h no_read no_memory = absurd h
answers_are_exact all (call ∷ calls) [] h no_read no_memory = absurd h
