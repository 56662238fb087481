-- The answers that slots decide.
use Rattle.std.proofs.Common.{◌≡◌, ◌⊎◌, inl, inr, ℕ, List, [], ◌∷◌, Option, Some, None, refl, sym, ap, ◌∙◌, subst}
use Rattle.std.specs.List.{AllByRecursion}
use Rattle.std.specs.Prelude.{Result, Ok, Err, slice_get}
use Rattle.store_base.specs.declared.error.StoreError.{StoreError}
use Rattle.store_base.specs.declared.error.StoreError.TheVariants.{InvalidArgument, DamagedDocument}
use Rattle.store_reader.specs.declared.call_list.Answer.{Answer}
use Rattle.store_reader.specs.declared.call_list.Answer.TheVariants.{Got, Listed}
use Rattle.store_reader.specs.declared.call_list.ReadCall.{ReadCall}
use Rattle.store_reader.specs.declared.call_list.ReadCall.TheVariants.{Bytes, Iter}
use Rattle.store_reader.specs.GetAnswer.{AnswersTruly}
use Rattle.store_reader.specs.CallAnswers.{IsAnswer, HasCome, AllCame, IsSameAnswer, SlotsDecideAnswers}
use Rattle.store_reader.specs.Iteration.{flags_of}
use Rattle.store_format.specs.Block.{Slot, doc, damaged}
use Rattle.store_reader.specs.CallList.{AreItems, first_alive}

-- a refusal that came is that of the slot
why : (id : ℕ) (s : Option Slot) (e : StoreError) → AnswersTruly id s (Err e) → HasCome (Err e) → ((e ≡ InvalidArgument id) × (s ≡ None)) ⊎ ((e ≡ DamagedDocument id) × (s ≡ Some damaged))
why id s e (inl none) come = inl none
why id s e (inr (inl bad)) come = inr bad
why id s e (inr (inr (inl read))) come = absurd (subst (λ (x : StoreError). HasCome (Err x)) read come)
why id s e (inr (inr (inr memory))) come = absurd (subst (λ (x : StoreError). HasCome (Err x)) memory come)

no_bytes : (s : Option Slot) (bytes : List ℕ) → s ≡ Some (doc bytes) → (s ≡ None) ⊎ (s ≡ Some damaged) → ⊥
no_bytes s bytes is (inl none) = let e : ◌≡◌ {A = Option Slot} (Some (doc bytes)) None = sym is ∙ none in cc
no_bytes s bytes is (inr bad) = let e : ◌≡◌ {A = Option Slot} (Some (doc bytes)) (Some damaged) = sym is ∙ bad in cc

refused : (id : ℕ) (s : Option Slot) (e : StoreError) → AnswersTruly id s (Err e) → HasCome (Err e) → (s ≡ None) ⊎ (s ≡ Some damaged)
refused id s e truly come = elim (why id s e truly come) [ inl none ↦ inl none.1 | inr bad ↦ inr bad.1 ]

same_refusal : (id : ℕ) (s : Option Slot) (e f : StoreError) → ((e ≡ InvalidArgument id) × (s ≡ None)) ⊎ ((e ≡ DamagedDocument id) × (s ≡ Some damaged))
    → ((f ≡ InvalidArgument id) × (s ≡ None)) ⊎ ((f ≡ DamagedDocument id) × (s ≡ Some damaged)) → e ≡ f
same_refusal id s e f (inl a) (inl b) = a.0 ∙ sym b.0
same_refusal id s e f (inr a) (inr b) = a.0 ∙ sym b.0
same_refusal id s e f (inl a) (inr b) = absurd (let is : ◌≡◌ {A = Option Slot} None (Some damaged) = sym a.1 ∙ b.1 in cc)
same_refusal id s e f (inr a) (inl b) = absurd (let is : ◌≡◌ {A = Option Slot} None (Some damaged) = sym b.1 ∙ a.1 in cc)

same_result : (id : ℕ) (s : Option Slot) (a b : Result (List ℕ) StoreError) → AnswersTruly id s a → AnswersTruly id s b → HasCome a → HasCome b → a ≡ b
same_result id s (Ok xs) (Ok ys) p q come come' = let e : ◌≡◌ {A = Option Slot} (Some (doc xs)) (Some (doc ys)) = sym p ∙ q in cc
same_result id s (Ok xs) (Err f) p q come come' = absurd (no_bytes s xs p (refused id s f q come'))
same_result id s (Err e) (Ok ys) p q come come' = absurd (no_bytes s ys q (refused id s e p come))
same_result id s (Err e) (Err f) p q come come' = ap Err (same_refusal id s e f (why id s e p come) (why id s f q come'))

same_items : (xs : List (ℕ × Slot)) (rs ss : List (Result (List ℕ) StoreError)) → AreItems xs rs → AreItems xs ss → AllByRecursion HasCome rs → AllByRecursion HasCome ss → rs ≡ ss
same_items [] [] [] p q come come' = refl
same_items (x ∷ xs) (a ∷ rs) (b ∷ ss) p q come come' =
    let first = same_result x.0 (Some x.1) a b p.0 q.0 come.0 come'.0 in
    ap (λ (r : Result (List ℕ) StoreError). r ∷ rs) first ∙ ap (λ (ts : List (Result (List ℕ) StoreError)). b ∷ ts) (same_items xs rs ss p.1 q.1 come.1 come'.1)
same_items [] (a ∷ rs) ss p q come come' = absurd p
same_items [] [] (b ∷ ss) p q come come' = absurd q
same_items (x ∷ xs) [] ss p q come come' = absurd p
same_items (x ∷ xs) (a ∷ rs) [] p q come come' = absurd q

same_answer : (all : List Slot) (call : ReadCall) (a b : Answer) → IsAnswer all call a → IsAnswer all call b → AllCame a → AllCame b → IsSameAnswer a b
same_answer all (Bytes id) (Got a) (Got b) p q come come' = same_result id (slice_get all id) a b p q come come'
same_answer all (Iter alive take) (Listed v) (Listed w) p q come come' = same_items (first_alive take all (flags_of alive)) v.items w.items p q come come'
same_answer all (Bytes id) (Listed v) b p q come come' = absurd p
same_answer all (Bytes id) (Got a) (Listed w) p q come come' = absurd q
same_answer all (Iter alive take) (Got a) b p q come come' = absurd p
same_answer all (Iter alive take) (Listed v) (Got b) p q come come' = absurd q

pub slots_decide_answers : SlotsDecideAnswers
slots_decide_answers all [] [] [] p q come come' = tt
slots_decide_answers all (call ∷ calls) (a ∷ rs) (b ∷ ss) p q come come' = (same_answer all call a b p.0 q.0 come.0 come'.0, slots_decide_answers all calls rs ss p.1 q.1 come.1 come'.1)
slots_decide_answers all [] (a ∷ rs) ss p q come come' = absurd p
slots_decide_answers all [] [] (b ∷ ss) p q come come' = absurd q
slots_decide_answers all (call ∷ calls) [] ss p q come come' = absurd p
slots_decide_answers all (call ∷ calls) (a ∷ rs) [] p q come come' = absurd q
