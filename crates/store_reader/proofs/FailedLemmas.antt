-- Where an answer is a failed read, the file's count of failures has risen.
use Rattle.std.proofs.Common.{◌≡◌, ◌⊎◌, inl, inr, ℕ, ◌+◌, ◌-◌, ◌<◌, Bool, List, [], ◌∷◌, ◌++◌, length, take, get_or, Option, Some, None, sym, ap, ◌∙◌, subst}
use Rattle.std.proofs.lemmas.List.Elements.{Contains-append_cases, Contains-append_left, Contains-append_right, Contains-push_cases}
use Rattle.std.proofs.lemmas.Grind.{flat_map-append}
use Rattle.std.proofs.lemmas.List.{append-nil, take_more}
use Rattle.std.specs.List.{AllByRecursion, Contains, flat_map}
use Rattle.std.specs.Prelude.{IsSomeAnd, Result, Ok, Err}
use Rattle.store_base.proofs.ListLemmas.{risen_later, risen_on}
use Rattle.store_base.specs.Counts.{HasRisen}
use Rattle.store_base.specs.declared.error.StoreError.{StoreError}
use Rattle.store_base.specs.declared.error.StoreError.TheVariants.{Read}
use Rattle.layered_index.specs.declared.checkpoint.Checkpoint.{Checkpoint}
use Rattle.store_reader.specs.declared.call_list.Answer.{Answer}
use Rattle.store_reader.specs.declared.call_list.ReadCall.{ReadCall}
use Rattle.store_reader.specs.declared.walk.Walk.{Walk}
use Rattle.store_reader.specs.GetAnswer.{IsLookedUp, AnswersFrom}
use Rattle.store_reader.specs.CallAnswers.{ShowsEachBlock, HasRefusal, results_of}
use Rattle.store_reader.specs.LookingUp.{IsShared}
use Rattle.store_reader.specs.Reading.{Reading, IsSameStore}
use Rattle.store_reader.specs.Walking.{taken_last, IsBlockTaken, LooksAlong, GivesNext}
use Rattle.store_reader.proofs.GetAnswerLemmas.{has_failed}
use Rattle.store_reader.proofs.IterationLookUpLemmas.{IsListedTo}
use Rattle.store_reader.proofs.RecentLemmas.{same_store, same_along}

failed_once : (r : Reading) (id : ℕ) (c : Checkpoint) (block : Result (List ℕ) StoreError) (mid : Reading) → IsBlockTaken r id c block mid → block ≡ Err Read
    → HasRisen r.file.failures mid.file.failures
failed_once r id c block mid t is = by t.came t.looked (subst (λ (b : Result (List ℕ) StoreError). IsShared t.came b) is t.taken)
  where
    by : (came : Result (List ℕ) StoreError) → IsLookedUp r id c came mid → IsShared came (Err Read) → HasRisen r.file.failures mid.file.failures
    by (Ok bytes) looked taken = absurd cc
    by (Err e) looked taken = has_failed r mid id c (subst (λ (x : Result (List ℕ) StoreError). IsLookedUp r id c x mid) (sym taken) looked)

-- look-ups one after the other: a failed read that is taken at the end was taken at the beginning, or the count has risen
failed_along : (cs : List Checkpoint) (r : Reading) (b : Option (Result (List ℕ) StoreError)) (r' : Reading) (b' : Option (Result (List ℕ) StoreError)) → LooksAlong cs r b r' b'
    → b' ≡ Some (Err Read) → (b ≡ Some (Err Read)) ⊎ HasRisen r.file.failures r'.file.failures
failed_along [] r b r' b' l is = inl (sym l.1 ∙ is)
failed_along (c ∷ cs) r b r' b' l is = inr (elim (failed_along cs l.0 (Some l.1) r' b' l.3 is) [
  | inl here ↦ risen_on r.file.failures l.0.file.failures r'.file.failures (failed_once r c.doc_range.start c l.1 l.0 l.2 (cc)) (same_along cs l.0 (Some l.1) r' b' l.3).failures
  | inr later ↦ risen_later r.file.failures l.0.file.failures r'.file.failures (same_store r c.doc_range.start c l.2.came l.0 l.2.looked).failures later
])

-- a document is answered by a failed read only where its block is
block_failed : (id place : ℕ) (block item : Result (List ℕ) StoreError) → AnswersFrom id place block item → item ≡ Err Read → block ≡ Err Read
block_failed id place (Ok b) (Ok bytes) answer is = absurd cc
block_failed id place (Ok b) (Err e) answer is = absurd (elim answer [ inl bad ↦ let why = bad.0 in cc | inr memory ↦ cc ])
block_failed id place (Err e) item answer is = sym answer ∙ is

-- so is one of a walk only where the block is that was taken last
taken_failed : (id place : ℕ) (block : Option (Result (List ℕ) StoreError)) (item : Result (List ℕ) StoreError) → IsSomeAnd block (λ b. AnswersFrom id place b item) → item ≡ Err Read
    → block ≡ Some (Err Read)
taken_failed id place None item answer is = absurd answer
taken_failed id place (Some b) item answer is = ap Some (block_failed id place b item answer is)

-- one more item
pub item_failed : (first old new : Reading) (set : Option (ℕ → Bool)) (count : ℕ) (from to : Walk) (item : Result (List ℕ) StoreError) (items : List (Result (List ℕ) StoreError))
    → IsListedTo first set count new to → GivesNext set old from (Some item) new to
    → (Contains items (Err Read) → HasRisen first.file.failures old.file.failures) → Contains (items ++ item ∷ []) (Err Read) → HasRisen first.file.failures new.file.failures
item_failed first old new set count from to item items listed gives before some = elim (Contains-push_cases items item (Err Read) some) [
  | inl earlier ↦ risen_on first.file.failures old.file.failures new.file.failures (before earlier) gives.same.failures
  | inr here ↦
      let block = taken_failed gives.last (gives.last - to.first) (taken_last to) item gives.gives.answers here in
      elim (failed_along (take to.place first.checkpoints) first None new (taken_last to) listed.looks block) [ inl none ↦ absurd cc | inr risen ↦ risen ]
]

-- one more answer
pub answer_failed : (first old new : Reading) (answers : List Answer) (answer : Answer) → IsSameStore first old → IsSameStore old new
    → (HasRefusal answers Read → HasRisen first.file.failures old.file.failures)
    → (Contains (results_of answer) (Err Read) → HasRisen old.file.failures new.file.failures) → HasRefusal (answers ++ answer ∷ []) Read → HasRisen first.file.failures new.file.failures
answer_failed first old new answers answer before after so_far here some =
    let joined : flat_map results_of (answers ++ answer ∷ []) ≡ flat_map results_of answers ++ results_of answer =
    flat_map-append results_of answers (answer ∷ []) ∙ ap (λ (xs : List (Result (List ℕ) StoreError)). flat_map results_of answers ++ xs) (append-nil (results_of answer)) in
    elim (Contains-append_cases (flat_map results_of answers) (results_of answer) (Err Read) (subst (λ (xs : List (Result (List ℕ) StoreError)). Contains xs (Err Read)) joined some)) [
      | inl earlier ↦ risen_on first.file.failures old.file.failures new.file.failures (so_far earlier) after.failures
      | inr now ↦ risen_later first.file.failures old.file.failures new.file.failures before.failures (here now)
    ]

-- ---- where it stays

all_but_last : {A : Type 0} (P : A → Type 0) (xs : List A) (x : A) → AllByRecursion P (xs ++ x ∷ []) → AllByRecursion P xs × P x
all_but_last P [] x all = (tt, all.0)
all_but_last P (y ∷ xs) x all = let on = all_but_last P xs x all.1 in ((all.0, on.0), on.1)

-- one more call that is answered by no failed read
pub answers_steady : (first old new : Reading) (calls : List ReadCall) (i : ℕ) (call : ReadCall) (answers : List Answer) (answer : Answer) → i < length calls → call ≡ get_or calls i call
    → old.checkpoints ≡ first.checkpoints
    → (AllByRecursion (ShowsEachBlock first.checkpoints) (take i calls) → (HasRefusal answers Read → ⊥) → old.file.failures ≡ first.file.failures)
    → (ShowsEachBlock old.checkpoints call → (Contains (results_of answer) (Err Read) → ⊥) → new.file.failures ≡ old.file.failures)
    → AllByRecursion (ShowsEachBlock first.checkpoints) (take (i + 1) calls) → (HasRefusal (answers ++ answer ∷ []) Read → ⊥) → new.file.failures ≡ first.file.failures
answers_steady first old new calls i call answers answer lt at same so_far here shown none =
    let shows : ReadCall → Type 0 = ShowsEachBlock first.checkpoints in
    let next : take (i + 1) calls ≡ take i calls ++ call ∷ [] = take_more calls i call lt ∙ ap (λ (c : ReadCall). take i calls ++ c ∷ []) (sym at) in
    let each = all_but_last shows (take i calls) call (subst (λ (cs : List ReadCall). AllByRecursion shows cs) next shown) in
    let joined : flat_map results_of (answers ++ answer ∷ []) ≡ flat_map results_of answers ++ results_of answer =
    flat_map-append results_of answers (answer ∷ []) ∙ ap (λ (xs : List (Result (List ℕ) StoreError)). flat_map results_of answers ++ xs) (append-nil (results_of answer)) in
    let told : Contains (flat_map results_of answers ++ results_of answer) (Err Read) → ⊥ =
    λ some. none (subst (λ (xs : List (Result (List ℕ) StoreError)). Contains xs (Err Read)) (sym joined) some) in
    here (subst (λ (cs : List Checkpoint). ShowsEachBlock cs call) (sym same) each.1) (λ some. told (Contains-append_right (flat_map results_of answers) (results_of answer) (Err Read) some))
    ∙ so_far each.0 (λ some. told (Contains-append_left (flat_map results_of answers) (results_of answer) (Err Read) some))
