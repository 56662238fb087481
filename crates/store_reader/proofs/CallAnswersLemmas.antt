-- What calls of a reader answer, as far as they were made.
use Rattle.std.proofs.Common.{◌≡◌, ◌⊎◌, inl, inr, ℕ, ◌+◌, ◌<◌, ◌≤◌, true, false, List, [], ◌∷◌, ◌++◌, length, take, get_or, Option, Some, None, refl, sym, ◌∙◌, ap, subst}
use Rattle.std.proofs.lemmas.Bool.{ltb-true, ltb-false}
use Rattle.std.proofs.lemmas.Grind.{flat_map-append}
use Rattle.std.proofs.lemmas.List.{append-nil, take_more}
use Rattle.std.specs.Prelude.{nat_lt, IsTrue, IfErr, IfSome, IsSomeAnd, Result, Ok, Err}
use Rattle.std.specs.List.{AllByRecursion, AllZip, flat_map}
use Rattle.store_base.specs.declared.error.StoreError.{StoreError}
use Rattle.store_base.specs.declared.error.StoreError.TheVariants.{Read, Memory}
use Rattle.layered_index.specs.declared.checkpoint.Checkpoint.{Checkpoint}
use Rattle.store_reader.specs.declared.call_list.Answer.{Answer}
use Rattle.store_reader.specs.declared.call_list.ReadCall.{ReadCall}
use Rattle.store_reader.specs.declared.call_list.ReadCall.TheVariants.{Bytes}
use Rattle.store_reader.specs.GetAnswer.{IsAnswered, AnswersFrom}
use Rattle.store_format.specs.Block.{Slot}
use Rattle.store_reader.specs.LookLaws.{AreLookUps}
use Rattle.store_reader.specs.Reading.{Reading, IsSameStore, num_docs, store_of}
use Rattle.store_format.specs.Slots.{slots}
use Rattle.store_reader.specs.CallAnswers.{IsAnswer, AreAnswers, IsNotPast, RefusesPast, keys_of_call, keys_of_calls}
use Rattle.store_reader.proofs.ItemsSoFarLemmas.{same_slots, same_count}
use Rattle.store_reader.proofs.RecentLemmas.{no_looks, look_once, looks_then}

answers_push : (all : List Slot) (calls : List ReadCall) (answers : List Answer) (call : ReadCall) (answer : Answer) → AreAnswers all calls answers → IsAnswer all call answer
    → AreAnswers all (calls ++ call ∷ []) (answers ++ answer ∷ [])
answers_push all [] [] call answer h is = (is, tt)
answers_push all (c ∷ calls) (a ∷ answers) call answer h is = (h.0, answers_push all calls answers call answer h.1 is)
answers_push all [] (a ∷ answers) call answer h is = absurd h
answers_push all (c ∷ calls) [] call answer h is = absurd h

-- one more call
pub answers_more : (first old : Reading) (calls : List ReadCall) (i : ℕ) (call : ReadCall) (answers : List Answer) (answer : Answer) → i < length calls → call ≡ get_or calls i call
    → IsSameStore first old
    → (IsTrue first.file.honest → AreAnswers (slots (store_of first)) (take i calls) answers) → (IsTrue old.file.honest → IsAnswer (slots (store_of old)) call answer)
    → IsTrue first.file.honest → AreAnswers (slots (store_of first)) (take (i + 1) calls) (answers ++ answer ∷ [])
answers_more first old calls i call answers answer lt at same so_far is honest =
    let all = slots (store_of first) in
    let here : IsAnswer all call answer = subst (λ (xs : List Slot). IsAnswer xs call answer) (same_slots first old same) (is (subst IsTrue (sym same.honest) honest)) in
    let next : take (i + 1) calls ≡ take i calls ++ call ∷ [] = take_more calls i call lt ∙ ap (λ (c : ReadCall). take i calls ++ c ∷ []) (sym at) in
    subst (λ (cs : List ReadCall). AreAnswers all cs (answers ++ answer ∷ [])) (sym next)
    (answers_push all (take i calls) answers call answer (so_far honest) here)

-- a get looks one block up, or none
pub looks_of_get : (id : ℕ) (call : ReadCall) (result : Result (List ℕ) StoreError) (old new : Reading) → call ≡ Bytes id → (num_docs old ≤ id → new ≡ old)
    → (id < num_docs old → IsAnswered old id result new)
    → AreLookUps (keys_of_call old.checkpoints call) old new
looks_of_get id call result old new is none some =
    subst (λ (c : ReadCall). AreLookUps (keys_of_call old.checkpoints c) old new) (sym is)
    ((elim (nat_lt id (num_docs old)) as (λ y. nat_lt id (num_docs old) ≡ y → AreLookUps (keys_of_call old.checkpoints (Bytes id)) old new) [
      | true ↦ λ t. let a = some (ltb-true _ _ t) in rw t (rw a.looked.seeks (look_once id a.checkpoint old a.came new a.looked))
      | false ↦ λ t. rw t (subst (λ (r : Reading). AreLookUps [] old r) (sym (none (ltb-false _ _ t))) (no_looks old))
    ]) refl)

-- one more call's look-ups
pub looks_more : (first old new : Reading) (calls : List ReadCall) (i : ℕ) (call : ReadCall) → i < length calls → call ≡ get_or calls i call → IsSameStore first old
    → AreLookUps (keys_of_calls first.checkpoints (take i calls)) first old → AreLookUps (keys_of_call old.checkpoints call) old new
    → AreLookUps (keys_of_calls first.checkpoints (take (i + 1) calls)) first new
looks_more first old new calls i call lt at same so_far is =
    let keys = keys_of_call first.checkpoints in
    let next : take (i + 1) calls ≡ take i calls ++ call ∷ [] = take_more calls i call lt ∙ ap (λ (c : ReadCall). take i calls ++ c ∷ []) (sym at) in
    let joined : keys_of_calls first.checkpoints (take (i + 1) calls) ≡ keys_of_calls first.checkpoints (take i calls) ++ keys call =
    ap (flat_map keys) next ∙ flat_map-append keys (take i calls) (call ∷ []) ∙ ap (λ (ks : List ℕ). flat_map keys (take i calls) ++ ks) (append-nil (keys call)) in
    subst (λ (ks : List ℕ). AreLookUps ks first new) (sym joined)
    (looks_then (keys_of_calls first.checkpoints (take i calls)) (keys call) first old new so_far (subst (λ (cs : List Checkpoint). AreLookUps (keys_of_call cs call) old new) same.checkpoints is))

-- ---- ids at or past the count

-- an item is none of these, since its id is below the count
item_not_past : (id place : ℕ) (block item : Result (List ℕ) StoreError) → IfErr block (λ e. (e ≡ Read) ⊎ (e ≡ Memory)) → AnswersFrom id place block item → IsNotPast item
item_not_past id place (Ok b) (Ok bytes) only answer other is = cc
item_not_past id place (Ok b) (Err e) only answer other is = elim answer [ inl bad ↦ let why = bad.0 in cc | inr memory ↦ cc ]
item_not_past id place (Err e) item only answer other is = elim only [ inl read ↦ cc | inr memory ↦ cc ]

-- nor is an item of a walk
pub walked_not_past : (id place : ℕ) (block : Option (Result (List ℕ) StoreError)) (item : Result (List ℕ) StoreError) → IfSome block (λ b. IfErr b (λ e. (e ≡ Read) ⊎ (e ≡ Memory)))
    → IsSomeAnd block (λ b. AnswersFrom id place b item) → IsNotPast item
walked_not_past id place None item only answer = absurd answer
walked_not_past id place (Some b) item only answer = item_not_past id place b item only answer

pub items_not_past : (items : List (Result (List ℕ) StoreError)) (item : Result (List ℕ) StoreError) → AllByRecursion IsNotPast items → IsNotPast item → AllByRecursion IsNotPast (items ++ item ∷ [])
items_not_past [] item h is = (is, tt)
items_not_past (x ∷ items) item h is = (h.0, items_not_past items item h.1 is)

zip_push : {A B : Type 0} (R : A → B → Type 0) (xs : List A) (ys : List B) (x : A) (y : B) → AllZip R xs ys → R x y → AllZip R (xs ++ x ∷ []) (ys ++ y ∷ [])
zip_push R [] [] x y h is = (is, tt)
zip_push R (a ∷ xs) (b ∷ ys) x y h is = (h.0, zip_push R xs ys x y h.1 is)
zip_push R [] (b ∷ ys) x y h is = absurd h
zip_push R (a ∷ xs) [] x y h is = absurd h

-- one more call
pub past_more : (first old : Reading) (calls : List ReadCall) (i : ℕ) (call : ReadCall) (answers : List Answer) (answer : Answer)
    → i < length calls → call ≡ get_or calls i call → IsSameStore first old
    → AllZip (RefusesPast (num_docs first)) (take i calls) answers → RefusesPast (num_docs old) call answer → AllZip (RefusesPast (num_docs first)) (take (i + 1) calls) (answers ++ answer ∷ [])
past_more first old calls i call answers answer lt at same so_far is =
    let next : take (i + 1) calls ≡ take i calls ++ call ∷ [] = take_more calls i call lt ∙ ap (λ (c : ReadCall). take i calls ++ c ∷ []) (sym at) in
    subst (λ (cs : List ReadCall). AllZip (RefusesPast (num_docs first)) cs (answers ++ answer ∷ [])) (sym next)
    (zip_push (RefusesPast (num_docs first)) (take i calls) answers call answer so_far (subst (λ (n : ℕ). RefusesPast n call answer) (same_count first old same) is))
