-- The items of an iteration, as far as it has come.
use Rattle.std.proofs.Common.{◌≡◌, ℕ, zero, suc, ◌+◌, ◌-◌, ◌<◌, ◌≤◌, ◌⊎◌, inl, inr, min, Bool, true, false, cond, List, [], ◌∷◌, ◌++◌, length, take, drop, get_or, Option, Some, None, Result, refl}
use Rattle.std.proofs.Common.{sym, ◌∙◌, ap, subst, arith, length-append, map}
use Rattle.std.proofs.lemmas.List.{append-nil, map-append, take_more, take_all, take-append-le, take-append-drop}
use Rattle.std.proofs.lemmas.List.Elements.{filter-append}
use Rattle.std.proofs.lemmas.List.FromFn.{get_or-enumerate_from, length-enumerate_from}
use Rattle.std.proofs.lemmas.List.Sums.{length-filter, count_by-le-length}
use Rattle.std.proofs.lemmas.Option.{slice_get-get_or}
use Rattle.std.proofs.lemmas.Bool.{cases_lt}
use Rattle.std.specs.Prelude.{slice_get, IsTrue}
use Rattle.std.specs.List.{filter, enumerate_from}
use Rattle.store_base.proofs.ListLemmas.{enumerate_append}
use Rattle.store_base.specs.declared.error.StoreError.{StoreError}
use Rattle.store_reader.specs.GetAnswer.{AnswersTruly}
use Rattle.store_format.specs.StoreFile.{blocks_at}
use Rattle.store_format.specs.Block.{Slot, damaged}
use Rattle.store_reader.specs.Iteration.{is_in, alive_from}
use Rattle.layered_index.specs.declared.checkpoint.Checkpoint.{Checkpoint}
use Rattle.layered_index.specs.Checkpoint.{Covers, docs_end}
use Rattle.store_reader.specs.declared.walk.Walk.{Walk}
use Rattle.store_reader.specs.Reading.{Reading, IsSameStore, num_docs, store_of}
use Rattle.store_format.specs.Slots.{slots}
use Rattle.store_reader.specs.Walking.{GivesNext}
use Rattle.store_reader.specs.CallList.{first_alive, AreItems}

-- the slots of the set, of a list and of one after it
pub alive_joined : (n : ℕ) (xs ys : List Slot) (set : Option (ℕ → Bool)) → alive_from n (xs ++ ys) set ≡ alive_from n xs set ++ alive_from (n + length xs) ys set
alive_joined n xs ys set =
    let p : ℕ × Slot → Bool = λ x. is_in set x.0 in
    let second : ℕ × Slot → Slot = λ x. x.1 in
    ap (λ (zs : List (ℕ × Slot)). map second (filter p zs)) (enumerate_append n xs ys)
    ∙ ap (map second) (filter-append p (enumerate_from n xs) (enumerate_from (n + length xs) ys))
    ∙ map-append second (filter p (enumerate_from n xs)) (filter p (enumerate_from (n + length xs) ys))

-- the slots of the set below this id, each with its id
abbrev pub alive_so_far : Option (ℕ → Bool) → List Slot → ℕ → List (ℕ × Slot)
alive_so_far set all n = filter (λ x. is_in set x.0) (take n (enumerate_from 0 all))

-- one more id, if it is in the set or not
abbrev one : Option (ℕ → Bool) → ℕ → Slot → List (ℕ × Slot)
one set id s = cond (is_in set id) ((id, s) ∷ []) []

one_more : (set : Option (ℕ → Bool)) (all : List Slot) (id : ℕ) → id < length all → alive_so_far set all (id + 1) ≡ alive_so_far set all id ++ one set id (get_or all id damaged)
one_more set all id lt =
    let xs : List (ℕ × Slot) = enumerate_from 0 all in
    let p : ℕ × Slot → Bool = λ x. is_in set x.0 in
    let d : ℕ × Slot = (0, damaged) in
    let place : 0 + id ≡ id = omega arith in
    ap (filter p) (take_more xs id d (omega (arith, lt, length-enumerate_from 0 all)))
    ∙ filter-append p (take id xs) (get_or xs id d ∷ [])
    ∙ ap (λ (x : ℕ × Slot). filter p (take id xs) ++ filter p (x ∷ [])) (get_or-enumerate_from 0 all id d lt ∙ ap (λ (n : ℕ). (n, get_or all id damaged)) place)

-- ids that are not in the set
dead_more : (set : Option (ℕ → Bool)) (all : List Slot) (from j : ℕ) → from + j ≤ length all → ((k : ℕ) → from ≤ k → k < from + j → is_in set k ≡ false)
    → alive_so_far set all (from + j) ≡ alive_so_far set all from
dead_more set all from zero le dead = let none : from + 0 ≡ from = omega arith in ap (alive_so_far set all) none
dead_more set all from (suc j) le dead =
    let next : from + suc j ≡ (from + j) + 1 = omega arith in
    ap (alive_so_far set all) next
    ∙ one_more set all (from + j) (omega (arith, le))
    ∙ ap (λ (b : Bool). alive_so_far set all (from + j) ++ cond b ((from + j, get_or all (from + j) damaged) ∷ []) []) (dead (from + j) (omega arith) (omega arith))
    ∙ append-nil (alive_so_far set all (from + j))
    ∙ dead_more set all from j (omega (arith, le)) (λ k above below. dead k above (omega (arith, below)))

pub dead_to : (set : Option (ℕ → Bool)) (all : List Slot) (from last : ℕ) → from ≤ last → last ≤ length all → ((k : ℕ) → from ≤ k → k < last → is_in set k ≡ false)
    → alive_so_far set all last ≡ alive_so_far set all from
dead_to set all from last on le dead =
    let j = last - from in
    let is : from + j ≡ last = omega (arith, on) in
    ap (alive_so_far set all) (sym is) ∙ dead_more set all from j (omega (arith, le, is)) (λ k above below. dead k above (omega (arith, below, is)))

items_more : (xs : List (ℕ × Slot)) (items : List (Result (List ℕ) StoreError)) (x : ℕ × Slot) (item : Result (List ℕ) StoreError) → AreItems xs items → AnswersTruly x.0 (Some x.1) item
    → AreItems (xs ++ x ∷ []) (items ++ item ∷ [])
items_more [] [] x item h is = (is, tt)
items_more (y ∷ xs) (r ∷ items) x item h is = (h.0, items_more xs items x item h.1 is)
items_more [] (r ∷ items) x item h is = absurd h
items_more (y ∷ xs) [] x item h is = absurd h

pub items_length : (xs : List (ℕ × Slot)) (items : List (Result (List ℕ) StoreError)) → AreItems xs items → length xs ≡ length items
items_length [] [] h = refl
items_length (x ∷ xs) (r ∷ items) h = ap suc (items_length xs items h.1)
items_length [] (r ∷ items) h = absurd h
items_length (x ∷ xs) [] h = absurd h

-- the next item
pub next_item : (set : Option (ℕ → Bool)) (all : List Slot) (from last : ℕ) (items : List (Result (List ℕ) StoreError)) (item : Result (List ℕ) StoreError) → from ≤ last → last < length all
    → ((k : ℕ) → from ≤ k → k < last → is_in set k ≡ false)
    → is_in set last ≡ true → AnswersTruly last (slice_get all last) item → AreItems (alive_so_far set all from) items → AreItems (alive_so_far set all (last + 1)) (items ++ item ∷ [])
next_item set all from last items item on lt dead alive truly listed =
    let x : ℕ × Slot = (last, get_or all last damaged) in
    let is : alive_so_far set all (last + 1) ≡ alive_so_far set all from ++ x ∷ [] =
    one_more set all last lt ∙ ap (λ (b : Bool). alive_so_far set all last ++ cond b (x ∷ []) []) alive
    ∙ ap (λ (xs : List (ℕ × Slot)). xs ++ x ∷ []) (dead_to set all from last on (omega (arith, lt)) dead) in
    subst (λ (xs : List (ℕ × Slot)). AreItems xs (items ++ item ∷ [])) (sym is)
    (items_more (alive_so_far set all from) items x item listed (subst (λ (s : Option Slot). AnswersTruly last s item) (slice_get-get_or all last damaged lt) truly))

-- ---- the end

abbrev rest_of : Option (ℕ → Bool) → List Slot → ℕ → List (ℕ × Slot)
rest_of set all n = filter (λ x. is_in set x.0) (drop n (enumerate_from 0 all))

parts : (set : Option (ℕ → Bool)) (all : List Slot) (n : ℕ) → filter (λ x. is_in set x.0) (enumerate_from 0 all) ≡ alive_so_far set all n ++ rest_of set all n
parts set all n =
    let p : ℕ × Slot → Bool = λ x. is_in set x.0 in
    ap (filter p) (sym (take-append-drop n (enumerate_from 0 all))) ∙ filter-append p (take n (enumerate_from 0 all)) (drop n (enumerate_from 0 all))

none_left : (xs : List (ℕ × Slot)) → length xs ≤ 0 → xs ≡ []
none_left [] le = refl
none_left (x ∷ xs) le = absurd (omega (arith, le))

filter_few : {X : Type 0} (p : X → Bool) (xs : List X) → length (filter p xs) ≤ length xs
filter_few p xs = omega (arith, length-filter p xs, count_by-le-length p xs)

-- so many items, or all
listed_by : (set : Option (ℕ → Bool)) (all : List Slot) (n count : ℕ) (items : List (Result (List ℕ) StoreError)) → AreItems (alive_so_far set all n) items → length items ≤ count
    → (length items ≡ count) ⊎ (rest_of set all n ≡ []) → AreItems (first_alive count all set) items
listed_by set all n count items listed few (inl is) =
    let len = items_length (alive_so_far set all n) items listed in
    subst (λ (xs : List (ℕ × Slot)). AreItems xs items)
    (sym (ap (take count) (parts set all n) ∙ take-append-le count (alive_so_far set all n) (rest_of set all n) (omega (arith, len, is))
    ∙ take_all count (alive_so_far set all n) (omega (arith, len, few)))) listed
listed_by set all n count items listed few (inr none) =
    let len = items_length (alive_so_far set all n) items listed in
    subst (λ (xs : List (ℕ × Slot)). AreItems xs items)
    (sym (ap (take count) (parts set all n ∙ ap (λ (xs : List (ℕ × Slot)). alive_so_far set all n ++ xs) none ∙ append-nil (alive_so_far set all n))
    ∙ take_all count (alive_so_far set all n) (omega (arith, len, few)))) listed

-- as many as were asked for, or as there are documents
pub listed_enough : (set : Option (ℕ → Bool)) (all : List Slot) (n count : ℕ) (items : List (Result (List ℕ) StoreError)) → AreItems (alive_so_far set all n) items
    → length items ≤ min count (length all) → min count (length all) ≤ length items → AreItems (first_alive count all set) items
listed_enough set all n count items listed few enough = elim (cases_lt (length items) count) [
  | inl lt ↦
      let len = items_length (alive_so_far set all n) items listed in
      let p : ℕ × Slot → Bool = λ x. is_in set x.0 in
      let whole : length (alive_so_far set all n ++ rest_of set all n) ≤ length (enumerate_from 0 all) =
      subst (λ (xs : List (ℕ × Slot)). length xs ≤ length (enumerate_from 0 all)) (parts set all n) (filter_few p (enumerate_from 0 all)) in
      listed_by set all n count items listed (omega (arith, few)) (inr (none_left (rest_of set all n)
      (omega (arith, lt, len, enough, whole, length-append (alive_so_far set all n) (rest_of set all n), length-enumerate_from 0 all))))
  | inr le ↦ listed_by set all n count items listed (omega (arith, few)) (inl (omega (arith, le, few)))
]

-- no further one
pub listed_all : (set : Option (ℕ → Bool)) (all : List Slot) (n count : ℕ) (items : List (Result (List ℕ) StoreError)) → AreItems (alive_so_far set all n) items → length items ≤ count → n ≤ length all
    → ((k : ℕ) → n ≤ k → k < length all → is_in set k ≡ false) → AreItems (first_alive count all set) items
listed_all set all n count items listed few below dead =
    let len = items_length (alive_so_far set all n) items listed in
    let p : ℕ × Slot → Bool = λ x. is_in set x.0 in
    let xs : List (ℕ × Slot) = enumerate_from 0 all in
    let is : filter p xs ≡ alive_so_far set all n = ap (filter p) (sym (take_all (length all) xs (omega (arith, length-enumerate_from 0 all))))
    ∙ dead_to set all n (length all) below (omega arith) dead in
    subst (λ (ys : List (ℕ × Slot)). AreItems ys items) (sym (ap (take count) is ∙ take_all count (alive_so_far set all n) (omega (arith, len, few)))) listed

-- ---- by what an iterator gives

pub same_slots : (first old : Reading) → IsSameStore first old → slots (store_of old) ≡ slots (store_of first)
same_slots first old same = λ i. slots (blocks_at (same.checkpoints i) (same.content i))

pub covered : (first now : Reading) → IsSameStore first now → Covers first.checkpoints (length first.file.content) → Covers now.checkpoints (length now.file.content)
covered first now same covers = subst (λ (n : ℕ). Covers now.checkpoints n) (sym (ap length same.content))
    (subst (λ (cs : List Checkpoint). Covers cs (length first.file.content)) (sym same.checkpoints) covers)

pub same_count : (first old : Reading) → IsSameStore first old → num_docs old ≡ num_docs first
same_count first old same = ap (docs_end 0) same.checkpoints

-- one more item
pub listed_more : (first old new : Reading) (set : Option (ℕ → Bool)) (from to : Walk) (item : Result (List ℕ) StoreError) (items : List (Result (List ℕ) StoreError))
    → num_docs first ≡ length (slots (store_of first)) → IsSameStore first old
    → GivesNext set old from (Some item) new to → (IsTrue first.file.honest → AreItems (alive_so_far set (slots (store_of first)) from.next) items) → IsTrue first.file.honest
    → AreItems (alive_so_far set (slots (store_of first)) to.next) (items ++ item ∷ [])
listed_more first old new set from to item items count same gives listed honest =
    let all = slots (store_of first) in
    let last = gives.last in
    let truly : AnswersTruly last (slice_get all last) item =
    subst (λ (xs : List Slot). AnswersTruly last (slice_get xs last) item) (same_slots first old same) (gives.gives.honest (subst IsTrue (sym same.honest) honest)) in
    subst (λ (n : ℕ). AreItems (alive_so_far set all n) (items ++ item ∷ [])) (sym gives.gives.next)
    (next_item set all from.next last items item gives.walks.on (omega (arith, gives.gives.below, same_count first old same, count)) gives.walks.dead gives.gives.is_alive truly (listed honest))

pub below_more : (first old new : Reading) (set : Option (ℕ → Bool)) (from to : Walk) (item : Result (List ℕ) StoreError) → num_docs first ≡ length (slots (store_of first)) → IsSameStore first old
    → GivesNext set old from (Some item) new to → to.next ≤ length (slots (store_of first))
below_more first old new set from to item count same gives = omega (arith, gives.gives.next, gives.gives.below, same_count first old same, count)

-- no further one
pub listed_end : (first old new : Reading) (set : Option (ℕ → Bool)) (from to : Walk) (count : ℕ) (items : List (Result (List ℕ) StoreError)) → num_docs first ≡ length (slots (store_of first))
    → IsSameStore first old → GivesNext set old from None new to
    → from.next ≤ length (slots (store_of first)) → length items ≤ count → AreItems (alive_so_far set (slots (store_of first)) from.next) items
    → AreItems (first_alive count (slots (store_of first)) set) items
listed_end first old new set from to count items docs same gives below few listed =
    listed_all set (slots (store_of first)) from.next count items listed few below
    (λ k above lt. gives.walks.dead k above (omega (arith, lt, gives.gives.0, same_count first old same, docs)))
