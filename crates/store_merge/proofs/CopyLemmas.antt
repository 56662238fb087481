-- How far a copying has come, and why it stops.
use Rattle.std.proofs.Common.{◌≡◌, ℕ, zero, suc, ◌+◌, ◌-◌, ◌<◌, ◌≤◌, ◌⊎◌, inl, inr, Bool, true, false, cond, List, [], ◌∷◌, ◌++◌, length, take, get_or, map, Option, Some, None, Result, Ok, Err, refl}
use Rattle.std.proofs.Common.{sym, ◌∙◌, ap, subst, arith, append_assoc, length-append}
use Rattle.std.proofs.lemmas.List.{append-nil, take_more, take_all, map-append}
use Rattle.std.proofs.lemmas.List.Sums.{fold-append}
use Rattle.std.proofs.lemmas.Option.{get_or_from_slice_get}
use Rattle.std.specs.Prelude.{slice_get, IsTrue, IfErr, IfSome, IsSomeAnd, nat_lt}
use Rattle.std.specs.List.{filter}
use Rattle.store_reader.proofs.ItemsSoFarLemmas.{same_slots, same_count, alive_joined}
use Rattle.store_base.specs.Counts.{HasRisen}
use Rattle.store_base.specs.Files.{Part}
use Rattle.store_base.specs.declared.error.StoreError.{StoreError}
use Rattle.store_base.specs.declared.error.StoreError.TheVariants.{Read, Memory, DamagedDocument}
use Rattle.layered_index.specs.declared.checkpoint.Checkpoint.{Checkpoint}
use Rattle.store_reader.specs.GetAnswer.{AnswersFrom, AnswersTruly}
use Rattle.store_format.specs.Block.{Slot, doc, damaged}
use Rattle.store_reader.specs.declared.walk.Walk.{Walk}
use Rattle.store_reader.specs.Iteration.{is_in, alive, alive_from}
use Rattle.store_reader.specs.LookingUp.{LooksUp, IsShared}
use Rattle.store_reader.specs.Reading.{Reading, IsSameStore, num_docs, store_of}
use Rattle.store_format.specs.Slots.{slots}
use Rattle.docstore.specs.Trace.{weight}
use Rattle.store_reader.specs.Walking.{taken_last, GivesNext, IsBlockTaken, IsSteadyBetween, IsWalk, LooksAlong}
use Rattle.docstore.specs.Writer.{Writing, flushed, with_document, with_documents, with_failures}
use Rattle.docstore.specs.Laws.{taken}
use Rattle.store_reader.proofs.AskedLemmas.{asked_within}
use Rattle.store_reader.proofs.IterationLookUpLemmas.{looks_joined}
use Rattle.layered_index.specs.Checkpoint.{Covers}
use Rattle.store_merge.specs.Inputs.{IsAskedOnce}
use Rattle.docstore.proofs.FileLemmas.{counted_document}
use Rattle.store_merge.specs.Bringing.{IsCopied}
use Rattle.store_merge.specs.Copying.{IsItemStored, IsRefused}
use Rattle.store_merge.specs.Refusals.{RefusesItem, StopsAt}

-- ---- slots that are alive

pub alive_append : (set : Option (ℕ → Bool)) (xs ys : List Slot) → alive (xs ++ ys) set ≡ alive xs set ++ alive_from (length xs) ys set
alive_append set xs ys =
    let here : 0 + length xs ≡ length xs = omega arith in
    alive_joined 0 xs ys set ∙ ap (λ (k : ℕ). alive xs set ++ alive_from k ys set) here

-- the slot of an id, if it is alive
abbrev one : Bool → Slot → List Slot
one true s = s ∷ []
one false s = []

one_of : (set : Option (ℕ → Bool)) (id : ℕ) (s : Slot) → map (λ (x : ℕ × Slot). x.1) (filter (λ (x : ℕ × Slot). is_in set x.0) ((id, s) ∷ [])) ≡ one (is_in set id) s
one_of set id s = by (is_in set id)
  where
    by : (b : Bool) → map (λ (x : ℕ × Slot). x.1) (cond b ((id, s) ∷ []) []) ≡ one b s
    by true = refl
    by false = refl

alive_more : (set : Option (ℕ → Bool)) (xs : List Slot) (x : Slot) → alive (xs ++ x ∷ []) set ≡ alive xs set ++ one (is_in set (length xs)) x
alive_more set xs x = alive_append set xs (x ∷ []) ∙ ap (λ (ys : List Slot). alive xs set ++ ys) (one_of set (length xs) x)

length_taken : {A : Type 0} (n : ℕ) (xs : List A) → n ≤ length xs → length (take n xs) ≡ n
length_taken zero xs le = refl
length_taken (suc n) [] le = absurd (omega (arith, le))
length_taken (suc n) (x ∷ xs) le = ap suc (length_taken n xs (omega (arith, le)))

-- one more id
alive_next : (set : Option (ℕ → Bool)) (all : List Slot) (id : ℕ) → id < length all → alive (take (id + 1) all) set ≡ alive (take id all) set ++ one (is_in set id) (get_or all id damaged)
alive_next set all id lt =
    ap (λ (xs : List Slot). alive xs set) (take_more all id damaged lt)
    ∙ alive_more set (take id all) (get_or all id damaged)
    ∙ ap (λ (k : ℕ). alive (take id all) set ++ one (is_in set k) (get_or all id damaged)) (length_taken id all (omega (arith, lt)))

-- ids that are not in the set
alive_dead : (set : Option (ℕ → Bool)) (all : List Slot) (from j : ℕ) → from + j ≤ length all → ((k : ℕ) → from ≤ k → k < from + j → is_in set k ≡ false)
    → alive (take (from + j) all) set ≡ alive (take from all) set
alive_dead set all from zero le dead = let none : from + 0 ≡ from = omega arith in ap (λ (n : ℕ). alive (take n all) set) none
alive_dead set all from (suc j) le dead =
    let next : from + suc j ≡ (from + j) + 1 = omega arith in
    ap (λ (n : ℕ). alive (take n all) set) next
    ∙ alive_next set all (from + j) (omega (arith, le))
    ∙ ap (λ (b : Bool). alive (take (from + j) all) set ++ one b (get_or all (from + j) damaged)) (dead (from + j) (omega arith) (omega arith))
    ∙ append-nil (alive (take (from + j) all) set)
    ∙ alive_dead set all from j (omega (arith, le)) (λ k above below. dead k above (omega (arith, below)))

alive_to : (set : Option (ℕ → Bool)) (all : List Slot) (from last : ℕ) → from ≤ last → last ≤ length all → ((k : ℕ) → from ≤ k → k < last → is_in set k ≡ false)
    → alive (take last all) set ≡ alive (take from all) set
alive_to set all from last on le dead =
    let j = last - from in
    let is : from + j ≡ last = omega (arith, on) in
    ap (λ (n : ℕ). alive (take n all) set) (sym is) ∙ alive_dead set all from j (omega (arith, le, is)) (λ k above below. dead k above (omega (arith, below, is)))

-- ---- writers

-- documents leave a writer as failed as it was
pub same_failure : (w : Writing) (docs : List (List ℕ)) → (with_documents w docs).output.failure ≡ w.output.failure
same_failure w [] = refl
same_failure w (d ∷ docs) = same_failure (with_document w d) docs ∙ by (nat_lt w.block_size (weight (w.pending ++ d ∷ [])))
  where
    more : Writing
    more = record w { pending = w.pending ++ d ∷ [] }

    by : (full : Bool) → (cond full (flushed more) more).output.failure ≡ w.output.failure
    by true = refl
    by false = refl

-- ---- what was copied so far

module _ (honest : Bool) (old : Writing) where
  copied_none : IsCopied honest [] old old
  copied_none = record { docs = []; came = record { count = refl; truly = λ _. refl }; after = refl; works = inr refl; grown = sym (append-nil (taken old)) }

  copied_as : (xs ys : List Slot) (w : Writing) → xs ≡ ys → IsCopied honest xs old w → IsCopied honest ys old w
  copied_as xs ys w is h = subst (λ (zs : List Slot). IsCopied honest zs old w) is h

  -- one more document
  copied_more : (some : List Slot) (s : Slot) (w new : Writing) (item : Result (List ℕ) StoreError) (t : IsItemStored item w new) → (IsTrue honest → doc t.bytes ≡ s) → IsCopied honest some old w
      → IsCopied honest (some ++ s ∷ []) old new
  copied_more some s w new item t is h =
      let docs = h.docs ++ t.bytes ∷ [] in
      let all : with_documents old docs ≡ with_document (with_documents old h.docs) t.bytes = fold-append with_document old h.docs (t.bytes ∷ []) in
      record {
        docs = docs;
        came = record {
          count = length-append h.docs (t.bytes ∷ []) ∙ ap (λ (n : ℕ). n + 1) h.came.count ∙ sym (length-append some (s ∷ []));
          truly = λ yes. map-append doc h.docs (t.bytes ∷ []) ∙ (λ i. h.came.truly yes i ++ is yes i ∷ []);
        };
        after = t.after
            ∙ ap (λ (v : Writing). with_failures new.output.failures (with_document v t.bytes)) h.after
            ∙ ap (with_failures new.output.failures) (counted_document w.output.failures (with_documents old h.docs) t.bytes ∙ ap (with_failures w.output.failures) (sym all));
        works = inl (sym (ap (λ (v : Writing). v.output.failure) h.after ∙ same_failure old h.docs) ∙ t.works);
        grown = t.grown ∙ ap (λ (xs : List Slot). xs ++ doc t.bytes ∷ []) h.grown ∙ append_assoc (taken old) (map doc h.docs) (doc t.bytes ∷ [])
            ∙ ap (λ (xs : List Slot). taken old ++ xs) (sym (map-append doc h.docs (t.bytes ∷ [])));
      }

-- ---- reads that failed

-- Where a failed read was taken of the last block, the file's count of failures has risen.
abbrev pub HasFailedRead : Reading → Reading → Option (Result (List ℕ) StoreError) → Type 0
HasFailedRead first r block = block ≡ Some (Err Read) → HasRisen first.file.failures r.file.failures

none_failed : (first r : Reading) → HasFailedRead first r None
none_failed first r is = absurd cc

-- one look-up of a block
failed_once : (first r : Reading) (id : ℕ) (c : Checkpoint) (block : Result (List ℕ) StoreError) (mid : Reading) → first.file.failures ≤ r.file.failures → IsBlockTaken r id c block mid
    → HasFailedRead first mid (Some block)
failed_once first r id c block mid le t is = by t.came block refl t.taken (cc)
  where
    came_failed : t.came ≡ Err Read → HasRisen first.file.failures mid.file.failures
    came_failed is = elim t.looked.looks_up.cause [
      | inl hit ↦ absurd (let given = hit.given in let h : Ok hit.block ≡ Err Read = sym given ∙ is in cc)
      | inr miss ↦ let risen = miss.read.failed is in record { no_lower = omega (arith, risen.no_lower); risen = λ few. omega (arith, risen.risen few) }
    ]

    by : (came b : Result (List ℕ) StoreError) → t.came ≡ came → IsShared came b → b ≡ Err Read → HasRisen first.file.failures mid.file.failures
    by (Ok bytes) (Ok b) here took is = absurd cc
    by (Ok bytes) (Err e) here took is = absurd cc
    by (Err e) b here took is = came_failed (here ∙ sym took ∙ is)

-- the count of failures never falls
failures_once : (r : Reading) (c : Checkpoint) (came : Result (List ℕ) StoreError) (mid : Reading) → LooksUp c r.file r.cache came mid.file mid.cache → r.file.failures ≤ mid.file.failures
failures_once r c came mid l = elim l.cause [
  | inl hit ↦ omega (arith, ap (λ (f : Part). f.failures) hit.file_stays)
  | inr miss ↦ miss.read.once.failures
]

-- look-ups one after the other
failed_along : (cs : List Checkpoint) (first r : Reading) (b : Option (Result (List ℕ) StoreError)) (r' : Reading) (b' : Option (Result (List ℕ) StoreError)) → first.file.failures ≤ r.file.failures
    → HasFailedRead first r b → LooksAlong cs r b r' b' → HasFailedRead first r' b'
failed_along [] first r b r' b' le h l = λ is. subst (λ (x : Reading). HasRisen first.file.failures x.file.failures) (sym l.0) (h (sym l.1 ∙ is))
failed_along (c ∷ cs) first r b r' b' le h l =
    let mid = l.0 in
    let on = failures_once r c l.2.came mid l.2.looked.looks_up in
    failed_along cs first mid (Some l.1) r' b' (omega (arith, le, on)) (failed_once first r c.doc_range.start c l.1 mid le l.2) l.3

-- ---- by what an iterator gives

-- an item that is a failed read is refused as one
pub refused_read : (item : Result (List ℕ) StoreError) (old new : Writing) (e : StoreError) → IsRefused item old new e → item ≡ Err Read → e ≡ Read
refused_read item old new e refused is = elim refused [
  | inl x ↦ let same : ◌≡◌ {A = Result (List ℕ) StoreError} (Err e) (Err Read) = sym x.0 ∙ is in cc
  | inr x ↦ absurd (let same : ◌≡◌ {A = Result (List ℕ) StoreError} (Ok x.bytes) (Err Read) = sym x.is ∙ is in cc)
]

-- one that is stored is none
pub stored_no_failure : (item : Result (List ℕ) StoreError) (old new : Writing) → IsItemStored item old new → item ≡ Err Read → ⊥
stored_no_failure item old new t is = let same : ◌≡◌ {A = Result (List ℕ) StoreError} (Ok t.bytes) (Err Read) = sym t.is ∙ is in cc

-- a damaged document of an honest file
truly_damaged : (id : ℕ) (s : Option Slot) → AnswersTruly id s (Err (DamagedDocument id)) → s ≡ Some damaged
truly_damaged id s h = elim h [
  | inl x ↦ absurd (let p = x.0 in cc)
  | inr y ↦ elim y [
    | inl x ↦ x.1
    | inr z ↦ elim z [
      | inl p ↦ absurd cc
      | inr p ↦ absurd cc
    ]
  ]
]

module _ (first old new : Reading) (set : Option (ℕ → Bool)) (from to : Walk) (item : Result (List ℕ) StoreError) (docs : num_docs first ≡ length (slots (store_of first)))
    (same : IsSameStore first old) (gives : GivesNext set old from (Some item) new to) where
  truly : IsTrue first.file.honest → AnswersTruly gives.last (slice_get (slots (store_of first)) gives.last) item
  truly honest = subst (λ (xs : List Slot). AnswersTruly gives.last (slice_get xs gives.last) item) (same_slots first old same) (gives.gives.honest (subst IsTrue (sym same.honest) honest))

  truly_as : (r : Result (List ℕ) StoreError) → item ≡ r → IsTrue first.file.honest → AnswersTruly gives.last (slice_get (slots (store_of first)) gives.last) r
  truly_as r is honest = subst (λ (x : Result (List ℕ) StoreError). AnswersTruly gives.last (slice_get (slots (store_of first)) gives.last) x) is (truly honest)

  last_below : gives.last < length (slots (store_of first))
  last_below = omega (arith, gives.gives.below, same_count first old same, docs)

  -- why no document came
  refuses_item : (e : StoreError) → IsWalk new to → HasFailedRead first new (taken_last to) → item ≡ Err e → RefusesItem gives.last first new e
  refuses_item e walk failed is = by (taken_last to) refl
      (subst (λ (r : Result (List ℕ) StoreError). IsSomeAnd (taken_last to) (λ b. AnswersFrom gives.last (gives.last - to.first) b r)) is gives.gives.answers)
    where
      by : (block : Option (Result (List ℕ) StoreError)) → (taken_last to) ≡ block → IsSomeAnd block (λ b. AnswersFrom gives.last (gives.last - to.first) b (Err e))
          → RefusesItem gives.last first new e
      by None here answers = absurd answers
      by (Some (Ok block)) here answers = elim answers [
        | inl x ↦ subst (RefusesItem gives.last first new) (sym x.0) (
          refl,
          λ honest. truly_damaged gives.last (slice_get (slots (store_of first)) gives.last)
              (truly_as (Err (DamagedDocument gives.last)) (is ∙ ap (λ (y : StoreError). Err y) x.0) honest),
        )
        | inr memory ↦ subst (RefusesItem gives.last first new) (sym memory) tt
      ]
      by (Some (Err f)) here answers =
          let same_error : e ≡ f = cc in
          elim (subst (λ (o : Option (Result (List ℕ) StoreError)). IfSome o (λ b. IfErr b (λ x. (x ≡ Read) ⊎ (x ≡ Memory)))) here walk.only) [
            | inl read ↦ subst (RefusesItem gives.last first new) (sym (same_error ∙ read)) (failed (here ∙ ap (λ (y : StoreError). Some (Err y)) read))
            | inr memory ↦ subst (RefusesItem gives.last first new) (sym (same_error ∙ memory)) tt
          ]

  module _ (start w : Writing) (copied : IsCopied first.file.honest (alive (take from.next (slots (store_of first))) set) start w) where
    copied_to : IsCopied first.file.honest (alive (take gives.last (slots (store_of first))) set) start w
    copied_to = copied_as first.file.honest start (alive (take from.next (slots (store_of first))) set) (alive (take gives.last (slots (store_of first))) set) w
        (sym (alive_to set (slots (store_of first)) from.next gives.last gives.walks.on (omega (arith, last_below)) gives.walks.dead)) copied

    -- one more document
    pub copied_next : (after : Writing) → IsItemStored item w after → IsCopied first.file.honest (alive (take to.next (slots (store_of first))) set) start after
    copied_next after t =
        let all = slots (store_of first) in
        let last = gives.last in
        let s = get_or all last damaged in
        let is : alive (take to.next all) set ≡ alive (take last all) set ++ s ∷ [] =
        ap (λ (n : ℕ). alive (take n all) set) gives.gives.next ∙ alive_next set all last last_below ∙ ap (λ (b : Bool). alive (take last all) set ++ one b s) gives.gives.is_alive in
        copied_as first.file.honest start (alive (take last all) set ++ s ∷ []) (alive (take to.next all) set) after (sym is)
        (copied_more first.file.honest start (alive (take last all) set) s w after item t
        (λ honest. sym (get_or_from_slice_get all last (doc t.bytes) damaged (truly_as (Ok t.bytes) t.is honest))) copied_to)

    -- or it stops here
    pub stops : (e : StoreError) (after : Writing) → start.output.failures ≤ w.output.failures → IsWalk new to → HasFailedRead first new (taken_last to) → IsRefused item w after e
        → (item ≡ Err Read) ⊎ IsSteadyBetween set first new 0 gives.last → StopsAt set first new start after e
    stops e after count walk failed refused steady = record {
      id = gives.last;
      below = omega (arith, last_below, docs);
      is_alive = gives.gives.is_alive;
      before = w;
      copied = copied_to;
      count = count;
      steady = elim steady [
        | inl none ↦ inl (refused_read item w after e refused none)
        | inr still ↦ inr still
      ];
      cause = elim refused [
        | inl x ↦ inl (refuses_item e walk failed x.0, x.1)
        | inr x ↦ inr (record { bytes = x.bytes; came = λ honest. truly_as (Ok x.bytes) x.is honest; refused = x.refused })
      ];
    }

  pub below_next : to.next ≤ length (slots (store_of first))
  below_next = omega (arith, gives.gives.next, last_below)

  pub failed_next : first.file.failures ≤ old.file.failures → HasFailedRead first old (taken_last from) → HasFailedRead first new (taken_last to)
  failed_next le h = failed_along _ first old (taken_last from) new (taken_last to) le h gives.walks.looks

-- no further one
pub copied_all : (first old new : Reading) (set : Option (ℕ → Bool)) (from to : Walk) (start w : Writing) → num_docs first ≡ length (slots (store_of first)) → IsSameStore first old
    → GivesNext set old from None new to → from.next ≤ length (slots (store_of first))
    → IsCopied first.file.honest (alive (take from.next (slots (store_of first))) set) start w → IsCopied first.file.honest (alive (slots (store_of first)) set) start w
copied_all first old new set from to start w docs same gives below copied =
    let all = slots (store_of first) in
    let dead : (k : ℕ) → from.next ≤ k → k < length all → is_in set k ≡ false = λ k above lt. gives.walks.dead k above (omega (arith, lt, gives.gives.0, same_count first old same, docs)) in
    copied_as first.file.honest start (alive (take from.next all) set) (alive all set) w
    (sym (alive_to set all from.next (length all) below (omega arith) dead) ∙ ap (λ (xs : List Slot). alive xs set) (take_all (length all) all (omega arith))) copied

-- The reads so far ask for no byte twice.
pub asked_next : (first old new : Reading) (set : Option (ℕ → Bool)) (from to : Walk) (given : Option (Result (List ℕ) StoreError)) → Covers first.checkpoints (length first.file.content)
    → IsSameStore first old
    → LooksAlong (take from.place first.checkpoints) first None old (taken_last from) → GivesNext set old from given new to → IsAskedOnce first new
asked_next first old new set from to given covers same looks gives =
    asked_within to.place first None new (taken_last to) covers (looks_joined first old from set gives.last new to same.checkpoints looks gives.walks)

-- What holds as an iteration begins.
pub record IsBegun (first : Reading) (set : Option (ℕ → Bool)) (start : Writing) (r : Reading) (w : Walk) : Type 0 where
  pub copied : IsCopied first.file.honest (alive (take w.next (slots (store_of first))) set) start start
  pub below : w.next ≤ length (slots (store_of first))
  pub failed : HasFailedRead first r (taken_last w)

pub begins : (first r : Reading) (set : Option (ℕ → Bool)) (w : Walk) (start : Writing) → w.next ≡ 0 → LooksAlong (take 1 first.checkpoints) first None r (taken_last w) → IsBegun first set start r w
begins first r set w start is looks = record {
  copied = copied_as first.file.honest start [] (alive (take w.next (slots (store_of first))) set) start (ap (λ (k : ℕ). alive (take k (slots (store_of first))) set) (sym is))
      (copied_none first.file.honest start);
  below = omega (arith, is);
  failed = failed_along (take 1 first.checkpoints) first first None r (taken_last w) (omega arith) (none_failed first first) looks;
}
