-- Where an item is no failed read, no read failed for it, but of blocks that were passed over.
use Rattle.std.proofs.Common.{◌≡◌, ◌⊎◌, inl, inr, ℕ, zero, suc, ◌+◌, ◌-◌, ◌<◌, ◌≤◌, min, Bool, false, List, [], ◌∷◌, ◌++◌, length, take, drop, is_some, Option}
use Rattle.std.proofs.Common.{Some, None, refl, sym, ap, ◌∙◌, subst, arith}
use Rattle.std.proofs.lemmas.Bool.{cases_lt, false≢true}
use Rattle.std.proofs.lemmas.List.Elements.{Contains-append_left, Contains-push}
use Rattle.std.specs.List.{AllByRecursion, Contains}
use Rattle.std.specs.Prelude.{slice_get, slice_range, IsSomeAnd, Result, Err}
use Rattle.store_base.specs.declared.error.StoreError.{StoreError}
use Rattle.store_base.specs.declared.error.StoreError.TheVariants.{Read}
use Rattle.layered_index.specs.declared.checkpoint.Checkpoint.{Checkpoint}
use Rattle.layered_index.specs.Checkpoint.{Covers, IsInLineFrom, docs_end}
use Rattle.store_reader.specs.declared.walk.Walk.{Walk}
use Rattle.store_reader.specs.CallAnswers.{HasAlive}
use Rattle.store_reader.specs.GetAnswer.{AnswersFrom}
use Rattle.store_reader.specs.Iteration.{is_in}
use Rattle.store_reader.specs.LookingUp.{IsShared}
use Rattle.store_reader.specs.Reading.{Reading, IsSameStore, num_docs}
use Rattle.store_reader.specs.Walking.{taken_last, IsBlockTaken, IsWalk, LooksAlong, WalksTo, PassesDead, IsSteadyBetween, GivesNext}
use Rattle.store_reader.proofs.GetAnswerLemmas.{look_steady}
use Rattle.store_reader.proofs.ItemsSoFarLemmas.{same_count, covered}
use Rattle.store_reader.proofs.SeekLemmas.{docs_end-take_more}
use Rattle.store_reader.proofs.WalkingLemmas.{taken_place, start_at, there, range_more, checkpoints_along, docs_of_some, no_block}

-- ---- blocks that are passed over

docs_from : (doc byte : ℕ) (cs : List Checkpoint) (n : ℕ) → IsInLineFrom doc byte cs → doc ≤ docs_end doc (take n cs)
docs_from doc byte cs zero r = omega arith
docs_from doc byte [] (suc n) r = omega arith
docs_from doc byte (c ∷ cs) (suc n) r = omega (arith, docs_from c.doc_range.end c.byte_range.end cs n r.3, r.0, r.2.doc_order)

docs_later : (doc byte : ℕ) (cs : List Checkpoint) (m n : ℕ) → IsInLineFrom doc byte cs → m ≤ n → docs_end doc (take m cs) ≤ docs_end doc (take n cs)
docs_later doc byte cs zero n r le = docs_from doc byte cs n r
docs_later doc byte cs (suc m) zero r le = absurd (omega arith)
docs_later doc byte [] (suc m) (suc n) r le = omega arith
docs_later doc byte (c ∷ cs) (suc m) (suc n) r le = docs_later c.doc_range.end c.byte_range.end cs m n r.3 (omega arith)

-- the block with this number, where all of its documents are between two ids
passed : (set : Option (ℕ → Bool)) (cs : List Checkpoint) (bytes n from to : ℕ) → Covers cs bytes → n < length cs → from ≤ docs_end 0 (take n cs) → docs_end 0 (take (n + 1) cs) ≤ to
    → ((k : ℕ) → from ≤ k → k < to → is_in set k ≡ false) → PassesDead set cs from to
passed set cs bytes n from to covers few lo hi dead =
    let found = there cs n few in
    let c = found.0 in
    let start = start_at 0 0 cs n c covers.in_line found.1 in
    let end = docs_end-take_more 0 cs n c found.1 in
    record {
      place = n;
      block = c;
      is_at = found.1;
      after = omega (arith, start, lo);
      before = omega (arith, end, hi);
      dead = λ k above below. dead k (omega (arith, above, start, lo)) (omega (arith, below, end, hi));
    }

-- the same between ids that are further apart
pub passed_within : (set : Option (ℕ → Bool)) (cs ds : List Checkpoint) (from to from' to' : ℕ) → cs ≡ ds → from' ≤ from → to ≤ to' → PassesDead set cs from to → PassesDead set ds from' to'
passed_within set cs ds from to from' to' same lo hi p = record {
  place = p.place;
  block = p.block;
  is_at = ap (λ (xs : List Checkpoint). slice_get xs p.place) (sym same) ∙ p.is_at;
  after = omega (arith, p.after, lo);
  before = omega (arith, p.before, hi);
  dead = p.dead;
}

-- ---- look-ups

-- a look-up of a block fails for a read, or leaves the count of failures
once : (r : Reading) (id : ℕ) (c : Checkpoint) (block : Result (List ℕ) StoreError) (mid : Reading) → IsBlockTaken r id c block mid
    → (block ≡ Err Read) ⊎ (mid.file.failures ≡ r.file.failures)
once r id c block mid t = elim (look_steady r mid id c t.came t.looked) [
  | inl failed ↦ inl (subst (λ (x : Result (List ℕ) StoreError). IsShared x block) failed t.taken)
  | inr same ↦ inr same
]

one_block : (c : Checkpoint) (old : Reading) (b : Option (Result (List ℕ) StoreError)) (new : Reading) (b' : Option (Result (List ℕ) StoreError)) → LooksAlong (c ∷ []) old b new b'
    → (b' ≡ Some (Err Read)) ⊎ (new.file.failures ≡ old.file.failures)
one_block c old b new b' l = elim (once old c.doc_range.start c l.1 l.0 l.2) [
  | inl failed ↦ inl (l.3.1 ∙ ap Some failed)
  | inr same ↦ inr (ap (λ (r : Reading). r.file.failures) l.3.0 ∙ same)
]

first_blocks : (cs : List Checkpoint) (old new : Reading) (b' : Option (Result (List ℕ) StoreError)) → LooksAlong (take 1 cs) old None new b'
    → (b' ≡ Some (Err Read)) ⊎ (new.file.failures ≡ old.file.failures)
first_blocks [] old new b' l = inr (ap (λ (r : Reading). r.file.failures) l.0)
first_blocks (c ∷ cs) old new b' l = one_block c old None new b' l

-- ---- a walk

module _ (set : Option (ℕ → Bool)) (old : Reading) (from : Walk) (last : ℕ) (new : Reading) (to : Walk) (bytes : ℕ) (covers : Covers old.checkpoints bytes) (start : IsWalk old from)
    (walks : WalksTo set old from last new to) (walk : IsWalk new to) where
  same_cs : new.checkpoints ≡ old.checkpoints
  same_cs = checkpoints_along (slice_range old.checkpoints from.place to.place) old (taken_last from) new (taken_last to) walks.looks

  few : to.place ≤ length old.checkpoints
  few = subst (λ (xs : List Checkpoint). to.place ≤ length xs) same_cs walk.few

  -- no block is looked up
  stays : to.place ≡ from.place → (new ≡ old) × (taken_last to ≡ taken_last from)
  stays is =
      let none : to.place - from.place ≡ 0 = omega (arith, is) in
      let nothing : slice_range old.checkpoints from.place to.place ≡ [] = ap (λ n. take n (drop from.place old.checkpoints)) none in
      subst (λ (xs : List Checkpoint). LooksAlong xs old (taken_last from) new (taken_last to)) nothing walks.looks

  -- the block after that of the beginning is passed over
  goes_past : from.place < length old.checkpoints → docs_end 0 (take (from.place + 1) old.checkpoints) ≤ last → PassesDead set old.checkpoints from.next last
  goes_past more hi = passed set old.checkpoints bytes from.place from.next last covers more (omega (arith, start.end, start.below)) hi walks.dead

  one_more : to.place ≡ from.place + 1 → (taken_last to ≡ Some (Err Read)) ⊎ (new.file.failures ≡ old.file.failures)
  one_more is =
      let found = there old.checkpoints from.place (omega (arith, few, is)) in
      let none : from.place - from.place ≡ 0 = omega arith in
      let range : slice_range old.checkpoints from.place to.place ≡ found.0 ∷ [] =
      ap (slice_range old.checkpoints from.place) is ∙ range_more old.checkpoints from.place from.place found.0 (omega arith) found.1
      ∙ ap (λ n. take n (drop from.place old.checkpoints) ++ found.0 ∷ []) none in
      one_block found.0 old (taken_last from) new (taken_last to) (subst (λ (xs : List Checkpoint). LooksAlong xs old (taken_last from) new (taken_last to)) range walks.looks)

  -- to a document of the block that was taken last
  pub steady_to : to.first ≤ last → (taken_last to ≡ Some (Err Read)) ⊎ IsSteadyBetween set old new from.next last
  steady_to above = elim (cases_lt from.place to.place) [
    | inr le ↦ inr (inl (ap (λ (r : Reading). r.file.failures) (stays (omega (arith, le, walks.later))).0))
    | inl lt ↦ elim (cases_lt (from.place + 1) to.place) [
      | inl past ↦
          let first : to.first ≡ docs_end 0 (take (to.place - 1) old.checkpoints) = subst (λ (xs : List Checkpoint). to.first ≡ docs_end 0 (take (to.place - 1) xs)) same_cs walk.first in
          let later = docs_later 0 0 old.checkpoints (from.place + 1) (to.place - 1) covers.in_line (omega (arith, past)) in
          inr (inr (goes_past (omega (arith, few, lt)) (omega (arith, first, later, above))))
      | inr next ↦ elim (one_more (omega (arith, lt, next))) [ inl failed ↦ inl failed | inr same ↦ inr (inl same) ]
    ]
  ]

  -- to the end of the store
  pub steady_end : last ≡ num_docs old → IsSteadyBetween set old new from.next last
  steady_end all = elim (cases_lt from.place to.place) [
    | inr le ↦ inl (ap (λ (r : Reading). r.file.failures) (stays (omega (arith, le, walks.later))).0)
    | inl lt ↦ inr (goes_past (omega (arith, few, lt)) (omega (arith, all, docs_of_some 0 0 old.checkpoints (from.place + 1) covers.in_line)))
  ]

  -- a first block whose read failed, with no item so far, is passed over too, where another one follows or the store ends
  began_past : from.next ≡ 0 → taken_last from ≡ Some (Err Read) → docs_end 0 (take from.place old.checkpoints) ≤ last → PassesDead set old.checkpoints from.next last
  began_past none failed hi =
      let some = taken_place from.place from.block (ap is_some failed) in
      let at : (from.place - 1) + 1 ≡ from.place = omega (arith, some) in
      passed set old.checkpoints bytes (from.place - 1) from.next last covers (omega (arith, some, start.few)) (omega (arith, none))
      (subst (λ (n : ℕ). docs_end 0 (take n old.checkpoints) ≤ last) (sym at) hi) walks.dead

-- ---- items

-- an item of a block whose read failed
pub failed_item : (id place : ℕ) (block : Option (Result (List ℕ) StoreError)) (item : Result (List ℕ) StoreError) → IsSomeAnd block (λ b. AnswersFrom id place b item) → block ≡ Some (Err Read)
    → item ≡ Err Read
failed_item id place block item answers is = subst (λ (o : Option (Result (List ℕ) StoreError)). IsSomeAnd o (λ b. AnswersFrom id place b item)) is answers

-- What holds along an iteration of which no item is a failed read: no read failed, but of blocks that were passed over; or that of the first block, and there was no item so far.
abbrev pub IsSteadySoFar : Option (ℕ → Bool) → Reading → Reading → Walk → Type 0
IsSteadySoFar set first now w = IsSteadyBetween set first now 0 w.next ⊎ ((w.next ≡ 0) × (taken_last w ≡ Some (Err Read)))

pub steady_begins : (set : Option (ℕ → Bool)) (first now : Reading) (w : Walk) → w.next ≡ 0 → LooksAlong (take 1 first.checkpoints) first None now (taken_last w) → IsSteadySoFar set first now w
steady_begins set first now w next looks = elim (first_blocks first.checkpoints first now (taken_last w) looks) [
  | inl failed ↦ inr (next, failed)
  | inr same ↦ inl (inl same)
]

module _ (set : Option (ℕ → Bool)) (first old : Reading) (from : Walk) (same : IsSameStore first old) (covers : Covers first.checkpoints (length first.file.content)) (start : IsWalk old from)
    (so_far : IsSteadySoFar set first old from) where
  -- what was passed over since, or before
  since : (last next : ℕ) → last ≤ next → PassesDead set old.checkpoints from.next last → PassesDead set first.checkpoints 0 next
  since last next le p = passed_within set old.checkpoints first.checkpoints from.next last 0 next same.checkpoints (omega arith) le p

  before : (next : ℕ) → from.next ≤ next → PassesDead set first.checkpoints 0 from.next → PassesDead set first.checkpoints 0 next
  before next le p = passed_within set first.checkpoints first.checkpoints 0 from.next 0 next refl (omega arith) le p

  -- one more item
  pub steady_more : (item : Result (List ℕ) StoreError) (new : Reading) (to : Walk) (gives : GivesNext set old from (Some item) new to) → (item ≡ Err Read) ⊎ IsSteadyBetween set first new 0 gives.last
  steady_more item new to gives =
      let last = gives.last in
      let walks = gives.walks in
      let here = covered first old same covers in
      elim gives.steady [
        | inl failed ↦ inl failed
        | inr steady ↦ elim steady [
          | inr p ↦ inr (inr (since last last (omega arith) p))
          | inl still ↦ elim so_far [
            | inl clean ↦ elim clean [
              | inl none ↦ inr (inl (still ∙ none))
              | inr p ↦ inr (inr (before last walks.on p))
            ]
            | inr began ↦ elim (cases_lt from.place to.place) [
              | inl lt ↦
                  let at : to.first ≡ docs_end 0 (take (to.place - 1) old.checkpoints) =
                  subst (λ (xs : List Checkpoint). to.first ≡ docs_end 0 (take (to.place - 1) xs)) gives.same.checkpoints gives.walk.first in
                  let later = docs_later 0 0 old.checkpoints from.place (to.place - 1) here.in_line (omega (arith, lt)) in
                  let hi : docs_end 0 (take from.place old.checkpoints) ≤ last = omega (arith, at, later, gives.gives.above) in
                  inr (inr (since last last (omega arith) (began_past set old from last new to (length old.file.content) here start walks gives.walk began.0 began.1 hi)))
              | inr le ↦
                  let same_block = (stays set old from last new to (length old.file.content) here start walks gives.walk (omega (arith, le, walks.later))).1 in
                  inl (failed_item last (last - to.first) (taken_last to) item gives.gives.answers (same_block ∙ began.1))
            ]
          ]
        ]
      ]

  -- no further one
  pub steady_all : (new : Reading) (to : Walk) → GivesNext set old from None new to → IsSteadyBetween set first new 0 (num_docs first)
  steady_all new to gives =
      let last = gives.last in
      let all : last ≡ num_docs first = gives.gives.0 ∙ same_count first old same in
      let walks = gives.walks in
      elim gives.steady [
        | inl failed ↦ absurd failed
        | inr steady ↦ elim steady [
          | inr p ↦ inr (since last (num_docs first) (omega (arith, all)) p)
          | inl still ↦ elim so_far [
            | inl clean ↦ elim clean [
              | inl none ↦ inl (still ∙ none)
              | inr p ↦ inr (before (num_docs first) (omega (arith, all, walks.on)) p)
            ]
            | inr began ↦
                let some = docs_of_some 0 0 old.checkpoints from.place (covered first old same covers).in_line in
                inr (since last (num_docs first) (omega (arith, all))
                (began_past set old from last new to (length old.file.content) (covered first old same covers) start walks gives.walk began.0 began.1 (omega (arith, some, gives.gives.0))))
          ]
        ]
      ]

-- what holds to an id holds to a later one
pub steady_later : (set : Option (ℕ → Bool)) (first now : Reading) (to later : ℕ) → to ≤ later → IsSteadyBetween set first now 0 to → IsSteadyBetween set first now 0 later
steady_later set first now to later le steady = elim steady [
  | inl same ↦ inl same
  | inr p ↦ inr (passed_within set first.checkpoints first.checkpoints 0 to 0 later refl (omega arith) le p)
]

-- one more item of a list
pub steady_next : (set : Option (ℕ → Bool)) (first old : Reading) (from : Walk) → IsSameStore first old → Covers first.checkpoints (length first.file.content) → IsWalk old from
    → (item : Result (List ℕ) StoreError) (new : Reading) (to : Walk) → GivesNext set old from (Some item) new to → (items : List (Result (List ℕ) StoreError))
    → ((Contains items (Err Read) → ⊥) → IsSteadySoFar set first old from) → (Contains (items ++ item ∷ []) (Err Read) → ⊥) → IsSteadySoFar set first new to
steady_next set first old from same covers start item new to gives items so_far none =
    let before = so_far (λ some. none (Contains-append_left items (item ∷ []) (Err Read) some)) in
    elim (steady_more set first old from same covers start before item new to gives) [
      | inl failed ↦ absurd (none (subst (Contains (items ++ item ∷ [])) failed (Contains-push items item)))
      | inr steady ↦ inl (steady_later set first new gives.last to.next (omega (arith, gives.gives.next)) steady)
    ]

-- ---- where each block has a document

at_place : (P : Checkpoint → Type 0) (cs : List Checkpoint) (n : ℕ) (c : Checkpoint) → slice_get cs n ≡ Some c → AllByRecursion P cs → P c
at_place P [] n c is all = absurd cc
at_place P (x ∷ cs) zero c is all = let same : x ≡ c = cc in subst P same all.0
at_place P (x ∷ cs) (suc n) c is all = at_place P cs n c is all.1

pub none_passed : (set : Option (ℕ → Bool)) (cs : List Checkpoint) (from to : ℕ) → AllByRecursion (HasAlive set) cs → PassesDead set cs from to → ⊥
none_passed set cs from to all p =
    let a = at_place (HasAlive set) cs p.place p.block p.is_at all in
    false≢true (sym (p.dead a.id a.from a.to) ∙ a.alive)

pub steady_where_alive : (set : Option (ℕ → Bool)) (first now : Reading) (from to : ℕ) → AllByRecursion (HasAlive set) first.checkpoints → IsSteadyBetween set first now from to
    → now.file.failures ≡ first.file.failures
steady_where_alive set first now from to all steady = elim steady [
  | inl same ↦ same
  | inr p ↦ absurd (none_passed set first.checkpoints from to all p)
]

-- as many items as wanted, or as there are documents
pub steady_enough : (set : Option (ℕ → Bool)) (first now : Reading) (w : Walk) (items count : ℕ) → IsSameStore first now → Covers first.checkpoints (length first.file.content) → IsWalk now w
    → 0 < count → items ≡ min count (num_docs first) → (items ≡ 0) ⊎ (0 < w.next) → AllByRecursion (HasAlive set) first.checkpoints → IsSteadySoFar set first now w
    → now.file.failures ≡ first.file.failures
steady_enough set first now w items count same covers walk some most begun all so_far = elim so_far [
  | inl clean ↦ steady_where_alive set first now 0 w.next all clean
  | inr began ↦ elim begun [
    | inr later ↦ absurd (omega (arith, later, began.0))
    | inl none ↦
        let nothing = no_block first.checkpoints (length first.file.content) covers (omega (arith, none, most, some)) in
        let place = taken_place w.place w.block (ap is_some began.1) in
        let few : w.place ≤ length first.checkpoints = subst (λ (xs : List Checkpoint). w.place ≤ length xs) same.checkpoints walk.few in
        absurd (omega (arith, place, few, ap length nothing))
  ]
]
