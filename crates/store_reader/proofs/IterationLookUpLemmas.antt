-- Which blocks an iteration has looked up when its items are listed.
use Rattle.std.proofs.Common.{◌≡◌, ℕ, zero, suc, ◌+◌, ◌-◌, ◌<◌, ◌≤◌, ◌⊎◌, inl, inr, min, Bool, true, false, cond, List, [], ◌++◌, length, take, Option, Some, None, refl, sym, ap, ◌∙◌, subst, arith}
use Rattle.std.proofs.lemmas.Bool.{cases_lt}
use Rattle.std.proofs.lemmas.List.Sums.{sum_by-cons}
use Rattle.std.specs.List.{range_with_len}
use Rattle.std.specs.Prelude.{slice_range, Result}
use Rattle.store_base.specs.declared.error.StoreError.{StoreError}
use Rattle.layered_index.specs.declared.checkpoint.Checkpoint.{Checkpoint}
use Rattle.store_reader.specs.declared.walk.Walk.{Walk}
use Rattle.layered_index.specs.Checkpoint.{Covers}
use Rattle.store_reader.specs.Iteration.{is_in, looked_along, alive_below, keys_along}
use Rattle.store_reader.specs.LookLaws.{AreLookUps}
use Rattle.store_reader.specs.Reading.{Reading, IsSameStore, num_docs}
use Rattle.store_reader.specs.Walking.{taken_last, IsWalk, LooksAlong, WalksTo, GivesNext}
use Rattle.store_reader.proofs.ItemsSoFarLemmas.{same_count, covered}
use Rattle.store_reader.proofs.BlocksAlongLemmas.{alive_in, alive-split, walks_look_up}
use Rattle.store_reader.proofs.RecentLemmas.{looks_are_recent}
use Rattle.store_reader.proofs.WalkingLemmas.{looks_on, range_joined}

-- none of so many ids is in the set
alive-none : (set : Option (ℕ → Bool)) (a n : ℕ) → ((k : ℕ) → a ≤ k → k < a + n → is_in set k ≡ false) → alive_in set a n ≡ 0
alive-none set a zero dead = refl
alive-none set a (suc n) dead =
    let first : is_in set a ≡ false = dead a (omega arith) (omega arith) in
    let one = sum_by-cons (λ x. cond (is_in set x) 1 0) a (range_with_len (a + 1) n) in
    let counted : ◌≡◌ {A = ℕ} (cond {A = ℕ} (is_in set a) 1 0) 0 = rw first refl in
    let on = alive-none set (a + 1) n (λ k lo hi. dead k (omega arith) (omega arith)) in
    omega (arith, one, counted, on)

-- no more are counted past ids that are not in the set
past_dead : (set : Option (ℕ → Bool)) (from last : ℕ) → from ≤ last → ((k : ℕ) → from ≤ k → k < last → is_in set k ≡ false) → alive_below set last ≡ alive_below set from
past_dead set from last on dead =
    let whole : from + (last - from) ≡ last = omega arith in
    let split = alive-split set 0 from (last - from) in
    let split' : alive_below set last ≡ alive_in set 0 from + alive_in set (0 + from) (last - from) = rw whole at split in
    let none = alive-none set (0 + from) (last - from) (λ k lo hi. dead k (omega arith) (omega arith)) in
    omega (arith, split', none)

-- one more is counted where the next id is in the set
one_more : (set : Option (ℕ → Bool)) (id : ℕ) → is_in set id ≡ true → alive_below set (id + 1) ≡ alive_below set id + 1
one_more set id alive =
    let split = alive-split set 0 id 1 in
    let one = sum_by-cons (λ x. cond (is_in set x) 1 0) (0 + id) [] in
    let same : 0 + id ≡ id = omega arith in
    let counted : ◌≡◌ {A = ℕ} (cond {A = ℕ} (is_in set (0 + id)) 1 0) 1 = rw same (rw alive refl) in
    omega (arith, split, one, counted)

-- no more are counted than there are ids
below_few : (set : Option (ℕ → Bool)) (a n : ℕ) → alive_in set a n ≤ n
below_few set a zero = omega arith
below_few set a (suc n) =
    let one = sum_by-cons (λ x. cond (is_in set x) 1 0) a (range_with_len (a + 1) n) in
    let on = below_few set (a + 1) n in
    (elim (is_in set a) as (λ y. is_in set a ≡ y → alive_in set a (suc n) ≤ suc n) [
      | true ↦ λ t. let counted : ◌≡◌ {A = ℕ} (cond {A = ℕ} (is_in set a) 1 0) 1 = rw t refl in omega (arith, one, counted, on)
      | false ↦ λ t. let counted : ◌≡◌ {A = ℕ} (cond {A = ℕ} (is_in set a) 1 0) 0 = rw t refl in omega (arith, one, counted, on)
    ]) refl

-- The walk stands after an id of the set, in its block.
pub record Follows (set : Option (ℕ → Bool)) (w : Walk) : Type 0 where
  pub id : ℕ
  pub next : w.next ≡ id + 1
  pub above : w.first ≤ id
  pub alive : is_in set id ≡ true

-- The blocks up to the walk's place were looked up, for so many items; it stands after the last of them, or where it began.
pub record IsListedTo (first : Reading) (set : Option (ℕ → Bool)) (count : ℕ) (now : Reading) (w : Walk) : Type 0 where
  pub looks : LooksAlong (take w.place first.checkpoints) first None now (taken_last w)
  pub counted : alive_below set w.next ≡ count
  pub stands : ((count ≡ 0) × (w.place ≡ length (take 1 first.checkpoints))) ⊎ Follows set w

-- the blocks on the way to an id
pub looks_joined : (first old : Reading) (from : Walk) (set : Option (ℕ → Bool)) (id : ℕ) (new : Reading) (to : Walk) → old.checkpoints ≡ first.checkpoints
    → LooksAlong (take from.place first.checkpoints) first None old (taken_last from) → WalksTo set old from id new to
    → LooksAlong (take to.place first.checkpoints) first None new (taken_last to)
looks_joined first old from set id new to same looks walks =
    let cs = first.checkpoints in
    let from_none : from.place - 0 ≡ from.place = omega arith in
    let to_none : to.place - 0 ≡ to.place = omega arith in
    let joined : take to.place cs ≡ take from.place cs ++ slice_range cs from.place to.place =
    ap (λ (n : ℕ). take n cs) (sym to_none) ∙ range_joined cs 0 from.place to.place (omega arith) walks.later ∙ ap (λ (n : ℕ). take n cs ++ slice_range cs from.place to.place) from_none in
    subst (λ (xs : List Checkpoint). LooksAlong xs first None new (taken_last to)) (sym joined)
    (looks_on (take from.place cs) (slice_range cs from.place to.place) first None old (taken_last from) new (taken_last to) looks
    (subst (λ (xs : List Checkpoint). LooksAlong (slice_range xs from.place to.place) old (taken_last from) new (taken_last to)) same walks.looks))

looks_to : (first : Reading) (set : Option (ℕ → Bool)) (count : ℕ) (old : Reading) (from : Walk) (id : ℕ) (new : Reading) (to : Walk) → old.checkpoints ≡ first.checkpoints
    → IsListedTo first set count old from → WalksTo set old from id new to
    → LooksAlong (take to.place first.checkpoints) first None new (taken_last to)
looks_to first set count old from id new to same listed walks = looks_joined first old from set id new to same listed.looks walks

-- one more item
pub listed_on : (first : Reading) (set : Option (ℕ → Bool)) (count : ℕ) (old : Reading) (from : Walk) (item : Result (List ℕ) StoreError) (new : Reading) (to : Walk)
    → old.checkpoints ≡ first.checkpoints → IsListedTo first set count old from → GivesNext set old from (Some item) new to
    → IsListedTo first set (count + 1) new to
listed_on first set count old from item new to same listed gives =
    let last = gives.last in
    record {
      looks = looks_to first set count old from last new to same listed gives.walks;
      counted = ap (alive_below set) gives.gives.next ∙ one_more set last gives.gives.is_alive ∙ ap (λ (n : ℕ). n + 1) (past_dead set from.next last gives.walks.on gives.walks.dead ∙ listed.counted);
      stands = inr (record { id = last; next = gives.gives.next; above = gives.gives.above; alive = gives.gives.is_alive });
    }

-- the keys of the blocks that were looked up, by a walk that the definition knows
looked_by : (first now : Reading) (w : Walk) (keys : List ℕ) → LooksAlong (take w.place first.checkpoints) first None now (taken_last w) → keys_along (take w.place first.checkpoints) ≡ keys
    → AreLookUps keys first now
looked_by first now w keys looks is = subst (λ (ks : List ℕ). AreLookUps ks first now) is (looks_are_recent (take w.place first.checkpoints) first None now (taken_last w) looks)

-- so many items as were asked for
listed_enough : (first : Reading) (set : Option (ℕ → Bool)) (count : ℕ) (now : Reading) (w : Walk) → IsSameStore first now → Covers first.checkpoints (length first.file.content) → IsWalk now w
    → IsListedTo first set count now w → AreLookUps (looked_along first.checkpoints set count) first now
listed_enough first set count now w same covers walk listed =
    let law = walks_look_up now w set (covered first now same covers) walk in
    let cs = now.checkpoints in
    let mine : (keys_along (take w.place cs) ≡ looked_along cs set count) → AreLookUps (looked_along first.checkpoints set count) first now =
    λ is. looked_by first now w (looked_along first.checkpoints set count) listed.looks
    (subst (λ (xs : List Checkpoint). keys_along (take w.place xs) ≡ looked_along xs set count) same.checkpoints is) in
    elim listed.stands [
      | inl began ↦ mine (law.none (began.1 ∙ ap (λ (xs : List Checkpoint). length (take 1 xs)) (sym same.checkpoints)) ∙ ap (looked_along cs set) (sym began.0))
      | inr following ↦ mine (law.item following.id following.next following.above following.alive ∙ ap (looked_along cs set) listed.counted)
    ]

-- all that there are, where more were asked for
listed_all : (first : Reading) (set : Option (ℕ → Bool)) (items count : ℕ) (now : Reading) (w : Walk) → IsSameStore first now → Covers first.checkpoints (length first.file.content) → IsWalk now w
    → LooksAlong (take w.place first.checkpoints) first None now (taken_last w) → alive_below set w.next ≡ items → w.next ≡ num_docs first → items < count
    → AreLookUps (looked_along first.checkpoints set count) first now
listed_all first set items count now w same covers walk looks counted next less =
    let law = walks_look_up now w set (covered first now same covers) walk in
    let cs = now.checkpoints in
    let end : w.next ≡ num_docs now = next ∙ sym (same_count first now same) in
    let all : keys_along (take w.place cs) ≡ looked_along cs set count = law.all count end (subst (λ (n : ℕ). n < count) (sym (ap (alive_below set) (sym end) ∙ counted)) less) in
    looked_by first now w (looked_along first.checkpoints set count) looks (subst (λ (xs : List Checkpoint). keys_along (take w.place xs) ≡ looked_along xs set count) same.checkpoints all)

-- no further item was asked for: as many as wanted, or as there are documents
pub looked_enough : (first : Reading) (set : Option (ℕ → Bool)) (items count : ℕ) (now : Reading) (w : Walk) → IsSameStore first now → Covers first.checkpoints (length first.file.content)
    → IsWalk now w → IsListedTo first set items now w
    → items ≡ min count (num_docs first) → w.next ≤ num_docs first → AreLookUps (looked_along first.checkpoints set count) first now
looked_enough first set items count now w same covers walk listed most below = elim (cases_lt items count) [
  | inl lt ↦
      let few = below_few set 0 w.next in
      let counted = listed.counted in
      listed_all first set items count now w same covers walk listed.looks listed.counted (omega (arith, few, counted, lt, most, below)) lt
  | inr ge ↦
      let is : items ≡ count = omega (arith, ge, most) in
      listed_enough first set count now w same covers walk (subst (λ (n : ℕ). IsListedTo first set n now w) is listed)
]

-- no further item is there
pub looked_all : (first : Reading) (set : Option (ℕ → Bool)) (items count : ℕ) (old : Reading) (from : Walk) (new : Reading) (to : Walk) → IsSameStore first old
    → Covers first.checkpoints (length first.file.content) → IsListedTo first set items old from
    → GivesNext set old from None new to → IsSameStore first new → items < count → AreLookUps (looked_along first.checkpoints set count) first new
looked_all first set items count old from new to before covers listed gives same less =
    let last = gives.last in
    let end : to.next ≡ num_docs first = gives.gives.1 ∙ gives.gives.0 ∙ same_count first old before in
    let counted : alive_below set to.next ≡ items = ap (alive_below set) gives.gives.1 ∙ past_dead set from.next last gives.walks.on gives.walks.dead ∙ listed.counted in
    listed_all first set items count new to same covers gives.walk (looks_to first set items old from last new to before.checkpoints listed gives.walks) counted end less
