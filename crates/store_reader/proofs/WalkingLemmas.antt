-- How an iteration goes over the documents.
use Rattle.std.proofs.Common.{◌≡◌, ℕ, zero, suc, ◌+◌, ◌-◌, ◌<◌, ◌≤◌, Bool, true, false, List, [], ◌∷◌, ◌++◌, length, take, drop, Option, Some, None, is_some}
use Rattle.std.proofs.Common.{refl, sym, ap, ◌∙◌, subst, arith, add-one, inl, inr, ◌⊎◌}
use Rattle.std.proofs.lemmas.Bool.{ltb-true, ltb-false, lt-ltb, le-ltb}
use Rattle.std.proofs.lemmas.List.{drop-drop}
use Rattle.std.proofs.Math.Seq.{take-add}
use Rattle.std.specs.Prelude.{nat_lt, IsTrue, IfOk, IfErr, IfSome, IsSome, IsSomeAnd, Result, Ok, Err, slice_get, slice_range}
use Rattle.store_base.proofs.ListLemmas.{get_dropped, take_next}
use Rattle.layered_index.proofs.LayerLemmas.{docs_grow}
use Rattle.layered_index.specs.declared.checkpoint.Checkpoint.{Checkpoint}
use Rattle.store_base.specs.declared.error.StoreError.{StoreError}
use Rattle.store_reader.specs.declared.walk.Walk.{Walk}
use Rattle.store_base.specs.declared.error.StoreError.TheVariants.{Read, Memory}
use Rattle.store_reader.specs.GetAnswer.{IsLookedUp, AnswersFrom, AnswersTruly}
use Rattle.store_format.specs.Block.{Slot, slot}
use Rattle.layered_index.specs.Checkpoint.{IsInLineFrom, Covers, docs_end, first_past}
use Rattle.store_reader.specs.Documents.{ReadsFrom, ReadsTruly}
use Rattle.store_reader.specs.Iteration.{is_in}
use Rattle.store_reader.specs.LookingUp.{IsShared}
use Rattle.store_reader.specs.Reading.{Reading, part_of, num_docs, store_of}
use Rattle.store_format.specs.Slots.{slots}
use Rattle.store_reader.specs.Walking.{taken_at, taken_last, IsBlockTaken, HoldsPart, StandsIn, IsWalk, LooksAlong, WalksTo}
use Rattle.store_reader.proofs.GetAnswerLemmas.{why_none, slot_at}
use Rattle.store_reader.proofs.LookUpLemmas.{same_file}
use Rattle.store_reader.proofs.SeekLemmas.{within, first_sought, docs_end-take_more, not_all}

-- once a block was looked up there is one
pub taken_some : (place : ℕ) (block : Result (List ℕ) StoreError) → 0 < place → taken_at place block ≡ Some block
taken_some zero block some = absurd (omega arith)
taken_some (suc before) block some = refl

-- and before that there is none
pub taken_place : (place : ℕ) (block : Result (List ℕ) StoreError) → IsSome (taken_at place block) → 0 < place
taken_place zero block some = absurd cc
taken_place (suc before) block some = omega arith

-- the next block of a list, which begins at this document
pub record IsNextBlock (cs : List Checkpoint) (n target : ℕ) (c : Checkpoint) : Type 0 where
  pub at : slice_get cs n ≡ Some c
  pub more : n < length cs
  pub start : c.doc_range.start ≡ target
  pub inside : target < c.doc_range.end
  pub end : docs_end 0 (take (n + 1) cs) ≡ c.doc_range.end

pub start_at : (doc byte : ℕ) (cs : List Checkpoint) (n : ℕ) (c : Checkpoint) → IsInLineFrom doc byte cs → slice_get cs n ≡ Some c → c.doc_range.start ≡ docs_end doc (take n cs)
start_at doc byte [] n c r e = absurd cc
start_at doc byte (x ∷ cs) zero c r e = let same : x ≡ c = cc in ap (λ (y : Checkpoint). y.doc_range.start) (sym same) ∙ r.0
start_at doc byte (x ∷ cs) (suc n) c r e = start_at x.doc_range.end x.byte_range.end cs n c r.3 e

pub next_is : (cs : List Checkpoint) (bytes n target : ℕ) (c : Checkpoint) → Covers cs bytes → target ≡ docs_end 0 (take n cs) → target < docs_end 0 cs → first_past cs target ≡ Some c
    → IsNextBlock cs n target c
next_is cs bytes n target c covers here lt seeks =
    let more = not_all 0 cs n (omega arith) in
    let at : slice_get cs n ≡ Some c = sym (first_sought cs bytes n covers (omega arith)) ∙ ap (first_past cs) (sym here) ∙ seeks in
    let w = within 0 0 cs target c (omega arith) covers.in_line seeks in
    record { at = at; more = more; start = start_at 0 0 cs n c covers.in_line at ∙ sym here; inside = w.to; end = docs_end-take_more 0 cs n c at }

-- the checkpoints stay
pub checkpoints_along : (cs : List Checkpoint) (r : Reading) (b : Option (Result (List ℕ) StoreError)) (r' : Reading) (b' : Option (Result (List ℕ) StoreError)) → LooksAlong cs r b r' b'
    → r'.checkpoints ≡ r.checkpoints
checkpoints_along [] r b r' b' l = ap (λ (x : Reading). x.checkpoints) l.0
checkpoints_along (c ∷ cs) r b r' b' l = checkpoints_along cs l.0 (Some l.1) r' b' l.3 ∙ ap (λ (x : Reading). x.checkpoints) l.2.looked.stays

-- one block more
pub looks_more : (cs : List Checkpoint) (r : Reading) (b : Option (Result (List ℕ) StoreError)) (mid : Reading) (b1 : Option (Result (List ℕ) StoreError)) (c : Checkpoint) (r' : Reading)
    (b' : Result (List ℕ) StoreError)
    → LooksAlong cs r b mid b1 → IsBlockTaken mid c.doc_range.start c b' r' → LooksAlong (cs ++ c ∷ []) r b r' (Some b')
looks_more [] r b mid b1 c r' b' l t = (r', b', subst (λ (x : Reading). IsBlockTaken x c.doc_range.start c b' r') l.0 t, (refl, refl))
looks_more (d ∷ cs) r b mid b1 c r' b' l t = (l.0, l.1, l.2, looks_more cs l.0 (Some l.1) mid b1 c r' b' l.3 t)

pub range_more : (cs : List Checkpoint) (p q : ℕ) (c : Checkpoint) → p ≤ q → slice_get cs q ≡ Some c → slice_range cs p (q + 1) ≡ slice_range cs p q ++ c ∷ []
range_more cs p q c le e =
    let n : (q + 1) - p ≡ (q - p) + 1 = omega arith in
    ap (λ k. take k (drop p cs)) n ∙ take_next (drop p cs) (q - p) c (get_dropped p cs (q - p) q (omega arith) ∙ e)

-- past a document that is not alive
pub walks_past : (set : Option (ℕ → Bool)) (old : Reading) (from : Walk) (id : ℕ) (new : Reading) (to to' : Walk) → WalksTo set old from id new to → is_in set id ≡ false → to'.place ≡ to.place
    → to'.block ≡ to.block → WalksTo set old from (id + 1) new to'
walks_past set old from id new to to' w dead place block = record {
  on = omega (arith, w.on);
  dead = λ k lo hi. dead_at k lo hi;
  later = omega (arith, w.later);
  looks = rw (place, block) w.looks;
}
  where
    dead_at : (k : ℕ) → from.next ≤ k → k < id + 1 → is_in set k ≡ false
    dead_at k lo hi = (elim (nat_lt k id) as (λ y. nat_lt k id ≡ y → is_in set k ≡ false) [
      | true ↦ λ t. w.dead k lo (ltb-true _ _ t)
      | false ↦ λ t. let same : id ≡ k = omega (arith, ltb-false k id t) in subst (λ j. is_in set j ≡ false) same dead
    ]) refl

-- blocks on and on
pub looks_on : (cs ds : List Checkpoint) (r : Reading) (b : Option (Result (List ℕ) StoreError)) (mid : Reading) (b1 : Option (Result (List ℕ) StoreError)) (r' : Reading)
    (b' : Option (Result (List ℕ) StoreError))
    → LooksAlong cs r b mid b1 → LooksAlong ds mid b1 r' b' → LooksAlong (cs ++ ds) r b r' b'
looks_on [] ds r b mid b1 r' b' l m = subst (λ (x : Reading). LooksAlong ds x b r' b') l.0 (subst (λ (x : Option (Result (List ℕ) StoreError)). LooksAlong ds mid x r' b') l.1 m)
looks_on (c ∷ cs) ds r b mid b1 r' b' l m = (l.0, l.1, l.2, looks_on cs ds l.0 (Some l.1) mid b1 r' b' l.3 m)

pub range_joined : (cs : List Checkpoint) (p q n : ℕ) → p ≤ q → q ≤ n → slice_range cs p n ≡ slice_range cs p q ++ slice_range cs q n
range_joined cs p q n pq qn =
    let whole : n - p ≡ (q - p) + (n - q) = omega arith in
    let place : p + (q - p) ≡ q = omega arith in
    ap (λ k. take k (drop p cs)) whole ∙ take-add (q - p) (n - q) (drop p cs) ∙ ap (λ ys. take (q - p) (drop p cs) ++ take (n - q) ys) (drop-drop (q - p) p cs ∙ ap (λ k. drop k cs) place)

-- on through more blocks
pub walks_along : (set : Option (ℕ → Bool)) (old : Reading) (from : Walk) (id : ℕ) (mid : Reading) (to : Walk) (new : Reading) (to' : Walk)
    → WalksTo set old from id mid to → to.place ≤ to'.place → LooksAlong (slice_range mid.checkpoints to.place to'.place) mid (taken_last to) new (taken_last to') → WalksTo set old from id new to'
walks_along set old from id mid to new to' w later looks =
    let same = checkpoints_along (slice_range old.checkpoints from.place to.place) old (taken_last from) mid (taken_last to) w.looks in
    record {
      on = w.on;
      dead = w.dead;
      later = omega (arith, w.later);
      looks = rw (range_joined old.checkpoints from.place to.place to'.place w.later later)
          (looks_on _ _ old (taken_last from) mid (taken_last to) new (taken_last to') w.looks
          (subst (λ (cs : List Checkpoint). LooksAlong (slice_range cs to.place to'.place) mid (taken_last to) new (taken_last to')) same looks));
    }

-- the documents of some blocks are no more than those of all
pub docs_of_some : (doc byte : ℕ) (cs : List Checkpoint) (n : ℕ) → IsInLineFrom doc byte cs → docs_end doc (take n cs) ≤ docs_end doc cs
docs_of_some doc byte cs zero r = docs_grow doc byte cs r
docs_of_some doc byte [] (suc n) r = omega arith
docs_of_some doc byte (c ∷ cs) (suc n) r = docs_of_some c.doc_range.end c.byte_range.end cs n r.3

-- no document, no block
pub no_block : (cs : List Checkpoint) (bytes : ℕ) → Covers cs bytes → docs_end 0 cs ≤ 0 → cs ≡ []
no_block [] bytes covers le = refl
no_block (c ∷ cs) bytes covers le = absurd (let on = docs_grow c.doc_range.end c.byte_range.end cs covers.in_line.3 in let f = covers.filled.0.0 in omega arith)

-- the same, if only the next document is another
pub walks_same : (set : Option (ℕ → Bool)) (old : Reading) (from : Walk) (id : ℕ) (new : Reading) (to to' : Walk) → WalksTo set old from id new to → to'.place ≡ to.place → to'.block ≡ to.block
    → WalksTo set old from id new to'
walks_same set old from id new to to' w place block = record { on = w.on; dead = w.dead; later = omega (arith, w.later); looks = rw (place, block) w.looks }

-- one block
pub looks_one : (r : Reading) (b : Option (Result (List ℕ) StoreError)) (r' : Reading) (b' : Option (Result (List ℕ) StoreError)) (p q next : ℕ) (c : Checkpoint)
    → slice_get r.checkpoints p ≡ Some c → c.doc_range.start ≡ next → IsSomeAnd b' (λ t. IsBlockTaken r next c t r') → q ≡ p + 1 → LooksAlong (slice_range r.checkpoints p q) r b r' b'
looks_one r b r' None p q next c at start taken place = absurd taken
looks_one r b r' (Some b') p q next c at start taken place =
    let none : p - p ≡ 0 = omega arith in
    let range : slice_range r.checkpoints p q ≡ c ∷ [] = ap (slice_range r.checkpoints p) place ∙ range_more r.checkpoints p p c (omega arith) at
    ∙ ap (λ n. take n (drop p r.checkpoints) ++ c ∷ []) none in
    rw range (r', b', subst (λ n. IsBlockTaken r n c b' r') (sym start) taken, (refl, refl))

-- as many documents after as before
pub docs_stay : (set : Option (ℕ → Bool)) (old : Reading) (from : Walk) (id : ℕ) (new : Reading) (to : Walk) → WalksTo set old from id new to → num_docs new ≡ num_docs old
docs_stay set old from id new to w = ap (docs_end 0) (checkpoints_along _ _ _ _ _ w.looks)

-- a seek inside a block finds it
pub seek_inside : (doc byte : ℕ) (cs : List Checkpoint) (n id : ℕ) (c : Checkpoint) → IsInLineFrom doc byte cs → slice_get cs n ≡ Some c → c.doc_range.start ≤ id → id < c.doc_range.end
    → first_past cs id ≡ Some c
seek_inside doc byte [] n id c r e lo hi = absurd cc
seek_inside doc byte (x ∷ cs) zero id c r e lo hi = let same : x ≡ c = cc in rw (lt-ltb id x.doc_range.end (subst (λ (y : Checkpoint). id < y.doc_range.end) (sym same) hi)) (ap Some same)
seek_inside doc byte (x ∷ cs) (suc n) id c r e lo hi =
    let start = start_at x.doc_range.end x.byte_range.end cs n c r.3 e in
    let past : x.doc_range.end ≤ docs_end x.doc_range.end (take n cs) = docs_from x.doc_range.end x.byte_range.end cs n r.3 in
    rw (le-ltb id x.doc_range.end (omega arith)) (seek_inside x.doc_range.end x.byte_range.end cs n id c r.3 e lo hi)
  where
    docs_from : (doc byte : ℕ) (cs : List Checkpoint) (n : ℕ) → IsInLineFrom doc byte cs → doc ≤ docs_end doc (take n cs)
    docs_from doc byte cs zero r = omega arith
    docs_from doc byte [] (suc n) r = omega arith
    docs_from doc byte (c ∷ cs) (suc n) r = omega (arith, docs_from c.doc_range.end c.byte_range.end cs n r.3, r.0, r.2.doc_order)

pub there : (cs : List Checkpoint) (n : ℕ) → n < length cs → (c : Checkpoint) × (slice_get cs n ≡ Some c)
there [] n lt = absurd (omega arith)
there (x ∷ cs) zero lt = (x, refl)
there (x ∷ cs) (suc n) lt = there cs n (omega arith)

-- the block that a walk is in
pub record IsIn (cs : List Checkpoint) (place first id : ℕ) (c : Checkpoint) : Type 0 where
  pub some : 0 < place
  pub at : slice_get cs (place - 1) ≡ Some c
  pub seeks : first_past cs id ≡ Some c
  pub start : c.doc_range.start ≡ first

pub is_in_block : (cs : List Checkpoint) (bytes place first id : ℕ) → Covers cs bytes → place ≤ length cs → first ≡ docs_end 0 (take (place - 1) cs) → first ≤ id → id < docs_end 0 (take place cs)
    → (c : Checkpoint) × IsIn cs place first id c
is_in_block cs bytes zero first id covers few start lo hi = absurd (omega arith)
is_in_block cs bytes (suc n) first id covers few start lo hi =
    let before : suc n - 1 ≡ n = omega arith in
    let found = there cs n (omega arith) in
    let begin = start_at 0 0 cs n found.0 covers.in_line found.1 in
    let same : docs_end 0 (take (suc n - 1) cs) ≡ docs_end 0 (take n cs) = ap (λ k. docs_end 0 (take k cs)) before in
    let end : docs_end 0 (take (suc n) cs) ≡ found.0.doc_range.end = let more = docs_end-take_more 0 cs n found.0 found.1 in rw add-one at more in (
      found.0,
      record {
        some = omega arith;
        at = ap (slice_get cs) before ∙ found.1;
        seeks = seek_inside 0 0 cs n id found.0 covers.in_line found.1 (omega arith) (omega arith);
        start = omega arith;
      },
    )

-- a look-up changes neither the bytes of the data nor whether reads give them
file_after : (old new : Reading) (id : ℕ) (c : Checkpoint) (block : Result (List ℕ) StoreError) → IsBlockTaken old id c block new
    → (new.file.content ≡ old.file.content) × (new.file.honest ≡ old.file.honest)
file_after old new id c block t = same_file c old.file new.file old.cache new.cache t.came t.looked.looks_up

pub file_along : (cs : List Checkpoint) (r : Reading) (b : Option (Result (List ℕ) StoreError)) (r' : Reading) (b' : Option (Result (List ℕ) StoreError)) → LooksAlong cs r b r' b'
    → (r'.file.content ≡ r.file.content) × (r'.file.honest ≡ r.file.honest)
file_along [] r b r' b' l = (ap (λ (x : Reading). x.file.content) l.0, ap (λ (x : Reading). x.file.honest) l.0)
file_along (c ∷ cs) r b r' b' l =
    let one = file_after r l.0 c.doc_range.start c l.1 l.2 in
    let on = file_along cs l.0 (Some l.1) r' b' l.3 in
    (on.0 ∙ one.0, on.1 ∙ one.1)

-- what was taken is the data's
taken_part : (old : Reading) (c : Checkpoint) (came block : Result (List ℕ) StoreError) → IsShared came block → IfOk came (λ b. b ≡ part_of old.file.content c) → HoldsPart old.file.content block c
taken_part old c (Ok bytes) (Ok b) t part = t ∙ part
taken_part old c (Ok bytes) (Err e) t part = tt
taken_part old c (Err e) (Ok b) t part = absurd cc
taken_part old c (Err e) (Err f) t part = tt

pub holds_next : (old new : Reading) (id n k : ℕ) (c : Checkpoint) (block : Result (List ℕ) StoreError) → IsBlockTaken old id c block new → slice_get old.checkpoints n ≡ Some c → k ≡ n
    → IsTrue new.file.honest → IfSome (slice_get old.checkpoints k) (HoldsPart new.file.content block)
holds_next old new id n k c block t at same honest =
    let file = file_after old new id c block t in
    let part = taken_part old c t.came block t.taken (t.looked.honest (subst IsTrue file.1 honest)) in
    rw (same, at) (subst (λ (bytes : List ℕ). HoldsPart bytes block c) (sym file.0) part)

pub only_next : (old new : Reading) (id : ℕ) (c : Checkpoint) (block : Result (List ℕ) StoreError) → IsBlockTaken old id c block new → IfErr block (λ e. (e ≡ Read) ⊎ (e ≡ Memory))
only_next old new id c (Ok b) t = tt
only_next old new id c (Err e) t = by t.came t.looked t.taken
  where
    by : (came : Result (List ℕ) StoreError) → IsLookedUp old id c came new → IsShared came (Err e) → (e ≡ Read) ⊎ (e ≡ Memory)
    by (Ok bytes) looked taken = inr taken
    by (Err f) looked taken = let same : e ≡ f = cc in elim (why_none old new id c f looked) [ inl read ↦ inl (same ∙ read) | inr memory ↦ inr (same ∙ memory) ]

-- where a document of the block stands that was taken last
stands_there : (old new : Reading) (id first place : ℕ) (block : Option (Result (List ℕ) StoreError)) (c : Checkpoint) → IsIn old.checkpoints place first id c
    → Covers old.checkpoints (length old.file.content) → first ≤ id → new.checkpoints ≡ old.checkpoints
    → (new.file.content ≡ old.file.content) × (new.file.honest ≡ old.file.honest) → IsSome block
    → (IsTrue new.file.honest → IfSome block (λ b. IfSome (slice_get new.checkpoints (place - 1)) (HoldsPart new.file.content b)))
    → IfSome block (λ b. IfErr b (λ e. (e ≡ Read) ⊎ (e ≡ Memory))) → IsSomeAnd block (StandsIn old id first)
stands_there old new id first place None c is covers above same file some holds only = absurd cc
stands_there old new id first place (Some b) c is covers above same file some holds only =
    let held : IsTrue old.file.honest → HoldsPart old.file.content b c = λ honest.
    let part : IfSome (slice_get new.checkpoints (place - 1)) (HoldsPart new.file.content b) = holds (subst IsTrue (sym file.1) honest) in
    let part' : IfSome (slice_get old.checkpoints (place - 1)) (HoldsPart new.file.content b) =
    subst (λ (cs : List Checkpoint). IfSome (slice_get cs (place - 1)) (HoldsPart new.file.content b)) same part in
    let part'' : HoldsPart new.file.content b c = subst (λ (o : Option Checkpoint). IfSome o (HoldsPart new.file.content b)) is.at part' in
    subst (λ (bytes : List ℕ). HoldsPart bytes b c) file.0 part'' in
    record { checkpoint = c; seeks = is.seeks; start = is.start; above = above; slot_is = slot_at old id c covers is.seeks; holds = held; only = only }

-- where a document of the walk stands
pub stands_in : (set : Option (ℕ → Bool)) (old : Reading) (from : Walk) (id : ℕ) (new : Reading) (w : Walk) → WalksTo set old from id new w → Covers old.checkpoints (length old.file.content)
    → IsWalk new w → w.next ≡ id → id < w.end → IsSomeAnd (taken_last w) (StandsIn old id w.first)
stands_in set old from id new w walks covers is here inside =
    let range = slice_range old.checkpoints from.place w.place in
    let same = checkpoints_along range old (taken_last from) new (taken_last w) walks.looks in
    let file = file_along range old (taken_last from) new (taken_last w) walks.looks in
    let few : w.place ≤ length old.checkpoints = subst (λ (cs : List Checkpoint). w.place ≤ length cs) same is.few in
    let first : w.first ≡ docs_end 0 (take (w.place - 1) old.checkpoints) = subst (λ (cs : List Checkpoint). w.first ≡ docs_end 0 (take (w.place - 1) cs)) same is.first in
    let end : w.end ≡ docs_end 0 (take w.place old.checkpoints) = subst (λ (cs : List Checkpoint). w.end ≡ docs_end 0 (take w.place cs)) same is.end in
    let above = is.above in
    let found = is_in_block old.checkpoints (length old.file.content) w.place w.first id covers few first (omega arith) (omega arith) in
    let c = found.0 in
    stands_there old new id w.first w.place (taken_last w) c found.1 covers (omega arith) same file (ap is_some (taken_some w.place w.block found.1.some)) is.holds is.only

-- what it answers, by the bytes of the data
answers_by : (content : List ℕ) (c : Checkpoint) (id : ℕ) (block result : Result (List ℕ) StoreError) → HoldsPart content block c → IfErr block (λ e. (e ≡ Read) ⊎ (e ≡ Memory))
    → AnswersFrom id (id - c.doc_range.start) block result → AnswersTruly id (Some (slot (part_of content c) (id - c.doc_range.start))) result
answers_by content c id (Ok b) (Ok bytes) part only answer = ap (λ (x : List ℕ). Some (slot x (id - c.doc_range.start))) (sym part) ∙ ap Some answer
answers_by content c id (Ok b) (Err f) part only answer = elim answer [
  | inl d ↦ inr (inl (d.0, ap (λ (x : List ℕ). Some (slot x (id - c.doc_range.start))) (sym part) ∙ ap Some d.1))
  | inr m ↦ inr
      (inr (inr m))
]
answers_by content c id (Err e) (Ok bytes) part only answer = absurd cc
answers_by content c id (Err e) (Err f) part only answer = let is : f ≡ e = cc in inr (inr (elim only [ inl r ↦ inl (is ∙ r) | inr m ↦ inr (is ∙ m) ]))

pub item_is_true : (r : Reading) (id first : ℕ) (block : Option (Result (List ℕ) StoreError)) (result : Result (List ℕ) StoreError) → IsSomeAnd block (StandsIn r id first)
    → IsSomeAnd block (λ b. AnswersFrom id (id - first) b result) → IsTrue r.file.honest → AnswersTruly id (slice_get (slots (store_of r)) id) result
item_is_true r id first None result s answer honest = absurd s
item_is_true r id first (Some block) result s answer honest =
    subst (λ (o : Option Slot). AnswersTruly id o result) (sym s.slot_is)
    (answers_by r.file.content s.checkpoint id block result (s.holds honest) s.only (subst (λ n. AnswersFrom id (id - n) block result) (sym s.start) answer))

-- a document stands in a block at or past its first
pub stands_from : (r : Reading) (id first : ℕ) (block : Option (Result (List ℕ) StoreError)) → IsSomeAnd block (StandsIn r id first) → IsSome block × (first ≤ id)
stands_from r id first None s = absurd s
stands_from r id first (Some b) s = (refl, s.above)

-- what is read of an answer, by what it says of the slot
pub read_truly : {D : Type 0} (reading : List ℕ → Option D) (id : ℕ) (s : Option Slot) (answer : Result (List ℕ) StoreError) (result : Result D StoreError) → AnswersTruly id s answer
    → ReadsFrom reading answer result → ReadsTruly reading id s result
read_truly reading id s (Ok bytes) (Ok d) truly reads = record { bytes = bytes; stored = truly; reads = reads }
read_truly reading id s (Ok bytes) (Err e) truly reads = elim reads [
  | inl bad ↦ inr (inr (inl (bad.0, record { bytes = bytes; stored = truly; reads = bad.1 })))
  | inr memory ↦ inr (inr (inr (inr memory)))
]
read_truly reading id s (Err e) (Ok d) truly reads = absurd cc
read_truly reading id s (Err e) (Err f) truly reads =
    let same : f ≡ e = cc in
    elim truly [
      | inl none ↦ inl (same ∙ none.0, none.1)
      | inr others ↦ elim others [
        | inl damaged ↦ inr (inl (same ∙ damaged.0, damaged.1))
        | inr aside ↦ inr (inr (inr (elim aside [ inl read ↦ inl (same ∙ read) | inr memory ↦ inr (same ∙ memory) ])))
      ]
    ]
