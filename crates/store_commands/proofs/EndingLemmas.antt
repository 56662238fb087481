-- Which documents were given before a giving ended.
use Rattle.std.proofs.Common.{◌≡◌, ℕ, suc, ◌+◌, ◌-◌, ◌<◌, ◌≤◌, Bool, true, List, ◌∷◌, ◌++◌, length, map, take, Option, Some, refl, sym, ap, ◌∙◌, subst, arith}
use Rattle.std.proofs.Common.{inl, inr, false, length-append, append_assoc}
use Rattle.std.specs.Prelude.{IsTrue, slice_get, slice_range, get_or, nat_lt, ◌⊎◌, Result, Ok, Err, IfErr, IsErrOf, IsOkAnd, IsNone}
use Rattle.std.specs.List.{range_with_len}
use Rattle.std.proofs.lemmas.List.{take_at}
use Rattle.std.proofs.lemmas.Option.{slice_get-get_or}
use Rattle.std.proofs.Math.Seq.{get_or-append_seam}
use Rattle.std.proofs.lemmas.List.FromFn.{length-map-range_with_len}
use Rattle.std.proofs.lemmas.Bool.{ltb-true, ltb-false}
use Rattle.docstore.proofs.TakenLemmas.{slots-append, length-slots}
use Rattle.store_format.proofs.StoreLemmas.{docs_in-cons, docs_in-append}
use Rattle.layered_index.specs.declared.checkpoint.Checkpoint.{Checkpoint}
use Rattle.layered_index.specs.Checkpoint.{docs_end, first_past}
use Rattle.store_base.specs.Counts.{HasRisen}
use Rattle.store_base.specs.declared.error.StoreError.{StoreError}
use Rattle.store_base.specs.declared.error.StoreError.TheVariants.{Read, Memory}
use Rattle.store_format.specs.Block.{Slot, slot}
use Rattle.store_format.specs.Slots.{slots}
use Rattle.store_format.specs.StoreFile.{StoreBlock, docs_in}
use Rattle.store_reader.specs.declared.data_part.DataPart.{DataPart}
use Rattle.store_reader.specs.Parts.{place_of}
use Rattle.store_reader.specs.Reading.{Reading, num_docs, store_of}
use Rattle.store_commands.specs.declared.block_walk.GivingError.{GivingError}
use Rattle.store_commands.specs.declared.block_walk.GivingError.TheVariants.{Store, Target}
use Rattle.store_commands.specs.Checks.{slots_in}
use Rattle.store_commands.specs.Documents.{numbered, numbered_from, TakesSlots}
use Rattle.store_commands.specs.Giving.{RefusesSlot, EndsBlock, HasTakenTo, EndsAtBlock, EndsByStore, EndsGiving}
use Rattle.store_commands.proofs.AliveLemmas.{numbered_joined}
use Rattle.store_commands.proofs.GivingLemmas.{HasGiven, next_in, slots_split}
use Rattle.store_commands.proofs.TakingLemmas.{takes_more}
use Rattle.store_commands.proofs.WalkLemmas.{IsNext, docs_of_all}

-- ---- the slots below an id

below_block : (front rest : List StoreBlock) (id : ℕ) → id ≡ docs_in front → take id (slots (front ++ rest)) ≡ slots front
below_block front rest id e =
    let size : length (slots front) ≡ id = omega (arith, length-slots front, e) in
    ap (take id) (slots-append front rest) ∙ take_at (slots front) (slots rest) id size

-- the slots from a position of a block on
slots_after : (b : StoreBlock) (rest : List StoreBlock) (position : ℕ) → List Slot
slots_after b rest position = map (slot b.bytes) (range_with_len (position + 1) (b.count - (position + 1))) ++ slots rest

cut_at : (front rest : List StoreBlock) (b : StoreBlock) (position : ℕ) → position < b.count
    → slots (front ++ b ∷ rest) ≡ (slots front ++ slots_in b.bytes position) ++ (slot b.bytes position ∷ slots_after b rest position)
unfolding slots_after
cut_at front rest b position lt =
    let more : b.count ≡ position + suc (b.count - (position + 1)) = omega arith in
    let here : slots_in b.bytes b.count ≡ slots_in b.bytes position ++ (slot b.bytes position ∷ map (slot b.bytes) (range_with_len (position + 1) (b.count - (position + 1)))) =
    ap (slots_in b.bytes) more ∙ slots_split b.bytes position (suc (b.count - (position + 1))) in
    slots-append front (b ∷ rest)
    ∙ ap (λ (xs : List Slot). slots front ++ (xs ++ slots rest)) here
    ∙ ap (λ (xs : List Slot). slots front ++ xs)
    (append_assoc (slots_in b.bytes position) (slot b.bytes position ∷ map (slot b.bytes) (range_with_len (position + 1) (b.count - (position + 1)))) (slots rest))
    ∙ sym (append_assoc (slots front) (slots_in b.bytes position) (slot b.bytes position ∷ slots_after b rest position))

slot_following : (xs ys : List Slot) (s : Slot) (id : ℕ) → id ≡ length xs → slice_get (xs ++ s ∷ ys) id ≡ Some s
slot_following xs ys s id e =
    let all = length-append xs (s ∷ ys) in
    slice_get-get_or (xs ++ s ∷ ys) id s (omega arith)
    ∙ ap (λ (k : ℕ). Some (get_or (xs ++ s ∷ ys) k s)) e
    ∙ ap Some (get_or-append_seam xs s ys s)

-- ---- where a giving ends

-- the set's documents of the blocks that were given, and no more
pub ends_at_block : {T : Type 0} (takes : T → ℕ → List ℕ → T → Type 0) (set : Option (ℕ → Bool)) (r now : Reading) (next : ℕ) (old new : T) → HasGiven takes set r now next old new → next < num_docs r
    → EndsAtBlock takes set r old new
ends_at_block takes set r now next old new h lt = (
  next,
  record {
    below = lt;
    given = λ honest.
        let all : take next (slots (store_of r)) ≡ slots h.front = ap (λ (bs : List StoreBlock). take next (slots bs)) h.come.parts ∙ below_block h.front h.come.rest next h.come.next_is in
        subst (λ (xs : List Slot). TakesSlots takes (numbered xs set) old new) (sym all) (h.known honest);
  },
)

-- and those of the next block before a position
id_in : {T : Type 0} (takes : T → ℕ → List ℕ → T → Type 0) (set : Option (ℕ → Bool)) (r now : Reading) (next position : ℕ) (old middle : T)
    (part : DataPart) (h : HasGiven takes set r now next old middle)
    (n : IsNext r h.front next part) → part.ids.start + position ≡ length (slots h.front ++ slots_in n.block.bytes position)
id_in takes set r now next position old middle part h n =
    let size = length-append (slots h.front) (slots_in n.block.bytes position) in
    omega (arith, size, length-slots h.front, length-map-range_with_len (slot n.block.bytes) 0 position, n.first, h.come.next_is)

cut_store : {T : Type 0} (takes : T → ℕ → List ℕ → T → Type 0) (set : Option (ℕ → Bool)) (r now : Reading) (next position : ℕ) (old middle : T)
    (part : DataPart) (h : HasGiven takes set r now next old middle)
    (n : IsNext r h.front next part) → position < n.block.count
    → slots (store_of r) ≡ (slots h.front ++ slots_in n.block.bytes position) ++ (slot n.block.bytes position ∷ slots_after n.block n.rest position)
cut_store takes set r now next position old middle part h n lt = ap slots n.parts ∙ cut_at h.front n.rest n.block position lt

slot_at : {T : Type 0} (takes : T → ℕ → List ℕ → T → Type 0) (set : Option (ℕ → Bool)) (r now : Reading) (next position : ℕ) (old middle : T)
    (part : DataPart) (h : HasGiven takes set r now next old middle)
    (n : IsNext r h.front next part) → position < n.block.count → IsTrue r.file.honest → slice_get (slots (store_of r)) (part.ids.start + position) ≡ Some (slot part.bytes position)
slot_at takes set r now next position old middle part h n lt honest =
    ap (λ (xs : List Slot). slice_get xs (part.ids.start + position)) (cut_store takes set r now next position old middle part h n lt)
    ∙ slot_following (slots h.front ++ slots_in n.block.bytes position) (slots_after n.block n.rest position) (slot n.block.bytes position) (part.ids.start + position)
    (id_in takes set r now next position old middle part h n)
    ∙ ap (λ (xs : List ℕ). Some (slot xs position)) (sym (n.bytes honest))

given_to : {T : Type 0} (takes : T → ℕ → List ℕ → T → Type 0) (set : Option (ℕ → Bool)) (r now : Reading) (next position : ℕ) (old middle new : T)
    (part : DataPart) (h : HasGiven takes set r now next old middle)
    (n : IsNext r h.front next part) → position < n.block.count → TakesSlots takes (numbered_from part.ids.start (slots_in part.bytes position) set) middle new
    → HasTakenTo takes set r (part.ids.start + position) old new
given_to takes set r now next position old middle new part h n lt taken = record {
  below = omega (arith, docs_of_all r h.covers, ap docs_in n.parts, docs_in-append h.front (n.block ∷ n.rest), docs_in-cons n.block n.rest, n.first, h.come.next_is);
  given = λ honest.
      let front = slots h.front ++ slots_in n.block.bytes position in
      let all : take (part.ids.start + position) (slots (store_of r)) ≡ front =
      ap (take (part.ids.start + position)) (cut_store takes set r now next position old middle part h n lt)
      ∙ take_at front (slot n.block.bytes position ∷ slots_after n.block n.rest position) (part.ids.start + position) (sym (id_in takes set r now next position old middle part h n)) in
      let id : part.ids.start ≡ 0 + length (slots h.front) = omega (arith, n.first, h.come.next_is, length-slots h.front) in
      let some : numbered_from part.ids.start (slots_in part.bytes position) set ≡ numbered_from (0 + length (slots h.front)) (slots_in n.block.bytes position) set =
      ap (λ (k : ℕ). numbered_from k (slots_in part.bytes position) set) id
      ∙ ap (λ (xs : List ℕ). numbered_from (0 + length (slots h.front)) (slots_in xs position) set) (n.bytes honest) in
      let joined : numbered front set ≡ numbered (slots h.front) set ++ numbered_from part.ids.start (slots_in part.bytes position) set =
      numbered_joined 0 (slots h.front) (slots_in n.block.bytes position) set ∙ ap (λ (ys : List (ℕ × Slot)). numbered (slots h.front) set ++ ys) (sym some) in
      subst (λ (xs : List (ℕ × Slot)). TakesSlots takes xs old new) (sym (ap (λ (xs : List Slot). numbered xs set) all ∙ joined))
      (takes_more takes old middle new (numbered (slots h.front) set) (numbered_from part.ids.start (slots_in part.bytes position) set) (h.known honest) taken);
}

pub ends_in_block : {T E : Type 0} (takes refuses : T → ℕ → List ℕ → T → Type 0) (set : Option (ℕ → Bool)) (r now read : Reading) (next : ℕ) (old middle new : T) (part : DataPart) (e : GivingError E)
    → HasGiven takes set r now next old middle
    → Some (place_of part) ≡ first_past now.checkpoints next
    → (IsTrue now.file.honest → part.bytes ≡ slice_range now.file.content part.start (part.start + length part.bytes))
    → read.file.failures ≡ r.file.failures
    → EndsBlock takes refuses set part.ids.start part.bytes (part.ids.end - part.ids.start) middle new e
    → EndsGiving takes refuses set r read old new e
ends_in_block {T} {E} takes refuses set r now read next old middle new part e h seeks given steady b = by e b.cause
  where
    n : IsNext r h.front next part
    n = next_in takes set r now next old middle part h seeks given

    lt : b.position < n.block.count
    lt = omega (arith, b.below, n.count)

    by : (e : GivingError E) → RefusesSlot refuses (part.ids.start + b.position) (slot part.bytes b.position) b.before new e → EndsGiving takes refuses set r read old new e
    by (Store s) c = subst (EndsByStore takes set r read old new) (sym c.0) (
      record {
        before = subst (HasTakenTo takes set r (part.ids.start + b.position) old) (sym c.2) (given_to takes set r now next b.position old middle b.before part h n lt b.given);
        kept = b.kept;
        is = λ honest. slot_at takes set r now next b.position old middle part h n lt honest ∙ ap (λ (x : Slot). Some x) c.1;
      },
      steady,
    )
    by (Target t) c = (
      record {
        id = part.ids.start + b.position;
        middle = b.before;
        before = given_to takes set r now next b.position old middle b.before part h n lt b.given;
        kept = b.kept;
        bytes = c.0;
        is = λ honest. slot_at takes set r now next b.position old middle part h n lt honest ∙ ap (λ (x : Slot). Some x) c.1;
        refused = c.2;
      },
      steady,
    )

-- what an Ok says of the count of failures
pub steady_of : {A P : Type 0} (x : A) → (let came : Result A StoreError = Ok x in IsErrOf came Read ⊎ P) → P
steady_of x (inl b) = absurd cc
steady_of x (inr p) = p

-- a block that does not come
pub ends_by_read : {T : Type 0} (E : Type 0) (takes refuses : T → ℕ → List ℕ → T → Type 0) (set : Option (ℕ → Bool)) (r now read : Reading) (next : ℕ)
    (old new : T) (result : Result (Option DataPart) StoreError) (e : StoreError)
    → HasGiven takes set r now next old new → now.file.failures ≡ r.file.failures → result ≡ Err e → IfErr result (λ x. (x ≡ Read) ⊎ (x ≡ Memory))
    → (IsErrOf result Read → HasRisen now.file.failures read.file.failures) → IsErrOf result Read ⊎ (read.file.failures ≡ now.file.failures) → (num_docs now ≤ next → IsOkAnd result IsNone)
    → EndsGiving {T = T} {E = E} takes refuses set r read old new (Store e)
ends_by_read E takes refuses set r now read next old new (Ok x) e h f is causes told steady none = absurd cc
ends_by_read {T} E takes refuses set r now read next old new (Err x) e h f is causes told steady none =
    subst (λ (y : StoreError). EndsGiving {T = T} {E = E} takes refuses set r read old new (Store y)) same (by x causes told steady)
  where
    same : x ≡ e
    same = cc

    docs : num_docs now ≡ num_docs r
    docs = ap (λ (cs : List Checkpoint). docs_end 0 cs) h.same.checkpoints

    below : next < num_docs r
    below = (elim (nat_lt next (num_docs r)) as (λ b. nat_lt next (num_docs r) ≡ b → next < num_docs r) [
      | true ↦ λ t. ltb-true next (num_docs r) t
      | false ↦ λ t. absurd (let le = ltb-false next (num_docs r) t in none (omega (arith, le, docs)))
    ]) refl

    at : EndsAtBlock takes set r old new
    at = ends_at_block takes set r now next old new h below

    failed : StoreError → Result (Option DataPart) StoreError
    failed y = Err y

    by : (y : StoreError) → (y ≡ Read) ⊎ (y ≡ Memory) → (IsErrOf (failed y) Read → HasRisen now.file.failures read.file.failures)
        → IsErrOf (failed y) Read ⊎ (read.file.failures ≡ now.file.failures) → EndsGiving {T = T} {E = E} takes refuses set r read old new (Store y)
    by y (inl is) risen stays =
        subst (λ (z : StoreError). EndsGiving {T = T} {E = E} takes refuses set r read old new (Store z)) (sym is)
        (at, subst (λ (n : ℕ). HasRisen n read.file.failures) f (risen (ap (λ (z : StoreError). failed z) is)))
    by y (inr is) risen (inl bad) = absurd cc
    by y (inr is) risen (inr stays) = subst (λ (z : StoreError). EndsGiving {T = T} {E = E} takes refuses set r read old new (Store z)) (sym is) (at, stays ∙ f)
