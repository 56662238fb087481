-- Why segments that are merged are refused.
use Rattle.std.proofs.Common.{◌≡◌, ◌⊎◌, ⊎_elim, ℕ, zero, suc, ◌+◌, ◌<◌, ◌≤◌, ◌^◌, List, [], ◌∷◌, ◌++◌, length, take, map, Option, Some, None, refl, sym, ◌∙◌, ap, subst, arith, length-append}
use Rattle.std.specs.Prelude.{IsTrue, is_none, IfSome, Result, Err, IfErr, slice_get}
use Rattle.std.specs.List.{All, AllByRecursion, Contains, flat_map}
use Rattle.std.proofs.lemmas.List.{length-map, length-take-le}
use Rattle.store_base.proofs.ListLemmas.{all_take}
use Rattle.store_base.specs.declared.error.StoreError.TheVariants.{DamagedDocument, TooManyDocs, BlockTooLarge, OldVersion}
use Rattle.store_format.specs.Block.{Slot, doc, damaged}
use Rattle.store_format.specs.Slots.{slots}
use Rattle.store_reader.specs.Iteration.{alive, flags_of}
use Rattle.store_reader.specs.Reading.{num_docs as docs_of, store_of}
use Rattle.docstore.specs.Laws.{taken, IdsAreGivenInOrder, StackedSlotsAreCounted}
use Rattle.docstore.specs.StackingInParts.{BeginsStack}
use Rattle.docstore.specs.Writer.{Writing, num_docs, IsStoreWriter}
use Rattle.docstore.proofs.PendingLemmas.{limit}
use Rattle.store_merge.specs.declared.input.MergeInput.{MergeInput}
use Rattle.store_merge.specs.declared.merge_error.MergeError.{MergeError}
use Rattle.store_merge.specs.Bringing.{slots_brought}
use Rattle.store_merge.specs.Choice.{alive_slots}
use Rattle.store_merge.specs.Inputs.{HasWholeSet}
use Rattle.store_merge.specs.Merge.{IsHonest, IsEnded}
use Rattle.store_merge.specs.Refusals.{StopsAt, RefusesDocument, RefusesInput}
use Rattle.store_merge.proofs.HonestLemmas.{all_slots}
use Rattle.store_merge.proofs.PartLemmas.{size_documents, size_merged}
use Rattle.store_published.specs.declared.publishing.FillError.{FillError}
use Rattle.store_published.specs.declared.publishing.FillError.TheVariants.{Filling, Folder, Store}
use Rattle.store_published.specs.Outcome.{IsRefusal}
use Rattle.segmented_log.specs.Compacting.{IsWhole}
use Rattle.segmented_log.specs.declared.joining.JoinError.{JoinError}
use Rattle.segmented_log.specs.Joining.{RefusesJoin}
use Rattle.segmented_log.specs.Causes.{IsDamaged, IsFillingOf, HasTooLong}
use Rattle.segmented_log.proofs.JoinLemmas.{alive_all}
use Rattle.segmented_log.proofs.SlotLemmas.{get_contains, get_within, one_of_all, in_all, fewer_before}

-- ---- the input that was refused

-- the merge ended at an input, if it was not refused for its version
pub ended_by : (o : Option ℕ) (r : Result (Unit {0}) MergeError) (A B : ℕ → Type 0) (Ends : MergeError → Type 0) (e : MergeError) → r ≡ Err e → (e.error ≡ OldVersion → ⊥)
    → IfSome o (λ place. (r ≡ Err (record { error = OldVersion; input = place })) × A place × B place) → (o ≡ None → IfErr r Ends) → Ends e
ended_by None r A B Ends e is new old ended = subst (λ (s : Result (Unit {0}) MergeError). IfErr s Ends) is (ended refl)
ended_by (Some place) r A B Ends e is new old ended =
    let both : Err e ≡ Err (record { error = OldVersion; input = place }) = sym is ∙ old.0 in
    let same : e ≡ record { error = OldVersion; input = place } = cc both in
    absurd (new (ap (λ (d : MergeError). d.error) same))

module _ {H : Type 0} (inputs left : List (MergeInput H)) (old new : Writing) (e : MergeError) (honest : AllByRecursion IsHonest inputs) (whole : AllByRecursion IsWhole inputs)
    (h : IsEnded BeginsStack inputs left old new e) where
  honest_one : IsHonest h.named
  honest_one = one_of_all alive_slots IsHonest inputs e.input h.named h.is_named honest

  whole_one : IsWhole h.named
  whole_one = one_of_all alive_slots IsWhole inputs e.input h.named h.is_named whole

  -- all its slots are alive
  slots_are : alive_slots h.named ≡ slots (store_of h.named.reader)
  slots_are = ap (λ a. alive (slots (store_of h.named.reader)) (flags_of a)) whole_one.alive ∙ alive_all (slots (store_of h.named.reader))

  among : (id : ℕ) (s : Slot) → slice_get (slots (store_of h.named.reader)) id ≡ Some s → Contains (flat_map alive_slots inputs) s
  among id s is = in_all alive_slots inputs e.input h.named s h.is_named (subst (λ (l : List Slot). Contains l s) (sym slots_are) (get_contains (slots (store_of h.named.reader)) id s is))

  pub damaged_slot : (id : ℕ) → e.error ≡ DamagedDocument id → Contains (flat_map alive_slots inputs) damaged
  damaged_slot id is = ⊎_elim
      (λ s. absurd s.1)
      (λ c. ⊎_elim (λ item. among c.1.id damaged (item.0.1 honest_one)) (λ document. absurd document.refused) c.1.cause)
      (subst (λ d. RefusesInput BeginsStack h.named h.rest h.before new d) is h.refused)

  -- what was taken before the input
  module _ (ids : IdsAreGivenInOrder) (counted : StackedSlotsAreCounted) (empty : taken old ≡ []) where
    before_is : taken h.before ≡ flat_map alive_slots (take e.input inputs)
    before_is =
        h.taken_before.grown ∙ ap (λ l. l ++ flat_map slots_brought h.taken_before.parts) empty
        ∙ all_slots counted (take e.input inputs) h.taken_before.parts (all_take IsHonest e.input inputs honest) h.taken_before.came

    size_before : num_docs h.before + length (alive_slots h.named) ≤ length (flat_map alive_slots inputs)
    size_before = omega (arith, ids h.before, ap length before_is, fewer_before alive_slots inputs e.input h.named h.is_named)

    copied_many : (s : StopsAt (flags_of h.named.alive) h.named.reader h.rest.reader h.before new TooManyDocs) → RefusesDocument s.id h.named.reader s.before new TooManyDocs
        → 2 ^ 32 ≤ length (flat_map alive_slots inputs)
    copied_many s document =
        let all = slots (store_of h.named.reader) in
        let within = get_within all s.id (doc document.bytes) (document.came honest_one) in
        let some : alive (take s.id all) (flags_of h.named.alive) ≡ take s.id all = ap (λ a. alive (take s.id all) (flags_of a)) whole_one.alive ∙ alive_all (take s.id all) in
        omega (
          arith,
          document.refused.1,
          ids s.before,
          ids h.before,
          ap length s.copied.grown,
          length-append (taken h.before) (map doc s.copied.docs),
          length-map s.copied.docs doc,
          s.copied.came.count,
          ap length some,
          length-take-le s.id all (omega (arith, within)),
          within,
          ap length slots_are,
          size_before,
        )

    pub too_many : e.error ≡ TooManyDocs → 2 ^ 32 ≤ length (flat_map alive_slots inputs)
    too_many is = ⊎_elim
        (λ s. omega (arith, s.1.0.many, whole_one.counted, ap length slots_are, size_before))
        (λ c. ⊎_elim (λ item. absurd item.0) (λ document. copied_many c.1 document) c.1.cause)
        (subst (λ d. RefusesInput BeginsStack h.named h.rest h.before new d) is h.refused)

  copied_long : (s : StopsAt (flags_of h.named.alive) h.named.reader h.rest.reader h.before new BlockTooLarge) → RefusesDocument s.id h.named.reader s.before new BlockTooLarge
      → old.block_size ≡ 16384 → IsStoreWriter new → HasTooLong (flat_map alive_slots inputs)
  copied_long s document size sound =
      let light = (subst IsStoreWriter document.refused.1 sound).light in
      let long = limit s.before.pending document.bytes s.before.block_size light document.refused.0.large in
      let same : s.before.block_size ≡ 16384 =
      ap (λ (w : Writing). w.block_size) s.copied.after ∙ size_documents h.before s.copied.docs
      ∙ ap (λ (w : Writing). w.block_size) h.taken_before.after ∙ size_merged old h.taken_before.parts ∙ size in
      (document.bytes, among s.id (doc document.bytes) (document.came honest_one), omega (arith, long, same))

  pub too_long : e.error ≡ BlockTooLarge → old.block_size ≡ 16384 → IsStoreWriter new → HasTooLong (flat_map alive_slots inputs)
  too_long is size sound = ⊎_elim
      (λ s. absurd s.1)
      (λ c. ⊎_elim (λ item. absurd item.0) (λ document. copied_long c.1 document size sound) c.1.cause)
      (subst (λ d. RefusesInput BeginsStack h.named h.rest h.before new d) is h.refused)

-- ---- inputs without sets

pub all_none : {H : Type 0} (xs : List (MergeInput H)) → AllByRecursion IsWhole xs → All (λ x. IsTrue (is_none x.alive)) xs
all_none [] all k d low = absurd (omega (arith, low))
all_none (x ∷ xs) all zero d low = ap is_none all.0.alive
all_none (x ∷ xs) all (suc k) d low = all_none xs all.1 k d (omega (arith, low))

no_set : {A : Type 0} (P : A → Type 0) (o : Option A) → IsTrue (is_none o) → IfSome o P
no_set P None is = tt
no_set P (Some a) is = let no : ⊥ = cc in absurd no

pub none_sets : {H : Type 0} (xs : List (MergeInput H)) → All (λ x. IsTrue (is_none x.alive)) xs → AllByRecursion HasWholeSet xs
none_sets [] all = tt
none_sets (x ∷ xs) all = (no_set (λ set. docs_of x.reader ≤ length set) x.alive (all 0 x (omega arith)), none_sets xs (λ k d low. all (suc k) d (omega (arith, low))))

-- ---- why a joined segment was not published

module _ {H : Type 0} (inputs : List (MergeInput H)) (old new : ℕ) (honest : AllByRecursion IsHonest inputs) (whole : AllByRecursion IsWhole inputs) where
  abbrev Refuses : JoinError → Type 0
  Refuses e = AllByRecursion IsHonest inputs → AllByRecursion IsWhole inputs → RefusesJoin 16384 (flat_map alive_slots inputs) e.error

  pub join_damaged : (e : FillError JoinError) → IsRefusal Refuses old new e → IsFillingOf (λ d. IsDamaged d.error) e → Contains (flat_map alive_slots inputs) damaged
  join_damaged (Filling e) refused is = (refused honest whole).damaged is
  join_damaged (Folder e) refused is = absurd is
  join_damaged (Store e) refused is = absurd is

  pub join_full : (e : FillError JoinError) → IsRefusal Refuses old new e → length (flat_map alive_slots inputs) < 2 ^ 32
      → IsFillingOf (λ d. (d.error ≡ TooManyDocs) ⊎ (d.error ≡ BlockTooLarge)) e → HasTooLong (flat_map alive_slots inputs)
  join_full (Filling e) refused few is =
      let refusal = refused honest whole in
      ⊎_elim (λ many. absurd (omega (arith, few, refusal.many many))) (λ large. refusal.large large refl) is
  join_full (Folder e) refused few is = absurd is
  join_full (Store e) refused few is = absurd is
