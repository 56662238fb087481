-- What one call makes of a log in a folder, and what a crash leaves meanwhile.
use Rattle.std.proofs.Common.{◌≡◌, inl, inr, ⊎_elim, ℕ, ◌+◌, List, [], ◌∷◌, ◌++◌, length, map, refl, sym, ◌∙◌, ap, subst, arith}
use Rattle.std.proofs.lemmas.List.{append-nil}
use Rattle.store_folder.specs.Folder.{Look}
use Rattle.store_format.specs.Block.{Slot, doc}
use Rattle.segmented_log.specs.declared.commit.Commit.{Commit}
use Rattle.segmented_log.specs.declared.runs.Call.{Call}
use Rattle.segmented_log.specs.declared.runs.Call.TheVariants.{Sync, DropBefore}
use Rattle.segmented_log.specs.Dropping.{IsRest, DropsTo}
use Rattle.segmented_log.specs.Log.{KeepsOrAdds}
use Rattle.segmented_log.specs.Runs.{batches_by, slots_of, dropped_by, Makes, HasBeginning}
use Rattle.segmented_log.proofs.DropLemmas.{rest_itself}
use Rattle.segmented_log.proofs.RunLemmas.{Records, makes_none, has_itself}

-- calls that sync no record and drop none
pub makes_same : (calls : List Call) (pending : Records) (first last : ℕ) (kept few : List Slot) → slots_of (batches_by pending calls) ≡ [] → last ≡ first → few ≡ kept
    → Makes calls pending first kept last few
makes_same calls pending first last kept few none same same_slots =
    let number = dropped_by (first + length kept) pending calls in
    let all : kept ≡ kept ++ slots_of (batches_by pending calls) = sym (append-nil kept) ∙ ap (λ (l : List Slot). kept ++ l) (sym none) in
    subst (λ (n : ℕ). Makes calls pending first kept n few) (sym same)
    (subst (λ (l : List Slot). Makes calls pending first kept first l) (sym same_slots) (subst (λ (l : List Slot). IsRest first l number first kept) all (rest_itself first number kept)))

pub makes_synced : (pending : Records) (first last : ℕ) (kept few : List Slot) → last ≡ first → few ≡ kept ++ map doc pending → Makes (Sync ∷ []) pending first kept last few
makes_synced pending first last kept few same same_slots =
    subst (λ (n : ℕ). Makes (Sync ∷ []) pending first kept n few) (sym same)
    (subst (λ (l : List Slot). Makes (Sync ∷ []) pending first kept first l) (sym same_slots)
    (subst (λ (l : Records). IsRest first (kept ++ map doc l) 0 first (kept ++ map doc pending)) (sym (append-nil pending)) (rest_itself first 0 (kept ++ map doc pending))))

pub makes_dropped : (pending : Records) (first number new_first : ℕ) (kept rest : List Slot) → IsRest first kept number new_first rest
    → Makes (DropBefore number ∷ []) pending first kept new_first rest
makes_dropped pending first number new_first kept rest one =
    subst (λ (l : List Slot). IsRest first l (dropped_by (first + length kept) pending (DropBefore number ∷ [])) new_first rest) (sym (append-nil kept)) (record {
      grows = one.grows;
      before = omega (arith, one.before, one.within);
      within = one.within;
      slots_are = one.slots_are;
    })

-- a batch that is written
pub has_or_adds : (commit : Commit) (first : ℕ) (kept : List Slot) (pending : Records) (c : Look) → KeepsOrAdds commit first kept pending c → HasBeginning commit first kept pending (Sync ∷ []) c
has_or_adds commit first kept pending c keeps =
    ⊎_elim (λ same. has_itself commit first kept pending (Sync ∷ []) c same)
    (λ others. ⊎_elim
    (λ more. let both : HasBeginning commit first kept pending (Sync ∷ []) c = record {
      made = Sync ∷ [];
      others = [];
      all = refl;
      new_first = first;
      rest = kept ++ map doc pending;
      makes = makes_synced pending first first kept (kept ++ map doc pending) refl refl;
      log = inl more;
    } in both)
    (λ forged. let after : HasBeginning commit first kept pending (Sync ∷ []) c = record {
      made = [];
      others = Sync ∷ [];
      all = refl;
      new_first = first;
      rest = kept;
      makes = makes_none pending first kept;
      log = inr (record { batch = pending; others = []; next = refl; forged = forged });
    } in after)
    others)
    keeps

-- segments that are removed
pub has_dropped : (commit : Commit) (first number : ℕ) (kept : List Slot) (pending : Records) (c : Look) → DropsTo first kept number c
    → HasBeginning commit first kept pending (DropBefore number ∷ []) c
has_dropped commit first number kept pending c drops = record {
  made = DropBefore number ∷ [];
  others = [];
  all = refl;
  new_first = drops.new_first;
  rest = drops.rest;
  makes = makes_dropped pending first number drops.new_first kept drops.rest drops.is_rest;
  log = inl drops.log;
}

-- ---- errors
