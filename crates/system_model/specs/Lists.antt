-- Each list of changes that calls can make leaves a folder of which all holds that holds at every moment.
use Rattle.std.proofs.Common.{◌≡◌, ℕ, true, List, [], ◌∷◌, Option, Some, None, inl, inr, refl, sym, subst, arith, length}
use Rattle.std.specs.Prelude.{IsSome}
use Rattle.store_folder.specs.Folder.{Look}
use Rattle.store_files.specs.Disk.{Change, Created, Appended, Cut, FileSynced, SyncFailed, Moved, Removed, FolderSynced}
use Rattle.store_files.specs.Disk.{Disk, after, replay, IsSound}
use Rattle.system_model.specs.Made.{empty, AreMade}
use Rattle.system_model.specs.Possible.{Stands, empty_stands, created_stands, appended_stands, cut_stands, synced_stands, failed_stands, moved_stands, removed_stands, entries_stand}

there : (x : Option ℕ) → IsSome x → (f : ℕ) × (x ≡ Some f)
there None is = let no : ⊥ = cc in absurd no
there (Some f) is = (f, refl)

cut_again : (f g len : ℕ) (part : List ℕ) (d : Disk) → Stands d → g ≡ f → len ≡ length (d.bytes f) → Stands (after (Cut f len) (after (Appended g part) d))
cut_again f g len part d was same long =
    subst (λ (k : ℕ). Stands (after (Cut f len) (after (Appended k part) d))) (sym same)
    (subst (λ (k : ℕ). Stands (after (Cut f k) (after (Appended f part) d))) (sym long) (cut_stands f part d was))

stand : (changes : List Change) → AreMade changes → Stands (replay changes empty)
stand [] made = empty_stands
stand (Created name ∷ earlier) made = created_stands name (replay earlier empty) (stand earlier made)
stand (Appended f more ∷ earlier) made = appended_stands f more (replay earlier empty) (stand earlier made)
stand (Cut f len ∷ []) made = absurd made.0
stand (Cut f len ∷ Created name ∷ earlier) made = absurd made.0
stand (Cut f len ∷ Appended g part ∷ earlier) made = cut_again f g len part (replay earlier empty) (stand earlier made.1) made.0.0 made.0.1
stand (Cut f len ∷ Cut g other ∷ earlier) made = absurd made.0
stand (Cut f len ∷ FileSynced g ∷ earlier) made = absurd made.0
stand (Cut f len ∷ SyncFailed g bytes ∷ earlier) made = absurd made.0
stand (Cut f len ∷ Moved from to ∷ earlier) made = absurd made.0
stand (Cut f len ∷ Removed name ∷ earlier) made = absurd made.0
stand (Cut f len ∷ FolderSynced ∷ earlier) made = absurd made.0
stand (FileSynced f ∷ earlier) made = synced_stands f (replay earlier empty) (stand earlier made)
stand (SyncFailed f bytes ∷ earlier) made =
    subst (λ (b : List ℕ). Stands (after (SyncFailed f b) (replay earlier empty))) (sym made.0) (failed_stands f (replay earlier empty) (stand earlier made.1))
stand (Moved from to ∷ earlier) made =
    let file = there ((replay earlier empty).file_of from) made.0 in
    moved_stands from to file.0 (replay earlier empty) (stand earlier made.2) file.1 made.1
stand (Removed name ∷ earlier) made = removed_stands name (replay earlier empty) (stand earlier made)
stand (FolderSynced ∷ earlier) made = entries_stand (replay earlier empty) (stand earlier made)

counts : (changes : List Change) (t : ℕ) (c : Look) → (replay changes empty).leaves c → (replay changes empty).left_since t c
counts [] t c left = left
counts (change ∷ earlier) t c left = inr left

is_now : (changes : List Change) (c : Look) → (replay changes empty).left_since (replay changes empty).moment c → (replay changes empty).leaves c
is_now [] c since = since
is_now (change ∷ earlier) c since = elim since [
  | inl past ↦ let no : ⊥ = omega (arith, past.0) in absurd no
  | inr left ↦ left
]

pub possible : (changes : List Change) → AreMade changes → IsSound true (replay changes empty)
possible changes made = record {
  possible = λ h. (stand changes made).possible;
  counts_now = λ t c le left. counts changes t c left;
  only_now = is_now changes;
}
