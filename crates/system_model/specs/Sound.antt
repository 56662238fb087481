-- What was made in a system in memory is possible, and what its mark claims is so where nothing was made.
use Rattle.std.proofs.Common.{◌≡◌, ◌≢◌, ℕ, Bool, true, false, List, [], ◌∷◌, None, refl, sym, subst, nat_eq}
use Rattle.std.specs.Prelude.{if◌then◌else◌, ◌&&◌, not, is_some}
use lib.Pointwise.{pointwise}
use Rattle.store_files.specs.Disk.{Change, Created, Appended, Cut, FileSynced, SyncFailed, Moved, Removed, FolderSynced}
use Rattle.store_files.specs.Disk.{replay, IsPossible, IsSound}
use Rattle.store_files.specs.Known.{Knows, AreSo}
use Rattle.store_files.specs.Mark.{claimed, claims_entries, claims_of}
use Rattle.store_files.specs.declared.knowledge.Standing.{Standing}
use Rattle.store_files.proofs.KnowledgeLemmas.{equal}
use Rattle.system_model.specs.Made.{empty, AreMade}
use Rattle.system_model.specs.Lists.{possible}
use Rattle.system_model.specs.System.{MemDisk, can_be_made, are_made, syncs_of, changes_in, WasSo}

pub both : (a b : Bool) → (a && b) ≡ true → (a ≡ true) × (b ≡ true)
both true b e = (refl, e)
both false b e = let no : ⊥ = cc in absurd no

is_not : (b : Bool) → not b ≡ true → b ≡ false
is_not false e = refl
is_not true e = let no : ⊥ = cc in absurd no

moved_apart : (from to : List ℕ) → not (pointwise nat_eq from to) ≡ true → from ≢ to
moved_apart from to e q = let is = equal from to q in let is_no = is_not (pointwise nat_eq from to) e in let no : ⊥ = cc in absurd no

pub made_so : (changes : List Change) → are_made changes ≡ true → AreMade changes
made_so [] e = tt
made_so (Created name ∷ earlier) e = made_so earlier e
made_so (Appended f more ∷ earlier) e = made_so earlier e
made_so (Cut f len ∷ earlier) e = let no : ⊥ = cc in absurd no
made_so (FileSynced f ∷ earlier) e = made_so earlier e
made_so (SyncFailed f bytes ∷ earlier) e = let no : ⊥ = cc in absurd no
made_so (Moved from to ∷ earlier) e =
    let is = both (can_be_made (Moved from to) (replay earlier empty)) (are_made earlier) e in
    let can = both (is_some ((replay earlier empty).file_of from)) (not (pointwise nat_eq from to)) is.0 in
    (can.0, moved_apart from to can.1, made_so earlier is.1)
made_so (Removed name ∷ earlier) e = made_so earlier e
made_so (FolderSynced ∷ earlier) e = made_so earlier e

pub stands_possible : (changes : List Change) → are_made changes ≡ true → IsPossible (replay changes empty)
stands_possible changes e = (possible changes (made_so changes e)).possible refl

-- a folder of which only syncs were made
pub synced_or_not : (P : List Change → Type 0) (b : Bool) (cs : List Change) → P cs → P (FolderSynced ∷ cs) → P (if b then FolderSynced ∷ cs else cs)
synced_or_not P true cs without with_it = with_it
synced_or_not P false cs without with_it = without

syncs_made : (paths : List (List ℕ)) (d : List ℕ) → AreMade (syncs_of paths d)
syncs_made [] d = tt
syncs_made (path ∷ paths) d = synced_or_not AreMade (pointwise nat_eq path d) (syncs_of paths d) (syncs_made paths d) (syncs_made paths d)

pub changes_are_sound : (s : MemDisk) (d : List ℕ) → IsSound true (replay (changes_in s d) empty)
changes_are_sound s d = of_folder (pointwise nat_eq s.folder d) (are_made s.changes) refl
  where
    of_folder : (here made : Bool) → made ≡ are_made s.changes → IsSound true (replay (if here then (if made then s.changes else []) else syncs_of s.others d) empty)
    of_folder true true e = possible s.changes (made_so s.changes (sym e))
    of_folder true false e = possible [] tt
    of_folder false made e = possible (syncs_of s.others d) (syncs_made s.others d)

-- ---- what is claimed of a folder in which nothing was made

no_files : (paths : List (List ℕ)) (d n : List ℕ) → (replay (syncs_of paths d) empty).file_of n ≡ None
no_files [] d n = refl
no_files (path ∷ paths) d n =
    synced_or_not (λ (cs : List Change). (replay cs empty).file_of n ≡ None) (pointwise nat_eq path d) (syncs_of paths d) (no_files paths d n) (no_files paths d n)

all_kept : (paths : List (List ℕ)) (d n : List ℕ) → (replay (syncs_of paths d) empty).kept n
all_kept [] d n = tt
all_kept (path ∷ paths) d n = synced_or_not (λ (cs : List Change). (replay cs empty).kept n) (pointwise nat_eq path d) (syncs_of paths d) (all_kept paths d n) tt

pub knows_synced : (known : List ℕ → Standing) (entries : Bool) (paths : List (List ℕ)) (d : List ℕ) → Knows known entries (replay (syncs_of paths d) empty)
knows_synced known entries paths d = record {
  trusted = λ n ne f at. let none = no_files paths d n in let no : ⊥ = cc in absurd no;
  synced = λ n bytes is holds. let none = no_files paths d n in let at = holds.1 in let no : ⊥ = cc in absurd no;
  all_entries = λ all n. all_kept paths d n;
}

pub knows_empty : (known : List ℕ → Standing) (entries : Bool) → Knows known entries empty
knows_empty known entries = knows_synced known entries [] []

pub first_so : (s : MemDisk) (d : List ℕ) → changes_in s d ≡ [] → WasSo s d
first_so s d unchanged =
    subst (λ (made : List Change). AreSo (claims_of s.mark) (replay made empty)) (sym unchanged) (knows_empty (claimed s.mark) (claims_entries s.mark.kind))
