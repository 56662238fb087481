-- What the calls that were made to a folder that may tear tell of its files.
use Rattle.std.proofs.Common.{◌≡◌, ◌≢◌, ◌⊎◌, inl, inr, ℕ, Bool, true, false, List, [], ◌∷◌, ◌++◌, Option, Some, None, refl, sym, ◌∙◌, ap, subst, string_bytes, nat_eq}
use Rattle.std.specs.Prelude.{if◌then◌else◌, ◌&&◌, IsSome, unwrap_or}
use Rattle.std.specs.Cmp.Lexicographic.{same_text, other_text}
use Rattle.std.proofs.lemmas.Bool.{and_parts}
use Rattle.std.proofs.lemmas.Cmp.{nat_list_eq_equiv}
use lib.Pointwise.{pointwise}
use Rattle.store_folder.specs.Folder.{Look}
use Rattle.store_folder.proofs.ChangesLemmas.{differ}
use Rattle.torn_folder.specs.Torn.{put, or_else, put_there, put_elsewhere, moved_holds, seen_by, held_by, kept_by}
use Rattle.torn_folder.specs.Known.{trusted_by, is_there_by, synced_by, entries_by}
use Rattle.torn_folder.specs.declared.Event.{Event}
use Rattle.torn_folder.specs.declared.Event.TheVariants.{Created, Appended, Moved, Removed, FileSynced, SyncFailed, FolderSynced}

-- a test of a name
branch : (m n : List ℕ) (x y : Bool) → (if pointwise nat_eq m n then x else y) ≡ true → ((m ≡ n) × (x ≡ true)) ⊎ ((m ≢ n) × (y ≡ true))
branch m n x y is = told (pointwise nat_eq m n) refl is
  where
    told : (v : Bool) → v ≡ pointwise nat_eq m n → (if v then x else y) ≡ true → ((m ≡ n) × (x ≡ true)) ⊎ ((m ≢ n) × (y ≡ true))
    told true e q = inl (same_text m n e, q)
    told false e q = inr (other_text m n e, q)

at_same : (m n : List ℕ) (x y : Bool) → m ≡ n → (if pointwise nat_eq m n then x else y) ≡ x
at_same m n x y e = ap (λ (b : Bool). if b then x else y) (subst (λ (k : List ℕ). pointwise nat_eq m k ≡ true) e (nat_list_eq_equiv.refl m))

at_other : (m n : List ℕ) (x y : Bool) → m ≢ n → (if pointwise nat_eq m n then x else y) ≡ y
at_other m n x y ne = ap (λ (b : Bool). if b then x else y) (differ m n ne)

some_at : (m n bytes : List ℕ) (look : Look) → m ≡ n → IsSome (put m (Some bytes) look n)
some_at m n bytes look e = subst (λ (k : List ℕ). IsSome (put m (Some bytes) look k)) e (subst IsSome (sym (put_there m (Some bytes) look)) refl)

some_else : (m n : List ℕ) (file : Option (List ℕ)) (look : Look) → m ≢ n → IsSome (look n) → IsSome (put m file look n)
some_else m n file look ne there = subst IsSome (sym (put_elsewhere m file look n (λ e. ne (sym e)))) there

or_some : (x y : Option (List ℕ)) → IsSome x → IsSome (or_else x y)
or_some None y there = let no : ⊥ = cc in absurd no
or_some (Some bytes) y there = refl

is_there : (events : List Event) (n : List ℕ) → is_there_by events n ≡ true → IsSome (seen_by events n)
is_there [] n is = let no : ⊥ = cc in absurd no
is_there (Created name ∷ events) n is = elim (branch (string_bytes name) n true (is_there_by events n) is) [
  | inl at ↦ some_at (string_bytes name) n [] (seen_by events) at.0
  | inr other ↦ some_else (string_bytes name) n (Some []) (seen_by events) other.0 (is_there events n other.1)
]
is_there (Appended name more ∷ events) n is =
    let whole = unwrap_or (seen_by events (string_bytes name)) [] ++ more.items in
    elim (branch (string_bytes name) n true (is_there_by events n) is) [
      | inl at ↦ some_at (string_bytes name) n whole (seen_by events) at.0
      | inr other ↦ some_else (string_bytes name) n (Some whole) (seen_by events) other.0 (is_there events n other.1)
    ]
is_there (Moved from to ∷ events) n is =
    let f = string_bytes from in
    let t = string_bytes to in
    let look = seen_by events in
    let moved = or_else (look f) (look t) in
    elim (branch t n (is_there_by events f) (if pointwise nat_eq f n then false else is_there_by events n) is) [
      | inl at ↦ subst (λ (k : List ℕ). IsSome (put t moved (put f None look) k)) at.0
          (subst IsSome (sym (put_there t moved (put f None look))) (or_some (look f) (look t) (is_there events f at.1)))
      | inr other ↦ elim (branch f n false (is_there_by events n) other.1) [
        | inl gone ↦ let no : ⊥ = let is_false = gone.1 in cc in absurd no
        | inr rest ↦ some_else t n moved (put f None look) other.0 (some_else f n None look rest.0 (is_there events n rest.1))
      ]
    ]
is_there (Removed name ∷ events) n is = elim (branch (string_bytes name) n false (is_there_by events n) is) [
  | inl gone ↦ let no : ⊥ = let is_false = gone.1 in cc in absurd no
  | inr other ↦ some_else (string_bytes name) n None (seen_by events) other.0 (is_there events n other.1)
]
is_there (FileSynced name ∷ events) n is = is_there events n is
is_there (SyncFailed name ∷ events) n is = is_there events n is
is_there (FolderSynced ∷ events) n is = is_there events n is

pub synced_trusted : (events : List Event) (n : List ℕ) → synced_by events n ≡ true → trusted_by events n ≡ true
synced_trusted [] n is = refl
synced_trusted (Created name ∷ events) n is = elim (branch (string_bytes name) n false (synced_by events n) is) [
  | inl made ↦ let no : ⊥ = let is_false = made.1 in cc in absurd no
  | inr other ↦ at_other (string_bytes name) n true (trusted_by events n) other.0 ∙ synced_trusted events n other.1
]
synced_trusted (Appended name more ∷ events) n is = elim (branch (string_bytes name) n false (synced_by events n) is) [
  | inl written ↦ let no : ⊥ = let is_false = written.1 in cc in absurd no
  | inr other ↦ synced_trusted events n other.1
]
synced_trusted (Moved from to ∷ events) n is =
    let f = string_bytes from in
    let t = string_bytes to in
    elim (branch t n (is_there_by events f && synced_by events f) (if pointwise nat_eq f n then false else synced_by events n) is) [
      | inl at ↦ at_same t n (trusted_by events f) (trusted_by events n) at.0 ∙ synced_trusted events f (and_parts (is_there_by events f) (synced_by events f) at.1).1
      | inr other ↦ elim (branch f n false (synced_by events n) other.1) [
        | inl gone ↦ let no : ⊥ = let is_false = gone.1 in cc in absurd no
        | inr rest ↦ at_other t n (trusted_by events f) (trusted_by events n) other.0 ∙ synced_trusted events n rest.1
      ]
    ]
synced_trusted (Removed name ∷ events) n is = elim (branch (string_bytes name) n false (synced_by events n) is) [
  | inl gone ↦ let no : ⊥ = let is_false = gone.1 in cc in absurd no
  | inr other ↦ synced_trusted events n other.1
]
synced_trusted (FileSynced name ∷ events) n is = elim (branch (string_bytes name) n (trusted_by events n) (synced_by events n) is) [
  | inl at ↦ at.1
  | inr other ↦ synced_trusted events n other.1
]
synced_trusted (SyncFailed name ∷ events) n is = elim (branch (string_bytes name) n false (synced_by events n) is) [
  | inl failed ↦ let no : ⊥ = let is_false = failed.1 in cc in absurd no
  | inr other ↦ at_other (string_bytes name) n false (trusted_by events n) other.0 ∙ synced_trusted events n other.1
]
synced_trusted (FolderSynced ∷ events) n is = synced_trusted events n is

moved_is : (x : Option (List ℕ)) (renamed stays : Type 0) → IsSome x → moved_holds x renamed stays → renamed
moved_is None renamed stays there holds = let no : ⊥ = cc in absurd no
moved_is (Some _) renamed stays there holds = holds

else_is : (m n bytes : List ℕ) (file : Option (List ℕ)) (look : Look) → m ≢ n → look n ≡ Some bytes → put m file look n ≡ Some bytes
else_is m n bytes file look ne is = put_elsewhere m file look n (λ e. ne (sym e)) ∙ is

-- a file that was synced holds what is seen
pub synced_holds : (events : List Event) (n bytes : List ℕ) → synced_by events n ≡ true → held_by events n bytes → seen_by events n ≡ Some bytes
synced_holds [] n bytes is held = absurd held
synced_holds (Created name ∷ events) n bytes is held = elim (branch (string_bytes name) n false (synced_by events n) is) [
  | inl made ↦ let no : ⊥ = let is_false = made.1 in cc in absurd no
  | inr other ↦ else_is (string_bytes name) n bytes (Some []) (seen_by events) other.0 (synced_holds events n bytes other.1 (held (λ e. other.0 (sym e))))
]
synced_holds (Appended name more ∷ events) n bytes is held = elim (branch (string_bytes name) n false (synced_by events n) is) [
  | inl written ↦ let no : ⊥ = let is_false = written.1 in cc in absurd no
  | inr other ↦ else_is (string_bytes name) n bytes _ (seen_by events) other.0 (synced_holds events n bytes other.1 (held.1 (λ e. other.0 (sym e))))
]
synced_holds (Moved from to ∷ events) n bytes is held =
    let f = string_bytes from in
    let t = string_bytes to in
    let look = seen_by events in
    let moved = or_else (look f) (look t) in
    elim (branch t n (is_there_by events f && synced_by events f) (if pointwise nat_eq f n then false else synced_by events n) is) [
      | inl at ↦
          let both = and_parts (is_there_by events f) (synced_by events f) at.1 in
          let of_from = moved_is (look f) (held_by events f bytes) (held_by events n bytes) (is_there events f both.0) (held.0 (sym at.0)) in
          subst (λ (k : List ℕ). put t moved (put f None look) k ≡ Some bytes) at.0
          (put_there t moved (put f None look) ∙ ap (λ (o : Option (List ℕ)). or_else o (look t)) (synced_holds events f bytes both.1 of_from))
      | inr other ↦ elim (branch f n false (synced_by events n) other.1) [
        | inl gone ↦ let no : ⊥ = let is_false = gone.1 in cc in absurd no
        | inr rest ↦ else_is t n bytes moved (put f None look) other.0
            (else_is f n bytes None look rest.0 (synced_holds events n bytes rest.1 (held.1 (λ e. other.0 (sym e)))))
      ]
    ]
synced_holds (Removed name ∷ events) n bytes is held = elim (branch (string_bytes name) n false (synced_by events n) is) [
  | inl gone ↦ let no : ⊥ = let is_false = gone.1 in cc in absurd no
  | inr other ↦ else_is (string_bytes name) n bytes None (seen_by events) other.0 (synced_holds events n bytes other.1 held)
]
synced_holds (FileSynced name ∷ events) n bytes is held = elim (branch (string_bytes name) n (trusted_by events n) (synced_by events n) is) [
  | inl at ↦ held.1 (sym at.0)
  | inr other ↦ synced_holds events n bytes other.1 held.0
]
synced_holds (SyncFailed name ∷ events) n bytes is held = elim (branch (string_bytes name) n false (synced_by events n) is) [
  | inl failed ↦ let no : ⊥ = let is_false = failed.1 in cc in absurd no
  | inr other ↦ synced_holds events n bytes other.1 held
]
synced_holds (FolderSynced ∷ events) n bytes is held = synced_holds events n bytes is held

pub entries_kept : (events : List Event) → entries_by events ≡ true → (n : List ℕ) → kept_by events n
entries_kept [] is n = tt
entries_kept (Created name ∷ events) is n = let no : ⊥ = cc in absurd no
entries_kept (Appended name more ∷ events) is n =
    let both = and_parts (is_there_by events (string_bytes name)) (entries_by events) is in
    (λ e. subst (λ (k : List ℕ). IsSome (seen_by events k)) (sym e) (is_there events (string_bytes name) both.0), entries_kept events both.1 n)
entries_kept (Moved from to ∷ events) is n = let no : ⊥ = cc in absurd no
entries_kept (Removed name ∷ events) is n = let no : ⊥ = cc in absurd no
entries_kept (FileSynced name ∷ events) is n = entries_kept events is n
entries_kept (SyncFailed name ∷ events) is n = entries_kept events is n
entries_kept (FolderSynced ∷ events) is n = tt
