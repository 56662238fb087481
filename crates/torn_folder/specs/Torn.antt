-- What a look sees of a folder to which these calls were made, the last of them first, and what a crash may leave of it.
use Rattle.std.specs.Prelude.{◌≡◌, ◌≢◌, ◌⊎◌, ℕ, ◌≤◌, Bool, true, false, List, [], ◌∷◌, ◌++◌, length, take, reverse, Option, Some, None, if◌then◌else◌}
use Rattle.std.specs.Prelude.{unwrap_or, IsSome, refl, Vec, String, string_bytes, nat_eq}
use lib.Pointwise.{pointwise}
use Rattle.std.proofs.Common.{sym, ◌∙◌, ap, subst, arith, inl, inr}
use Rattle.std.proofs.lemmas.List.{take_all, append-nil}
use Rattle.std.proofs.lemmas.Cmp.{nat_list_eq_equiv}
use Rattle.std.specs.declared.alloc.Global.{Global}
use Rattle.store_folder.proofs.ChangesLemmas.{differ}
use Rattle.store_folder.specs.Folder.{Look, Elsewhere, Written, Renamed, LosesFile, LeadsTo}
use Rattle.torn_folder.specs.declared.Event.{Event}
use Rattle.torn_folder.specs.declared.Event.TheVariants.{Created, Appended, Moved, Removed, FileSynced, SyncFailed, FolderSynced}

-- the look, but with this under one name
abbrev pub put : List ℕ → Option (List ℕ) → Look → Look
put name file look n = if pointwise nat_eq name n then file else look n

abbrev pub or_else : Option (List ℕ) → Option (List ℕ) → Option (List ℕ)
or_else None other = other
or_else (Some bytes) other = Some bytes

abbrev pub seen_by : List Event → Look
seen_by [] n = None
seen_by (Created name ∷ events) n = put (string_bytes name) (Some []) (seen_by events) n
seen_by (Appended name bytes ∷ events) n = put (string_bytes name) (Some (unwrap_or (seen_by events (string_bytes name)) [] ++ bytes.items)) (seen_by events) n
seen_by (Moved from to ∷ events) n = put (string_bytes to) (or_else (seen_by events (string_bytes from)) (seen_by events (string_bytes to))) (put (string_bytes from) None (seen_by events)) n
seen_by (Removed name ∷ events) n = put (string_bytes name) None (seen_by events) n
seen_by (FileSynced name ∷ events) n = seen_by events n
seen_by (SyncFailed name ∷ events) n = seen_by events n
seen_by (FolderSynced ∷ events) n = seen_by events n

-- what the renamed file holds, if there was one
abbrev pub moved_holds : Option (List ℕ) → Type 0 → Type 0 → Type 0
moved_holds None renamed stays = stays
moved_holds (Some _) renamed stays = renamed

-- what a file holds after an append of n bytes: what it might have held before, and after it any bytes, at most n; any
-- where there was none
abbrev pub appended_holds : ℕ → Option (List ℕ) → (List ℕ → Type 0) → List ℕ → Type 0
appended_holds n None held bytes = Unit {0}
appended_holds n (Some _) held bytes = (kept : List ℕ) × (more : List ℕ) × held kept × (length more ≤ n) × (bytes ≡ kept ++ more)

-- Which bytes a crash may leave in the file that has the name: any since it was made; once it was synced just its own,
-- under whatever name; and after each append since as many more, of any kind, as were appended, or fewer.
abbrev pub held_by : List Event → List ℕ → List ℕ → Type 0
held_by [] n bytes = ⊥
held_by (Created name ∷ events) n bytes = n ≢ string_bytes name → held_by events n bytes
held_by (Appended name more ∷ events) n bytes =
    (n ≡ string_bytes name → appended_holds (length more.items) (seen_by events n) (held_by events n) bytes) × (n ≢ string_bytes name → held_by events n bytes)
held_by (Moved from to ∷ events) n bytes =
    (n ≡ string_bytes to → moved_holds (seen_by events (string_bytes from)) (held_by events (string_bytes from) bytes) (held_by events n bytes)) × (n ≢ string_bytes to → held_by events n bytes)
held_by (Removed name ∷ events) n bytes = held_by events n bytes
held_by (FileSynced name ∷ events) n bytes = held_by events n bytes × (n ≡ string_bytes name → seen_by events n ≡ Some bytes)
held_by (SyncFailed name ∷ events) n bytes = held_by events n bytes
held_by (FolderSynced ∷ events) n bytes = held_by events n bytes

-- whether the entry of a name is on the disk: since the folder was last synced the name's own file alone was written
abbrev pub kept_by : List Event → List ℕ → Type 0
kept_by [] n = Unit {0}
kept_by (Created name ∷ events) n = (n ≢ string_bytes name) × kept_by events n
kept_by (Appended name bytes ∷ events) n = (n ≡ string_bytes name → IsSome (seen_by events n)) × kept_by events n
kept_by (Moved from to ∷ events) n = (n ≢ string_bytes from) × (n ≢ string_bytes to) × kept_by events n
kept_by (Removed name ∷ events) n = (n ≢ string_bytes name) × kept_by events n
kept_by (FileSynced name ∷ events) n = kept_by events n
kept_by (SyncFailed name ∷ events) n = kept_by events n
kept_by (FolderSynced ∷ events) n = Unit {0}

-- Which folders a crash may leave: each entry as it was before or after each change since the folder was last synced. The
-- sync of a file keeps its bytes under the name only if the entry of the name is on the disk.
abbrev pub left_by : List Event → Look → Type 0
left_by [] c = (n : List ℕ) → c n ≡ None
left_by (Created name ∷ events) c = (d : Look) × left_by events d × Elsewhere (string_bytes name) d c
left_by (Appended name bytes ∷ events) c = (d : Look) × left_by events d × Written (string_bytes name) (held_by (Appended name bytes ∷ events) (string_bytes name)) d c
left_by (Moved from to ∷ events) c = (d : Look) × left_by events d × Renamed (string_bytes from) (string_bytes to) (held_by events (string_bytes from)) d c
left_by (Removed name ∷ events) c = (d : Look) × left_by events d × LosesFile (string_bytes name) d c
left_by (FileSynced name ∷ events) c = left_by events c × (kept_by events (string_bytes name) → c (string_bytes name) ≡ seen_by events (string_bytes name))
left_by (SyncFailed name ∷ events) c = left_by events c
left_by (FolderSynced ∷ events) c = left_by events c × ((n : List ℕ) → LeadsTo (seen_by events n) (held_by events n) (c n))

-- what a crash since the call of number t might have left
abbrev pub LeftSince : List Event → ℕ → Look → Type 0
LeftSince events t c = (k : ℕ) × (t ≤ k) × (k ≤ length events) × left_by (reverse (take k events)) c

pub was_now : (events : List Event) (t : ℕ) (c : Look) → t ≤ length events → left_by (reverse events) c → LeftSince events t c
was_now events t c le left =
    (length events, le, omega arith, subst (λ (es : List Event). left_by (reverse es) c) (sym (take_all (length events) events (omega arith))) left)

pub is_now : (events : List Event) (c : Look) → LeftSince events (length events) c → left_by (reverse events) c
is_now events c was = subst (λ (es : List Event). left_by (reverse es) c) (take_all was.0 events was.1) was.3

pub put_there : (name : List ℕ) (file : Option (List ℕ)) (look : Look) → put name file look name ≡ file
put_there name file look = ap (λ (b : Bool). if b then file else look name) (nat_list_eq_equiv.refl name)

pub put_elsewhere : (name : List ℕ) (file : Option (List ℕ)) (look : Look) → Elsewhere name look (put name file look)
put_elsewhere name file look n ne = ap (λ (b : Bool). if b then file else look n) (differ name n (λ e. ne (sym e)))

pub put_none : (v : Bool) (x : Option (List ℕ)) (bytes : List ℕ) → (if v then None else x) ≡ Some bytes → x ≡ Some bytes
put_none true x bytes is = let no : ⊥ = cc in absurd no
put_none false x bytes is = is

-- What is seen may be left, and what a file holds it may hold.
pub record IsPossible (events : List Event) : Type 0 where
  pub look : left_by events (seen_by events)
  pub files : (n bytes : List ℕ) → seen_by events n ≡ Some bytes → held_by events n bytes

moved_possible : (from to : String Global) (events : List Event) → IsPossible events → IsPossible (Moved from to ∷ events)
moved_possible from to events was = record {
  look = (
    old,
    was.look,
    record {
      at_new_name = named (old f) refl;
      elsewhere = λ n nf nt. put_elsewhere t moved rest n nt ∙ put_elsewhere f None old n nf;
    },
  );
  files = λ n bytes is. (
    λ e.
        let at : put t moved rest n ≡ or_else (old f) (old n) = subst (λ (m : List ℕ). put t moved rest m ≡ or_else (old f) (old m)) (sym e) (put_there t moved rest) in
        held n bytes (old f) refl (sym at ∙ is),
    λ ne. was.files n bytes (put_none (pointwise nat_eq f n) (old n) bytes (sym (put_elsewhere t moved rest n ne) ∙ is)),
  );
}
  where
    f : List ℕ
    f = string_bytes from

    t : List ℕ
    t = string_bytes to

    old : Look
    old = seen_by events

    moved : Option (List ℕ)
    moved = or_else (old f) (old t)

    rest : Look
    rest = put f None old

    named : (x : Option (List ℕ)) → x ≡ old f → (put t moved rest t ≡ old t) ⊎ ((bytes : List ℕ) × held_by events f bytes × (put t moved rest t ≡ Some bytes))
    named None e = inl (put_there t moved rest ∙ ap (λ (y : Option (List ℕ)). or_else y (old t)) (sym e))
    named (Some bytes) e = inr (bytes, was.files f bytes (sym e), put_there t moved rest ∙ ap (λ (y : Option (List ℕ)). or_else y (old t)) (sym e))

    held : (n bytes : List ℕ) (x : Option (List ℕ)) → x ≡ old f → or_else x (old n) ≡ Some bytes → moved_holds x (held_by events f bytes) (held_by events n bytes)
    held n bytes None e q = was.files n bytes q
    held n bytes (Some other) e q = was.files f bytes (sym e ∙ q)

appended_possible : (name : String Global) (more : Vec ℕ Global) (events : List Event) → IsPossible events → IsPossible (Appended name more ∷ events)
appended_possible name more events was = record {
  look = (
    old,
    was.look,
    record {
      at_name = inr (whole, files m whole at_m, at_m);
      elsewhere = put_elsewhere m (Some whole) old;
    },
  );
  files = files;
}
  where
    m : List ℕ
    m = string_bytes name

    old : Look
    old = seen_by events

    whole : List ℕ
    whole = unwrap_or (old m) [] ++ more.items

    at_m : put m (Some whole) old m ≡ Some whole
    at_m = put_there m (Some whole) old

    held : (n bytes : List ℕ) (x : Option (List ℕ)) → x ≡ old n → bytes ≡ unwrap_or x [] ++ more.items → appended_holds (length more.items) x (held_by events n) bytes
    held n bytes None e is = tt
    held n bytes (Some kept) e is = (kept, more.items, was.files n kept (sym e), omega arith, is)

    files : (n bytes : List ℕ) → put m (Some whole) old n ≡ Some bytes → held_by (Appended name more ∷ events) n bytes
    files n bytes is = (
      λ e. held n bytes (old n) refl
          (ap (λ (o : Option (List ℕ)). unwrap_or o []) (sym is ∙ subst (λ (k : List ℕ). put m (Some whole) old k ≡ Some (unwrap_or (old k) [] ++ more.items)) (sym e) at_m)),
      λ ne. was.files n bytes (sym (put_elsewhere m (Some whole) old n ne) ∙ is),
    )

-- A file that was made and appended to since may hold any bytes.
any_holds : (n : ℕ) (x : Option (List ℕ)) (held : List ℕ → Type 0) (torn : List ℕ) → held torn → appended_holds n x held torn
any_holds n None held torn any = tt
any_holds n (Some _) held torn any = (torn, [], any, omega arith, sym (append-nil torn))

pub new_holds : (beside : String Global) (bytes : Vec ℕ Global) (events : List Event) (torn : List ℕ)
    → held_by (Appended beside bytes ∷ Created beside ∷ events) (string_bytes beside) torn
new_holds beside bytes events torn =
    let b = string_bytes beside in (
      λ _. any_holds (length bytes.items) (seen_by (Created beside ∷ events) b) (held_by (Created beside ∷ events) b) torn (λ ne. absurd (ne refl)),
      λ ne. absurd (ne refl),
    )

leads : (events : List Event) → IsPossible events → (n : List ℕ) (x : Option (List ℕ)) → x ≡ seen_by events n → LeadsTo x (held_by events n) x
leads events was n None e = refl
leads events was n (Some bytes) e = (bytes, was.files n bytes (sym e), refl)

pub possible : (events : List Event) → IsPossible events
possible [] = record { look = λ n. refl; files = λ n bytes is. let no : ⊥ = cc in no }
possible (Created name ∷ events) =
    let was = possible events in
    let m = string_bytes name in
    record {
      look = (seen_by events, was.look, put_elsewhere m (Some []) (seen_by events));
      files = λ n bytes is ne. was.files n bytes (sym (put_elsewhere m (Some []) (seen_by events) n ne) ∙ is);
    }
possible (Appended name more ∷ events) = appended_possible name more events (possible events)
possible (Moved from to ∷ events) = moved_possible from to events (possible events)
possible (Removed name ∷ events) =
    let was = possible events in
    let m = string_bytes name in
    record {
      look = (seen_by events, was.look, record { at_name = inr (put_there m None (seen_by events)); elsewhere = put_elsewhere m None (seen_by events) });
      files = λ n bytes is. was.files n bytes (put_none (pointwise nat_eq m n) (seen_by events n) bytes is);
    }
possible (FileSynced name ∷ events) =
    let was = possible events in
    record { look = (was.look, λ kept. refl); files = λ n bytes is. (was.files n bytes is, λ e. is) }
possible (SyncFailed name ∷ events) = let was = possible events in record { look = was.look; files = was.files }
possible (FolderSynced ∷ events) =
    let was = possible events in
    record { look = (was.look, λ n. leads events was n (seen_by events n) refl); files = was.files }

pub possible_look : (events : List Event) → left_by events (seen_by events)
possible_look events = (possible events).look
