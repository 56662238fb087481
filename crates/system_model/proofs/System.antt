-- What the content of a system in memory is after each change.
use Rattle.std.proofs.Common.{◌≡◌, ◌≢◌, inl, inr, ℕ, ◌+◌, Bool, true, false, List, [], ◌∷◌, ◌++◌, Option, Some, None, refl, sym, ◌∙◌, ap, subst, nat_eq, arith, Result, Ok, Err, OnOk}
use Rattle.std.proofs.Common.{OnErr, is_ok}
use Rattle.std.specs.Prelude.{if◌then◌else◌, IsSome, unwrap_or, string_bytes, map, reverse}
use lib.Pointwise.{pointwise}
use Rattle.std.specs.List.{Contains}
use Rattle.std.proofs.lemmas.List.Elements.{Contains-append_right}
use Rattle.std.proofs.lemmas.List.{map-append, reverse-append}
use Rattle.store_folder.specs.Folder.{Look, Elsewhere, ElsewhereOfBoth, AreNames}
use Rattle.store_folder.specs.Changes.{look_of}
use Rattle.store_files.specs.Disk.{Change, Created, Appended, Cut, FileSynced, SyncFailed, Moved, Removed, FolderSynced}
use Rattle.store_files.specs.Disk.{seen, made, put, replay, Adds, Writes, Syncs, IsPossible}
use Rattle.store_files.specs.Paths.{IsPath, IsIn, slash}
use Rattle.store_files.specs.Known.{Knows, AreSo, KeepsMarks}
use Rattle.store_files.specs.Knowledge.{is_part}
use Rattle.store_files.specs.Mark.{claimed, claims_entries, claims_of, named, others_of, IsBlank}
use Rattle.store_files.specs.declared.mark.MarkKind.{MarkKind}
use Rattle.store_files.specs.declared.knowledge.Standing.TheVariants.{Failed, Unsynced, Synced}
use Rattle.std.specs.Prelude.{◌||◌, vec_len}
use Rattle.std.specs.List.{AllZip}
use Rattle.std.proofs.Common.{Vec, Global}
use Rattle.store_files.specs.declared.mark.Mark.{Mark}
use Rattle.store_files.specs.declared.knowledge.Standing.{Standing}
use Rattle.store_files.proofs.KnowledgeLemmas.{equal, unequal, decided}
use Rattle.store_files.proofs.DiskLemmas.{read_at, creates, appends}
use Rattle.store_files.proofs.StepLemmas.{renames, removes}
use Rattle.system_model.specs.Made.{empty}
use Rattle.system_model.specs.System.{MemDisk, Holds, number_in, can_be_made, are_made, syncs_of, changes_in, made_by, change_of, WasSo}
use Rattle.system_model.specs.Sound.{both, synced_or_not, knows_synced}
use Rattle.system_model.specs.declared.content.Step.{Step}
use Rattle.system_model.specs.declared.content.NamedFile.{NamedFile}
use Rattle.system_model.specs.declared.content.Content.{Content}

-- ---- paths

within : (xs ys : List ℕ) (x : ℕ) → Contains (xs ++ x ∷ ys) x
within xs ys x = Contains-append_right xs (x ∷ ys) x (0, omega arith, refl)

pub one_split : (d e n m : List ℕ) → (Contains n slash → ⊥) → (Contains m slash → ⊥) → d ++ slash ∷ n ≡ e ++ slash ∷ m → (d ≡ e) × (n ≡ m)
one_split [] [] n m none also q = (refl, cc)
one_split [] (x ∷ xs) n m none also q = let is : n ≡ xs ++ slash ∷ m = cc in absurd (none (subst (λ (ys : List ℕ). Contains ys slash) (sym is) (within xs m slash)))
one_split (x ∷ xs) [] n m none also q = let is : xs ++ slash ∷ n ≡ m = cc in absurd (also (subst (λ (ys : List ℕ). Contains ys slash) is (within xs n slash)))
one_split (x ∷ xs) (y ∷ ys) n m none also q =
    let head : x ≡ y = cc in
    let rest : xs ++ slash ∷ n ≡ ys ++ slash ∷ m = cc in
    let is = one_split xs ys n m none also rest in (cc, is.1)

pub one_path : (d e n m path : List ℕ) → IsPath d n path → IsPath e m path → (d ≡ e) × (n ≡ m)
one_path d e n m path at also = one_split d e n m at.is_name.one also.is_name.one (sym at.joined ∙ also.joined)

-- ---- the changes of the folder

pub here : (s : MemDisk) (d : List ℕ) → are_made s.changes ≡ true → s.folder ≡ d → changes_in s d ≡ s.changes
here s d made at =
    let is = equal s.folder d at in
    ap (λ (b : Bool). if b then (if are_made s.changes then s.changes else []) else syncs_of s.others d) is ∙ ap (λ (b : Bool). if b then s.changes else []) made

pub one_more : (old new : MemDisk) (d : List ℕ) (change : Change) → are_made old.changes ≡ true → are_made new.changes ≡ true → new.folder ≡ old.folder → old.folder ≡ d
    → new.changes ≡ change ∷ old.changes → changes_in new d ≡ change ∷ changes_in old d
one_more old new d change was now same at more = here new d now (same ∙ at) ∙ more ∙ ap (λ (cs : List Change). change ∷ cs) (sym (here old d was at))

pub none_more : (old new : MemDisk) (d : List ℕ) → new.folder ≡ old.folder → new.changes ≡ old.changes → new.others ≡ old.others → changes_in new d ≡ changes_in old d
none_more old new d same none also =
    ap (λ (f : List ℕ). if pointwise nat_eq f d then (if are_made new.changes then new.changes else []) else syncs_of new.others d) same
    ∙ ap (λ (cs : List Change). if pointwise nat_eq old.folder d then (if are_made cs then cs else []) else syncs_of new.others d) none
    ∙ ap (λ (paths : List (List ℕ)). if pointwise nat_eq old.folder d then (if are_made old.changes then old.changes else []) else syncs_of paths d) also

-- of another folder
elsewhere : (s : MemDisk) (d : List ℕ) → s.folder ≢ d → changes_in s d ≡ syncs_of s.others d
elsewhere s d ne = ap (λ (b : Bool). if b then (if are_made s.changes then s.changes else []) else syncs_of s.others d) (unequal s.folder d ne)

pub pushed : (steps : List Step) (step : Step) → made_by (steps ++ step ∷ []) ≡ change_of step ∷ made_by steps
pushed steps step = ap (λ (cs : List Change). reverse cs) (map-append change_of steps (step ∷ [])) ∙ reverse-append (map change_of steps) (change_of step ∷ [])

-- ---- names

pub added : (entries : List NamedFile) (entry : NamedFile) (n : List ℕ) (found : Option ℕ)
    → number_in (entries ++ entry ∷ []) n found ≡ (if pointwise nat_eq (string_bytes entry.name) n then entry.number else number_in entries n found)
added [] entry n found = refl
added (first ∷ entries) entry n found = added entries entry n (if pointwise nat_eq (string_bytes first.name) n then first.number else found)

put_as : (name : List ℕ) (x y : Option ℕ) (f g : List ℕ → Option ℕ) → x ≡ y → ((n : List ℕ) → f n ≡ g n) → (n : List ℕ) → put name x f n ≡ put name y g n
put_as name x y f g is same n = told (pointwise nat_eq name n)
  where
    told : (b : Bool) → (if b then x else f n) ≡ (if b then y else g n)
    told true = is
    told false = same n

-- ---- looks

looks_one : (name : List ℕ) (old new was now : Look) → ((n : List ℕ) → old n ≡ was n) → new name ≡ now name → Elsewhere name old new → Elsewhere name was now → (n : List ℕ) → new n ≡ now n
looks_one name old new was now same at rest others n = elim (decided n name) [
  | inl is ↦ subst (λ (m : List ℕ). new m ≡ now m) (sym is) at
  | inr ne ↦ rest n ne ∙ same n ∙ sym (others n ne)
]

looks_two : (from to : List ℕ) (old new was now : Look) → ((n : List ℕ) → old n ≡ was n) → new from ≡ now from → new to ≡ now to → ElsewhereOfBoth from to old new
    → ElsewhereOfBoth from to was now → (n : List ℕ) → new n ≡ now n
looks_two from to old new was now same at_from at_to rest others n = elim (decided n from) [
  | inl is ↦ subst (λ (m : List ℕ). new m ≡ now m) (sym is) at_from
  | inr ne ↦ elim (decided n to) [
    | inl is ↦ subst (λ (m : List ℕ). new m ≡ now m) (sym is) at_to
    | inr nor ↦ rest n ne nor ∙ same n ∙ sym (others n ne nor)
  ]
]

-- ---- the content

module _ (cs : List Change) (old new : Content) (was : Holds old (replay cs empty)) where
  pub created_holds : (name : List ℕ) → IsPossible (replay cs empty)
      → ((n : List ℕ) → number_in new.names.items n None ≡ put name (Some (unwrap_or (number_in old.names.items name None) old.next)) (λ m. number_in old.names.items m None) n)
      → look_of new.files.changes.items name ≡ Some [] → Elsewhere name (look_of old.files.changes.items) (look_of new.files.changes.items) → new.next ≡ old.next + 1
      → Holds new (replay (Created name ∷ cs) empty)
  created_holds name possible names at rest next = record {
    names = λ n. names n
        ∙ put_as name (Some (unwrap_or (number_in old.names.items name None) old.next)) (Some (made (replay cs empty) name)) (λ m. number_in old.names.items m None) (replay cs empty).file_of
        (ap (λ (o : Option ℕ). Some (unwrap_or o old.next)) (was.names name) ∙ ap (λ (k : ℕ). Some (unwrap_or ((replay cs empty).file_of name) k)) was.next) was.names n;
    looks =
        let did = creates name true empty cs (Created name ∷ cs) possible refl in
        looks_one name (look_of old.files.changes.items) (look_of new.files.changes.items) (seen (replay cs empty)) (seen (replay (Created name ∷ cs) empty)) was.looks
        (at ∙ sym (did.created refl)) rest did.elsewhere;
    next = next ∙ ap (λ (k : ℕ). k + 1) was.next;
  }

  pub appended_holds : (name more : List ℕ) (f : ℕ) → IsPossible (replay cs empty) → number_in old.names.items name None ≡ Some f → new.names ≡ old.names
      → look_of new.files.changes.items name ≡ Some (unwrap_or (look_of old.files.changes.items name) [] ++ more)
      → Elsewhere name (look_of old.files.changes.items) (look_of new.files.changes.items) → new.next ≡ old.next + 1 → Holds new (replay (Appended f more ∷ cs) empty)
  appended_holds name more f possible number names at rest next = record {
    names = λ n. ap (λ v. number_in v.items n None) names ∙ was.names n;
    looks =
        let did = appends name more true f empty cs (Appended f more ∷ cs) possible (sym (was.names name) ∙ number) refl in
        looks_one name (look_of old.files.changes.items) (look_of new.files.changes.items) (seen (replay cs empty)) (seen (replay (Appended f more ∷ cs) empty)) was.looks
        (at ∙ ap (λ (o : Option (List ℕ)). Some (unwrap_or o [] ++ more)) (was.looks name) ∙ sym (did.appended refl)) rest did.elsewhere;
    next = next ∙ ap (λ (k : ℕ). k + 1) was.next;
  }

  pub moved_holds : (from to : List ℕ) → from ≢ to
      → ((n : List ℕ) → number_in new.names.items n None ≡ put to (number_in old.names.items from None) (put from None (λ m. number_in old.names.items m None)) n)
      → look_of new.files.changes.items to ≡ look_of old.files.changes.items from → look_of new.files.changes.items from ≡ None
      → ElsewhereOfBoth from to (look_of old.files.changes.items) (look_of new.files.changes.items) → new.next ≡ old.next + 1 → Holds new (replay (Moved from to ∷ cs) empty)
  moved_holds from to apart names at gone rest next = record {
    names = λ n. names n
        ∙ put_as to (number_in old.names.items from None) ((replay cs empty).file_of from) (put from None (λ m. number_in old.names.items m None)) (put from None (replay cs empty).file_of)
        (was.names from) (put_as from None None (λ m. number_in old.names.items m None) (replay cs empty).file_of refl was.names) n;
    looks =
        let did = renames from to true empty cs (Moved from to ∷ cs) apart refl in
        looks_two from to (look_of old.files.changes.items) (look_of new.files.changes.items) (seen (replay cs empty)) (seen (replay (Moved from to ∷ cs) empty)) was.looks
        (gone ∙ sym (did.gone refl)) (at ∙ was.looks from ∙ sym (did.renamed refl)) rest did.elsewhere;
    next = next ∙ ap (λ (k : ℕ). k + 1) was.next;
  }

  pub removed_holds : (name : List ℕ) → ((n : List ℕ) → number_in new.names.items n None ≡ put name None (λ m. number_in old.names.items m None) n)
      → look_of new.files.changes.items name ≡ None → Elsewhere name (look_of old.files.changes.items) (look_of new.files.changes.items) → new.next ≡ old.next + 1
      → Holds new (replay (Removed name ∷ cs) empty)
  removed_holds name names at rest next = record {
    names = λ n. names n ∙ put_as name None None (λ m. number_in old.names.items m None) (replay cs empty).file_of refl was.names n;
    looks =
        let did = removes name true empty cs (Removed name ∷ cs) refl in
        looks_one name (look_of old.files.changes.items) (look_of new.files.changes.items) (seen (replay cs empty)) (seen (replay (Removed name ∷ cs) empty)) was.looks
        (at ∙ sym (did.removed refl)) rest did.elsewhere;
    next = next ∙ ap (λ (k : ℕ). k + 1) was.next;
  }

  pub synced_holds : (f : ℕ) → new.names ≡ old.names → new.files ≡ old.files → new.next ≡ old.next + 1 → Holds new (replay (FileSynced f ∷ cs) empty)
  synced_holds f names files next = record {
    names = λ n. ap (λ v. number_in v.items n None) names ∙ was.names n;
    looks = λ n. ap (λ v. look_of v.changes.items n) files ∙ was.looks n;
    next = next ∙ ap (λ (k : ℕ). k + 1) was.next;
  }

  pub entries_hold : new.names ≡ old.names → new.files ≡ old.files → new.next ≡ old.next + 1 → Holds new (replay (FolderSynced ∷ cs) empty)
  entries_hold names files next = record {
    names = λ n. ap (λ v. number_in v.items n None) names ∙ was.names n;
    looks = λ n. ap (λ v. look_of v.changes.items n) files ∙ was.looks n;
    next = next ∙ ap (λ (k : ℕ). k + 1) was.next;
  }

-- ---- what is found

pub found : (s : MemDisk) (content : Content) (d n name path : List ℕ) → are_made s.changes ≡ true → Holds content (replay s.changes empty) → IsPath s.folder name path → IsPath d n path
    → ((replay (changes_in s d) empty).file_of n ≡ number_in content.names.items name None) × (seen (replay (changes_in s d) empty) n ≡ look_of content.files.changes.items name)
found s content d n name path was holds mine at =
    let same = one_path s.folder d name n path mine at in
    let is = here s d was same.0 in (
      ap (λ (cs : List Change). (replay cs empty).file_of n) is ∙ ap (λ (m : List ℕ). (replay s.changes empty).file_of m) (sym same.1) ∙ sym (holds.names name),
      ap (λ (cs : List Change). seen (replay cs empty) n) is ∙ ap (λ (m : List ℕ). seen (replay s.changes empty) m) (sym same.1) ∙ sym (holds.looks name),
    )

some_same : (x y : List ℕ) → Some x ≡ Some y → x ≡ y
some_same x y e = ap (λ (o : Option (List ℕ)). unwrap_or o x) e

pub open_bytes : (s : MemDisk) (content : Content) (d name other path bytes : List ℕ) (f : ℕ) → are_made s.changes ≡ true → Holds content (replay s.changes empty) → IsPath s.folder other path
    → IsIn d path → number_in content.names.items name None ≡ Some f → look_of content.files.changes.items name ≡ Some bytes → (replay (changes_in s d) empty).bytes f ≡ bytes
open_bytes s content d name other path bytes f was holds mine inside number at =
    let same = one_path s.folder d other inside.0 path mine inside.1 in
    let disk = replay s.changes empty in
    ap (λ (cs : List Change). (replay cs empty).bytes f) (here s d was same.0)
    ∙ some_same (disk.bytes f) bytes (sym (read_at (disk.file_of name) f disk.bytes (sym (holds.names name) ∙ number)) ∙ sym (holds.looks name) ∙ at)

pub same_names : (a b : Look) (names : List (List ℕ)) → ((n : List ℕ) → a n ≡ b n) → AreNames a names → AreNames b names
same_names a b names same are = record {
  each = λ n is. are.each n (subst (λ (o : Option (List ℕ)). IsSome o) (sym (same n)) is);
  only = λ n is. subst (λ (o : Option (List ℕ)). IsSome o) (same n) (are.only n is);
  once = are.once;
}

pub seen_here : (s : MemDisk) (content : Content) (d : List ℕ) → are_made s.changes ≡ true → Holds content (replay s.changes empty) → s.folder ≡ d → (n : List ℕ)
    → look_of content.files.changes.items n ≡ seen (replay (changes_in s d) empty) n
seen_here s content d was holds at n = holds.looks n ∙ sym (ap (λ (cs : List Change). seen (replay cs empty) n) (here s d was at))

-- ---- what a call adds

ok_more : (old new : MemDisk) (change : Change) (d : List ℕ) → new.folder ≡ old.folder → old.folder ≡ d → new.changes ≡ change ∷ old.changes → are_made new.changes ≡ true
    → changes_in new d ≡ change ∷ changes_in old d
ok_more old new change d same at more made =
    let before = both (can_be_made change (replay old.changes empty)) (are_made old.changes) (subst (λ (cs : List Change). are_made cs ≡ true) more made) in
    one_more old new d change before.1 made same at more

pub adds_one : {T E : Type 0} (r : Result T E) (old new : MemDisk) (change : Change) (d : List ℕ) → new.folder ≡ old.folder → new.others ≡ old.others → old.folder ≡ d
    → OnOk r (new.changes ≡ change ∷ old.changes) → OnErr r (new.changes ≡ old.changes) → OnOk r (are_made new.changes ≡ true) → Adds (is_ok r) change (changes_in old d) (changes_in new d)
adds_one (Ok x) old new change d same also at more none made = ok_more old new change d same at more made
adds_one (Err e) old new change d same also at more none made = inl (none_more old new d same none also)

pub syncs_one : {T E : Type 0} (r : Result T E) (old new : MemDisk) (f : ℕ) (d : List ℕ) → new.folder ≡ old.folder → new.others ≡ old.others → old.folder ≡ d
    → OnOk r (new.changes ≡ FileSynced f ∷ old.changes) → OnErr r (new.changes ≡ old.changes) → OnOk r (are_made new.changes ≡ true) → Syncs (is_ok r) f (changes_in old d) (changes_in new d)
syncs_one (Ok x) old new f d same also at more none made = ok_more old new (FileSynced f) d same at more made
syncs_one (Err e) old new f d same also at more none made = inl (none_more old new d same none also)

pub writes_one : {T E : Type 0} (r : Result T E) (old new : MemDisk) (f : ℕ) (bytes d : List ℕ) → new.folder ≡ old.folder → new.others ≡ old.others → old.folder ≡ d
    → OnOk r (new.changes ≡ Appended f bytes ∷ old.changes) → OnErr r (new.changes ≡ old.changes) → OnOk r (are_made new.changes ≡ true)
    → Writes (is_ok r) f bytes (changes_in old d) (changes_in new d)
writes_one (Ok x) old new f bytes d same also at more none made = ok_more old new (Appended f bytes) d same at more made
writes_one (Err e) old new f bytes d same also at more none made = inl (none_more old new d same none also)

-- ---- what is claimed of a folder

pub keeps : (old new : MemDisk) → new.mark ≡ old.mark
    → KeepsMarks (λ (s : MemDisk) (d : List ℕ). claims_of s.mark) WasSo changes_in (λ _. empty) old new
keeps old new same d = record {
  same = ap claims_of same;
  so = λ was now. subst (λ (m : Mark). AreSo (claims_of m) (replay (changes_in new d) empty)) (sym same) now;
}

-- ---- a mark that was copied

same_bytes : (xs ys : List ℕ) → AllZip (λ (x y : ℕ). y ≡ x) xs ys → ys ≡ xs
same_bytes [] [] all = refl
same_bytes [] (y ∷ ys) all = absurd all
same_bytes (x ∷ xs) [] all = absurd all
same_bytes (x ∷ xs) (y ∷ ys) all = let rest = same_bytes xs ys all.1 in let first = all.0 in cc

abbrev pub IsCopy : Vec ℕ Global → Vec ℕ Global → Type 0
IsCopy v w = AllZip (λ (x y : ℕ). y ≡ x) v.items w.items × (vec_len w ≡ vec_len v)

same_named : (names copies : List (Vec ℕ Global)) (n : List ℕ) → AllZip IsCopy names copies → named names n ≡ named copies n
same_named [] [] n all = refl
same_named [] (w ∷ ws) n all = absurd all
same_named (v ∷ vs) [] n all = absurd all
same_named (v ∷ vs) (w ∷ ws) n all =
    ap (λ (bytes : List ℕ). pointwise nat_eq bytes n || named vs n) (sym (same_bytes v.items w.items all.0.0)) ∙ ap (λ (b : Bool). pointwise nat_eq w.items n || b) (same_named vs ws n all.1)

same_claimed : (mark copy : Mark) → copy.kind ≡ mark.kind → AllZip IsCopy mark.names.items copy.names.items → (n : List ℕ) → claimed mark n ≡ claimed copy n
same_claimed mark copy kind names n = ap (λ (b : Bool). if is_part n then Failed else (if b then Failed else others_of mark.kind)) (same_named mark.names.items copy.names.items n names)
    ∙ ap (λ (k : MarkKind). if is_part n then Failed else (if named copy.names.items n then Failed else others_of k)) (sym kind)

pub copy_claims : (mark copy : Mark) → copy.kind ≡ mark.kind → AllZip IsCopy mark.names.items copy.names.items → claims_of mark ≡ claims_of copy
copy_claims mark copy kind names = λ i. record {
  files = λ n. same_claimed mark copy kind names n i;
  entries = ap claims_entries (sym kind) i;
}

-- a mark of which what it claims is so of the folder, also of each other, in which there is nothing
pub so_of_each : (s : MemDisk) (mark : Mark) (d : List ℕ) → AreSo (claims_of mark) (replay (changes_in s s.folder) empty) → AreSo (claims_of mark) (replay (changes_in s d) empty)
so_of_each s mark d so = elim (decided s.folder d) [
  | inl e ↦ subst (λ (p : List ℕ). AreSo (claims_of mark) (replay (changes_in s p) empty)) e so
  | inr ne ↦
      subst (λ (made : List Change). AreSo (claims_of mark) (replay made empty)) (sym (elsewhere s d ne)) (knows_synced (claimed mark) (claims_entries mark.kind) s.others d)
]

-- ---- a blank mark, which claims of each file that no sync of it has failed

trusts_each : (changes : List Change) → are_made changes ≡ true → (f : ℕ) → (replay changes empty).trusted f
trusts_each [] made f = tt
trusts_each (Created name ∷ earlier) made f = λ _. trusts_each earlier made f
trusts_each (Appended g more ∷ earlier) made f = trusts_each earlier made f
trusts_each (Cut g len ∷ earlier) made f = let no : ⊥ = cc in absurd no
trusts_each (FileSynced g ∷ earlier) made f = trusts_each earlier made f
trusts_each (SyncFailed g bytes ∷ earlier) made f = let no : ⊥ = cc in absurd no
trusts_each (Moved from to ∷ earlier) made f = trusts_each earlier (both (can_be_made (Moved from to) (replay earlier empty)) (are_made earlier) made).1 f
trusts_each (Removed name ∷ earlier) made f = trusts_each earlier made f
trusts_each (FolderSynced ∷ earlier) made f = trusts_each earlier made f

unsynced : (b : Bool) → (if b then Failed else Unsynced) ≢ Synced
unsynced true e = let no : ⊥ = cc in no
unsynced false e = let no : ⊥ = cc in no

claims_unsynced : (mark : Mark) (n : List ℕ) → IsBlank mark → claimed mark n ≡ (if is_part n then Failed else Unsynced)
claims_unsynced mark n blank =
    ap (λ (names : List (Vec ℕ Global)). if is_part n then Failed else (if named names n then Failed else others_of mark.kind)) blank.1
    ∙ ap (λ (kind : MarkKind). if is_part n then Failed else others_of kind) blank.0

pub blank_is_so : (s : MemDisk) → IsBlank s.mark → are_made s.changes ≡ true → (d : List ℕ) → WasSo s d
blank_is_so s blank made d = so_of_each s s.mark d (subst (λ (cs : List Change). AreSo (claims_of s.mark) (replay cs empty)) (sym (here s s.folder made refl)) record {
  trusted = λ n ne f at. trusts_each s.changes made f;
  synced = λ n bytes is holds. absurd (unsynced (is_part n) (sym (claims_unsynced s.mark n blank) ∙ is));
  all_entries = λ all. let no : ⊥ = cc in absurd no;
})
