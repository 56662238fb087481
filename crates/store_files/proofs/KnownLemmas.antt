-- What is known of the files stays so.
use Rattle.std.proofs.Common.{le_of_eq, ◌≡◌, ◌≢◌, ◌⊎◌, inl, inr, ℕ, ◌≤◌, Bool, true, false, List, [], ◌∷◌, Option, Some, None, refl, sym, ◌∙◌, ap, subst, nat_eq, arith, IsTrue}
use Rattle.std.specs.Prelude.{if◌then◌else◌, option_map, is_some, not}
use lib.Pointwise.{pointwise}
use Rattle.store_files.specs.Disk.{Change, Moved, Removed, Disk, replay, seen, held, trusts, Adds}
use Rattle.store_files.specs.Steps.{Creates, Appends, SyncsFile, Renames, Removes, SyncsEntries}
use Rattle.store_files.specs.Known.{Knows}
use Rattle.store_files.proofs.StepLemmas.{renames, removes}
use Rattle.std.specs.Prelude.{IfSome, IsSomeAnd, String, string_bytes}
use Rattle.std.specs.declared.alloc.Global.{Global}
use Rattle.store_files.specs.Paths.{IsIn}
use Rattle.store_files.specs.Opened.{IsReady, IsTracked}
use Rattle.store_files.specs.declared.open_file.KeptFile.{KeptFile}
use Rattle.store_files.specs.Knowledge.{rank, untouched, with_standing, passed_to, moved, unless_failed}
use Rattle.store_files.proofs.KnowledgeLemmas.{equal, unequal, decided}
use Rattle.store_files.specs.declared.knowledge.Standing.{Standing}
use Rattle.store_files.specs.declared.knowledge.Standing.TheVariants.{Failed, Unsynced, Synced}

-- ---- ranks

pub not_failed : (a b : Standing) → rank a ≤ rank b → a ≢ Failed → b ≢ Failed
not_failed Failed b le ne = absurd (ne refl)
not_failed Unsynced Failed le ne = let no : ⊥ = omega (arith, le) in absurd no
not_failed Unsynced Unsynced le ne = λ e. let no : ⊥ = cc in no
not_failed Unsynced Synced le ne = λ e. let no : ⊥ = cc in no
not_failed Synced Failed le ne = let no : ⊥ = omega (arith, le) in absurd no
not_failed Synced Unsynced le ne = λ e. let no : ⊥ = cc in no
not_failed Synced Synced le ne = λ e. let no : ⊥ = cc in no

pub is_synced : (a b : Standing) → rank a ≤ rank b → a ≡ Synced → b ≡ Synced
is_synced a Failed le e = let no : ⊥ = omega (arith, le, ap rank e) in absurd no
is_synced a Unsynced le e = let no : ⊥ = omega (arith, le, ap rank e) in absurd no
is_synced a Synced le e = refl

-- what is known of one name is set, and of the others no more
at_name : (name : List ℕ) (s : Standing) (known : List ℕ → Standing) → with_standing name s known name ≡ s
at_name name s known = ap (λ (b : Bool). if b then s else known name) (equal name name refl)

at_other : (name : List ℕ) (s : Standing) (known : List ℕ → Standing) (n : List ℕ) → n ≢ name → with_standing name s known n ≡ known n
at_other name s known n ne = ap (λ (b : Bool). if b then s else known n) (unequal name n (λ e. ne (sym e)))

as_known : (name : List ℕ) (known : List ℕ → Standing) (n : List ℕ) → with_standing name (known name) known n ≡ known n
as_known name known n = elim (decided n name) [
  | inl e ↦ ap (with_standing name (known name) known) e ∙ at_name name (known name) known ∙ sym (ap known e)
  | inr ne ↦ at_other name (known name) known n ne
]

pub less : (known now : List ℕ → Standing) (was is : Bool) (d : Disk) → ((n : List ℕ) → rank (now n) ≤ rank (known n)) → (IsTrue is → IsTrue was) → Knows known was d → Knows now is d
less known now was is d no_more fewer knows = record {
  trusted = λ n ne. knows.trusted n (not_failed (now n) (known n) (no_more n) ne);
  synced = λ n bytes e. knows.synced n bytes (is_synced (now n) (known n) (no_more n) e);
  all_entries = λ all. knows.all_entries (fewer all);
}

-- entries are not known to be on the disk
pub not_kept : {P : Type 0} (entries : Bool) → entries ≡ false → IsTrue entries → P
not_kept entries none all = let no : ⊥ = cc in absurd no

pub doubted : (known now : List ℕ → Standing) (was is : Bool) (d : Disk) → ((n : List ℕ) → now n ≡ known n) → is ≡ false → Knows known was d → Knows now is d
doubted known now was is d same none = less known now was is d (λ n. le_of_eq (ap rank (same n))) (not_kept is none)

-- by name: what is known of this one, and of the others as before
of_name : (name : List ℕ) (s : Standing) (known : List ℕ → Standing) (entries : Bool) (d : Disk)
    → (s ≢ Failed → trusts d name) → ((bytes : List ℕ) → s ≡ Synced → held d name bytes → seen d name ≡ Some bytes)
    → ((n : List ℕ) → n ≢ name → known n ≢ Failed → trusts d n)
    → ((n bytes : List ℕ) → n ≢ name → known n ≡ Synced → held d n bytes → seen d n ≡ Some bytes)
    → (IsTrue entries → (n : List ℕ) → d.kept n) → Knows (with_standing name s known) entries d
of_name name s known entries d trusted synced trusted_elsewhere synced_elsewhere all = record {
  trusted = λ n ne. elim (decided n name) [
    | inl e ↦ subst (λ (m : List ℕ). trusts d m) (sym e) (trusted (λ q. ne (ap (with_standing name s known) e ∙ at_name name s known ∙ q)))
    | inr other ↦ trusted_elsewhere n other (λ q. ne (at_other name s known n other ∙ q))
  ];
  synced = λ n bytes e holds. elim (decided n name) [
    | inl at ↦ subst (λ (m : List ℕ). seen d m ≡ Some bytes) (sym at)
        (synced bytes (sym (at_name name s known) ∙ sym (ap (with_standing name s known) at) ∙ e) (subst (λ (m : List ℕ). held d m bytes) at holds))
    | inr other ↦ synced_elsewhere n bytes other (sym (at_other name s known n other) ∙ e) holds
  ];
  all_entries = all;
}

-- what is known of a file that is forgotten
forgets_is : (name : List ℕ) (others : Standing) (known : List ℕ → Standing) (n : List ℕ)
    → (if pointwise nat_eq name n then untouched others n else known n) ≡ with_standing name (untouched others name) known n
forgets_is name others known n = elim (decided name n) [
  | inl e ↦ ap (λ (m : List ℕ). if pointwise nat_eq name n then untouched others m else known n) (sym e)
  | inr ne ↦ ap (λ (b : Bool). if b then untouched others n else known n) (unequal name n ne) ∙ sym (at_other name (untouched others name) known n (λ e. ne (sym e)))
]

moved_is : (from to : List ℕ) (others : Standing) (known : List ℕ → Standing) (n : List ℕ)
    → moved from to others known n ≡ with_standing to (known from) (with_standing from (untouched others from) known) n
moved_is from to others known n = ap (λ (s : Standing). if pointwise nat_eq to n then known from else s) (forgets_is from others known n)

-- nothing is under a name that is not read
pub gone : (d : Disk) (n : List ℕ) → seen d n ≡ None → trusts d n
gone d n none f is = let no : ⊥ = of (d.file_of n) is none in absurd no
  where
    of : (x : Option ℕ) → x ≡ Some f → option_map d.bytes x ≡ None → ⊥
    of None e q = cc
    of (Some g) e q = cc

pub gone_holds : (d : Disk) (n bytes : List ℕ) → seen d n ≡ None → held d n bytes → seen d n ≡ Some bytes
gone_holds d n bytes none holds = let no : ⊥ = of (d.file_of n) holds.1 none in absurd no
  where
    of : (x : Option ℕ) → x ≡ Some holds.0 → option_map d.bytes x ≡ None → ⊥
    of None e q = cc
    of (Some g) e q = cc

failed_trusts : {P : Type 0} → Failed ≢ Failed → P
failed_trusts ne = absurd (ne refl)

failed_synced : {P : Type 0} → Failed ≡ Synced → P
failed_synced e = let no : ⊥ = cc in absurd no

unsynced_synced : {P : Type 0} → Unsynced ≡ Synced → P
unsynced_synced e = let no : ⊥ = cc in absurd no

-- ---- a file that is made: nothing is known of it before

pub made_unknown : (name : List ℕ) (ok : Bool) (known now : List ℕ → Standing) (was is : Bool) (old new : Disk)
    → ((n : List ℕ) → rank (now n) ≤ rank (with_standing name Failed known n)) → is ≡ false → Knows known was old → Creates name ok old new → Knows now is new
made_unknown name ok known now was is old new no_more none knows creates =
    less (with_standing name Failed known) now is is new no_more (λ all. all)
    (of_name name Failed known is new failed_trusts (λ bytes. failed_synced)
    (λ n ne trusted. creates.trust n ne (knows.trusted n trusted))
    (λ n bytes ne e holds. creates.elsewhere n ne ∙ knows.synced n bytes e (creates.files n bytes ne holds))
    (not_kept is none))

pub made_fresh : (name : List ℕ) (known now : List ℕ → Standing) (was is : Bool) (d : Disk)
    → ((n : List ℕ) → rank (now n) ≤ rank (with_standing name Unsynced known n)) → is ≡ false → trusts d name → Knows known was d → Knows now is d
made_fresh name known now was is d no_more none fresh knows =
    less (with_standing name Unsynced known) now is is d no_more (λ all. all)
    (of_name name Unsynced known is d (λ _. fresh) (λ bytes. unsynced_synced) (λ n ne. knows.trusted n) (λ n bytes ne. knows.synced n bytes) (not_kept is none))

-- ---- a file that is written: it is not known to be synced before

pub written : (name bytes : List ℕ) (ok : Bool) (known : List ℕ → Standing) (entries : Bool) (old new : Disk) → known name ≢ Synced → Knows known entries old → Appends name bytes ok old new
    → Knows known entries new
written name bytes ok known entries old new unsynced knows appends = record {
  trusted = λ n trusted. appends.trust n (knows.trusted n trusted);
  synced = λ n left e holds. elim (decided n name) [
    | inl at ↦ absurd (unsynced (sym (ap known at) ∙ e))
    | inr ne ↦ appends.elsewhere n ne ∙ knows.synced n left e (appends.files n left ne holds)
  ];
  all_entries = λ all n. appends.entries n (knows.all_entries all n);
}

-- ---- a file that is synced

pub synced : (name : List ℕ) (known now : List ℕ → Standing) (entries : Bool) (old new : Disk) → ((n : List ℕ) → rank (now n) ≤ rank (passed_to name Synced known n))
    → Knows known entries old → SyncsFile name true old new → Knows now entries new
synced name known now entries old new no_more knows syncs =
    less (passed_to name Synced known) now entries entries new no_more (λ all. all)
    (of_name name (unless_failed (known name) Synced) known entries new
    (λ ne. syncs.trust refl name (knows.trusted name (at_all (known name) ne)))
    (λ bytes e holds. syncs.same refl ∙ syncs.durable refl (knows.trusted name (was_synced (known name) e)) bytes holds)
    (λ n ne trusted. syncs.trust refl n (knows.trusted n trusted))
    (λ n bytes ne e holds. syncs.elsewhere n ne ∙ knows.synced n bytes e (syncs.files n bytes holds))
    (λ all n. syncs.entries n (knows.all_entries all n)))
  where
    at_all : (s : Standing) → unless_failed s Synced ≢ Failed → s ≢ Failed
    at_all Failed ne = ne
    at_all Unsynced ne = λ e. let no : ⊥ = cc in no
    at_all Synced ne = λ e. let no : ⊥ = cc in no

    was_synced : (s : Standing) → unless_failed s Synced ≡ Synced → s ≢ Failed
    was_synced Failed e = failed_synced e
    was_synced Unsynced e = λ q. let no : ⊥ = cc in no
    was_synced Synced e = λ q. let no : ⊥ = cc in no

pub sync_failed : (name : List ℕ) (known now : List ℕ → Standing) (entries : Bool) (old new : Disk) → ((n : List ℕ) → rank (now n) ≤ rank (with_standing name Failed known n))
    → Knows known entries old → SyncsFile name false old new → Knows now entries new
sync_failed name known now entries old new no_more knows syncs =
    less (with_standing name Failed known) now entries entries new no_more (λ all. all)
    (of_name name Failed known entries new failed_trusts (λ bytes. failed_synced)
    (λ n ne trusted. syncs.mistrust n ne (knows.trusted n trusted))
    (λ n bytes ne e holds. syncs.elsewhere n ne ∙ knows.synced n bytes e (syncs.files n bytes holds))
    (λ all n. syncs.entries n (knows.all_entries all n)))

-- ---- a file that is moved: of a name that no file has any more, whatever is said is so

pub moved_over : (from to : List ℕ) (s : Standing) (known now : List ℕ → Standing) (was is : Bool) (old new : Disk) → from ≢ to
    → ((n : List ℕ) → rank (now n) ≤ rank (with_standing to (known from) (with_standing from s known) n)) → is ≡ false → Knows known was old → Renames from to true old new → Knows now is new
moved_over from to s known now was is old new apart no_more none knows renames =
    less (with_standing to (known from) (with_standing from s known)) now is is new no_more (λ all. all)
    (of_name to (known from) (with_standing from s known) is new
    (λ ne. renames.moved refl (knows.trusted from ne))
    (λ bytes e holds. renames.renamed refl ∙ knows.synced from bytes e (renames.file refl bytes holds))
    (λ n nt trusted. elim (decided n from) [
      | inl e ↦ subst (λ (m : List ℕ). trusts new m) (sym e) (gone new from (renames.gone refl))
      | inr nf ↦ renames.trust n nf nt (knows.trusted n (λ q. trusted (at_other from s known n nf ∙ q)))
    ])
    (λ n bytes nt e holds. elim (decided n from) [
      | inl at ↦ subst (λ (m : List ℕ). seen new m ≡ Some bytes) (sym at) (gone_holds new from bytes (renames.gone refl) (subst (λ (m : List ℕ). held new m bytes) at holds))
      | inr nf ↦ renames.elsewhere n nf nt ∙ knows.synced n bytes (sym (at_other from s known n nf) ∙ e) (renames.files n bytes nf nt holds)
    ])
    (not_kept is none))

pub moved_no_more : (from to : List ℕ) (others : Standing) (known now : List ℕ → Standing) → ((n : List ℕ) → rank (now n) ≤ rank (moved from to others known n))
    → (n : List ℕ) → rank (now n) ≤ rank (with_standing to (known from) (with_standing from (untouched others from) known) n)
moved_no_more from to others known now no_more n = subst (λ (s : Standing). rank (now n) ≤ rank s) (moved_is from to others known n) (no_more n)

-- a file that may have its new name, of which no more is known than of the old one
pub move_failed : (from to : List ℕ) (known : List ℕ → Standing) (entries : Bool) (start : Disk) (old new : List Change) → from ≢ to → rank (known to) ≤ rank (known from) → entries ≡ false
    → Knows known entries (replay old start) → Adds false (Moved from to) old new → Knows known entries (replay new start)
move_failed from to known entries start old new apart low none knows (inl same) = subst (λ (list : List Change). Knows known entries (replay list start)) (sym same) knows
move_failed from to known entries start old new apart low none knows (inr made) = subst (λ (list : List Change). Knows known entries (replay list start)) (sym made)
    (moved_over from to (known from) known known entries entries _ _ apart no_more none knows (renames from to true start old (Moved from to ∷ old) apart refl))
  where
    no_more : (n : List ℕ) → rank (known n) ≤ rank (with_standing to (known from) (with_standing from (known from) known) n)
    no_more n = elim (decided n to) [
      | inl e ↦ subst (λ (m : List ℕ). rank (known m) ≤ rank (with_standing to (known from) (with_standing from (known from) known) m)) (sym e)
          (subst (λ (s : Standing). rank (known to) ≤ rank s) (sym (at_name to (known from) (with_standing from (known from) known))) low)
      | inr ne ↦ le_of_eq (ap rank (sym (at_other to (known from) (with_standing from (known from) known) n ne ∙ as_known from known n)))
    ]

-- ---- a file that is removed

pub removed : (name : List ℕ) (s : Standing) (known now : List ℕ → Standing) (was is : Bool) (old new : Disk)
    → ((n : List ℕ) → rank (now n) ≤ rank (with_standing name s known n)) → is ≡ false → Knows known was old → Removes name true old new → Knows now is new
removed name s known now was is old new no_more none knows removes =
    less (with_standing name s known) now is is new no_more (λ all. all)
    (of_name name s known is new (λ _. gone new name (removes.removed refl)) (λ bytes _. gone_holds new name bytes (removes.removed refl))
    (λ n ne trusted. removes.trust n ne (knows.trusted n trusted))
    (λ n bytes ne e holds. removes.elsewhere n ne ∙ knows.synced n bytes e (removes.files n bytes ne holds))
    (not_kept is none))

pub forgotten_no_more : (name : List ℕ) (others : Standing) (known now : List ℕ → Standing) → ((n : List ℕ) → rank (now n) ≤ rank (if pointwise nat_eq name n then untouched others n else known n))
    → (n : List ℕ) → rank (now n) ≤ rank (with_standing name (untouched others name) known n)
forgotten_no_more name others known now no_more n = subst (λ (s : Standing). rank (now n) ≤ rank s) (forgets_is name others known n) (no_more n)

-- a file that is there as it was, or gone
pub remove_failed : (name : List ℕ) (known : List ℕ → Standing) (entries : Bool) (start : Disk) (old new : List Change) → entries ≡ false → Knows known entries (replay old start)
    → Adds false (Removed name) old new → Knows known entries (replay new start)
remove_failed name known entries start old new none knows (inl same) = subst (λ (list : List Change). Knows known entries (replay list start)) (sym same) knows
remove_failed name known entries start old new none knows (inr made) = subst (λ (list : List Change). Knows known entries (replay list start)) (sym made)
    (removed name (known name) known known entries entries _ _ (λ n. le_of_eq (ap rank (sym (as_known name known n)))) none knows (removes name true start old (Removed name ∷ old) refl))

-- ---- a folder that is synced

pub entries_synced : (known : List ℕ → Standing) (was is : Bool) (old new : Disk) → Knows known was old → SyncsEntries true old new → Knows known is new
entries_synced known was is old new knows syncs = record {
  trusted = λ n trusted. syncs.trust n (knows.trusted n trusted);
  synced = λ n bytes e holds. syncs.same n ∙ knows.synced n bytes e (syncs.files n bytes holds);
  all_entries = λ _. syncs.all refl;
}

pub entries_same : (ok : Bool) (known : List ℕ → Standing) (entries : Bool) (old new : Disk) → Knows known entries old → SyncsEntries ok old new → Knows known entries new
entries_same ok known entries old new knows syncs = record {
  trusted = λ n trusted. syncs.trust n (knows.trusted n trusted);
  synced = λ n bytes e holds. syncs.same n ∙ knows.synced n bytes e (syncs.files n bytes holds);
  all_entries = λ all n. syncs.entries n (knows.all_entries all n);
}

-- ---- a folder that is open

-- what holds of a system and a path holds of equal ones
pub as_equal : {S : Type 0} (P : S → List ℕ → Type 0) (s t : S) (p q : List ℕ) → s ≡ t → p ≡ q → P s p → P t q
as_equal P s t p q es ep holds = subst (λ (x : List ℕ). P t x) ep (subst (λ (y : _). P y p) es holds)

pub ready : (known now : List ℕ → Standing) (was is : Bool) (path opened_as : List ℕ) (old new : Disk) → IsReady old path opened_as known was → Knows now is new → IsReady new path opened_as now is
ready known now was is path opened_as old new open_before knows = record { folder = open_before.folder; knows = knows }

pub tracked_as : (old new : Disk) (folder name other opened_as opened : List ℕ) (number same : ℕ) → ((n : List ℕ) → new.file_of n ≡ old.file_of n) → other ≡ name → opened ≡ opened_as → same ≡ number
    → IsTracked old folder name opened_as number → IsTracked new folder other opened same
tracked_as old new folder name other opened_as opened number same names en eo es was = record {
  inside = subst (λ (p : List ℕ). IsIn folder p) (sym eo) was.inside;
  there = names other ∙ ap (λ (n : List ℕ). old.file_of n) en ∙ was.there ∙ ap (λ (f : ℕ). Some f) (sym es);
}

-- the open file is the one of its name still, where names lead to the same files
pub still_tracked : {F : Type 0} (old new : Disk) (folder : List ℕ) (opened_as : F → List ℕ) (number : F → ℕ) (open_file : Option (KeptFile F)) → ((n : List ℕ) → new.file_of n ≡ old.file_of n)
    → IfSome open_file (λ o. IsTracked old folder (string_bytes o.name) (opened_as o.file) (number o.file))
    → IfSome open_file (λ o. IsTracked new folder (string_bytes o.name) (opened_as o.file) (number o.file))
still_tracked old new folder opened_as number None names was = tt
still_tracked old new folder opened_as number (Some o) names was = record { inside = was.inside; there = names (string_bytes o.name) ∙ was.there }

-- a file that is about to be written
less_than_passed : (s : Standing) → rank (unless_failed s Unsynced) ≤ rank s
less_than_passed Failed = omega arith
less_than_passed Unsynced = omega arith
less_than_passed Synced = omega arith

pub passed_less : (name : List ℕ) (known now : List ℕ → Standing) → ((n : List ℕ) → rank (now n) ≤ rank (passed_to name Unsynced known n)) → (n : List ℕ) → rank (now n) ≤ rank (known n)
passed_less name known now no_more n = elim (decided n name) [
  | inl e ↦ subst (λ (m : List ℕ). rank (now m) ≤ rank (known m)) (sym e)
      (omega (arith, subst (λ (s : Standing). rank (now name) ≤ rank s) (at_name name (unless_failed (known name) Unsynced) known) (no_more name), less_than_passed (known name)))
  | inr ne ↦ subst (λ (s : Standing). rank (now n) ≤ rank s) (at_other name (unless_failed (known name) Unsynced) known n ne) (no_more n)
]

pub passed_unsynced : (name : List ℕ) (known now : List ℕ → Standing) → ((n : List ℕ) → rank (now n) ≤ rank (passed_to name Unsynced known n)) → now name ≢ Synced
passed_unsynced name known now no_more e =
    let low = subst (λ (s : Standing). rank (now name) ≤ rank s) (at_name name (unless_failed (known name) Unsynced) known) (no_more name) in
    let no : ⊥ = omega (arith, low, at_most (known name), ap rank e) in no
  where
    at_most : (s : Standing) → rank (unless_failed s Unsynced) ≤ 1
    at_most Failed = omega arith
    at_most Unsynced = omega arith
    at_most Synced = omega arith

pub less_known : (known now : List ℕ → Standing) (was is : Bool) (d : Disk) → ((n : List ℕ) → rank (now n) ≤ rank (known n)) → is ≡ was → Knows known was d → Knows now is d
less_known known now was is d no_more same = less known now was is d no_more (λ kept. subst (λ (b : Bool). IsTrue b) same kept)

-- the open file after a renaming
pub renamed_tracked : {F : Type 0} (old new : Disk) (folder from to : List ℕ) (opened_as : F → List ℕ) (number : F → ℕ) (name : String Global) (open_file result : Option (KeptFile F))
    → string_bytes name ≡ to → Renames from to true old new → IfSome open_file (λ o. IsTracked old folder (string_bytes o.name) (opened_as o.file) (number o.file))
    → IfSome result (λ o. IsSomeAnd open_file (λ was. (o.file ≡ was.file)
    × (((string_bytes was.name ≡ from) × (o.name ≡ name)) ⊎ ((string_bytes was.name ≢ from) × (string_bytes was.name ≢ to) × (o.name ≡ was.name)))))
    → IfSome result (λ o. IsTracked new folder (string_bytes o.name) (opened_as o.file) (number o.file))
renamed_tracked old new folder from to opened_as number name open_file None named renames was is = tt
renamed_tracked old new folder from to opened_as number name None (Some o) named renames was is = absurd is
renamed_tracked old new folder from to opened_as number name (Some f) (Some o) named renames was is = record {
  inside = subst (λ (x : _). IsIn folder (opened_as x)) (sym is.0) was.inside;
  there = elim is.1 [
    | inl moved ↦ ap (λ (x : String Global). new.file_of (string_bytes x)) moved.1 ∙ ap (λ (n : List ℕ). new.file_of n) named ∙ renames.new_name refl
        ∙ ap (λ (n : List ℕ). old.file_of n) (sym moved.0) ∙ was.there ∙ ap (λ (x : _). Some (number x)) (sym is.0)
    | inr other ↦ ap (λ (x : String Global). new.file_of (string_bytes x)) other.2 ∙ renames.names (string_bytes f.name) other.0 other.1 ∙ was.there
        ∙ ap (λ (x : _). Some (number x)) (sym is.0)
  ];
}

-- a folder that may be changed is not only read
pub not_read : {F P : Type 0} (lock : Option F) → not (is_some lock) ≡ false → not (is_some lock) ≡ true → P
not_read None writable read = let no : ⊥ = cc in absurd no
not_read (Some f) writable read = let no : ⊥ = cc in absurd no

pub held_not_read : {F P : Type 0} (lock : Option F) → IsTrue (is_some lock) → not (is_some lock) ≡ true → P
held_not_read None held read = let no : ⊥ = cc in absurd no
held_not_read (Some f) held read = let no : ⊥ = cc in absurd no

pub none_open : {T : Type 0} (P : T → Type 0) (o : Option T) → o ≡ None → IfSome o P
none_open P o e = subst (λ (x : Option _). IfSome x P) (sym e) tt
