-- What a list of touched files says of a name.
use Rattle.std.proofs.Common.{◌≡◌, ◌≢◌, ◌⊎◌, inl, inr, ℕ, ◌+◌, ◌<◌, ◌≤◌, Bool, true, false, List, [], ◌∷◌, ◌++◌, refl, sym, ◌∙◌, ap, subst, nat_eq, arith, length, get_or, take, drop, reverse}
use Rattle.std.specs.Prelude.{if◌then◌else◌, not}
use Rattle.std.specs.List.{filter}
use Rattle.std.specs.Cmp.Lexicographic.{same_text, other_text}
use Rattle.std.proofs.lemmas.Cmp.{nat_list_eq_equiv}
use Rattle.std.proofs.lemmas.List.{append-nil, take_more, drop_more, reverse-append}
use lib.Pointwise.{pointwise}
use Rattle.store_files.specs.Knowledge.{is_part, rank, untouched, standing_in, unless_failed, with_standing, after, known_by, entries_after, entries_by, IsOf}
use Rattle.store_files.specs.declared.knowledge.Standing.{Standing}
use Rattle.store_files.specs.declared.knowledge.Standing.TheVariants.{Failed, Unsynced, Synced}
use Rattle.store_files.specs.declared.knowledge.Doing.{Doing}
use Rattle.store_files.specs.declared.knowledge.Doing.TheVariants.{Created, Appended, Moved, Removed, FileSynced, SyncFailed, FolderSynced}
use Rattle.store_files.specs.declared.knowledge.TouchedFile.{TouchedFile}

-- a file has this name
abbrev pub is_at : List ℕ → TouchedFile → Bool
is_at name file = pointwise nat_eq file.name.items name

-- those that have another name
abbrev pub without : List ℕ → List TouchedFile → List TouchedFile
without name files = filter (λ file. not (is_at name file)) files

pub equal : (a b : List ℕ) → a ≡ b → pointwise nat_eq a b ≡ true
equal a b e = subst (λ (k : List ℕ). pointwise nat_eq a k ≡ true) e (nat_list_eq_equiv.refl a)

pub unequal : (a b : List ℕ) → a ≢ b → pointwise nat_eq a b ≡ false
unequal a b ne = told (pointwise nat_eq a b) refl
  where
    told : (v : Bool) → v ≡ pointwise nat_eq a b → pointwise nat_eq a b ≡ false
    told true e = absurd (ne (same_text a b e))
    told false e = sym e

pub decided : (a b : List ℕ) → (a ≡ b) ⊎ (a ≢ b)
decided a b = told (pointwise nat_eq a b) refl
  where
    told : (v : Bool) → v ≡ pointwise nat_eq a b → (a ≡ b) ⊎ (a ≢ b)
    told true e = inl (same_text a b e)
    told false e = inr (other_text a b e)

-- the head of a list of files, by whether it has the name
first_is : (others : Standing) (file : TouchedFile) (files : List TouchedFile) (n : List ℕ) → file.name.items ≡ n → standing_in others (file ∷ files) n ≡ file.standing
first_is others file files n e = ap (λ (b : Bool). if b then file.standing else standing_in others files n) (equal file.name.items n e)

first_is_not : (others : Standing) (file : TouchedFile) (files : List TouchedFile) (n : List ℕ) → file.name.items ≢ n → standing_in others (file ∷ files) n ≡ standing_in others files n
first_is_not others file files n ne = ap (λ (b : Bool). if b then file.standing else standing_in others files n) (unequal file.name.items n ne)

dropped : (name : List ℕ) (file : TouchedFile) (files : List TouchedFile) → file.name.items ≡ name → without name (file ∷ files) ≡ without name files
dropped name file files e = ap (λ (b : Bool). if not b then file ∷ without name files else without name files) (equal file.name.items name e)

kept : (name : List ℕ) (file : TouchedFile) (files : List TouchedFile) → file.name.items ≢ name → without name (file ∷ files) ≡ file ∷ without name files
kept name file files ne = ap (λ (b : Bool). if not b then file ∷ without name files else without name files) (unequal file.name.items name ne)

module _ (others : Standing) (name : List ℕ) where
  -- the name itself is gone
  gone : (files tail : List TouchedFile) → standing_in others (without name files ++ tail) name ≡ standing_in others tail name
  gone [] tail = refl
  gone (file ∷ files) tail = elim (decided file.name.items name) [
    | inl e ↦ ap (λ (fs : List TouchedFile). standing_in others (fs ++ tail) name) (dropped name file files e) ∙ gone files tail
    | inr ne ↦ ap (λ (fs : List TouchedFile). standing_in others (fs ++ tail) name) (kept name file files ne)
        ∙ first_is_not others file (without name files ++ tail) name ne ∙ gone files tail
  ]

  -- the other names stay
  stays : (files tail : List TouchedFile) (n : List ℕ) → name ≢ n → standing_in others tail n ≡ untouched others n
      → standing_in others (without name files ++ tail) n ≡ standing_in others files n
  stays [] tail n ne is = is
  stays (file ∷ files) tail n ne is = elim (decided file.name.items name) [
    | inl e ↦ ap (λ (fs : List TouchedFile). standing_in others (fs ++ tail) n) (dropped name file files e)
        ∙ stays files tail n ne is ∙ sym (first_is_not others file files n (λ q. ne (sym e ∙ q)))
    | inr other ↦ ap (λ (fs : List TouchedFile). standing_in others (fs ++ tail) n) (kept name file files other) ∙ elim (decided file.name.items n) [
      | inl q ↦ first_is others file (without name files ++ tail) n q ∙ sym (first_is others file files n q)
      | inr nq ↦ first_is_not others file (without name files ++ tail) n nq ∙ stays files tail n ne is ∙ sym (first_is_not others file files n nq)
    ]
  ]

-- by a test of the name
pub by_name : {A : Type 0} (name n : List ℕ) (x y z : A) → (name ≡ n → x ≡ y) → (name ≢ n → x ≡ z) → x ≡ (if pointwise nat_eq name n then y else z)
by_name name n x y z at other = elim (decided name n) [
  | inl e ↦ at e ∙ sym (ap (λ (b : Bool). if b then y else z) (equal name n e))
  | inr ne ↦ other ne ∙ sym (ap (λ (b : Bool). if b then y else z) (unequal name n ne))
]

pub forgotten : (name : List ℕ) (old new : List TouchedFile) → new ≡ without name old → (others : Standing) (n : List ℕ)
    → standing_in others new n ≡ (if pointwise nat_eq name n then untouched others n else standing_in others old n)
forgotten name old new is others n =
    ap (λ (fs : List TouchedFile). standing_in others fs n) (is ∙ sym (append-nil (without name old)))
    ∙ by_name name n (standing_in others (without name old ++ []) n) (untouched others n) (standing_in others old n)
    (λ e. subst (λ (k : List ℕ). standing_in others (without name old ++ []) k ≡ untouched others k) e (gone others name old []))
    (λ ne. stays others name old [] n ne refl)

pub replaced : (name : List ℕ) (old new : List TouchedFile) (file : TouchedFile) → file.name.items ≡ name → new ≡ without name old ++ file ∷ [] → (others : Standing) (n : List ℕ)
    → standing_in others new n ≡ (if pointwise nat_eq name n then file.standing else standing_in others old n)
replaced name old new file named is others n =
    ap (λ (fs : List TouchedFile). standing_in others fs n) is
    ∙ by_name name n (standing_in others (without name old ++ file ∷ []) n) file.standing (standing_in others old n)
    (λ e. subst (λ (k : List ℕ). standing_in others (without name old ++ file ∷ []) k ≡ file.standing) e (gone others name old (file ∷ []) ∙ first_is others file [] name named))
    (λ ne. stays others name old (file ∷ []) n ne (first_is_not others file [] n (λ q. ne (sym named ∙ q))))

-- one file more was passed, which has another name
pub passed : (others : Standing) (file : TouchedFile) (files : List TouchedFile) (n : List ℕ) → pointwise nat_eq file.name.items n ≡ false
    → standing_in others files n ≡ standing_in others (file ∷ files) n
passed others file files n other = sym (ap (λ (b : Bool). if b then file.standing else standing_in others files n) other)

-- it is known just so
pub is_exact : (others : Standing) (known now : List ℕ → Standing) (others_now : Standing) → others_now ≡ others → ((n : List ℕ) → now n ≡ known n) → IsOf others known others_now now
is_exact others known now others_now rest is = record {
  rest = inl rest;
  exact = λ _. is;
  no_more = λ n. subst (λ (s : Standing). rank s ≤ rank (known n)) (sym (is n)) (omega arith);
}

-- Nothing is known.
none_left : (n : List ℕ) → untouched Failed n ≡ Failed
none_left n = told (is_part n)
  where
    told : (b : Bool) → (if b then Failed else Failed) ≡ Failed
    told true = refl
    told false = refl

pub is_lost : (others : Standing) (known : List ℕ → Standing) (others_now : Standing) (touched : List TouchedFile) → others_now ≡ Failed → touched ≡ []
    → IsOf others known others_now (standing_in others_now touched)
is_lost others known others_now touched lost none = record {
  rest = inr lost;
  exact = λ ne. absurd (ne lost);
  no_more = λ n. subst (λ (s : Standing). rank s ≤ rank (known n)) (sym (nothing n)) (omega arith);
}
  where
    nothing : (n : List ℕ) → standing_in others_now touched n ≡ Failed
    nothing n = ap (λ (fs : List TouchedFile). standing_in others_now fs n) none ∙ ap (λ (o : Standing). untouched o n) lost ∙ none_left n

pub is_same : (others : Standing) (known other : List ℕ → Standing) (others_now : Standing) (now : List ℕ → Standing) → ((n : List ℕ) → known n ≡ other n)
    → IsOf others known others_now now → IsOf others other others_now now
is_same others known other others_now now same is = record {
  rest = is.rest;
  exact = λ ne n. is.exact ne n ∙ same n;
  no_more = λ n. subst (λ (s : Standing). rank (now n) ≤ rank s) (same n) (is.no_more n);
}

with_same : (name : List ℕ) (s t : Standing) (f g : List ℕ → Standing) → s ≡ t → ((n : List ℕ) → f n ≡ g n) → (n : List ℕ) → with_standing name s f n ≡ with_standing name t g n
with_same name s t f g e same n =
    ap (λ (x : Standing). if pointwise nat_eq name n then x else f n) e ∙ ap (λ (x : Standing). if pointwise nat_eq name n then t else x) (same n)

pub is_with : (others : Standing) (name : List ℕ) (s t : Standing) (f g : List ℕ → Standing) (others_now : Standing) (now : List ℕ → Standing) → s ≡ t → ((n : List ℕ) → f n ≡ g n)
    → IsOf others (with_standing name s f) others_now now → IsOf others (with_standing name t g) others_now now
is_with others name s t f g others_now now e same is = is_same others (with_standing name s f) (with_standing name t g) others_now now (with_same name s t f g e same) is

-- more before is no less after one doing more
by_test : (b : Bool) (x y z w : Standing) → rank x ≤ rank z → rank y ≤ rank w → rank (if b then x else y) ≤ rank (if b then z else w)
by_test true x y z w le le' = le
by_test false x y z w le le' = le'

unless_more : (old more new : Standing) → rank old ≤ rank more → rank (unless_failed old new) ≤ rank (unless_failed more new)
unless_more Failed more new le = omega arith
unless_more Unsynced Failed new le = let no : 1 ≤ 0 = le in omega (arith, no)
unless_more Unsynced Unsynced new le = omega arith
unless_more Unsynced Synced new le = omega arith
unless_more Synced Failed new le = let no : 2 ≤ 0 = le in omega (arith, no)
unless_more Synced Unsynced new le = let no : 2 ≤ 1 = le in omega (arith, no)
unless_more Synced Synced new le = omega arith

module _ (less more : Standing) (f g : List ℕ → Standing) (le : rank less ≤ rank more) (each : (n : List ℕ) → rank (f n) ≤ rank (g n)) where
  untouched_more : (n : List ℕ) → rank (untouched less n) ≤ rank (untouched more n)
  untouched_more n = by_test (is_part n) Failed less Failed more (omega arith) le

  pub after_more : (doing : Doing) (n : List ℕ) → rank (after doing less f n) ≤ rank (after doing more g n)
  after_more (Created name) n = by_test (pointwise nat_eq name.now n) Unsynced (f n) Unsynced (g n) (omega arith) (each n)
  after_more (Appended name) n =
      by_test (pointwise nat_eq name.now n) (unless_failed (f name.now) Unsynced) (f n) (unless_failed (g name.now) Unsynced) (g n)
      (unless_more (f name.now) (g name.now) Unsynced (each name.now)) (each n)
  after_more (FileSynced name) n =
      by_test (pointwise nat_eq name.now n) (unless_failed (f name.now) Synced) (f n) (unless_failed (g name.now) Synced) (g n)
      (unless_more (f name.now) (g name.now) Synced (each name.now)) (each n)
  after_more (SyncFailed name) n = by_test (pointwise nat_eq name.now n) Failed (f n) Failed (g n) (omega arith) (each n)
  after_more (Moved from to) n =
      by_test (pointwise nat_eq to.now n) (f from.now) (if pointwise nat_eq from.now n then untouched less n else f n) (g from.now) (if pointwise nat_eq from.now n then untouched more n else g n)
      (each from.now) (by_test (pointwise nat_eq from.now n) (untouched less n) (f n) (untouched more n) (g n) (untouched_more n) (each n))
  after_more (Removed name) n = by_test (pointwise nat_eq name.now n) (untouched less n) (f n) (untouched more n) (g n) (untouched_more n) (each n)
  after_more FolderSynced n = each n

same_untouched : (others other : Standing) → others ≡ other → (n : List ℕ) → untouched others n ≡ untouched other n
same_untouched others other e n = ap (λ (o : Standing). untouched o n) e

module _ (others other : Standing) (f g : List ℕ → Standing) (e : others ≡ other) (same : (n : List ℕ) → f n ≡ g n) where
  if_same : (b : Bool) (x y z w : Standing) → x ≡ z → y ≡ w → (if b then x else y) ≡ (if b then z else w)
  if_same true x y z w p q = p
  if_same false x y z w p q = q

  pub after_same : (doing : Doing) (n : List ℕ) → after doing others f n ≡ after doing other g n
  after_same (Created name) n = if_same (pointwise nat_eq name.now n) Unsynced (f n) Unsynced (g n) refl (same n)
  after_same (Appended name) n =
      if_same (pointwise nat_eq name.now n) (unless_failed (f name.now) Unsynced) (f n) (unless_failed (g name.now) Unsynced) (g n)
      (ap (λ (s : Standing). unless_failed s Unsynced) (same name.now)) (same n)
  after_same (FileSynced name) n =
      if_same (pointwise nat_eq name.now n) (unless_failed (f name.now) Synced) (f n) (unless_failed (g name.now) Synced) (g n)
      (ap (λ (s : Standing). unless_failed s Synced) (same name.now)) (same n)
  after_same (SyncFailed name) n = if_same (pointwise nat_eq name.now n) Failed (f n) Failed (g n) refl (same n)
  after_same (Moved from to) n =
      if_same (pointwise nat_eq to.now n) (f from.now) (if pointwise nat_eq from.now n then untouched others n else f n) (g from.now)
      (if pointwise nat_eq from.now n then untouched other n else g n)
      (same from.now) (if_same (pointwise nat_eq from.now n) (untouched others n) (f n) (untouched other n) (g n) (same_untouched others other e n) (same n))
  after_same (Removed name) n =
      if_same (pointwise nat_eq name.now n) (untouched others n) (f n) (untouched other n) (g n) (same_untouched others other e n) (same n)
  after_same FolderSynced n = same n

-- one doing more
pub one_more : (others : Standing) (known : List ℕ → Standing) (o p : Standing) (f g : List ℕ → Standing) (doing : Doing) → others ≢ Failed
    → IsOf others known o f → IsOf o (after doing o f) p g → IsOf others (after doing others known) p g
one_more others known o p f g doing ne was is = record {
  rest = elim is.rest [ inl same ↦ elim was.rest [ inl first ↦ inl (same ∙ first) | inr lost ↦ inr (same ∙ lost) ] | inr lost ↦ inr lost ];
  exact = λ not_lost n.
      let o_is : o ≡ others = elim was.rest [ inl first ↦ first | inr lost ↦ absurd (not_lost (elim is.rest [ inl same ↦ same ∙ lost | inr gone ↦ gone ])) ] in
      is.exact not_lost n ∙ after_same o others f known o_is (was.exact (λ q. ne (sym o_is ∙ q))) doing n;
  no_more = λ n.
      let less : rank o ≤ rank others = elim was.rest [
        | inl first ↦ subst (λ (s : Standing). rank s ≤ rank others) (sym first) (omega arith)
        | inr lost ↦ subst (λ (s : Standing). rank s ≤ rank others) (sym lost) (omega arith)
      ] in
      let before = after_more o others f known less was.no_more doing n in
      let now = is.no_more n in omega (arith, before, now);
}

reverse_more : (doings : List Doing) (i : ℕ) (d : Doing) → i < length doings → reverse (take (i + 1) doings) ≡ get_or doings i d ∷ reverse (take i doings)
reverse_more doings i d lt = ap (λ (ds : List Doing). reverse ds) (take_more doings i d lt) ∙ reverse-append (take i doings) (get_or doings i d ∷ [])

-- one doing more of a list
pub noted : (others : Standing) (start : List ℕ → Standing) (doings : List Doing) (i : ℕ) (d : Doing) (o p : Standing) (f g : List ℕ → Standing) → others ≢ Failed → i < length doings
    → IsOf others (known_by others start (reverse (take i doings))) o f → IsOf o (after (get_or doings i d) o f) p g → IsOf others (known_by others start (reverse (take (i + 1) doings))) p g
noted others start doings i d o p f g ne lt was is =
    subst (λ (ds : List Doing). IsOf others (known_by others start ds) p g) (sym (reverse_more doings i d lt))
    (one_more others (known_by others start (reverse (take i doings))) o p f g (get_or doings i d) ne was is)

pub entries_noted : (start : Bool) (doings : List Doing) (i : ℕ) (d : Doing) (old new : Bool) → i < length doings → old ≡ entries_by start (reverse (take i doings))
    → new ≡ entries_after (get_or doings i d) old → new ≡ entries_by start (reverse (take (i + 1) doings))
entries_noted start doings i d old new lt was is =
    is ∙ ap (λ (b : Bool). entries_after (get_or doings i d) b) was ∙ ap (λ (ds : List Doing). entries_by start ds) (sym (reverse_more doings i d lt))

-- one file more of a list that is gone through
pub less_so_far : (others : Standing) (files : List TouchedFile) (i : ℕ) (d : TouchedFile) (n : List ℕ) → i < length files
    → (pointwise nat_eq (get_or files i d).name.items n ≡ true → rank others ≤ rank (get_or files i d).standing) → rank others ≤ rank (standing_in others (drop (i + 1) files) n)
    → rank others ≤ rank (standing_in others (drop i files) n)
less_so_far others files i d n lt at rest =
    subst (λ (fs : List TouchedFile). rank others ≤ rank (standing_in others fs n)) (sym (drop_more files i d lt)) (told (pointwise nat_eq (get_or files i d).name.items n) refl)
  where
    told : (b : Bool) → b ≡ pointwise nat_eq (get_or files i d).name.items n
        → rank others ≤ rank (if pointwise nat_eq (get_or files i d).name.items n then (get_or files i d).standing
        else standing_in others (drop (i + 1) files) n)
    told true e = subst (λ (b : Bool). rank others ≤ rank (if b then (get_or files i d).standing else standing_in others (drop (i + 1) files) n)) e (at (sym e))
    told false e = subst (λ (b : Bool). rank others ≤ rank (if b then (get_or files i d).standing else standing_in others (drop (i + 1) files) n)) e rest

pub other_part : (name n : List ℕ) → is_part name ≡ true → is_part n ≡ false → pointwise nat_eq name n ≡ true → ⊥
other_part name n is not_part e =
    let same : name ≡ n = same_text name n (sym e) in
    let both : is_part n ≡ true = subst (λ (k : List ℕ). is_part k ≡ true) same is in
    let none : ⊥ = cc in absurd none
