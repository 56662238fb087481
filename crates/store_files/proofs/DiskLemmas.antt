-- What a change of a folder is in the words of `Folder`.
use Rattle.std.proofs.Common.{◌≡◌, ◌≢◌, inl, inr, ℕ, ◌<◌, ◌≤◌, Bool, true, false, List, [], ◌∷◌, ◌++◌, Option, Some, None, refl, sym, ◌∙◌, ap, subst, nat_eq, arith, length}
use Rattle.std.proofs.Common.{Result, Ok, Err, OnOk, is_ok}
use Rattle.std.specs.Prelude.{if◌then◌else◌, IsTrue, IsSome, unwrap_or, option_map, take}
use Rattle.std.proofs.lemmas.List.{append-nil}
use Rattle.store_folder.specs.Folder.{Look, Extends, Written}
use Rattle.store_files.specs.Disk.{Change, Created, Appended, Cut}
use Rattle.store_files.specs.Disk.{Disk, held, made, put, put_at, after, replay, Adds, Writes, IsPossible, Cuts, holds_after, bytes_after, leaves_after}
use Rattle.store_files.specs.Steps.{Passes, Creates, Appends}
use Rattle.store_files.proofs.KnowledgeLemmas.{equal, unequal}

-- ---- another value at one place

pub put_there : {A : Type 0} (name : List ℕ) (x : A) (old : List ℕ → A) → put name x old name ≡ x
put_there name x old = ap (λ (b : Bool). if b then x else old name) (equal name name refl)

pub put_elsewhere : {A : Type 0} (name : List ℕ) (x : A) (old : List ℕ → A) (n : List ℕ) → n ≢ name → put name x old n ≡ old n
put_elsewhere name x old n ne = ap (λ (b : Bool). if b then x else old n) (unequal name n (λ e. ne (sym e)))

number_is : (a b : ℕ) → a ≡ b → nat_eq a b ≡ true
number_is a b e = grind (arith, e)

number_differs : (a b : ℕ) → a ≢ b → nat_eq a b ≡ false
number_differs a b ne = grind (arith, ne)

pub set_there : {A : Type 0} (f : ℕ) (x : A) (old : ℕ → A) → put_at f x old f ≡ x
set_there f x old = ap (λ (b : Bool). if b then x else old f) (number_is f f refl)

pub set_elsewhere : {A : Type 0} (f : ℕ) (x : A) (old : ℕ → A) (g : ℕ) → g ≢ f → put_at f x old g ≡ old g
set_elsewhere f x old g ne = ap (λ (b : Bool). if b then x else old g) (number_differs f g (λ e. ne (sym e)))

pub same_file : (x : Option ℕ) (f g : ℕ) → x ≡ Some f → x ≡ Some g → g ≡ f
same_file x f g is at = ap (λ (o : Option ℕ). unwrap_or o f) (sym at ∙ is)

-- what is read of a file that has the same bytes
pub read_same : (x : Option ℕ) (old new : ℕ → List ℕ) → ((f : ℕ) → x ≡ Some f → new f ≡ old f) → option_map new x ≡ option_map old x
read_same None old new same = refl
read_same (Some f) old new same = ap (λ (bytes : List ℕ). Some bytes) (same f refl)

pub read_at : (x : Option ℕ) (f : ℕ) (bytes : ℕ → List ℕ) → x ≡ Some f → option_map bytes x ≡ Some (bytes f)
read_at x f bytes is = ap (λ (o : Option ℕ). option_map bytes o) is

-- a file is there where bytes are read
there : (x : Option ℕ) (bytes : ℕ → List ℕ) → IsSome (option_map bytes x) → (f : ℕ) × (x ≡ Some f)
there None bytes is = let no : ⊥ = cc in absurd no
there (Some f) bytes is = (f, refl)

-- ---- time

pub passes : (change : Change) (d : Disk) → Passes d (after change d)
passes change d = record {
  later = omega arith;
  nothing_else = λ t c le since. elim since [ inl past ↦ inl past.1 | inr left ↦ inr left ];
  keeps = λ t c le past. inl (le, past);
}

pub stands : (d : Disk) → Passes d d
stands d = record { later = omega arith; nothing_else = λ t c le since. inl since; keeps = λ t c le past. past }

-- ---- a file that is made

not_made : (d : Disk) (name n : List ℕ) (f : ℕ) → IsPossible d → n ≢ name → d.file_of n ≡ Some f → f ≢ made d name
not_made d name n f was ne at = named (d.file_of name) refl
  where
    named : (x : Option ℕ) → x ≡ d.file_of name → f ≢ unwrap_or x d.next
    named None e q = let below : f < d.next = was.below n f at in omega (arith, below, q)
    named (Some g) e q = ne (was.one_name n name f at (sym e ∙ ap (λ (h : ℕ). Some h) (sym q)))

creates_one : (name : List ℕ) (ok : Bool) (d : Disk) → IsPossible d → Creates name ok d (after (Created name) d)
creates_one name ok d was = record {
  created = λ _. read_at _ f _ at ∙ ap (λ (bytes : List ℕ). Some bytes) (set_there f [] d.bytes);
  elsewhere = λ n ne.
      ap (λ (o : Option ℕ). option_map (put_at f [] d.bytes) o) (put_elsewhere name (Some f) d.file_of n ne)
      ∙ read_same (d.file_of n) d.bytes (put_at f [] d.bytes) (λ g is. set_elsewhere f [] d.bytes g (not_made d name n g was ne is));
  files = λ n bytes ne holds.
      let is : d.file_of n ≡ Some holds.0 = sym (put_elsewhere name (Some f) d.file_of n ne) ∙ holds.1 in
      (holds.0, is, holds.2 (not_made d name n holds.0 was ne is));
  crash = λ c left. left;
  entries = λ n ne kept. (ne, kept);
  fresh = λ _ g is ne. absurd (ne (same_file _ f g at is));
  trust = λ n ne was_trusted g is _. was_trusted g (sym (put_elsewhere name (Some f) d.file_of n ne) ∙ is);
  names = λ n ne. put_elsewhere name (Some f) d.file_of n ne;
  time = passes (Created name) d;
}
  where
    f : ℕ
    f = made d name

    at : put name (Some f) d.file_of name ≡ Some f
    at = put_there name (Some f) d.file_of

same_creates : (name : List ℕ) (d : Disk) → Creates name false d d
same_creates name d = record {
  created = λ no. let none : ⊥ = cc in absurd none;
  elsewhere = λ n ne. refl;
  files = λ n bytes ne holds. holds;
  crash = λ c left. (c, left, λ n ne. refl);
  entries = λ n ne kept. kept;
  fresh = λ no. let none : ⊥ = cc in absurd none;
  trust = λ n ne trusted. trusted;
  names = λ n ne. refl;
  time = stands d;
}

-- what holds of a call that made its change, and of one that changed nothing
pub of_either : (ok : Bool) (change : Change) (start : Disk) (old new : List Change) (P : Bool → Disk → Type 0) → Adds ok change old new
    → ((done : Bool) → P done (after change (replay old start))) → P false (replay old start) → P ok (replay new start)
of_either true change start old new P adds made same = subst (λ (cs : List Change). P true (replay cs start)) (sym adds) (made true)
of_either false change start old new P adds made same = elim adds [
  | inl is ↦ subst (λ (cs : List Change). P false (replay cs start)) (sym is) same
  | inr is ↦ subst (λ (cs : List Change). P false (replay cs start)) (sym is) (made false)
]

pub creates : (name : List ℕ) (ok : Bool) (start : Disk) (old new : List Change) → IsPossible (replay old start) → Adds ok (Created name) old new
    → Creates name ok (replay old start) (replay new start)
creates name ok start old new was adds =
    of_either ok (Created name) start old new (λ done d. Creates name done (replay old start) d) adds (λ done. creates_one name done (replay old start) was) (same_creates name (replay old start))

-- ---- a file that is written

same_appends : (name bytes : List ℕ) (d : Disk) → Appends name bytes false d d
same_appends name bytes d = record {
  appended = λ no. let none : ⊥ = cc in absurd none;
  elsewhere = λ n ne. refl;
  file = λ left holds. (left, [], holds, omega arith, sym (append-nil left));
  files = λ n more ne holds. holds;
  crash = λ c left. (c, left, record { at_name = inl refl; elsewhere = λ n ne. refl });
  entries = λ n kept. kept;
  trust = λ n trusted. trusted;
  names = λ n. refl;
  time = stands d;
}

pub other_file : (d : Disk) (name n : List ℕ) (f g : ℕ) → IsPossible d → n ≢ name → d.file_of name ≡ Some f → d.file_of n ≡ Some g → g ≢ f
other_file d name n f g was ne at is e = ne (was.one_name n name f (is ∙ ap (λ (h : ℕ). Some h) e) at)

-- a file as it is after a part of the bytes was written
module _ (name bytes part : List ℕ) (f : ℕ) (d : Disk) (was : IsPossible d) (at : d.file_of name ≡ Some f) (short : length part ≤ length bytes) where
  written : Disk
  written = after (Appended f part) d

  extends : Extends (length bytes) (held d name) (λ left. (g : ℕ) × (d.file_of name ≡ Some g) × holds_after (Appended f part) d g left)
  extends left holds =
      let e : holds.0 ≡ f = same_file (d.file_of name) f holds.0 at holds.1 in
      let torn = holds.2.0 e in
      (torn.0, torn.1, (holds.0, holds.1, torn.2), omega (arith, torn.3, short), torn.4)

  crash_of : (c : Look) → leaves_after (Appended f part) d c
      → (e : Look) × d.leaves e × Written name (λ left. (g : ℕ) × (d.file_of name ≡ Some g) × holds_after (Appended f part) d g left) e c
  crash_of c left = (
    left.0,
    left.1,
    record {
      at_name = elim (left.2 name) [
        | inl same ↦ inl same
        | inr torn ↦ inr (torn.1, (f, at, torn.2), torn.3)
      ];
      elsewhere = λ n ne. elim (left.2 n) [
        | inl same ↦ same
        | inr torn ↦ absurd (other_file d name n f f was ne at torn.0 refl)
      ];
    },
  )

  appends_part : Appends name bytes false d (after (Appended f part) d)
  appends_part = record {
    appended = λ no. let none : ⊥ = cc in absurd none;
    elsewhere = λ n ne. read_same (d.file_of n) d.bytes (put_at f (d.bytes f ++ part) d.bytes) (λ g is. set_elsewhere f (d.bytes f ++ part) d.bytes g (other_file d name n f g was ne at is));
    file = extends;
    files = λ n left ne holds. (holds.0, holds.1, holds.2.1 (other_file d name n f holds.0 was ne at holds.1));
    crash = crash_of;
    entries = λ n kept. kept;
    trust = λ n trusted. trusted;
    names = λ n. refl;
    time = passes (Appended f part) d;
  }

  appends_cut : (len : ℕ) → Appends name bytes false d (after (Cut f len) (after (Appended f part) d))
  appends_cut len = record {
    appended = λ no. let none : ⊥ = cc in absurd none;
    elsewhere = λ n ne. read_same (d.file_of n) d.bytes (put_at f (take len (bytes_after (Appended f part) d f)) (bytes_after (Appended f part) d)) (λ g is.
        let other = other_file d name n f g was ne at is in
        set_elsewhere f (take len (bytes_after (Appended f part) d f)) (bytes_after (Appended f part) d) g other ∙ set_elsewhere f (d.bytes f ++ part) d.bytes g other);
    file = extends;
    files = λ n left ne holds. (holds.0, holds.1, holds.2.1 (other_file d name n f holds.0 was ne at holds.1));
    crash = crash_of;
    entries = λ n kept. kept;
    trust = λ n trusted. trusted;
    names = λ n. refl;
    time = record {
      later = omega arith;
      nothing_else = λ t c le since. elim since [
        | inl past ↦ elim past.1 [ inl before ↦ inl before.1 | inr left ↦ inr left ]
        | inr left ↦ inr left
      ];
      keeps = λ t c le past. inl (omega (arith, le), inl (le, past));
    };
  }

appends_whole : (name bytes : List ℕ) (f : ℕ) (d : Disk) → IsPossible d → d.file_of name ≡ Some f → Appends name bytes true d (after (Appended f bytes) d)
appends_whole name bytes f d was at =
    let part = appends_part name bytes bytes f d was at (omega arith) in
    record {
      appended = λ _.
          read_at (d.file_of name) f (put_at f (d.bytes f ++ bytes) d.bytes) at
          ∙ ap (λ (b : List ℕ). Some b) (set_there f (d.bytes f ++ bytes) d.bytes)
          ∙ ap (λ (o : Option (List ℕ)). Some (unwrap_or o [] ++ bytes)) (sym (read_at (d.file_of name) f d.bytes at));
      elsewhere = part.elsewhere;
      file = part.file;
      files = part.files;
      crash = part.crash;
      entries = part.entries;
      trust = part.trust;
      names = part.names;
      time = part.time;
    }

pub appends : (name bytes : List ℕ) (ok : Bool) (f : ℕ) (start : Disk) (old new : List Change) → IsPossible (replay old start) → (replay old start).file_of name ≡ Some f
    → Writes ok f bytes old new → Appends name bytes ok (replay old start) (replay new start)
appends name bytes true f start old new was at writes =
    subst (λ (cs : List Change). Appends name bytes true (replay old start) (replay cs start)) (sym writes) (appends_whole name bytes f (replay old start) was at)
appends name bytes false f start old new was at writes = elim writes [
  | inl is ↦ subst (λ (cs : List Change). Appends name bytes false (replay old start) (replay cs start)) (sym is) (same_appends name bytes (replay old start))
  | inr some ↦ subst (λ (cs : List Change). Appends name bytes false (replay old start) (replay cs start)) (sym some.2) (appends_part name bytes some.0 f (replay old start) was at some.1)
]

-- a write that failed, of which what was written was cut off, or not
pub appends_undone : (name bytes : List ℕ) (f len : ℕ) (start : Disk) (old mid new : List Change) → IsPossible (replay old start) → (replay old start).file_of name ≡ Some f
    → len ≡ length ((replay old start).bytes f) → Writes false f bytes old mid → Cuts f len start mid new → Appends name bytes false (replay old start) (replay new start)
appends_undone name bytes f len start old mid new was at long writes cuts = elim writes [
  | inl is ↦
      let same = cuts.same (long ∙ ap (λ (cs : List Change). length ((replay cs start).bytes f)) (sym is)) in
      appends name bytes false f start old new was at (inl (same ∙ is))
  | inr some ↦ elim (cuts.undone some.0 old some.2 long) [
    | inl same ↦ appends name bytes false f start old new was at (inr (some.0, some.1, same ∙ some.2))
    | inr cut ↦ subst (λ (cs : List Change). Appends name bytes false (replay old start) (replay cs start)) (sym (cut ∙ ap (λ (cs : List Change). Cut f len ∷ cs) some.2))
        (appends_cut name bytes some.0 f (replay old start) was at some.1 len)
  ]
]

pub ok_map : {T E : Type 0} (r : Result T E) (P Q : Type 0) → (P → Q) → OnOk r P → OnOk r Q
ok_map (Ok x) P Q f p = f p
ok_map (Err e) P Q f p = tt

-- what holds of a call that is Ok
pub when_ok : {T E P : Type 0} (r : Result T E) → (IsTrue (is_ok r) → P) → OnOk r P
when_ok (Ok x) holds = holds refl
when_ok (Err e) holds = tt
