-- The files that an opening finds are put on the disk, one after another.
use Rattle.std.proofs.Common.{◌≡◌, ◌≢◌, inl, inr, ⊎_elim, ℕ, Bool, true, List, [], ◌∷◌, ◌++◌, Option, Some, None, refl, sym, ◌∙◌, subst, arith}
use Rattle.std.specs.Prelude.{IsSome, IsTrue}
use Rattle.std.specs.List.{Contains}
use Rattle.std.proofs.lemmas.List.Elements.{Contains-push_cases}
use Rattle.store_folder.specs.Moments.{NoMore}
use Rattle.store_folder.specs.Folder.{Look, Elsewhere, LeadsTo, EntriesAreKept, EntriesStay, AreNames}
use Rattle.store_folder.proofs.NamesLemmas.{decided}
use Rattle.segmented_log.specs.Opening.{IsOfLog, IsSyncedButTail, HasSegments}
use Rattle.segmented_log.specs.Names.{segment_name, tail_name}
use Rattle.segmented_log.specs.Settled.{TailIsKept}
use Rattle.segmented_log.proofs.NameLemmas.{segment_no_tail}
use Rattle.segmented_log.proofs.OpeningLemmas.{some_is}

nothing_in : (n : List ℕ) → Contains [] n → ⊥
nothing_in n among = absurd (omega (arith, among.1))

-- a look is what it sees under each name
pub one_look : (old new : Look) → ((n : List ℕ) → new n ≡ old n) → new ≡ old
one_look old new same i n = same n i

-- what a sync of a file leaves of what a look sees
pub seen_after : (name : List ℕ) (old new : Look) → new name ≡ old name → Elsewhere name old new → (n : List ℕ) → new n ≡ old n
seen_after name old new same elsewhere n =
    ⊎_elim (λ is. subst (λ (m : List ℕ). new m ≡ old m) (sym is) same) (λ ne. elsewhere n ne) (decided n name)

-- a segment that is there
pub has_segments : (seen : Look) (name : List ℕ) → IsOfLog name → name ≢ tail_name → IsSome (seen name) → HasSegments seen
has_segments seen name of no_tail there = ⊎_elim (λ is. absurd (no_tail is)) (λ segment. (segment.0, subst (λ (n : List ℕ). IsSome (seen n)) segment.2 there)) of

-- The log's files among these names are on the disk, as they were seen at first; the tail is if `all` is true.
pub record AreSynced (seen : Look) (before : Look → Type 0) (names : List (List ℕ)) (all : Bool) (now : Look) (may_hold : List ℕ → List ℕ → Type 0) (may_leave : Look → Type 0)
    (trusted : List ℕ → Type 0)
    : Type 0 where
  pub same : (n : List ℕ) → now n ≡ seen n
  pub files : (n bytes : List ℕ) → Contains names n → IsOfLog n → (n ≡ tail_name → IsTrue all) → may_hold n bytes → seen n ≡ Some bytes
  pub trust : Contains names tail_name → IsTrue all → trusted tail_name
  pub no_more : NoMore before may_leave

module _ (seen : Look) (before : Look → Type 0) where
  pub none_synced : (may_hold : List ℕ → List ℕ → Type 0) (trusted : List ℕ → Type 0) → AreSynced seen before [] true seen may_hold before trusted
  none_synced may_hold trusted = record {
    same = λ n. refl;
    files = λ n bytes among of whole held. absurd (nothing_in n among);
    trust = λ among whole. absurd (nothing_in tail_name among);
    no_more = λ c left. left;
  }

  -- one file more
  pub one_synced : (names : List (List ℕ)) (name : List ℕ) (all done now_all : Bool) (mid new : Look) (held holds : List ℕ → List ℕ → Type 0) (leaves may_leave : Look → Type 0)
      (trusted trusts : List ℕ → Type 0)
      → AreSynced seen before names all mid held leaves trusted → (IsTrue now_all → IsTrue all × IsTrue done)
      → (IsOfLog name → (name ≡ tail_name → IsTrue done) → (bytes : List ℕ) → holds name bytes → mid name ≡ Some bytes) → (name ≡ tail_name → IsTrue done → trusts name)
      → ((n : List ℕ) → new n ≡ mid n) → ((n bytes : List ℕ) → holds n bytes → held n bytes) → NoMore leaves may_leave → EntriesStay trusted trusts
      → AreSynced seen before (names ++ name ∷ []) now_all new holds may_leave trusts
  one_synced names name all done now_all mid new held holds leaves may_leave trusted trusts was both durable trust same fewer no_more stays = record {
    same = λ n. same n ∙ was.same n;
    files = λ n bytes among of whole holds_it. ⊎_elim
        (λ earlier. was.files n bytes earlier of (λ is. (both (whole is)).0) (fewer n bytes holds_it))
        (λ is. sym (was.same n) ∙ subst (λ (m : List ℕ). mid m ≡ Some bytes) is
        (durable (subst IsOfLog (sym is) of) (λ tail. (both (whole (sym is ∙ tail))).1) bytes (subst (λ (m : List ℕ). holds m bytes) (sym is) holds_it)))
        (Contains-push_cases names name n among);
    trust = λ among whole. ⊎_elim
        (λ earlier. stays tail_name (was.trust earlier (both whole).0))
        (λ is. subst trusts is (trust is (both whole).1))
        (Contains-push_cases names name tail_name among);
    no_more = λ c left. was.no_more c (no_more c left);
  }

  -- all of them, and the folder
  module _ (names : List (List ℕ)) (are : AreNames seen names) (all : Bool) (mid new : Look) (held holds : List ℕ → List ℕ → Type 0) (leaves may_leave : Look → Type 0)
      (trusted trusts : List ℕ → Type 0)
      (was : AreSynced seen before names all mid held leaves trusted) (durable : EntriesAreKept mid held may_leave) (same : (n : List ℕ) → new n ≡ mid n) where
    is_some : (o : Option (List ℕ)) (bytes : List ℕ) → o ≡ Some bytes → IsSome o
    is_some o bytes is = subst IsSome (sym is) refl

    among : (n bytes : List ℕ) → mid n ≡ Some bytes → Contains names n
    among n bytes is = are.each n (is_some (seen n) bytes (sym (was.same n) ∙ is))

    left_as : (n : List ℕ) (c : Look) → IsOfLog n → (n ≡ tail_name → IsTrue all) → (o : Option (List ℕ)) → mid n ≡ o → LeadsTo o (held n) (c n) → c n ≡ mid n
    left_as n c of whole None is none = none ∙ sym is
    left_as n c of whole (Some bytes) is file =
        file.2 ∙ sym (was.files n file.0 (among n bytes is) of whole file.1) ∙ sym (was.same n)

    outcomes : (c : Look) → may_leave c → (n : List ℕ) → IsOfLog n → (n ≡ tail_name → IsTrue all) → c n ≡ new n
    outcomes c left n of whole = left_as n c of whole (mid n) refl (durable c left n) ∙ sym (same n)

    none_left : (o left : Option (List ℕ)) (may_hold : List ℕ → Type 0) → o ≡ None → LeadsTo o may_hold left → left ≡ None
    none_left None left may_hold is none = none
    none_left (Some _) left may_hold is file = let no : ⊥ = cc in absurd no

    pub all_synced : IsSyncedButTail new may_leave
    all_synced = record {
      segments = λ c left k low. outcomes c left (segment_name k) (inr (k, low, refl)) (λ is. absurd (segment_no_tail k is));
      no_tail = λ none c left. none_left (mid tail_name) (c tail_name) (held tail_name) (sym (same tail_name) ∙ none) (durable c left tail_name);
    }

    pub tail_synced : (entry_kept : List ℕ → Type 0) → ((n : List ℕ) → entry_kept n) → ((n bytes : List ℕ) → holds n bytes → held n bytes) → EntriesStay trusted trusts
        → IsTrue all → (file : List ℕ) → new tail_name ≡ Some file → TailIsKept holds may_leave entry_kept trusts file
    tail_synced entry_kept kept fewer stays whole file is =
        let there : Contains names tail_name = among tail_name file (sym (same tail_name) ∙ is) in
        let was_there : seen tail_name ≡ Some file = sym (was.same tail_name) ∙ sym (same tail_name) ∙ is in
        record {
          file = λ bytes holds_it. some_is bytes file (sym (was.files tail_name bytes there (inl refl) (λ _. whole) (fewer tail_name bytes holds_it)) ∙ was_there);
          entry = kept tail_name;
          trust = stays tail_name (was.trust there whole);
          outcomes = λ c left. outcomes c left tail_name (inl refl) (λ _. whole) ∙ is;
        }
