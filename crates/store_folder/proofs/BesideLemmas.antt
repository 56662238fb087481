-- What is known of a folder while one file of it is written.
use Rattle.std.proofs.Common.{inl, inr, ⊎_elim, ℕ, ◌≤◌, List, refl, ◌∙◌, arith}
use Rattle.std.specs.declared.io.Error.{Error}
use Rattle.store_base.proofs.ListLemmas.{risen_later, risen_on}
use Rattle.store_folder.specs.Moments.{ComesFrom, Elapses}
use Rattle.store_folder.specs.Folder.{Look, Elsewhere, FilesElsewhere, EntriesStayElsewhere}
use Rattle.store_folder.specs.Publishing.{IsUntouched}
use Rattle.store_folder.specs.Beside.{Standing, TouchesOnly, Follows, IsFault}
use Rattle.store_folder.proofs.Runs.{again}

module _ (name : List ℕ) where
  -- one call
  pub touched : (old new : Standing) → ((c : Look) → old.left_since old.moment c → old.may_leave c) → Elsewhere name old.seen new.seen
      → FilesElsewhere name old.may_hold new.may_hold → EntriesStayElsewhere name old.entry_kept new.entry_kept → EntriesStayElsewhere name old.trusted new.trusted
      → ComesFrom (Elsewhere name) old.may_leave new.may_leave
      → Elapses old.moment new.moment old.left_since new.left_since new.may_leave → TouchesOnly name old new
  touched old new only elsewhere files entries trust crash time = record {
    elsewhere = elsewhere;
    files = files;
    entries = entries;
    trust = trust;
    crash = crash;
    later = time.later;
    each = λ c left. ⊎_elim (λ was. (c, only c was, λ n ne. refl)) (λ now. crash c now) (time.nothing_else old.moment c (omega arith) left);
    before = λ t c le left. ⊎_elim (λ was. inl was) (λ now. inr (crash c now)) (time.nothing_else t c le left);
  }

  -- none
  pub untouched : (old : Standing) → ((c : Look) → old.left_since old.moment c → old.may_leave c) → TouchesOnly name old old
  untouched old only = record {
    elsewhere = λ n ne. refl;
    files = λ n bytes ne held. held;
    entries = λ n ne kept. kept;
    trust = λ n ne was. was;
    crash = λ c left. (c, left, λ n ne. refl);
    later = omega arith;
    each = λ c left. (c, only c left, λ n ne. refl);
    before = λ t c le left. inl left;
  }

  -- some, and then more
  pub touched_more : (old mid new : Standing) → TouchesOnly name old mid → TouchesOnly name mid new → TouchesOnly name old new
  touched_more old mid new one two = record {
    elsewhere = λ n ne. two.elsewhere n ne ∙ one.elsewhere n ne;
    files = λ n bytes ne held. one.files n bytes ne (two.files n bytes ne held);
    entries = λ n ne kept. two.entries n ne (one.entries n ne kept);
    trust = λ n ne was. two.trust n ne (one.trust n ne was);
    crash = again name old.may_leave mid.may_leave new.may_leave one.crash two.crash;
    later = omega (arith, one.later, two.later);
    each = λ c left. ⊎_elim (λ was. one.each c was) (λ now. earlier c now) (two.before old.moment c one.later left);
    before = λ t c le left. ⊎_elim (λ was. one.before t c le was) (λ now. inr (earlier c now)) (two.before t c (omega (arith, le, one.later)) left);
  }
    where
      earlier : (c : Look) → IsUntouched mid.may_leave name c → IsUntouched old.may_leave name c
      earlier c u = let from = one.crash u.0 u.1 in (from.0, from.1, λ n ne. u.2 n ne ∙ from.2 n ne)

module _ (honest : Type 0) (name : List ℕ) where
  pub follows_none : (old : Standing) → (honest → (c : Look) → old.left_since old.moment c → old.may_leave c) → Follows honest name old old
  follows_none old only = record { same = refl; count = omega arith; touched = λ h. untouched name old (only h) }

  pub follows_more : (old mid new : Standing) → Follows honest name old mid → Follows honest name mid new → Follows honest name old new
  follows_more old mid new one two = record {
    same = two.same ∙ one.same;
    count = omega (arith, one.count, two.count);
    touched = λ h. touched_more name old mid new (one.touched h) (two.touched h);
  }

-- a fault of later calls is one of all of them
pub fault_later : (old mid new : ℕ) → old ≤ mid → (e : Error) → IsFault mid new e → IsFault old new e
fault_later old mid new le e fault = ⊎_elim (λ memory. inl memory) (λ risen. inr (risen_later old mid new le risen)) fault

pub fault_on : (old mid new : ℕ) → mid ≤ new → (e : Error) → IsFault old mid e → IsFault old new e
fault_on old mid new le e fault = ⊎_elim (λ memory. inl memory) (λ risen. inr (risen_on old mid new risen le)) fault
