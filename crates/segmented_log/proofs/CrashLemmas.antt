-- What processes leave of a log, one after another.
use Rattle.std.proofs.Common.{◌≡◌, ◌⊎◌, ◌≤◌, inl, inr, ⊎_elim, ℕ, ◌+◌, max, List, [], ◌∷◌, ◌++◌, length, map, refl, sym, ◌∙◌, ap, subst, arith, append_assoc}
use Rattle.std.proofs.lemmas.List.{append-nil, map-append}
use Rattle.store_folder.specs.Folder.{Look}
use Rattle.store_format.specs.Block.{Slot, doc}
use Rattle.segmented_log.specs.declared.commit.Commit.TheVariants.{TwoSyncs}
use Rattle.segmented_log.specs.Runs.{joined, batches_by, pending_by, slots_of, dropped_by, Makes}
use Rattle.log_tail.specs.Tail.{records_from}
use Rattle.segmented_log.specs.declared.runs.Call.{Call}
use Rattle.segmented_log.specs.Log.{IsLog, IsBlank}
use Rattle.segmented_log.specs.Dropping.{IsRest, DropsTo}
use Rattle.segmented_log.specs.Laws.{Process, IsLeftOf, IsLeftBy, MayBeLeft, IsLeftByAll, AreForged, MayFollow, HaveAllOf, slots_by, dropped_in}
use Rattle.segmented_log.specs.Laws.{OpeningsAreOfProcesses, CallsAreOfProcesses, RestartsAreEnds, EndsLoseNothing, EndsLoseNothingOfNewLogs}
use Rattle.segmented_log.specs.Opening.{IsOfLog}
use Rattle.segmented_log.proofs.DropLemmas.{drops_none}
use Rattle.segmented_log.proofs.OpeningLemmas.{log_same, blank_same}
use Rattle.segmented_log.proofs.RestLemmas.{rest_more, rest_grows, rest_after, rest_ends, drops_more}
use Rattle.segmented_log.proofs.RunLemmas.{Records, batches_by-append, slots_of-append, dropped_by-more, makes_none, makes_more, has_itself}

module _ {F : Type 0} (seen : F → Look) (may_leave : F → Look → Type 0) where
  pub openings_are_of_processes : OpeningsAreOfProcesses seen may_leave
  openings_are_of_processes commit calls old c = ⊎_elim (λ before. inl (before, refl)) (λ keeps. inr (record {
    same = λ first kept log. record { number = first; slots = kept; makes = makes_none [] first kept; beginning = keeps.same first kept log };
    begun = λ blank. ⊎_elim (λ none. inl (none, refl)) (λ has. inr (record { number = 0; slots = []; makes = makes_none [] 0 []; beginning = has })) (keeps.begun blank);
  }))

  pub calls_are_of_processes : CallsAreOfProcesses seen may_leave
  calls_are_of_processes commit made others old c number slots found has = inr (record {
    same = λ first kept log. record { number = number; slots = slots; makes = found.same first kept log; beginning = has };
    begun = λ blank. inr (record { number = number; slots = slots; makes = found.begun blank; beginning = has });
  })

  pub restarts_are_ends : RestartsAreEnds seen may_leave
  restarts_are_ends process old end c left one d is = subst (λ (l : Look). MayBeLeft process (may_leave old) (seen old) l) (sym (one d is)) left

-- ---- one outcome of each folder

-- what processes leave, one after another, of what each sees
abbrev AreLeftByAll : List Process → Look → Look → Type 0
AreLeftByAll [] old new = new ≡ old
AreLeftByAll (process ∷ later) old new = (left : Look) × IsLeftBy process old left × AreLeftByAll later left new

-- a process none of whose calls returned Ok may leave the log that there was
nothing_made : (process : Process) (d c : Look) → ((n : List ℕ) → IsOfLog n → c n ≡ d n) → process.made ≡ [] → IsLeftBy process d c
nothing_made process d c same none = record {
  same = λ first kept log. record {
    number = first;
    slots = kept;
    makes = subst (λ (calls : List Call). Makes calls [] first kept first kept) (sym none) (makes_none [] first kept);
    beginning = has_itself process.commit first kept (pending_by [] process.made) process.others c (log_same first kept d c same log);
  };
  begun = λ blank. inl (blank_same d c same blank, none);
}

none_forged : (batches : List Records) → AreForged batches []
none_forged [] = refl
none_forged (batch ∷ later) = inl refl

-- what a process leaves: its slots after those that it found, but some of the first
module _ (process : Process) (first : ℕ) (kept : List Slot) (c : Look) (left : IsLeftOf process first kept c) where
  -- the calls that were made
  abbrev begun : List Call
  begun = process.made ++ left.beginning.made

  abbrev after : List Records
  after = batches_by (pending_by [] process.made) left.beginning.made

  slots_are : kept ++ slots_of (batches_by [] begun) ≡ kept ++ slots_by process (joined after)
  slots_are =
      ap (λ (l : List Records). kept ++ slots_of l) (batches_by-append [] process.made left.beginning.made)
      ∙ ap (λ (l : List Slot). kept ++ l) (slots_of-append (batches_by [] process.made) after)

  begun_less : dropped_by (first + length kept) [] begun ≤ dropped_in (first + length kept) process
  begun_less = subst (λ (l : List Call). dropped_by (first + length kept) [] begun ≤ dropped_by (first + length kept) [] l)
      (append_assoc process.made left.beginning.made left.beginning.others ∙ ap (λ (l : List Call). process.made ++ l) (sym left.beginning.all))
      (dropped_by-more (first + length kept) [] begun left.beginning.others)

  rest_left : IsRest first (kept ++ slots_by process (joined after)) (dropped_in (first + length kept) process) left.beginning.new_first left.beginning.rest
  rest_left =
      let has = left.beginning in
      let number = dropped_by (first + length kept) [] begun in
      let slots = kept ++ slots_by process (joined after) in
      rest_more first number (dropped_in (first + length kept) process) has.new_first slots has.rest
      (subst (λ (l : List Slot). IsRest first l number has.new_first has.rest) slots_are
      (makes_more [] (pending_by [] process.made) process.made has.made first left.number has.new_first kept left.slots has.rest left.makes refl has.makes))
      begun_less

  abbrev later : List Records
  later = batches_by (pending_by (pending_by [] process.made) left.beginning.made) left.beginning.others

  -- the batches of its next calls, the first of which were made
  next_batches : batches_by (pending_by [] process.made) process.others ≡ after ++ later
  next_batches =
      ap (λ (l : List Call). batches_by (pending_by [] process.made) l) left.beginning.all
      ∙ batches_by-append (pending_by [] process.made) left.beginning.made left.beginning.others

  may_follow : (forged more : Records) → more ≡ joined after ++ forged → AreForged later forged → (process.commit ≡ TwoSyncs → forged ≡ []) → MayFollow process more
  may_follow forged more is are none = record { written = after; others = later; all = next_batches; forged = forged; more_is = is; are_forged = are; none = none }

  more_after : (more : Records) × MayFollow process more × DropsTo first (kept ++ slots_by process more) (dropped_in (first + length kept) process) c
  more_after =
      let has = left.beginning in
      let dropped = dropped_in (first + length kept) process in
      ⊎_elim {A = IsLog has.new_first has.rest c}
      (λ log. (
        joined after,
        may_follow [] (joined after) (sym (append-nil (joined after))) (none_forged later) (λ two. refl),
        record { new_first = has.new_first; rest = has.rest; is_rest = rest_left; log = log },
      ))
      (λ ends.
      let forged = records_from ends.forged.bytes in
      let acknowledged = slots_of (batches_by [] process.made) in
      let slots : (kept ++ slots_by process (joined after)) ++ map doc forged ≡ kept ++ slots_by process (joined after ++ forged) =
      append_assoc kept (slots_by process (joined after)) (map doc forged)
      ∙ ap (λ (l : List Slot). kept ++ l) (append_assoc acknowledged (map doc (joined after)) (map doc forged)
      ∙ ap (λ (l : List Slot). acknowledged ++ l) (sym (map-append doc (joined after) forged))) in (
        joined after ++ forged,
        may_follow forged (joined after ++ forged) refl
            (subst (λ (l : List Records). AreForged l forged) (sym ends.next) (inr (ends.forged.bytes, ends.forged.forged, refl)))
            (λ two. absurd (let both = sym ends.forged.one_sync ∙ two in cc)),
        record {
          new_first = has.new_first;
          rest = has.rest ++ map doc forged;
          is_rest = subst (λ (l : List Slot). IsRest first l dropped has.new_first (has.rest ++ map doc forged)) slots
              (rest_grows first dropped has.new_first (kept ++ slots_by process (joined after)) has.rest (map doc forged) rest_left);
          log = ends.forged.log;
        },
      ))
      has.log

-- what processes leave of a log some of whose first slots are gone
abbrev AllLeft : List Process → Look → ℕ → List Slot → ℕ → Type 0
AllLeft processes new first all low = (number : ℕ) × (last : List Slot) × HaveAllOf first processes all number last × DropsTo first last (max low number) new

goes_on : (processes : List Process) (old new : Look) (first low : ℕ) (all : List Slot) → DropsTo first all low old → AreLeftByAll processes old new → AllLeft processes new first all low
goes_on [] old new first low all drops same = (0, all, (refl, refl), subst (λ (c : Look). DropsTo first all (max low 0) c) (sym same) (drops_more first low (max low 0) all old drops (omega arith)))
goes_on (process ∷ later) old new first low all drops by =
    let found = more_after process drops.new_first drops.rest by.0 (by.1.same drops.new_first drops.rest drops.log) in
    let left = found.2 in
    let ends : drops.new_first + length drops.rest ≡ first + length all = rest_ends first low drops.new_first all drops.rest drops.is_rest in
    let dropped = dropped_in (first + length all) process in
    let slots = slots_by process found.0 in
    let is_rest : IsRest first (all ++ slots) (max low dropped) left.new_first left.rest =
    rest_after first drops.new_first left.new_first low dropped all drops.rest slots left.rest drops.is_rest
    (subst (λ (n : ℕ). IsRest drops.new_first (drops.rest ++ slots) (dropped_in n process) left.new_first left.rest) ends left.is_rest) in
    let rest = goes_on later by.0 new first (max low dropped) (all ++ slots) (record { new_first = left.new_first; rest = left.rest; is_rest = is_rest; log = left.log }) by.2 in
    (max dropped rest.0, rest.1, (found.0, rest.0, found.1, refl, rest.2), drops_more first (max (max low dropped) rest.0) (max low (max dropped rest.0)) rest.1 new rest.3 (omega arith))

-- what they leave of a blank folder
new_log : (processes : List Process) (old new : Look) → IsBlank old → AreLeftByAll processes old new
    → (number : ℕ) × (all : List Slot) × HaveAllOf 0 processes [] number all × (DropsTo 0 all number new ⊎ (IsBlank new × (all ≡ [])))
new_log [] old new blank same = (0, [], (refl, refl), inr (subst (λ (c : Look). IsBlank c) (sym same) blank, refl))
new_log (process ∷ later) old new blank by =
    ⊎_elim
    (λ none.
    let rest = new_log later by.0 new none.0 by.2 in
    let dropped = dropped_in 0 process in (
      max dropped rest.0,
      rest.1,
      (
        [],
        rest.0,
        record { written = []; others = _; all = refl; forged = []; more_is = refl; are_forged = none_forged (batches_by (pending_by [] process.made) process.others); none = λ two. refl },
        refl,
        subst
            (λ (calls : List Call). HaveAllOf 0 later (slots_of (batches_by [] calls) ++ []) rest.0 rest.1) (sym none.1) rest.2,
      ),
      ⊎_elim (λ drops. inl (drops_more 0 rest.0 (max dropped rest.0) rest.1 new drops (omega arith))) (λ still. inr still) rest.3,
    ))
    (λ has.
    let found = more_after process 0 [] by.0 has in
    let dropped = dropped_in 0 process in
    let rest = goes_on later by.0 new 0 dropped (slots_by process found.0) found.2 by.2 in
    (max dropped rest.0, rest.1, (found.0, rest.0, found.1, refl, rest.2), inl rest.3))
    (by.1.begun blank)

module _ {F : Type 0} (seen : F → Look) (may_leave : F → Look → Type 0) (possible : (f : F) → may_leave f (seen f)) where
  -- what a crash may leave in the end comes from what it could leave at first
  come_from : (processes : List Process) (old new : F) → IsLeftByAll seen may_leave processes old new → (c : Look) → may_leave new c
      → (d : Look) × may_leave old d × AreLeftByAll processes d c
  come_from [] old new same c left = (c, subst (λ (f : F). may_leave f c) same left, refl)
  come_from (process ∷ later) old new by c left =
      let rest = come_from later by.0 new by.2 c left in
      ⊎_elim (λ old_log. let was = old_log.0 in (was.0, was.1, (rest.0, nothing_made process was.0 rest.0 was.2 old_log.1, rest.2)))
      (λ after. (seen old, possible old, (rest.0, after, rest.2))) (by.1 rest.0 rest.1)

  pub ends_lose_nothing : EndsLoseNothing seen may_leave
  ends_lose_nothing processes old new first kept logs by c left =
      let path = come_from processes old new by c left in
      let rest = goes_on processes path.0 c first 0 kept (drops_none first 0 kept path.0 (logs path.0 path.1)) path.2 in
      (rest.0, rest.1, rest.2, drops_more first (max 0 rest.0) rest.0 rest.1 c rest.3 (omega arith))

  pub new_logs_lose_nothing : EndsLoseNothingOfNewLogs seen may_leave
  new_logs_lose_nothing processes old new blank by c left =
      let path = come_from processes old new by c left in
      new_log processes path.0 c (blank path.0 path.1) path.2
