-- Lists of calls on a log in a folder, one call more.
use Rattle.std.proofs.Common.{◌≡◌, ◌<◌, ◌≤◌, inl, inr, ⊎_elim, ℕ, zero, suc, ◌+◌, max, List, [], ◌∷◌, ◌++◌, length, get_or, take, drop, map, refl, sym, ◌∙◌, ap}
use Rattle.std.proofs.Common.{subst, arith, append_assoc, length-append, take-append-drop}
use Rattle.std.specs.Prelude.{Result, Ok, Err, OnErr}
use Rattle.std.specs.List.{Contains}
use Rattle.std.proofs.lemmas.List.{append-nil, length-map, map-append, drop_more, take_more}
use Rattle.std.proofs.lemmas.List.Concat.{flat_map-append}
use Rattle.std.proofs.lemmas.List.Elements.{Contains-append_right}
use Rattle.store_folder.specs.Folder.{Look}
use Rattle.store_format.specs.Block.{Slot, doc}
use Rattle.segmented_log.specs.declared.commit.Commit.{Commit}
use Rattle.segmented_log.specs.declared.runs.Call.{Call}
use Rattle.segmented_log.specs.declared.runs.Call.TheVariants.{Append, Sync, Seal, Compact, DropBefore}
use Rattle.segmented_log.specs.Dropping.{IsRest}
use Rattle.segmented_log.specs.Log.{IsLog, KeepsLog}
use Rattle.segmented_log.specs.Runs.{joined, batches_by, pending_by, slots_of, dropped_by, Drops, Makes, HasBeginning, EndsInForged, KeepsAndAdds}
use Rattle.segmented_log.specs.Laws.{OnlyDropsRemove}
use Rattle.segmented_log.proofs.DropLemmas.{rest_itself}
use Rattle.segmented_log.proofs.RestLemmas.{rest_after, rest_ends, rest_whole}

abbrev pub Records : Type 0
Records = List (List ℕ)

-- what holds whatever a call returns
pub always_err : {T E P : Type 0} (r : Result T E) → P → OnErr r P
always_err (Ok x) p = tt
always_err (Err e) p = p

pub batches_by-append : (pending : Records) (a b : List Call) → batches_by pending (a ++ b) ≡ batches_by pending a ++ batches_by (pending_by pending a) b
batches_by-append pending [] b = refl
batches_by-append pending (Append bytes ∷ a) b = batches_by-append (pending ++ bytes.items ∷ []) a b
batches_by-append pending (Sync ∷ a) b = ap (λ (l : List Records). pending ∷ l) (batches_by-append [] a b)
batches_by-append pending (Seal ∷ a) b = batches_by-append pending a b
batches_by-append pending (Compact size ∷ a) b = batches_by-append pending a b
batches_by-append pending (DropBefore number ∷ a) b = batches_by-append pending a b

pub pending_by-append : (pending : Records) (a b : List Call) → pending_by pending (a ++ b) ≡ pending_by (pending_by pending a) b
pending_by-append pending [] b = refl
pending_by-append pending (Append bytes ∷ a) b = pending_by-append (pending ++ bytes.items ∷ []) a b
pending_by-append pending (Sync ∷ a) b = pending_by-append [] a b
pending_by-append pending (Seal ∷ a) b = pending_by-append pending a b
pending_by-append pending (Compact size ∷ a) b = pending_by-append pending a b
pending_by-append pending (DropBefore number ∷ a) b = pending_by-append pending a b

pub slots_of-append : (a b : List Records) → slots_of (a ++ b) ≡ slots_of a ++ slots_of b
slots_of-append a b = ap (λ (l : Records). map doc l) (flat_map-append (λ (batch : Records). batch) a b) ∙ map-append doc (joined a) (joined b)

-- the slots after those of one list of batches are the slots after both
pub slots_after : (kept : List Slot) (a b : List Records) → (kept ++ slots_of a) ++ slots_of b ≡ kept ++ slots_of (a ++ b)
slots_after kept a b = append_assoc kept (slots_of a) (slots_of b) ∙ ap (λ (l : List Slot). kept ++ l) (sym (slots_of-append a b))

-- how many slots a batch adds
length_one_more : (batch : Records) (batches : List Records) → length (slots_of (batch ∷ batches)) ≡ length batch + length (slots_of batches)
length_one_more batch batches = omega (arith, length-map (joined (batch ∷ batches)) doc, length-append batch (joined batches), length-map (joined batches) doc)

pub dropped_by-append : (next : ℕ) (pending : Records) (a b : List Call)
    → dropped_by next pending (a ++ b) ≡ max (dropped_by next pending a) (dropped_by (next + length (slots_of (batches_by pending a))) (pending_by pending a) b)
dropped_by-append next pending [] b =
    let same : next + 0 ≡ next = omega arith in
    omega (arith, ap (λ (n : ℕ). dropped_by n pending b) same)
dropped_by-append next pending (Append bytes ∷ a) b = dropped_by-append next (pending ++ bytes.items ∷ []) a b
dropped_by-append next pending (Sync ∷ a) b =
    let later = slots_of (batches_by [] a) in
    let same : next + length pending + length later ≡ next + length (slots_of (pending ∷ batches_by [] a)) = omega (arith, length_one_more pending (batches_by [] a)) in
    omega (arith, dropped_by-append (next + length pending) [] a b, ap (λ (n : ℕ). dropped_by n (pending_by [] a) b) same)
dropped_by-append next pending (Seal ∷ a) b = dropped_by-append next pending a b
dropped_by-append next pending (Compact size ∷ a) b = dropped_by-append next pending a b
dropped_by-append next pending (DropBefore number ∷ a) b = omega (arith, dropped_by-append next pending a b)

-- more calls may drop more
pub dropped_by-more : (next : ℕ) (pending : Records) (a b : List Call) → dropped_by next pending a ≤ dropped_by next pending (a ++ b)
dropped_by-more next pending a b = omega (arith, dropped_by-append next pending a b)

none_later : (call : Call) (calls : List Call) → (Drops (call ∷ calls) → ⊥) → Drops calls → ⊥
none_later call calls none drops = none (drops.0, Contains-append_right (call ∷ []) calls (DropBefore drops.0) drops.1)

-- calls without a drop
none_dropped : (next : ℕ) (pending : Records) (calls : List Call) → (Drops calls → ⊥) → dropped_by next pending calls ≡ 0
none_dropped next pending [] none = refl
none_dropped next pending (Append bytes ∷ calls) none = none_dropped next (pending ++ bytes.items ∷ []) calls (none_later (Append bytes) calls none)
none_dropped next pending (Sync ∷ calls) none = none_dropped (next + length pending) [] calls (none_later Sync calls none)
none_dropped next pending (Seal ∷ calls) none = none_dropped next pending calls (none_later Seal calls none)
none_dropped next pending (Compact size ∷ calls) none = none_dropped next pending calls (none_later (Compact size) calls none)
none_dropped next pending (DropBefore number ∷ calls) none = absurd (none (number, (0, omega arith, refl)))

-- ---- what calls make of a log

pub makes_none : (pending : Records) (first : ℕ) (kept : List Slot) → Makes [] pending first kept first kept
makes_none pending first kept = subst (λ (l : List Slot). IsRest first l 0 first kept) (sym (append-nil kept)) (rest_itself first 0 kept)

pub only_drops_remove : OnlyDropsRemove
only_drops_remove calls pending first kept new_first rest none makes =
    rest_whole first (dropped_by (first + length kept) pending calls) new_first (kept ++ slots_of (batches_by pending calls)) rest makes
    (omega (arith, none_dropped (first + length kept) pending calls none))

-- calls after calls
pub makes_more : (pending waits : Records) (a b : List Call) (first mid last : ℕ) (kept some few : List Slot) → Makes a pending first kept mid some
    → waits ≡ pending_by pending a → Makes b waits mid some last few → Makes (a ++ b) pending first kept last few
makes_more pending waits a b first mid last kept some few one same two =
    let before = slots_of (batches_by pending a) in
    let after = slots_of (batches_by waits b) in
    let begins = first + length kept in
    let ends : mid + length some ≡ begins + length before = omega (arith, rest_ends first (dropped_by begins pending a) mid (kept ++ before) some one, length-append kept before) in
    let number : max (dropped_by begins pending a) (dropped_by (mid + length some) waits b) ≡ dropped_by begins pending (a ++ b) =
    ap (λ (n : ℕ). max (dropped_by begins pending a) (dropped_by n waits b)) ends
    ∙ ap (λ (p : Records). max (dropped_by begins pending a) (dropped_by (begins + length before) p b)) same
    ∙ sym (dropped_by-append begins pending a b) in
    let slots : (kept ++ before) ++ after ≡ kept ++ slots_of (batches_by pending (a ++ b)) =
    ap (λ (p : Records). (kept ++ before) ++ slots_of (batches_by p b)) same
    ∙ slots_after kept (batches_by pending a) (batches_by (pending_by pending a) b)
    ∙ ap (λ (l : List Records). kept ++ slots_of l) (sym (batches_by-append pending a b)) in
    subst (λ (n : ℕ). IsRest first (kept ++ slots_of (batches_by pending (a ++ b))) n last few) number
    (subst (λ (l : List Slot). IsRest first l (max (dropped_by begins pending a) (dropped_by (mid + length some) waits b)) last few) slots
    (rest_after first mid last (dropped_by begins pending a) (dropped_by (mid + length some) waits b) (kept ++ before) some after few one two))

-- the same of a log that is called by its numbers, slots and records
pub makes_from : (calls : List Call) (waits pending : Records) (other first last : ℕ) (slots kept few : List Slot) → waits ≡ pending → other ≡ first → slots ≡ kept
    → Makes calls waits other slots last few → Makes calls pending first kept last few
makes_from calls waits pending other first last slots kept few same_waits same same_slots makes =
    subst (λ (p : Records). Makes calls p first kept last few) same_waits
    (subst (λ (n : ℕ). Makes calls waits n kept last few) same (subst (λ (l : List Slot). Makes calls waits other l last few) same_slots makes))

-- ---- what a crash leaves meanwhile

-- a log that is as it was
pub has_itself : (commit : Commit) (first : ℕ) (kept : List Slot) (pending : Records) (calls : List Call) (c : Look) → IsLog first kept c → HasBeginning commit first kept pending calls c
has_itself commit first kept pending calls c log = record {
  made = [];
  others = calls;
  all = refl;
  new_first = first;
  rest = kept;
  makes = makes_none pending first kept;
  log = inl log;
}

-- forged batches after calls after calls
forged_later : (commit : Commit) (first : ℕ) (rest : List Slot) (pending waits : Records) (a made others more : List Call) (c : Look) → waits ≡ pending_by pending a
    → EndsInForged commit first rest (batches_by (pending_by waits made) others) c → EndsInForged commit first rest (batches_by (pending_by pending (a ++ made)) (others ++ more)) c
forged_later commit first rest pending waits a made others more c same ends =
    let here = pending_by waits made in
    let is : pending_by pending (a ++ made) ≡ here = pending_by-append pending a made ∙ ap (λ (p : Records). pending_by p made) (sym same) in
    record {
      batch = ends.batch;
      others = ends.others ++ batches_by (pending_by here others) more;
      next =
          ap (λ (p : Records). batches_by p (others ++ more)) is
          ∙ batches_by-append here others more
          ∙ ap (λ (l : List Records). l ++ batches_by (pending_by here others) more) ends.next;
      forged = ends.forged;
    }

-- a beginning of some calls after others is one of all of them
pub begins_later : (commit : Commit) (pending waits : Records) (a b more : List Call) (first mid : ℕ) (kept some : List Slot) (c : Look) → Makes a pending first kept mid some
    → waits ≡ pending_by pending a → HasBeginning commit mid some waits b c → HasBeginning commit first kept pending (a ++ (b ++ more)) c
begins_later commit pending waits a b more first mid kept some c one same has = record {
  made = a ++ has.made;
  others = has.others ++ more;
  all =
      ap (λ (l : List Call). a ++ (l ++ more)) has.all
      ∙ ap (λ (l : List Call). a ++ l) (append_assoc has.made has.others more)
      ∙ sym (append_assoc a has.made (has.others ++ more));
  new_first = has.new_first;
  rest = has.rest;
  makes = makes_more pending waits a has.made first mid has.new_first kept some has.rest one same has.makes;
  log = ⊎_elim (λ log. inl log) (λ ends. inr (forged_later commit has.new_first has.rest pending waits a has.made has.others more c same ends)) has.log;
}

-- the same, of a log that is called by its numbers, slots and records
pub begins_from : (commit by : Commit) (first other : ℕ) (kept slots : List Slot) (pending waits : Records) (calls : List Call) (c : Look) → by ≡ commit → other ≡ first → slots ≡ kept
    → waits ≡ pending
    → HasBeginning by other slots waits calls c → HasBeginning commit first kept pending calls c
begins_from commit by first other kept slots pending waits calls c same_commit same same_slots same_waits has =
    subst (λ (k : Commit). HasBeginning k first kept pending calls c) same_commit
    (subst (λ (p : Records). HasBeginning by first kept p calls c) same_waits
    (subst (λ (n : ℕ). HasBeginning by n kept waits calls c) same (subst (λ (l : List Slot). HasBeginning by other l waits calls c) same_slots has)))

-- what an opening leaves
pub keeps_and_adds : (commit : Commit) (calls : List Call) (old c : Look) → KeepsLog old c → KeepsAndAdds commit calls old c
keeps_and_adds commit calls old c keeps = record {
  same = λ first kept log. has_itself commit first kept [] calls c (keeps.same first kept log);
  begun = λ blank. ⊎_elim (λ none. inl none) (λ log. inr (has_itself commit 0 [] [] calls c log)) (keeps.begun blank);
}

-- one call more, of these
module _ (calls : List Call) (i : ℕ) (item : Call) (within : i < length calls) (is : item ≡ get_or calls i item) where
  one_more_call : take (i + 1) calls ≡ take i calls ++ item ∷ []
  one_more_call = take_more calls i item within ∙ ap (λ (x : Call). take i calls ++ x ∷ []) (sym is)

  whole : calls ≡ take i calls ++ ((item ∷ []) ++ drop (i + 1) calls)
  whole = sym (take-append-drop i calls) ∙ ap (λ (l : List Call). take i calls ++ l) (drop_more calls i item within ∙ ap (λ (x : Call). x ∷ drop (i + 1) calls) (sym is))

  contains_item : (x : Call) → Contains (item ∷ []) x → Contains calls x
  contains_item x (zero, small, same) = subst (λ (y : Call). Contains calls y) same (i, within, sym is)
  contains_item x (suc k, small, same) = absurd (omega (arith, small))

  pub drops_item : Drops (item ∷ []) → Drops calls
  drops_item (number, has) = (number, contains_item (DropBefore number) has)

  module _ (pending : Records) where
    pub pending_more : pending_by pending (take (i + 1) calls) ≡ pending_by (pending_by pending (take i calls)) (item ∷ [])
    pending_more = ap (λ (l : List Call). pending_by pending l) one_more_call ∙ pending_by-append pending (take i calls) (item ∷ [])

    module _ (waits : Records) (first mid : ℕ) (kept some : List Slot) (waits_is : waits ≡ pending_by pending (take i calls)) (so_far : Makes (take i calls) pending first kept mid some) where
      pub makes_item : (last : ℕ) (few : List Slot) → Makes (item ∷ []) waits mid some last few → Makes (take (i + 1) calls) pending first kept last few
      makes_item last few makes =
          subst (λ (l : List Call). Makes l pending first kept last few) (sym one_more_call)
          (makes_more pending waits (take i calls) (item ∷ []) first mid last kept some few so_far waits_is makes)

      -- what a crash in the next call leaves is a beginning of all of them
      pub begins_all : (commit by : Commit) → by ≡ commit → (c : Look) → HasBeginning by mid some waits (item ∷ []) c → HasBeginning commit first kept pending calls c
      begins_all commit by same c has =
          subst (λ (k : Commit). HasBeginning k first kept pending calls c) same
          (subst (λ (l : List Call). HasBeginning by first kept pending l c) (sym whole)
          (begins_later by pending waits (take i calls) (item ∷ []) (drop (i + 1) calls) first mid kept some c so_far waits_is has))

      -- how far the next call drops
      pub reaches_all : (last : ℕ) → last ≤ max mid (dropped_by (mid + length some) waits (item ∷ [])) → last ≤ max first (dropped_by (first + length kept) pending calls)
      reaches_all last reaches =
          let begins = first + length kept in
          let before = slots_of (batches_by pending (take i calls)) in
          let ends : mid + length some ≡ begins + length before =
          omega (arith, rest_ends first (dropped_by begins pending (take i calls)) mid (kept ++ before) some so_far, length-append kept before) in
          let now : dropped_by (mid + length some) waits (item ∷ []) ≡ dropped_by (begins + length before) (pending_by pending (take i calls)) (item ∷ []) =
          ap (λ (n : ℕ). dropped_by n waits (item ∷ [])) ends ∙ ap (λ (p : Records). dropped_by (begins + length before) p (item ∷ [])) waits_is in
          let all : dropped_by begins pending (take i calls ++ item ∷ []) ≤ dropped_by begins pending calls = subst
          (λ (l : List Call). dropped_by begins pending (take i calls ++ item ∷ []) ≤ dropped_by begins pending l) (
          append_assoc (take i calls) (item ∷ []) (drop (i + 1) calls) ∙ sym whole) (dropped_by-more begins pending (take i calls ++ item ∷ []) (drop (i + 1) calls)) in
          omega (arith, reaches, so_far.before, now, dropped_by-append begins pending (take i calls) (item ∷ []), all)
