-- What a log and an output are after the steps of an append.
use Rattle.std.proofs.Common.{◌≡◌, ℕ, ◌+◌, ◌-◌, Bool, false, true, List, [], ◌∷◌, ◌++◌}
use Rattle.std.proofs.Common.{length, map, Option, refl, sym, ap, subst, ◌∙◌, append-nil, arith, length-append}
use Rattle.std.specs.Prelude.{IfSome}
use Rattle.std.proofs.lemmas.List.{length-map}
use Rattle.store_format.specs.Block.{doc}
use Rattle.store_folder.specs.Folder.{Look}
use Rattle.segmented_log.specs.Log.{KeepsOrAdds, LogView}
use Rattle.framed_logs.specs.declared.sync_policy.SyncPolicy.{SyncPolicy}
use Rattle.framed_logs.specs.declared.sync_policy.SyncPolicy.TheVariants.{End}
use Rattle.framed_logs.specs.Printed.{Printed, Prints, number_lines}
use Rattle.framed_logs.specs.Steps.{adds_more, adds_none, lines_join, prints_more, prints_none, slots_more, split_more}
use Rattle.framed_logs.specs.Appending.{Adds, FailsSync, LeavesSynced, PutsAll, Stops, Syncs, lines_after}

module _ {F : Type 0} where
  -- the numbers of what was synced are those between the ends of the log
  pub syncs : (old new : LogView F) (p q : Printed) (from to : ℕ) → new.commit ≡ old.commit → new.first ≡ old.first → new.slots ≡ old.slots ++ map doc old.pending
      → new.pending ≡ [] → old.is_broken ≡ false → new.is_broken ≡ false → from ≡ old.first + length old.slots
      → to ≡ new.first + length new.slots → Prints p q (number_lines from (to - from)) → Syncs old new p q
  syncs old new p q from to commit first slots none worked works starts ends lines =
      let e : to - from ≡ length old.pending =
      omega (arith, first, starts, ends, ap length slots, length-append old.slots (map doc old.pending), length-map old.pending doc) in record {
        commit = commit;
        first = first;
        slots = slots;
        pending = none;
        worked = worked;
        works = works;
        lines = subst (λ n. Prints p q (number_lines n (length old.pending))) starts (subst (λ n. Prints p q (number_lines from n)) e lines);
      }

  -- a sync, which is not the last one
  pub sync_adds : (policy : SyncPolicy) (old new : LogView F) (p q : Printed) → (policy ≡ End → ⊥) → Syncs old new p q → Adds policy [] old new p q
  sync_adds policy old new p q early s = record {
    synced = old.pending;
    split = ap (λ l. old.pending ++ l) s.pending;
    commit = s.commit;
    first = s.first;
    slots = s.slots;
    works = s.works ∙ sym s.worked;
    lines = s.lines;
    late = λ is. absurd (early is);
  }

  -- a record was put after the others
  pub put_adds : (policy : SyncPolicy) (old new : LogView F) (p : Printed) (record_bytes : List ℕ) → new.commit ≡ old.commit → new.first ≡ old.first → new.slots ≡ old.slots
      → new.is_broken ≡ old.is_broken → new.pending ≡ old.pending ++ record_bytes ∷ [] → Adds policy (record_bytes ∷ []) old new p p
  put_adds policy old new p record_bytes commit first slots works pending = record {
    synced = [];
    split = pending;
    commit = commit;
    first = first;
    slots = slots ∙ sym (append-nil old.slots);
    works = works;
    lines = prints_none p;
    late = λ _. refl;
  }

  -- all documents were added, and then what waited was synced
  pub puts_all : (policy : SyncPolicy) (known : Option (List (List ℕ))) (documents : List (List ℕ)) (old middle new : LogView F) (p q r : Printed)
      → IfSome known (λ known. documents ≡ known) → Adds policy documents old middle p q → Syncs middle new q r → PutsAll known old new p r
  puts_all policy known documents old middle new p q r all a s =
      let slots = slots_more old.slots middle.slots new.slots a.synced middle.pending a.slots s.slots in
      let lines = subst (Prints p r) (sym (lines_join old middle a.synced middle.pending a.first a.slots)) (prints_more p q r _ _ a.lines s.lines) in
      let few : length (a.synced ++ middle.pending) ≡ length old.pending + length documents =
      ap length a.split ∙ length-append old.pending documents in record {
        count = length old.pending + length documents;
        has = record {
          documents = documents;
          all = all;
          first = s.first ∙ a.first;
          slots = subst (λ l. new.slots ≡ old.slots ++ map doc l) a.split slots;
          pending = s.pending;
          count_is = refl;
        };
        lines = subst (λ n. Prints p r (lines_after old n)) few lines;
      }

  -- a record was taken: before it and after it what waited may have been synced
  pub took : (policy before after : SyncPolicy) (old first second new : LogView F) (p q q' r : Printed) (document : List ℕ)
      → before ≡ policy → after ≡ before → Adds policy [] old first p q → second.commit ≡ first.commit → second.first ≡ first.first → second.slots ≡ first.slots
      → second.is_broken ≡ first.is_broken → second.pending ≡ first.pending ++ document ∷ [] → q' ≡ q
      → Adds after [] second new q' r → Adds policy (document ∷ []) old new p r
  took policy before after old first second new p q q' r document e f a commit number slots works pending same b =
      let put : Adds policy (document ∷ []) first second q q' =
      subst (λ x. Adds policy (document ∷ []) first second q x) (sym same) (put_adds policy first second q document commit number slots works pending) in
      adds_more policy old second new p q' r (document ∷ []) [] (adds_more policy old first second p q q' [] (document ∷ []) a put)
      (subst (λ x. Adds x [] second new q' r) (f ∙ e) b)

module _ {F : Type 0} (leaves : F → F → (Look → Type 0) → Type 0) where
  -- a log that added records, at a call that fails
  pub adds_stops : (policy : SyncPolicy) (documents : List (List ℕ)) (old new : LogView F) (p q : Printed)
      → Adds policy documents old new p q → Stops leaves policy documents old new p q
  adds_stops policy documents old new p q a = record {
    synced = a.synced;
    rest = new.pending;
    split = a.split;
    kept = λ _. record { commit = a.commit; first = a.first; slots = a.slots; pending = refl };
    left = λ worked broken. cc (a.works);
    lines = a.lines;
    late = a.late;
  }

  -- what a crash leaves of a log with these records on the disk
  pub leaves_more : (old middle : LogView F) (front synced rest : List (List ℕ)) (new : F) → middle.commit ≡ old.commit → middle.first ≡ old.first
      → middle.slots ≡ old.slots ++ map doc front → LeavesSynced leaves middle synced rest new → LeavesSynced leaves old (front ++ synced) rest new
  leaves_more old middle front synced rest new commit first slots l =
      let all = old.slots ++ map doc (front ++ synced) in let waiting = rest ++ l.more in
      let e : middle.slots ++ map doc synced ≡ all = slots_more old.slots middle.slots (middle.slots ++ map doc synced) front synced slots refl in record {
        since = l.since;
        more = l.more;
        left = subst (λ x. leaves l.since new (KeepsOrAdds x old.first all waiting)) commit
            (subst (λ x. leaves l.since new (KeepsOrAdds middle.commit x all waiting)) first
            (subst (λ x. leaves l.since new (KeepsOrAdds middle.commit middle.first x waiting)) e l.left));
      }

  -- what it leaves after a sync of these records failed
  pub leaves_failed : (old middle : LogView F) (synced rest more : List (List ℕ)) (new : F) → middle.commit ≡ old.commit → middle.first ≡ old.first
      → middle.slots ≡ old.slots ++ map doc synced → middle.pending ≡ rest ++ more
      → leaves middle.folder new (KeepsOrAdds middle.commit middle.first middle.slots middle.pending) → LeavesSynced leaves old synced rest new
  leaves_failed old middle synced rest more new commit first slots pending l = subst (λ x. LeavesSynced leaves old x rest new) (append-nil synced)
      (leaves_more old middle synced [] rest new commit first slots (record {
        since = middle.folder;
        more = more;
        left = subst (λ x. leaves middle.folder new (KeepsOrAdds middle.commit middle.first x (rest ++ more))) (sym (append-nil middle.slots))
            (subst (λ x. leaves middle.folder new (KeepsOrAdds middle.commit middle.first middle.slots x)) pending l);
      }))

  -- a sync failed after these
  pub stops_broken : (policy : SyncPolicy) (documents : List (List ℕ)) (old middle new : LogView F) (p q r : Printed)
      → Stops leaves policy documents old middle p q → FailsSync leaves middle new q r → Stops leaves policy documents old new p r
  stops_broken policy documents old middle new p q r a f = record {
    synced = a.synced;
    rest = a.rest;
    split = a.split;
    kept = λ works. cc (f.broken);
    left = λ worked broken. left worked middle.is_broken refl;
    lines = subst (λ x. Prints p x (lines_after old (length a.synced))) (sym f.silent) a.lines;
    late = a.late;
  }
    where
      left : old.is_broken ≡ false → (is_broken : Bool) → middle.is_broken ≡ is_broken → LeavesSynced leaves old a.synced a.rest new.folder
      left worked true broken = subst (λ n. LeavesSynced leaves old a.synced a.rest n.folder) (sym (f.same broken)) (a.left worked broken)
      left worked false works =
          let kept = a.kept works in
          leaves_failed old middle a.synced a.rest [] new.folder kept.commit kept.first kept.slots
          (kept.pending ∙ sym (append-nil a.rest)) (f.left works)

  -- what waited was synced after these
  pub stops_synced : (policy : SyncPolicy) (documents : List (List ℕ)) (old middle new : LogView F) (p q r : Printed)
      → (policy ≡ End → ⊥) → Stops leaves policy documents old middle p q → Syncs middle new q r → Stops leaves policy documents old new p r
  stops_synced policy documents old middle new p q r early a s =
      let kept = a.kept s.worked in
      let slots : new.slots ≡ old.slots ++ map doc (a.synced ++ a.rest) =
      slots_more old.slots middle.slots new.slots a.synced a.rest kept.slots (subst (λ l. new.slots ≡ middle.slots ++ map doc l) kept.pending s.slots) in
      let after : Prints q r (lines_after middle (length a.rest)) = subst (λ l. Prints q r (lines_after middle (length l))) kept.pending s.lines in record {
        synced = a.synced ++ a.rest;
        rest = [];
        split = append-nil (a.synced ++ a.rest) ∙ a.split;
        kept = λ _. record { commit = s.commit ∙ kept.commit; first = s.first ∙ kept.first; slots = slots; pending = s.pending };
        left = λ worked broken. cc (s.works);
        lines = subst (Prints p r) (sym (lines_join old middle a.synced a.rest kept.first kept.slots)) (prints_more p q r _ _ a.lines after);
        late = λ is. absurd (early is);
      }

  -- records were added, and then a call failed
  pub adds_then_stops : (policy : SyncPolicy) (documents : List (List ℕ)) (old middle new : LogView F) (p q r : Printed)
      → Adds policy documents old middle p q → Stops leaves policy [] middle new q r → Stops leaves policy documents old new p r
  adds_then_stops policy documents old middle new p q r a b = record {
    synced = a.synced ++ b.synced;
    rest = b.rest;
    split = split_more old.pending middle.pending b.rest documents [] a.synced b.synced a.split b.split
        ∙ ap (λ l. old.pending ++ l) (append-nil documents);
    kept = λ works. let more = b.kept works in record {
      commit = more.commit ∙ a.commit;
      first = more.first ∙ a.first;
      slots = slots_more old.slots middle.slots new.slots a.synced b.synced a.slots more.slots;
      pending = more.pending;
    };
    left = λ worked broken. leaves_more old middle a.synced b.synced b.rest new.folder a.commit a.first a.slots (b.left (a.works ∙ worked) broken);
    lines = subst (Prints p r) (sym (lines_join old middle a.synced b.synced a.first a.slots)) (prints_more p q r _ _ a.lines b.lines);
    late = λ is. ap (λ l. l ++ b.synced) (a.late is) ∙ b.late is;
  }

  -- a sync failed
  pub sync_failed : (policy : SyncPolicy) (old new : LogView F) (p q : Printed) → FailsSync leaves old new p q → Stops leaves policy [] old new p q
  sync_failed policy old new p q f =
      stops_broken policy [] old old new p p q (adds_stops policy [] old old p p (adds_none policy old p)) f

  -- a record was put after what waited, and the sync after it failed
  pub put_failed : (policy : SyncPolicy) (old first second new : LogView F) (p q q' r : Printed) (document : List ℕ)
      → Adds policy [] old first p q → second.commit ≡ first.commit → second.first ≡ first.first → second.slots ≡ first.slots
      → second.is_broken ≡ first.is_broken → second.pending ≡ first.pending ++ document ∷ [] → q' ≡ q
      → FailsSync leaves second new q' r → Stops leaves policy [] old new p r
  put_failed policy old first second new p q q' r document a commit number slots works pending same f = record {
    synced = a.synced;
    rest = first.pending;
    split = a.split;
    kept = λ works. cc (f.broken);
    left = λ worked broken. leaves_failed old second a.synced first.pending (document ∷ []) new.folder (commit ∙ a.commit) (number ∙ a.first)
        (slots ∙ a.slots) pending (f.left (works ∙ a.works ∙ worked));
    lines = subst (λ x. Prints p x (lines_after old (length a.synced))) (sym (f.silent ∙ same)) a.lines;
    late = a.late;
  }
