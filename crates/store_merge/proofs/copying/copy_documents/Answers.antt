use Rattle.std.proofs.Common.{◌≡◌, ◌⊎◌, inl, inr, ℕ, take, Bool, Bor, Option, Some, None, Err, List, refl, sym, ◌∙◌, ap, subst, arith, rules}
use Rattle.std.specs.Prelude.{IfErr}
use Rattle.std.proofs.lemmas.Result.{err_from_is_err_and}
use Rattle.store_base.specs.declared.error.StoreError.TheVariants.{Read}
use Rattle.store_reader.specs.Reading.{Reading, IsSameStore, num_docs}
use Rattle.store_reader.specs.Walking.{taken_last, set_of, set_in, IsSteadyBetween, IsWalk, LooksAlong, GivesNext}
use Rattle.store_reader.specs.declared.walk.Walk.{Walk}
use Rattle.layered_index.specs.declared.checkpoint.Checkpoint.{Checkpoint}
use Rattle.store_reader.proofs.BlocksAlongLemmas.{take_length_one}
use Rattle.store_reader.proofs.IterationLookUpLemmas.{looks_joined}
use Rattle.store_merge.specs.Inputs.{IsAskedOnce}
use Rattle.store_merge.specs.Refusals.{StopsAt}
use Rattle.store_merge.proofs.CopyLemmas.{IsBegun, asked_next, begins, copied_next, below_next, failed_next, copied_all, refused_read, stored_no_failure, stops}
use Rattle.store_reader.proofs.ItemsSoFarLemmas.{same_count}
use Rattle.store_reader.proofs.RecentLemmas.{same_on}
use Rattle.store_reader.proofs.SteadyLemmas.{steady_begins, steady_more, steady_later, steady_all}
use Rattle.store_base.proofs.Steady.{still}
use Rattle.store_merge.proofs.copying.copy_documents.Goals.{In-Some, In-None}
use Rattle.store_merge.proofs.copying.copy_documents.Goals as goal

pub loop-document-init : goal.loop-document-init
loop-document-init g c =
    let first = c.args.reader.now in
    let items = c.iter_raw-document-items in
    let here = c.into_iter-document-iterator.ensures.into_iter_gives in
    let start : IsBegun first (set_of c.args.alive) c.args.writer.now items.result.reader.now items.result.walk =
    begins first items.result.reader.now (set_of c.args.alive) items.result.walk c.args.writer.now items.ensures.next items.ensures.first_block in
    let walk_is : c.into_iter-document-iterator.result.walk ≡ items.result.walk = ap (λ x. x.walk) here in
    let reader_is : c.into_iter-document-iterator.result.reader.now ≡ items.result.reader.now = ap (λ x. x.reader.now) here in
    let begun : IsBegun first (set_of c.args.alive) c.args.writer.now c.into_iter-document-iterator.result.reader.now c.into_iter-document-iterator.result.walk =
    subst (λ (r : Reading). IsBegun first (set_of c.args.alive) c.args.writer.now r c.into_iter-document-iterator.result.walk) (sym reader_is)
    (subst (IsBegun first (set_of c.args.alive) c.args.writer.now items.result.reader.now) (sym walk_is) start) in
    let taken : take items.result.walk.place first.checkpoints ≡ take 1 first.checkpoints =
    ap (λ (n : ℕ). take n first.checkpoints) items.ensures.place ∙ take_length_one first.checkpoints in
    let began : LooksAlong (take items.result.walk.place first.checkpoints) first None items.result.reader.now (taken_last items.result.walk) =
    subst (λ (cs : List Checkpoint). LooksAlong cs first None items.result.reader.now (taken_last items.result.walk)) (sym taken) items.ensures.first_block in
    let looks : LooksAlong (take c.into_iter-document-iterator.result.walk.place first.checkpoints) first None c.into_iter-document-iterator.result.reader.now
    (taken_last c.into_iter-document-iterator.result.walk) =
    subst (λ (r : Reading). LooksAlong (take c.into_iter-document-iterator.result.walk.place first.checkpoints) first None r (taken_last c.into_iter-document-iterator.result.walk)) (sym reader_is)
    (subst (λ (w : Walk). LooksAlong (take w.place first.checkpoints) first None items.result.reader.now (taken_last w)) (sym walk_is) began) in
    record {
      name = refl;
      same = subst (IsSameStore first) (sym reader_is) items.ensures.same_store;
      set = ap (λ x. set_in x.alive.now) here ∙ items.ensures.alive;
      walk = subst (λ (r : Reading). IsWalk r c.into_iter-document-iterator.result.walk) (sym reader_is) (subst (IsWalk items.result.reader.now) (sym walk_is) items.ensures.walk);
      so_far = steady_begins (set_of c.args.alive) first c.into_iter-document-iterator.result.reader.now c.into_iter-document-iterator.result.walk
          (ap (λ (w : Walk). w.next) walk_is ∙ items.ensures.next)
          (subst (λ (r : Reading). LooksAlong (take 1 first.checkpoints) first None r (taken_last c.into_iter-document-iterator.result.walk)) (sym reader_is)
          (subst (λ (w : Walk). LooksAlong (take 1 first.checkpoints) first None items.result.reader.now (taken_last w)) (sym walk_is) items.ensures.first_block));
      copied = begun.copied;
      below = begun.below;
      failed = begun.failed;
      looks = looks;
      count = omega arith;
      steady = refl;
      sound = c.requires.sound;
    }

-- what the iteration gives, by the set that is asked for
gives_one : (g : _) (c : In-Some g) → GivesNext (set_of c.args.alive) c.loop-document.document-iterator.reader.now c.loop-document.document-iterator.walk (Some c.in-Some.document)
    c.next.new.self.reader.now c.next.new.self.walk
gives_one g c =
    let old = c.loop-document.document-iterator in
    let new = c.next.new.self in
    subst (λ (x : Option (ℕ → Bool)). GivesNext x old.reader.now old.walk (Some c.in-Some.document) new.reader.now new.walk) c.loop-document.invariant.set c.in-Some.ensures.steps.0

gives_none : (g : _) (c : In-None g) → GivesNext (set_of c.args.alive) c.loop-document.document-iterator.reader.now c.loop-document.document-iterator.walk None
    c.next.new.self.reader.now c.next.new.self.walk
gives_none g c =
    let old = c.loop-document.document-iterator in
    let new = c.next.new.self in
    subst (λ (x : Option (ℕ → Bool)). GivesNext x old.reader.now old.walk None new.reader.now new.walk) c.loop-document.invariant.set c.in-None.ensures.steps.0

-- whether the reads that it made failed
steady_to : (g : _) (c : In-Some g)
    → (c.in-Some.document ≡ Err Read) ⊎ IsSteadyBetween (set_of c.args.alive) c.args.reader.now c.next.new.self.reader.now 0 (gives_one g c).last
steady_to g c =
    let old = c.loop-document.document-iterator in
    let inv = c.loop-document.invariant in
    steady_more (set_of c.args.alive) c.args.reader.now old.reader.now old.walk inv.same c.num_docs.ensures.covers inv.walk inv.so_far c.in-Some.document c.next.new.self.reader.now
    c.next.new.self.walk (gives_one g c)

pub loop-document-preserved : goal.loop-document-preserved
loop-document-preserved g c =
    let first = c.args.reader.now in
    let set = set_of c.args.alive in
    let old = c.loop-document.document-iterator in
    let new = c.next.new.self in
    let w = c.loop-document.writer in
    let steps = c.in-Some.ensures.steps in
    let gives = gives_one g (goal.at.loop-document-preserved g c).In-Some in
    let inv = c.loop-document.invariant in
    record {
      name = steps.2 ∙ inv.name;
      same = same_on first old.reader.now new.reader.now inv.same gives.same;
      set = ap (λ (a : Bor (List (List Bool))). set_in a.now) steps.1 ∙ inv.set;
      walk = c.in-Some.ensures.goes.keeps;
      so_far = elim (steady_to g (goal.at.loop-document-preserved g c).In-Some) [
        | inl failed ↦ absurd (stored_no_failure c.in-Some.document w c.take_document.new.writer c.in_ok-take_document.ensures.taken failed)
        | inr steady ↦ inl (steady_later set first new.reader.now gives.last new.walk.next (omega (arith, gives.gives.next)) steady)
      ];
      copied = copied_next first old.reader.now new.reader.now set old.walk new.walk c.in-Some.document c.requires.docs inv.same gives c.args.writer.now w inv.copied c.take_document.new.writer
          c.in_ok-take_document.ensures.taken;
      below = below_next first old.reader.now new.reader.now set old.walk new.walk c.in-Some.document c.requires.docs inv.same gives;
      failed = failed_next first old.reader.now new.reader.now set old.walk new.walk c.in-Some.document c.requires.docs inv.same gives inv.same.failures inv.failed;
      looks = looks_joined first old.reader.now old.walk set gives.last new.reader.now new.walk inv.same.checkpoints inv.looks gives.walks;
      count = omega (arith, inv.count, c.take_document.ensures.count);
      steady = still c.in_ok-take_document.ensures.steady ∙ inv.steady;
      sound = c.take_document.ensures.sound;
    }

pub returns-clause-copied : goal.returns-clause-copied
returns-clause-copied g c =
    let first = c.args.reader.now in
    let set = set_of c.args.alive in
    let old = c.loop-document.document-iterator in
    let new = c.next.new.self in
    let gives = gives_none g (goal.at.returns-clause-copied g c).In-None in
    copied_all first old.reader.now new.reader.now set old.walk new.walk c.args.writer.now c.loop-document.writer c.requires.docs c.loop-document.invariant.same gives c.loop-document.invariant.below
    c.loop-document.invariant.copied

pub returns-in_err-take_document-clause-stopped : goal.returns-in_err-take_document-clause-stopped
returns-in_err-take_document-clause-stopped g c =
    let first = c.args.reader.now in
    let set = set_of c.args.alive in
    let old = c.loop-document.document-iterator in
    let new = c.next.new.self in
    let inv = c.loop-document.invariant in
    let e = c.in_err-take_document.field-0.0 in
    let after = c.take_document.new.writer in
    let gives = gives_one g (goal.at.returns-in_err-take_document-clause-stopped g c).In-Some in
    let failed = failed_next first old.reader.now new.reader.now set old.walk new.walk c.in-Some.document c.requires.docs inv.same gives inv.same.failures inv.failed in
    let stopped : StopsAt set first new.reader.now c.args.writer.now after e =
    stops first old.reader.now new.reader.now set old.walk new.walk c.in-Some.document c.requires.docs inv.same gives c.args.writer.now c.loop-document.writer inv.copied e after inv.count
    c.in-Some.ensures.goes.keeps failed c.in_err-take_document.ensures.err
    (steady_to g (goal.at.returns-in_err-take_document-clause-stopped g c).In-Some) in
    let given = err_from_is_err_and c.from_residual.result c.from_residual.ensures.1 in
    let told : IfErr c.from_residual.result (StopsAt set first new.reader.now c.args.writer.now after) =
    subst (λ r. IfErr r (StopsAt set first new.reader.now c.args.writer.now after)) (sym (given.1 ∙ ap Err given.2)) stopped in
    search rules

pub returns-clause-asked : goal.returns-clause-asked
returns-clause-asked g c =
    let inv = c.loop-document.invariant in
    let asked : IsAskedOnce c.args.reader.now c.next.new.self.reader.now =
    asked_next _ _ _ _ _ _ _ c.num_docs.ensures.covers inv.same inv.looks (gives_none g (goal.at.returns-clause-asked g c).In-None) in
    search rules

pub returns-in_err-take_document-clause-asked : goal.returns-in_err-take_document-clause-asked
returns-in_err-take_document-clause-asked g c =
    let inv = c.loop-document.invariant in
    let asked : IsAskedOnce c.args.reader.now c.next.new.self.reader.now =
    asked_next _ _ _ _ _ _ _ c.num_docs.ensures.covers inv.same inv.looks (gives_one g (goal.at.returns-in_err-take_document-clause-asked g c).In-Some) in
    search rules

pub returns-clause-faults : goal.returns-clause-faults
returns-clause-faults g c =
    let first = c.args.reader.now in
    let set = set_of c.args.alive in
    let old = c.loop-document.document-iterator in
    let new = c.next.new.self in
    let inv = c.loop-document.invariant in
    let gives = gives_none g (goal.at.returns-clause-faults g c).In-None in
    let steady : IsSteadyBetween set first new.reader.now 0 (num_docs first) =
    steady_all set first old.reader.now old.walk inv.same c.num_docs.ensures.covers inv.walk inv.so_far new.reader.now new.walk gives in
    search rules

pub returns-in_err-take_document-clause-faults : goal.returns-in_err-take_document-clause-faults
returns-in_err-take_document-clause-faults g c =
    let first = c.args.reader.now in
    let set = set_of c.args.alive in
    let old = c.loop-document.document-iterator in
    let new = c.next.new.self in
    let inv = c.loop-document.invariant in
    let e = c.in_err-take_document.field-0.0 in
    let gives = gives_one g (goal.at.returns-in_err-take_document-clause-faults g c).In-Some in
    let given = err_from_is_err_and c.from_residual.result c.from_residual.ensures.1 in
    elim (steady_to g (goal.at.returns-in_err-take_document-clause-faults g c).In-Some) [
      | inl failed ↦ inl (given.1 ∙ ap Err given.2
          ∙ ap Err (refused_read c.in-Some.document c.loop-document.writer c.take_document.new.writer e c.in_err-take_document.ensures.err failed))
      | inr steady ↦ inr (elim (steady_later set first new.reader.now gives.last (num_docs first) (omega (arith, gives.gives.below, same_count first old.reader.now inv.same)) steady) [
        | inl same ↦ inl (let stays : new.reader.now.file.failures ≡ first.file.failures = same in search (rules, stays))
        | inr p ↦ inr p
      ])
    ]
