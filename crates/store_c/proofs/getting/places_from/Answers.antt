use Rattle.std.proofs.Common.{◌≡◌, ◌⊎◌, ℕ, ◌+◌, ◌<◌, length, false, inl, inr, Option, Some, None, sym, ap, ◌∙◌, subst, arith}
use Rattle.std.proofs.lemmas.Bool.{eqb-false}
use Rattle.std.specs.Prelude.{MatchOption}
use Rattle.std.specs.Option.{is_some}
use Rattle.store_base.specs.declared.error.StoreError.{StoreError}
use Rattle.store_reader.specs.StoreSlices.{BlocksLeft}
use Rattle.store_c.specs.Getting.{RefusesGet}
use Rattle.store_c.proofs.PlacesLemmas.{further_stay}
use Rattle.store_c.proofs.GettingLemmas.{begins_nowhere, none_after, index_refused}
use Rattle.store_c.proofs.getting.places_from.Goals as goal

pub returns-in-Err-clause-next : goal.returns-in-Err-clause-next
returns-in-Err-clause-next c =
    let same : c.args.first ≡ c.args.first + 0 = omega arith in
    let some = eqb-false (length c.args.places.now) 0 (sym c.if-is_empty.ensures) in (
      omega (arith, some),
      subst (λ (id : ℕ). RefusesGet c.args.store.now id c.in-Err.error) same
          (begins_nowhere c.args.store.now c.args.first c.in-Err.error c.in-Err.ensures.refused c.in-Err.ensures.block),
    )

pub returns-then-is_some-clause-kept : goal.returns-then-is_some-clause-kept
returns-then-is_some-clause-kept c =
    let e = c.places_on-count.ensures in
    e.kept ∙ further_stay c.loop-block.found c.places_on-count.result.0 c.loop-block.places c.args.places.now e.on c.loop-block.invariant.rest

-- where nothing was refused and there is room, the block was gone through
gone_through : {A B : Type 0} (P : StoreError → Type 0) (r : Option StoreError) → MatchOption r (A ⊎ B) P → is_some r ≡ false → (A → ⊥) → B
gone_through P None h e full = elim h [ inl a ↦ absurd (full a) | inr b ↦ b ]
gone_through P (Some x) h e full = cc

pub returns-in_default-clause-kept : goal.returns-in_default-clause-kept
returns-in_default-clause-kept c =
    let e = c.places_on-count.ensures in
    e.kept ∙ further_stay c.loop-block.found c.places_on-count.result.0 c.loop-block.places c.args.places.now e.on c.loop-block.invariant.rest

pub returns-in_default-clause-next : goal.returns-in_default-clause-next
returns-in_default-clause-next c =
    let l = c.loop-block in
    let e = c.places_on-count.ensures in
    let ended : c.args.first + c.places_on-count.result.0 ≡ l.block.end = gone_through _ c.places_on-count.result.1 e.next (sym c.if-is_some.ensures)
    (λ full. c.if-count-places.false (full ∙ sym e.len)) in
    let room : c.places_on-count.result.0 < length c.args.places.now = omega (arith, e.room, c.if-count-places.false, e.len, l.invariant.size) in
    (room, none_after c.args.store.now _ l.block.end (sym ended) (λ s. sym l.invariant.next ∙ (c.in_default.ensures.steps.1 c.args.store.now s (l.invariant.left s)).0))

pub returns-in-Err-item-clause-kept : goal.returns-in-Err-item-clause-kept
returns-in-Err-item-clause-kept c =
    let e = c.places_on-count.ensures in
    e.kept ∙ further_stay c.loop-block.found c.places_on-count.result.0 c.loop-block.places c.args.places.now e.on c.loop-block.invariant.rest

pub returns-in-Err-item-clause-next : goal.returns-in-Err-item-clause-next
returns-in-Err-item-clause-next c =
    let step = rw c.in-Err-item.is at c.in-Some.ensures.steps in
    let e = c.places_on-count.ensures in
    let room : c.places_on-count.result.0 < length c.args.places.now = omega (arith, e.room, c.if-count-places.false, e.len, c.loop-block.invariant.size) in
    (room, index_refused c.args.store.now _ c.in-Err-item.error step.0.0 (λ s. (step.1 c.args.store.now s (c.loop-block.invariant.left s)).0))

pub loop-block-preserved : goal.loop-block-preserved
loop-block-preserved c =
    let l = c.loop-block in
    let kept = l.invariant in
    let e = c.places_on-count.ensures in
    let step = rw c.in-Ok-item.is at c.in-Some.ensures.steps in
    let part = step.0.0 in
    let ended : c.args.first + c.places_on-count.result.0 ≡ l.block.end = gone_through _ c.places_on-count.result.1 e.next (sym c.if-is_some.ensures)
    (λ full. c.if-count-places.false (full ∙ sym e.len)) in
    record {
      are = e.found c.args.store.now kept.held kept.are;
      rest = e.kept ∙ further_stay l.found c.places_on-count.result.0 l.places c.args.places.now e.on kept.rest;
      size = e.len ∙ kept.size;
      room = omega (arith, e.room, e.len);
      from = omega (arith, part.first_is, kept.next, ended);
      to = omega (arith, part.first_is, part.some, kept.next, ended);
      held = record { within = omega (arith, part.within, ap length kept.bytes); stored = λ s. (step.1 c.args.store.now s (kept.left s)).0 };
      fits = part.fits;
      bytes = ap (λ (left : BlocksLeft). left.bytes) step.0.3 ∙ kept.bytes;
      next = ap (λ (left : BlocksLeft). left.next) step.0.3;
      left = λ s. (step.1 c.args.store.now s (kept.left s)).1;
    }
