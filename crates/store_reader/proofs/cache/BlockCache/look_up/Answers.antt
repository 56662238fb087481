use Rattle.std.proofs.Common.{◌≡◌, refl, Option, Some, None, IsNone, IsSome}
use Rattle.std.specs.Prelude.{MatchOption, IsSomeAnd}
use Rattle.store_reader.proofs.CachedBlocksLemmas.{AreCached-promoted, promoted_none, state-after_hit}
use Rattle.store_reader.specs.contracts.cache.BlockCache.{the_view}
use Rattle.store_reader.proofs.cache.BlockCache.look_up.Goals as goal

none_of : {A X : Type 0} (o : Option X) (r : Option A) (Q : A → Type 0) → IsNone r → MatchOption r (o ≡ None) Q → o ≡ None
none_of o None Q n m = m
none_of o (Some x) Q n m = cc

pub invariant_of-self : goal.invariant_of-self
invariant_of-self c = rw (c.answer-found.ensures.capacity, c.answer-found.ensures.entries) (AreCached-promoted _ _ _ c.self.invariant)

pub invariant_of-self-else-is_some : goal.invariant_of-self-else-is_some
invariant_of-self-else-is_some c = rw (c.answer-found.ensures.capacity, c.answer-found.ensures.entries) (AreCached-promoted _ _ _ c.self.invariant)

pub returns-else-is_some-clause-miss : goal.returns-else-is_some-clause-miss
returns-else-is_some-clause-miss c none =
    let absent = none_of _ c.answer-found.result _ none c.answer-found.ensures.answer in
    rw (← c.self.view_is, c.answer-found.ensures.capacity, c.answer-found.ensures.entries, promoted_none _ _ absent, c.saturating_add-self-inside-else-is_some.ensures) refl

some_at : {A : Type 0} {X : Type 0} (o : Option X) (r : Option A) (Q : A → X → Type 0) → IsSome r → MatchOption r (o ≡ None) (λ a. IsSomeAnd o (Q a)) → IsSome o
some_at (Some x) r Q s m = refl
some_at None None Q s m = cc
some_at None (Some a) Q s m = absurd m

pub returns-then-is_some-clause-step : goal.returns-then-is_some-clause-step
returns-then-is_some-clause-step c some is_kept =
    let there = some_at _ c.answer-found.result _ some c.answer-found.ensures.answer in
    rw (← c.self.view_is, c.answer-found.ensures.entries, c.saturating_add-self-inside.ensures) (state-after_hit c.args.key is_kept (the_view c.self.inside) there c.self.invariant)
