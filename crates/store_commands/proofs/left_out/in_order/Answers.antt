use Rattle.std.proofs.Common.{◌∙◌, sym, subst, rules}
use Rattle.std.specs.List.{AllByRecursion}
use Rattle.std.specs.List.Sorted.{IsNonDecreasingBy}
use Rattle.std.proofs.lemmas.Result.{IfOk-weaker}
use Rattle.std.proofs.lemmas.List.Elements.{All-from_recursion, recursion_from_All}
use Rattle.std.proofs.lemmas.List.Sorted.{All-permutation, list_any-IsPermutation, IsNonDecreasingBy-from_sort_by_key}
use Rattle.store_commands.specs.declared.left_out.IdSpan.{IdSpan}
use Rattle.store_commands.specs.LeftOut.{is_in, HasId}
use Rattle.store_commands.proofs.left_out.in_order.Goals as goal

pub merged-requires-clause-filled : goal.merged-requires-clause-filled
merged-requires-clause-filled c =
    let moved = c.sort_unstable_by_key.ensures.permutation in
    subst (AllByRecursion HasId) (sym c.deref.ensures.value)
    (recursion_from_All HasId _ (All-permutation HasId _ _ moved (All-from_recursion HasId _ c.requires)))

pub merged-requires-clause-sorted : goal.merged-requires-clause-sorted
merged-requires-clause-sorted c =
    subst (IsNonDecreasingBy (λ (s : IdSpan). s.start)) (sym c.deref.ensures.value)
    (IsNonDecreasingBy-from_sort_by_key (λ (s : IdSpan). s.start) _ c.sort_unstable_by_key.ensures.sorted (λ a r q k. search rules))

pub returns-clause-same : goal.returns-clause-same
returns-clause-same c =
    IfOk-weaker c.merged.result _ _ (λ merged same id.
    let moved = list_any-IsPermutation (λ (s : IdSpan). is_in s id) _ _ c.sort_unstable_by_key.ensures.permutation in
    same id ∙ (rw c.deref.ensures.value (sym moved))) c.merged.ensures.same
