use Rattle.std.proofs.Common.{◌≡◌, List, ℕ, sym, subst}
use Rattle.std.specs.List.{Contains, dedup}
use Rattle.std.specs.List.Sorted.{IsStrictlyIncreasing}
use lib.Dec.{eqb}
use Rattle.std.proofs.lemmas.List.Filters.{dedup_is}
use Rattle.std.proofs.lemmas.List.Kept.{Contains-dedup_nat, Contains-from_dedup}
use Rattle.std.proofs.lemmas.List.Sorted.{Contains-permutation, IsPermutation-sym}
use Rattle.std.proofs.lemmas.Map.Keys.{IsStrictlyIncreasing-dedup}
use Rattle.segmented_log.proofs.opening.numbers_in.Goals as goal

pub returns-clause-numbers : goal.returns-clause-numbers
returns-clause-numbers c =
    let found = c.in_ok-numbers.numbers.items in
    let sorted = c.sort.new.self.items in
    let once = c.dedup.new.self.items in
    let is : once ≡ dedup eqb sorted = dedup_is eqb sorted once c.dedup.ensures.filtered in
    let back : (k : ℕ) → Contains once k → Contains found k = λ k among. Contains-permutation sorted found k (IsPermutation-sym found sorted c.sort.ensures.permutation)
    (Contains-from_dedup eqb sorted k (subst (λ (l : List ℕ). Contains l k) is among)) in
    record {
      each = λ k low among. subst (λ (l : List ℕ). Contains l k) (sym is)
          (Contains-dedup_nat sorted k (Contains-permutation found sorted k c.sort.ensures.permutation (c.in_ok-numbers.ensures.each k low among)));
      only = λ k among. c.in_ok-numbers.ensures.only k (back k among);
      fits = λ k among. c.in_ok-numbers.ensures.fits k (back k among);
    }

pub returns-clause-ascend : goal.returns-clause-ascend
returns-clause-ascend c =
    let sorted = c.sort.new.self.items in
    let once = c.dedup.new.self.items in
    let is : once ≡ dedup eqb sorted = dedup_is eqb sorted once c.dedup.ensures.filtered in
    subst IsStrictlyIncreasing (sym is) (IsStrictlyIncreasing-dedup sorted c.in_ok-sort.ensures.sorted)
