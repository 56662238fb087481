-- What is left of a log that grows and loses its first slots.
use Rattle.std.proofs.Common.{◌≡◌, ℕ, ◌+◌, ◌-◌, ◌≤◌, max, List, ◌++◌, length, drop, sym, ◌∙◌, ap, arith, length-append, length-drop}
use Rattle.std.proofs.lemmas.List.{drop-append-le}
use Rattle.store_folder.specs.Folder.{Look}
use Rattle.store_format.specs.Block.{Slot}
use Rattle.segmented_log.specs.Dropping.{IsRest, DropsTo}
use Rattle.segmented_log.proofs.DropLemmas.{rest_of_rest}

-- a greater number may be dropped to
pub rest_more : (first number more new_first : ℕ) (all rest : List Slot) → IsRest first all number new_first rest → number ≤ more → IsRest first all more new_first rest
rest_more first number more new_first all rest one less = record {
  grows = one.grows;
  before = omega (arith, one.before, less);
  within = one.within;
  slots_are = one.slots_are;
}

pub drops_more : (first number more : ℕ) (all : List Slot) (c : Look) → DropsTo first all number c → number ≤ more → DropsTo first all more c
drops_more first number more all c one less = record {
  new_first = one.new_first;
  rest = one.rest;
  is_rest = rest_more first number more one.new_first all one.rest one.is_rest less;
  log = one.log;
}

-- slots that are added later
pub rest_grows : (first number new_first : ℕ) (all rest added : List Slot) → IsRest first all number new_first rest → IsRest first (all ++ added) number new_first (rest ++ added)
rest_grows first number new_first all rest added one = record {
  grows = one.grows;
  before = one.before;
  within = omega (arith, one.within, length-append all added);
  slots_are = ap (λ (l : List Slot). l ++ added) one.slots_are ∙ sym (drop-append-le (new_first - first) all added (omega (arith, one.within, one.grows)));
}

-- a rest of a rest to which slots were added
pub rest_after : (first mid last number more : ℕ) (all some added few : List Slot) → IsRest first all number mid some → IsRest mid (some ++ added) more last few
    → IsRest first (all ++ added) (max number more) last few
rest_after first mid last number more all some added few one two =
    rest_of_rest first mid last (max number more) (all ++ added) (some ++ added) few
    (rest_more first number (max number more) mid (all ++ added) (some ++ added) (rest_grows first number mid all some added one) (omega arith))
    (rest_more mid more (max number more) last (some ++ added) few two (omega arith))

-- it ends where all slots end
pub rest_ends : (first number new_first : ℕ) (all rest : List Slot) → IsRest first all number new_first rest → new_first + length rest ≡ first + length all
rest_ends first number new_first all rest one = omega (arith, one.grows, one.within, ap length one.slots_are ∙ length-drop (new_first - first) all)

-- it is all of them where no number is dropped
pub rest_whole : (first number new_first : ℕ) (all rest : List Slot) → IsRest first all number new_first rest → number ≤ first → (new_first ≡ first) × (rest ≡ all)
rest_whole first number new_first all rest one low =
    let none : new_first - first ≡ 0 = omega (arith, one.before, low) in
    (omega (arith, one.grows, one.before, low), one.slots_are ∙ ap (λ (n : ℕ). drop n all) none)
