-- What the words of ranges name.
use Rattle.std.proofs.Common.{◌≡◌, ℕ, zero, suc, ◌+◌, ◌<◌, ◌≤◌, Bool, true, false, cond, List, [], ◌∷◌, ◌++◌, length, take, drop, Option, Some, None, refl, sym, ap, arith, Bor}
use Rattle.std.specs.Prelude.{Result, Ok, Err, ◌&&◌, nat_lt, nat_eq, MatchOption}
use Rattle.std.specs.List.{starts_with}
use Rattle.std.specs.Option.{option_map}
use Rattle.std.specs.Result.{result_ok}
use Rattle.std.specs.Str.{all_ascii_digits}
use Rattle.std.specs.Str.Parse.{digits_value, without_leading_plus, ParsesUnsigned}
use Rattle.std.specs.Str.Pattern.{FindsText, LacksTextAt}
use Rattle.std.proofs.lemmas.Bool.{lt-ltb, le-ltb, ltb-true}
use Rattle.std.proofs.lemmas.Bool.Decides.{nat_tests}
use Rattle.std.proofs.lemmas.Str.Parse.{IsNumeralModel, numerals_by_value, tells_all_ascii_digits}
use Rattle.store_base.proofs.ListLemmas.{both}
use Rattle.store_commands.specs.NumberRanges.{number_named, around_dots, dots, bound_named, range_named}

own : IsNumeralModel (λ ds. all_ascii_digits ds ≡ true) (digits_value 10)
own = numerals_by_value (λ ds. all_ascii_digits ds ≡ true) tells_all_ascii_digits

none_unless : (b : Bool) (n : ℕ) → (b ≡ true → ⊥) → None ≡ cond b (Some n) None
none_unless true n h = absurd (h refl)
none_unless false n h = refl

-- `parse` reads the number that a text spells
pub number_parsed : {E : Type 0} (text : List ℕ) (r : Result ℕ E) → ParsesUnsigned 64 10 text r → result_ok r ≡ number_named text
unfolding number_named
number_parsed text (Ok n) h =
    let digits = without_leading_plus text in
    let some : nat_lt 0 (length digits) ≡ true = lt-ltb 0 (length digits) h.0.0.0 in
    let all : all_ascii_digits digits ≡ true = own.from digits h.0.0.1 in
    let few : nat_lt (digits_value 10 digits) 18446744073709551616 ≡ true = lt-ltb (digits_value 10 digits) 18446744073709551616 h.0.1 in
    rw (some, all, few) (ap Some h.1)
number_parsed text (Err e) h =
    let digits = without_leading_plus text in
    none_unless (nat_lt 0 (length digits) && all_ascii_digits digits && nat_lt (digits_value 10 digits) 18446744073709551616) (digits_value 10 digits) (λ t.
    let last = both (nat_lt 0 (length digits) && all_ascii_digits digits) (nat_lt (digits_value 10 digits) 18446744073709551616) t in
    let first = both (nat_lt 0 (length digits)) (all_ascii_digits digits) last.0 in
    h ((ltb-true 0 (length digits) first.0, own.to digits first.1), ltb-true (digits_value 10 digits) 18446744073709551616 last.1))

-- ---- two dots

none_and : (a : Bool) → (a && false) ≡ true → ⊥
none_and true e = cc
none_and false e = cc

begin_dots : (c : ℕ) (cs : List ℕ) → starts_with nat_eq (c ∷ cs) dots ≡ true → (rest : List ℕ) × (c ∷ cs ≡ dots ++ rest)
begin_dots c [] e = absurd (none_and (nat_eq 46 c) e)
begin_dots c (d ∷ ds) e =
    let parts = both (nat_eq 46 c) (nat_eq 46 d && true) e in
    let last = both (nat_eq 46 d) true parts.1 in
    let first : c ≡ 46 = grind (arith, nat_tests) in
    let second : d ≡ 46 = grind (arith, nat_tests) in
    (ds, rw (first, second) refl)

-- the test of a text that doesn't begin with them
no_dots : (c : ℕ) (cs : List ℕ) → LacksTextAt dots (c ∷ cs) 0 → starts_with nat_eq (c ∷ cs) dots ≡ false
no_dots c cs lacks = (elim (starts_with nat_eq (c ∷ cs) dots) as (λ b. starts_with nat_eq (c ∷ cs) dots ≡ b → b ≡ false) [
  | true ↦ λ e. let begins = begin_dots c cs e in absurd (lacks begins.0 begins.1)
  | false ↦ λ e. refl
]) refl

-- a text without them has nothing around them
none_around : (text : List ℕ) → ((i : ℕ) → i ≤ length text → LacksTextAt dots text i) → around_dots text ≡ None
unfolding around_dots
none_around [] lacks = refl
none_around (c ∷ cs) lacks =
    rw (no_dots c cs (lacks 0 (omega arith)), none_around cs (λ i le. lacks (suc i) (omega arith))) refl

-- the first ones are found
first_around : (i : ℕ) (text rest : List ℕ) → ((k : ℕ) → k < i → LacksTextAt dots text k) → drop i text ≡ dots ++ rest → around_dots text ≡ Some (take i text, rest)
unfolding around_dots
first_around zero [] rest lacks e = absurd cc
first_around zero (c ∷ []) rest lacks e = absurd cc
first_around zero (c ∷ d ∷ ds) rest lacks e =
    let first : c ≡ 46 = cc in let second : d ≡ 46 = cc in let others : ds ≡ rest = cc in
    rw (first, second, others) refl
first_around (suc i) [] rest lacks e = absurd cc
first_around (suc i) (c ∷ cs) rest lacks e =
    rw (no_dots c cs (lacks 0 (omega arith)), first_around i cs rest (λ k lt. lacks (suc k) (omega arith)) e) refl

-- what `split_once` at two dots gives
pub dots_split : (text : List ℕ) (r : Option (Bor (List ℕ) × Bor (List ℕ)))
    → MatchOption r (FindsText dots text None)
    (λ x. (i : ℕ) × (j : ℕ) × FindsText dots text (Some (i, j)) × (x.0.now ≡ take i text) × (x.1.now ≡ drop j text) × (i ≤ j) × (length x.0.now ≡ i) × (length x.1.now + j ≡ length text))
    → option_map (λ x. (x.0.now, x.1.now)) r ≡ around_dots text
dots_split text None h = sym (none_around text h)
dots_split text (Some x) h =
    let found = first_around h.0 text (drop h.1 text) h.2.0 h.2.1.split in
    rw (h.3, h.4) (sym found)

-- ---- the range of a word, by its parts

pub alone_none : (word : List ℕ) → None ≡ around_dots word → None ≡ number_named word → None ≡ range_named word
unfolding range_named
alone_none word split number = rw (← split, ← number) refl

pub alone_last : (word : List ℕ) (n : ℕ) → None ≡ around_dots word → Some n ≡ number_named word → ((n + 1 < 18446744073709551616) → ⊥) → None ≡ range_named word
unfolding range_named
alone_last word n split number last = let past : nat_lt (n + 1) 18446744073709551616 ≡ false = le-ltb (n + 1) 18446744073709551616 (omega arith) in rw (← split, ← number, past) refl

pub alone_some : (word : List ℕ) (n m : ℕ) → None ≡ around_dots word → Some n ≡ number_named word → n + 1 < 18446744073709551616 → m ≡ n + 1 → Some (Some n, Some m) ≡ range_named word
unfolding range_named
alone_some word n m split number few same = let below : nat_lt (n + 1) 18446744073709551616 ≡ true = lt-ltb (n + 1) 18446744073709551616 few in rw (← split, ← number, below, same) refl

pub no_start : (word before after : List ℕ) → Some (before, after) ≡ around_dots word → None ≡ bound_named before → None ≡ range_named word
unfolding range_named
no_start word before after split start = rw (← split, ← start) refl

pub no_end : (word before after : List ℕ) (s : Option ℕ) → Some (before, after) ≡ around_dots word → Some s ≡ bound_named before → None ≡ bound_named after → None ≡ range_named word
unfolding range_named
no_end word before after s split start end = rw (← split, ← start, ← end) refl

pub both_named : (word before after : List ℕ) (s e : Option ℕ) → Some (before, after) ≡ around_dots word → Some s ≡ bound_named before → Some e ≡ bound_named after → Some (s, e) ≡ range_named word
unfolding range_named
both_named word before after s e split start end = rw (← split, ← start, ← end) refl
