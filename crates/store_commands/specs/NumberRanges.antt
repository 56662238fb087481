-- Ranges of numbers, as words name them.
use Rattle.std.specs.Prelude.{◌≡◌, ℕ, ◌+◌, ◌≤◌, Bool, true, false, ◌&&◌, nat_lt, nat_le, nat_eq, if◌then◌else◌, List, [], ◌∷◌}
use Rattle.std.specs.Prelude.{length, drop, Option, Some, None, IsSome, IfSome}
use Rattle.std.specs.List.{starts_with}
use Rattle.std.specs.Option.{option_map, option_and_then, option_map_or, unwrap_or}
use Rattle.std.specs.Str.{all_ascii_digits}
use Rattle.std.specs.Str.Parse.{digits_value, without_leading_plus}
use Rattle.std.specs.declared.ops.Range.{Range}
use Rattle.store_base.specs.declared.error.StoreError.TheVariants.{Memory}
use Rattle.store_commands.specs.declared.request_error.RequestError.{RequestError}
use Rattle.store_commands.specs.declared.request_error.RequestError.TheVariants.{NoRange, NoDocument, Store}

-- ---- ranges: the first number, or else the first one that is there, and the number past the range, or else past the last
-- one that is there

-- whether a range names a number, where the first one is this
abbrev pub names : ℕ → Option ℕ × Option ℕ → ℕ → Bool
names first range k = nat_le (unwrap_or range.0 first) k && option_map_or (λ end. nat_lt k end) range.1 true

-- whether a number is from a start on and below an end
abbrev pub is_within : Range ℕ → ℕ → Bool
is_within numbers k = nat_le numbers.start k && nat_lt k numbers.end

-- whether a range does not end before it begins
abbrev pub is_forward : Option ℕ × Option ℕ → Bool
is_forward range = option_map_or (λ start. option_map_or (λ end. nat_le start end) range.1 true) range.0 true

-- A range names a number that is not there: one before the first, or one past the last and by the range's end. This is the
-- first such one.
pub record IsFirstMissing (range : Option ℕ × Option ℕ) (first end k : ℕ) : Type 0 where
  pub named : names first range k ≡ true
  pub missing : first ≤ k → IsSome range.1 × (end ≤ k)
  pub first_is : (j : ℕ) → names first range j ≡ true → (first ≤ j → IsSome range.1 × (end ≤ j)) → k ≤ j

-- Why a range is refused where the numbers from one to before another are there.
abbrev pub RefusesRange : Option ℕ × Option ℕ → ℕ → ℕ → RequestError → Type 0
RefusesRange range first end (NoDocument k from to) = (from ≡ first) × (to ≡ end) × IsFirstMissing range first end k
RefusesRange range first end _ = ⊥

-- ---- words

-- the number below 2^64 that decimal digits spell, a `+` before them or not
unfoldable pub number_named : List ℕ → Option ℕ
number_named text =
    let digits = without_leading_plus text in
    if nat_lt 0 (length digits) && all_ascii_digits digits && nat_lt (digits_value 10 digits) 18446744073709551616
    then Some (digits_value 10 digits) else None

-- two dots
abbrev pub dots : List ℕ
dots = 46 ∷ 46 ∷ []

-- the texts before and after the first two dots of a text
unfoldable pub around_dots : List ℕ → Option (List ℕ × List ℕ)
around_dots [] = None
around_dots (c ∷ cs) = if starts_with nat_eq (c ∷ cs) dots then Some ([], drop 1 cs)
    else option_map (λ x. (c ∷ x.0, x.1)) (around_dots cs)

-- the range of one number, which is below 2^64 - 1
abbrev pub one_number : ℕ → Option (Option ℕ × Option ℕ)
one_number k = if nat_lt (k + 1) 18446744073709551616 then Some (Some k, Some (k + 1)) else None

-- the bound that the text on one side of the dots names
abbrev pub bound_named : List ℕ → Option (Option ℕ)
bound_named [] = Some None
bound_named (c ∷ cs) = option_map Some (number_named (c ∷ cs))

abbrev pub range_between : List ℕ → List ℕ → Option (Option ℕ × Option ℕ)
range_between before after = option_and_then (λ start. option_map (λ end. (start, end)) (bound_named after))
    (bound_named before)

-- the range that a word names, like `7`, `3..9`, `5..` or `..9`
unfoldable pub range_named : List ℕ → Option (Option ℕ × Option ℕ)
range_named word = option_map_or (λ x. range_between x.0 x.1) (around_dots word)
    (option_and_then one_number (number_named word))

-- Why a word is refused as a range: it names none, or one that ends before it begins.
abbrev pub RefusesWord : List ℕ → RequestError → Type 0
RefusesWord word (NoRange text) = IfSome (range_named word) (λ range. is_forward range ≡ false)
RefusesWord word (Store e) = e ≡ Memory
RefusesWord word _ = ⊥
