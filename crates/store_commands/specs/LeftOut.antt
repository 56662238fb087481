-- The documents that `--without` leaves out.
use Rattle.std.specs.Prelude.{◌≡◌, ℕ, ◌+◌, ◌<◌, ◌≤◌, Bool, false, ◌&&◌, ◌==◌, nat_le, nat_lt, List, [], ◌∷◌}
use Rattle.std.specs.Prelude.{Any, Option, Some}
use Rattle.std.specs.List.{list_any, slice_split}
use Rattle.std.specs.Option.{option_map_or}
use Rattle.std.specs.Borrow.{Bor}
use Rattle.store_base.specs.declared.error.StoreError.TheVariants.{Memory}
use Rattle.store_commands.specs.declared.left_out.IdSpan.{IdSpan}
use Rattle.store_commands.specs.declared.request_error.RequestError.{RequestError}
use Rattle.store_commands.specs.declared.request_error.RequestError.TheVariants.{NoRange, NoDocument, Store}
use Rattle.store_commands.specs.NumberRanges.{names, range_named, RefusesRange, RefusesWord}

-- ---- ranges of ids

-- whether a range has this id
abbrev pub is_in : IdSpan → ℕ → Bool
is_in span id = nat_le span.start id && nat_lt id span.end

-- whether one of the ranges has this id
abbrev pub is_among : List IdSpan → ℕ → Bool
is_among spans id = list_any (λ span. is_in span id) spans

-- A range has an id.
abbrev pub HasId : IdSpan → Type 0
HasId span = span.start < span.end

-- Each range from this id on has an id, and begins past the end of the one before it.
abbrev pub AreApartFrom : ℕ → List IdSpan → Type 0
AreApartFrom from [] = Unit {0}
AreApartFrom from (span ∷ spans) = (from ≤ span.start) × (span.start < span.end) × AreApartFrom (span.end + 1) spans

-- ---- words: each has ranges between commas

-- the parts of a word
abbrev pub parts_of : List ℕ → List (List ℕ)
parts_of word = slice_split (λ c. c == 44) word

-- whether a part names an id
abbrev pub part_names : List ℕ → ℕ → Bool
part_names part id = option_map_or (λ range. names 0 range id) (range_named part) false

-- whether a word names an id
abbrev pub word_names : List ℕ → ℕ → Bool
word_names word id = list_any (λ part. part_names part id) (parts_of word)

-- whether one of the words names an id
abbrev pub words_name : List (Bor (List ℕ)) → ℕ → Bool
words_name words id = list_any (λ word. word_names word.now id) words

-- Why a part is refused in a store of this many documents.
abbrev pub RefusesPart : ℕ → RequestError → List ℕ → Type 0
RefusesPart count (NoRange text) part = RefusesWord part (NoRange text)
RefusesPart count (NoDocument id first end) part = (range : Option ℕ × Option ℕ) × (range_named part ≡ Some range)
    × RefusesRange range 0 count (NoDocument id first end)
RefusesPart count _ part = ⊥

-- Why one part is refused: by what it says, or for lack of memory.
abbrev pub RefusesOnePart : ℕ → List ℕ → RequestError → Type 0
RefusesOnePart count part (Store e) = e ≡ Memory
RefusesOnePart count part e = RefusesPart count e part

-- Why a word is refused: by one of its parts, or for lack of memory.
abbrev pub RefusesParts : ℕ → List ℕ → RequestError → Type 0
RefusesParts count word (Store e) = e ≡ Memory
RefusesParts count word e = Any (RefusesPart count e) (parts_of word)

-- Why words are refused: by one of them, or for lack of memory.
abbrev pub RefusesWords : List (Bor (List ℕ)) → ℕ → RequestError → Type 0
RefusesWords words count (Store e) = e ≡ Memory
RefusesWords words count e = Any (λ word. RefusesParts count word.now e) words
