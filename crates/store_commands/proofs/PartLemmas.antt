-- The parts of words.
use Rattle.std.proofs.Common.{◌≡◌, ℕ, ◌<◌, Bool, List, [], ◌∷◌, length, map, get_or, Bor, refl, sym, ap, ◌∙◌, arith}
use Rattle.std.specs.Prelude.{◌||◌}
use Rattle.std.specs.List.{list_any}
use Rattle.std.proofs.lemmas.List.{length-map, get_or-map, get_or_default}
use Rattle.store_commands.specs.declared.request_error.RequestError.{RequestError}
use Rattle.store_commands.specs.declared.request_error.RequestError.TheVariants.{NoRange, NoDocument, TooManyDocuments, Store}
use Rattle.store_commands.specs.LeftOut.{parts_of, part_names, word_names, RefusesOnePart, RefusesParts, RefusesWords}

any_mapped : {X Y : Type 0} (f : X → Y) (p : Y → Bool) (xs : List X) → list_any (λ x. p (f x)) xs ≡ list_any p (map f xs)
any_mapped f p [] = refl
any_mapped f p (x ∷ xs) = ap (λ (b : Bool). p (f x) || b) (any_mapped f p xs)

-- a word names what one of its parts names
pub named_by_parts : (word : List ℕ) (items : List (Bor (List ℕ))) (id : ℕ) → map (λ (x : Bor (List ℕ)). x.now) items ≡ parts_of word
    → list_any (λ (part : Bor (List ℕ)). part_names part.now id) items ≡ word_names word id
named_by_parts word items id e =
    any_mapped (λ (x : Bor (List ℕ)). x.now) (λ (part : List ℕ). part_names part id) items ∙ ap (list_any (λ (part : List ℕ). part_names part id)) e

-- a part that is refused refuses its word
pub part_refuses : (count : ℕ) (word : List ℕ) (items : List (Bor (List ℕ))) (k : ℕ) (d : Bor (List ℕ)) (e : RequestError) → map (λ (x : Bor (List ℕ)). x.now) items ≡ parts_of word
    → k < length items → RefusesOnePart count (get_or items k d).now e → RefusesParts count word e
part_refuses count word items k d e same lt h = by e h
  where
    within : k < length (parts_of word)
    within = omega (arith, ap length same, length-map items (λ (x : Bor (List ℕ)). x.now))

    here : get_or (parts_of word) k (get_or items k d).now ≡ (get_or items k d).now
    here = sym (ap (λ (xs : List (List ℕ)). get_or xs k (get_or items k d).now) same) ∙ get_or-map (λ (x : Bor (List ℕ)). x.now) items k d (get_or items k d).now lt

    by : (e : RequestError) → RefusesOnePart count (get_or items k d).now e → RefusesParts count word e
    by (NoRange text) h = (k, (get_or items k d).now, within, here, h)
    by (NoDocument id first end) h = (k, (get_or items k d).now, within, here, h)
    by (TooManyDocuments documents bytes) h = absurd h
    by (Store x) h = h

-- a word that is refused refuses the words
pub word_refuses : (count : ℕ) (words : List (Bor (List ℕ))) (k : ℕ) (d : Bor (List ℕ)) (e : RequestError) → k < length words → RefusesParts count (get_or words k d).now e
    → RefusesWords words count e
word_refuses count words k d e lt h = by e h
  where
    here : get_or words k (get_or words k d) ≡ get_or words k d
    here = get_or_default words k (get_or words k d) d lt

    by : (e : RequestError) → RefusesParts count (get_or words k d).now e → RefusesWords words count e
    by (NoRange text) h = (k, get_or words k d, lt, here, h)
    by (NoDocument id first end) h = (k, get_or words k d, lt, here, h)
    by (TooManyDocuments documents bytes) h = (k, get_or words k d, lt, here, h)
    by (Store x) h = h
