-- Lemmas on pieces: what the first byte of some value splits, and what pieces of bytes that follow each other are.
use Rattle.std.proofs.Common.{◌≡◌, ◌≢◌, ℕ, suc, ◌-◌, ◌<◌, ◌≤◌, Bool, true, false, eqb, cond, List, [], ◌∷◌, ◌++◌, All, length, take, map, get_or, refl, sym, ap, ◌∙◌, arith}
use Rattle.std.proofs.Common.{append_assoc, append-nil, eq-eqb, eqb-true, ne_eqb, Option, None, Some, IfSome, length-take, rules}
use Rattle.std.proofs.lemmas.List.{map-id, places}
use Rattle.std.proofs.lemmas.List.Elements.{All-from_get_or, All-head, All-tail}
use Rattle.std.specs.Io.BufRead.{take_through, drop_through}
use Rattle.memchr.specs.Find.{Nowhere, Passes, is_byte}
use Rattle.document_framing.specs.declared.framing.Framing.{Framing}
use Rattle.document_framing.specs.declared.framing.Framing.TheVariants.{Lines, Text, Nul, Lengths, Files}
use Rattle.document_framing.specs.Framings.{pieces, put_before, documents_of, document_in, end_of}

-- no byte before a place is this one, if a search found none there
pub none_before : (bytes : List ℕ) (end n : ℕ) → Nowhere (Passes (is_byte end) bytes) 0 n → n ≤ length bytes
    → All (λ x. x ≢ end) (take n bytes)
none_before bytes end n nowhere within = All-from_get_or (λ x. x ≢ end) (take n bytes) 0 at
  where
    at : (i : ℕ) → i < length (take n bytes) → get_or (take n bytes) i 0 ≢ end
    at i below is =
        let short : i < n = omega (arith, length-take n bytes) in
        let same : get_or (take n bytes) i 0 ≡ get_or bytes i 0 = search (rules, places) in
        nowhere i (omega arith) short (eq-eqb _ _ (sym same ∙ is))

-- a weaker fact of a value that there may be
pub if_some : (o : Option (List ℕ)) (P Q : List ℕ → Type 0) → ((xs : List ℕ) → P xs → Q xs) → IfSome o P → IfSome o Q
if_some None P Q f h = tt
if_some (Some xs) P Q f h = f xs h

module _ (end : ℕ) where
  -- The pieces of some bytes and what follows are theirs and those of what follows.
  abbrev pub Splits : List ℕ → Type 0
  Splits xs = (ys : List ℕ) → pieces end (xs ++ ys) ≡ pieces end xs ++ pieces end ys

  pub splits_append : (xs ys : List ℕ) → Splits xs → Splits ys → Splits (xs ++ ys)
  splits_append xs ys p q zs =
      ap (pieces end) (append_assoc xs ys zs) ∙ p (ys ++ zs) ∙ ap (λ l. pieces end xs ++ l) (q zs)
      ∙ sym (append_assoc (pieces end xs) (pieces end ys) (pieces end zs)) ∙ ap (λ l. l ++ pieces end zs) (sym (p ys))

  -- a piece at the front
  pub first_piece : (front ys : List ℕ) → All (λ x. x ≢ end) front
      → pieces end ((front ++ end ∷ []) ++ ys) ≡ (front ++ end ∷ []) ∷ pieces end ys
  first_piece [] ys none = ap (λ b. cond b ((end ∷ []) ∷ pieces end ys) (put_before end (pieces end ys))) (eq-eqb end end refl)
  first_piece (x ∷ xs) ys none =
      ap (λ b. cond b ((x ∷ []) ∷ pieces end ((xs ++ end ∷ []) ++ ys)) (put_before x (pieces end ((xs ++ end ∷ []) ++ ys))))
      (ne_eqb x end (All-head (λ y. y ≢ end) x xs none))
      ∙ ap (put_before x) (first_piece xs ys (All-tail (λ y. y ≢ end) x xs none))

  -- the only one
  pub one_piece : (front : List ℕ) → All (λ x. x ≢ end) front → pieces end (front ++ end ∷ []) ≡ (front ++ end ∷ []) ∷ []
  one_piece front none = ap (pieces end) (sym (append-nil (front ++ end ∷ []))) ∙ first_piece front [] none

  pub splits_piece : (front : List ℕ) → All (λ x. x ≢ end) front → Splits (front ++ end ∷ [])
  splits_piece front none ys = first_piece front ys none ∙ ap (λ l. l ++ pieces end ys) (sym (one_piece front none))

  -- the first piece of bytes, by what is read through an end
  pub pieces_through : (xs : List ℕ) → 0 < length xs → pieces end xs ≡ take_through end xs ∷ pieces end (drop_through end xs)
  pieces_through [] some = absurd (omega arith)
  pieces_through (x ∷ []) some = at (eqb x end)
    where
      at : (b : Bool) → cond b ((x ∷ []) ∷ []) (put_before x [])
          ≡ cond b (x ∷ []) (x ∷ []) ∷ pieces end (cond b [] [])
      at true = refl
      at false = refl
  pieces_through (x ∷ y ∷ ys) some = at (eqb x end) (pieces_through (y ∷ ys) (omega arith))
    where
      at : (b : Bool) → pieces end (y ∷ ys) ≡ take_through end (y ∷ ys) ∷ pieces end (drop_through end (y ∷ ys))
          → cond b ((x ∷ []) ∷ pieces end (y ∷ ys)) (put_before x (pieces end (y ∷ ys)))
          ≡ cond b (x ∷ []) (x ∷ take_through end (y ∷ ys)) ∷ pieces end (cond b (y ∷ ys) (drop_through end (y ∷ ys)))
      at true rest = refl
      at false rest = ap (put_before x) rest

  -- The last of some bytes is no end.
  abbrev pub EndsOpen : List ℕ → Type 0
  EndsOpen xs = 0 < length xs → get_or xs (length xs - 1) 0 ≢ end

  longer : (x : ℕ) (xs : List ℕ) → EndsOpen (x ∷ xs) → EndsOpen xs
  longer x [] h some is = omega arith
  longer x (y ∷ ys) h some is =
      h (omega arith) (ap (λ k. get_or (x ∷ y ∷ ys) k 0) {y = suc (length ys)} (omega arith)
      ∙ sym (ap (λ k. get_or (y ∷ ys) k 0) {y = length ys} (omega arith)) ∙ is)

  -- what is read up to an end that does not come is all
  pub through_all : (xs : List ℕ) → EndsOpen (take_through end xs) → drop_through end xs ≡ []
  through_all [] ends = refl
  through_all (x ∷ xs) ends = at (eqb x end) refl ends (through_all xs)
    where
      at : (b : Bool) → eqb x end ≡ b → EndsOpen (cond b (x ∷ []) (x ∷ take_through end xs))
          → (EndsOpen (take_through end xs) → drop_through end xs ≡ []) → cond b xs (drop_through end xs) ≡ []
      at true is h rest = absurd (h (omega arith) (eqb-true x end is))
      at false is h rest = rest (longer x (take_through end xs) h)

-- the documents of an input are those in its pieces, where a byte ends each
pub documents_are : (framing : Framing) (end : ℕ) (bytes : List ℕ) → end_of framing ≡ Some end
    → documents_of framing bytes ≡ map (document_in framing) (pieces end bytes)
documents_are Lines end bytes e = let is : 10 ≡ end = cc in ap (λ k. map (document_in Lines) (pieces k bytes)) is
documents_are Text end bytes e = let is : 10 ≡ end = cc in ap (λ k. pieces k bytes) is ∙ sym (map-id (pieces end bytes))
documents_are Nul end bytes e = let is : 0 ≡ end = cc in ap (λ k. map (document_in Nul) (pieces k bytes)) is
documents_are Lengths end bytes e = absurd (cc)
documents_are Files end bytes e = absurd (cc)
