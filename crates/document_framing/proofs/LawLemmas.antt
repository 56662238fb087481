-- What is written and read again, and what is read and written again.
use Rattle.std.proofs.Common.{◌≡◌, ◌≢◌, ℕ, ◌+◌, ◌-◌, ◌<◌, ◌&&◌, Bool, true, false, eqb, cond, nat_lt, List, [], ◌∷◌, ◌++◌, length, take, map, get_or, refl, sym, ap}
use Rattle.std.proofs.Common.{subst, ◌∙◌, arith, append_assoc, Some, take_at, eq-eqb, eqb-true, lt-ltb}
use Rattle.std.proofs.lemmas.List.{get_or_push, length_push}
use Rattle.std.proofs.lemmas.Nat.{from_le_bytes-to_le_bytes_4}
use Rattle.std.specs.Int.{w32, to_le_bytes}
use Rattle.std.specs.Io.BufRead.{strip_last, ends_with_byte}
use Rattle.document_framing.specs.declared.framing.Framing.{Framing}
use Rattle.document_framing.specs.declared.framing.Framing.TheVariants.{Lines, Text, Nul, Lengths, Files}
use Rattle.document_framing.specs.Framings.{pieces, put_before, documents_of, document_in, end_of, frame, framed}
use Rattle.document_framing.specs.Laws.{FramesEach}
use Rattle.document_framing.proofs.LengthLemmas.{first_measured}
use Rattle.document_framing.proofs.PieceLemmas.{first_piece, documents_are}

-- the end is taken off
strip_closed : (end : ℕ) (front : List ℕ) → strip_last end (front ++ end ∷ []) ≡ front
strip_closed end front =
    let piece = front ++ end ∷ [] in
    let long : length piece ≡ length front + 1 = length_push front end in
    let last : get_or piece (length piece - 1) 0 ≡ end = get_or_push front end 0 (length piece - 1) (omega arith) in
    let ends : ends_with_byte end piece ≡ true = at (nat_lt 0 (length piece)) (lt-ltb 0 (length piece) (omega arith)) ∙ eq-eqb _ _ last in
    ap (λ b. cond b (take (length piece - 1) piece) piece) ends ∙ take_at front (end ∷ []) (length piece - 1) (omega arith)
  where
    at : (b : Bool) → b ≡ true → (b && eqb (get_or (front ++ end ∷ []) (length (front ++ end ∷ []) - 1) 0) end)
        ≡ eqb (get_or (front ++ end ∷ []) (length (front ++ end ∷ []) - 1) 0) end
    at true e = refl
    at false e = absurd cc

-- the bytes of lists, one after the other
abbrev joined : List (List ℕ) → List ℕ
joined [] = []
joined (p ∷ ps) = p ++ joined ps

module _ (end : ℕ) where
  -- A piece that its end closes.
  abbrev Closed : List ℕ → Type 0
  Closed piece = (front : List ℕ) × (piece ≡ front ++ end ∷ [])

  abbrev ClosedEach : List (List ℕ) → Type 0
  ClosedEach [] = Unit {0}
  ClosedEach (p ∷ ps) = Closed p × ClosedEach ps

  joined_before : (x : ℕ) (ps : List (List ℕ)) → joined (put_before x ps) ≡ x ∷ joined ps
  joined_before x [] = refl
  joined_before x (p ∷ ps) = refl

  joined_pieces : (xs : List ℕ) → joined (pieces end xs) ≡ xs
  joined_pieces [] = refl
  joined_pieces (x ∷ xs) = at (eqb x end) (joined_pieces xs)
    where
      at : (b : Bool) → joined (pieces end xs) ≡ xs → joined (cond b ((x ∷ []) ∷ pieces end xs) (put_before x (pieces end xs))) ≡ x ∷ xs
      at true h = ap (λ l. x ∷ l) h
      at false h = joined_before x (pieces end xs) ∙ ap (λ l. x ∷ l) h

  closed_before : (x : ℕ) (ps : List (List ℕ)) → 0 < length ps → ClosedEach ps → ClosedEach (put_before x ps)
  closed_before x [] some h = absurd (omega arith)
  closed_before x (p ∷ ps) some h = ((x ∷ h.0.0, ap (λ l. x ∷ l) h.0.1), h.1)

  some_before : (x : ℕ) (ps : List (List ℕ)) → 0 < length (put_before x ps)
  some_before x [] = omega arith
  some_before x (p ∷ ps) = omega arith

  closed_pieces : (xs : List ℕ) → (0 < length (pieces end (xs ++ end ∷ []))) × ClosedEach (pieces end (xs ++ end ∷ []))
  closed_pieces [] =
      subst (λ l. (0 < length l) × ClosedEach l)
      (sym (ap (λ b. cond b ((end ∷ []) ∷ []) ((end ∷ []) ∷ [])) (eq-eqb end end refl)))
      (omega arith, (([], refl), tt))
  closed_pieces (x ∷ xs) = at (eqb x end) refl (closed_pieces xs)
    where
      ps : List (List ℕ)
      ps = pieces end (xs ++ end ∷ [])

      at : (b : Bool) → eqb x end ≡ b → (0 < length (pieces end (xs ++ end ∷ []))) × ClosedEach (pieces end (xs ++ end ∷ []))
          → (0 < length (cond b ((x ∷ []) ∷ pieces end (xs ++ end ∷ [])) (put_before x (pieces end (xs ++ end ∷ [])))))
          × ClosedEach (cond b ((x ∷ []) ∷ pieces end (xs ++ end ∷ [])) (put_before x (pieces end (xs ++ end ∷ []))))
      at true is h = (omega arith, (([], ap (λ y. y ∷ []) (eqb-true x end is)), h.1))
      at false is h = (some_before x (pieces end (xs ++ end ∷ [])), closed_before x (pieces end (xs ++ end ∷ [])) h.0 h.1)

-- a document of a closed piece is that piece in an output
frame_closed : (framing : Framing) (end : ℕ) (piece : List ℕ) → end_of framing ≡ Some end → Closed end piece
    → frame framing (document_in framing piece) ≡ piece
frame_closed Lines end piece e closed =
    let is : end ≡ 10 = cc in
    let ten : piece ≡ closed.0 ++ 10 ∷ [] = closed.1 ∙ ap (λ x. closed.0 ++ x ∷ []) is in
    ap (λ p. strip_last 10 p ++ 10 ∷ []) ten ∙ ap (λ l. l ++ 10 ∷ []) (strip_closed 10 closed.0) ∙ sym ten
frame_closed Text end piece e closed = refl
frame_closed Nul end piece e closed =
    let is : end ≡ 0 = cc in
    let nul : piece ≡ closed.0 ++ 0 ∷ [] = closed.1 ∙ ap (λ x. closed.0 ++ x ∷ []) is in
    ap (λ p. strip_last 0 p ++ 0 ∷ []) nul ∙ ap (λ l. l ++ 0 ∷ []) (strip_closed 0 closed.0) ∙ sym nul
frame_closed Lengths end piece e closed = absurd cc
frame_closed Files end piece e closed = absurd cc

framed_pieces : (framing : Framing) (end : ℕ) (ps : List (List ℕ)) → end_of framing ≡ Some end → ClosedEach end ps
    → framed framing (map (document_in framing) ps) ≡ joined ps
framed_pieces framing end [] e closed = refl
framed_pieces framing end (p ∷ ps) e closed =
    ap (λ l. l ++ framed framing (map (document_in framing) ps)) (frame_closed framing end p e closed.0)
    ∙ ap (λ l. p ++ l) (framed_pieces framing end ps e closed.1)

pub written_again : (framing : Framing) (end : ℕ) (bytes : List ℕ) → end_of framing ≡ Some end
    → framed framing (documents_of framing (bytes ++ end ∷ [])) ≡ bytes ++ end ∷ []
written_again framing end bytes e =
    ap (framed framing) (documents_are framing end (bytes ++ end ∷ []) e)
    ∙ framed_pieces framing end (pieces end (bytes ++ end ∷ [])) e (closed_pieces end bytes).1
    ∙ joined_pieces end (bytes ++ end ∷ [])

pub read_again : (framing : Framing) (documents : List (List ℕ)) → framing ≢ Files → FramesEach framing documents
    → documents_of framing (framed framing documents) ≡ documents
read_again Lines [] apart h = refl
read_again Lines (d ∷ ds) apart h =
    ap (map (document_in Lines)) (first_piece 10 d (framed Lines ds) h.0)
    ∙ ap (λ p. p ∷ documents_of Lines (framed Lines ds)) (strip_closed 10 d) ∙ ap (λ l. d ∷ l) (read_again Lines ds apart h.1)
read_again Text [] apart h = refl
read_again Text (d ∷ ds) apart h =
    ap (λ p. pieces 10 (p ++ framed Text ds)) h.0.2 ∙ first_piece 10 h.0.0 (framed Text ds) h.0.1
    ∙ ap (λ p. p ∷ pieces 10 (framed Text ds)) (sym h.0.2) ∙ ap (λ l. d ∷ l) (read_again Text ds apart h.1)
read_again Nul [] apart h = refl
read_again Nul (d ∷ ds) apart h =
    ap (map (document_in Nul)) (first_piece 0 d (framed Nul ds) h.0)
    ∙ ap (λ p. p ∷ documents_of Nul (framed Nul ds)) (strip_closed 0 d) ∙ ap (λ l. d ∷ l) (read_again Nul ds apart h.1)
read_again Lengths [] apart h = refl
read_again Lengths (d ∷ ds) apart h =
    let head = to_le_bytes w32 (length d) in
    ap (documents_of Lengths) (append_assoc head d (framed Lengths ds))
    ∙ first_measured head d (framed Lengths ds) refl (sym (from_le_bytes-to_le_bytes_4 (length d) h.0))
    ∙ ap (λ l. d ∷ l) (read_again Lengths ds apart h.1)
read_again Files ds apart h = absurd (apart refl)
