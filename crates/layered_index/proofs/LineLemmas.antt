-- Lists in line are cut and joined; and for callers: one that is known to end somewhere takes what begins there.
use Rattle.std.proofs.Common.{◌≡◌, ℕ, ◌+◌, ◌≤◌, List, [], ◌∷◌, ◌++◌, length, take, drop, refl, sym, ◌∙◌, ap, subst, arith}
use Rattle.std.proofs.Common.{append_assoc}
use Rattle.std.proofs.lemmas.List.{take-append-drop}
use Rattle.std.specs.List.{AllByRecursion}
use Rattle.layered_index.specs.declared.checkpoint.Checkpoint.{Checkpoint}
use Rattle.layered_index.specs.Checkpoint.{docs_end, bytes_end, IsFilled, IsWithinLimits, IsInLineFrom, IsInLine}
use Rattle.layered_index.specs.Checkpoint.{EndsAt}

-- a list that goes on is a front and a rest that goes on from there
pub in_line-split : (doc byte : ℕ) (xs ys : List Checkpoint) → IsInLineFrom doc byte (xs ++ ys)
    → IsInLineFrom doc byte xs × IsInLineFrom (docs_end doc xs) (bytes_end byte xs) ys
in_line-split doc byte [] ys h = (tt, h)
in_line-split doc byte (x ∷ xs) ys h =
    let others = in_line-split x.doc_range.end x.byte_range.end xs ys h.3 in
    ((h.0, h.1, h.2, others.0), others.1)

pub in_line-join : (doc byte : ℕ) (xs ys : List Checkpoint) → IsInLineFrom doc byte xs
    → IsInLineFrom (docs_end doc xs) (bytes_end byte xs) ys → IsInLineFrom doc byte (xs ++ ys)
in_line-join doc byte [] ys p q = q
in_line-join doc byte (x ∷ xs) ys p q = (p.0, p.1, p.2, in_line-join x.doc_range.end x.byte_range.end xs ys p.3 q)

-- what goes on from somewhere is in line, and the other way round
pub in_line_from : (doc byte : ℕ) (cs : List Checkpoint) → IsInLineFrom doc byte cs → IsInLine cs
in_line_from doc byte [] h = tt
in_line_from doc byte (c ∷ cs) h = (refl, refl, h.2, h.3)

pub in_line_somewhere : (cs : List Checkpoint) → IsInLine cs → (doc : ℕ) × (byte : ℕ) × IsInLineFrom doc byte cs
in_line_somewhere [] h = (0, 0, tt)
in_line_somewhere (c ∷ cs) h = (c.doc_range.start, c.byte_range.start, h)

-- a front of a list in line is in line
pub in_line_front : (xs ys all : List Checkpoint) → xs ++ ys ≡ all → IsInLine all → IsInLine xs
in_line_front xs ys all is h =
    let from = in_line_somewhere all h in
    in_line_from from.0 from.1 xs
    (in_line-split from.0 from.1 xs ys (subst (IsInLineFrom from.0 from.1) (sym is) from.2)).0

pub in_line_take : (n : ℕ) (cs : List Checkpoint) → IsInLine cs → IsInLine (take n cs)
in_line_take n cs h = in_line_front (take n cs) (drop n cs) cs (take-append-drop n cs) h

-- the next of those that are left can be put after the others
pub next_in_line : (before left more all : List Checkpoint) (c : Checkpoint) → before ++ left ≡ all → left ≡ c ∷ more
    → IsInLine all → IsInLine (before ++ c ∷ [])
next_in_line before left more all c is next h =
    in_line_front (before ++ c ∷ []) more all
    (append_assoc before (c ∷ []) more ∙ ap (λ (xs : List Checkpoint). before ++ xs) (sym next) ∙ is) h

-- each of them that is filled has a document
pub few_filled : (doc byte : ℕ) (cs : List Checkpoint) → IsInLineFrom doc byte cs → AllByRecursion IsFilled cs
    → doc + length cs ≤ docs_end doc cs
few_filled doc byte [] line filled = omega arith
few_filled doc byte (c ∷ cs) line filled =
    let on = few_filled c.doc_range.end c.byte_range.end cs line.3 filled.1 in
    omega (arith, on, line.0, filled.0.0)

-- the end of what one more was put after
pub docs_end-put : (doc : ℕ) (cs : List Checkpoint) (c : Checkpoint) → docs_end doc (cs ++ c ∷ []) ≡ c.doc_range.end
docs_end-put doc [] c = refl
docs_end-put doc (x ∷ xs) c = docs_end-put x.doc_range.end xs c

pub bytes_end-put : (byte : ℕ) (cs : List Checkpoint) (c : Checkpoint)
    → bytes_end byte (cs ++ c ∷ []) ≡ c.byte_range.end
bytes_end-put byte [] c = refl
bytes_end-put byte (x ∷ xs) c = bytes_end-put x.byte_range.end xs c

-- one more checkpoint that begins at the ends
pub ends_put : (doc byte : ℕ) (cs : List Checkpoint) (c : Checkpoint) → EndsAt doc byte cs → c.doc_range.start ≡ doc
    → c.byte_range.start ≡ byte → IsWithinLimits c → EndsAt c.doc_range.end c.byte_range.end (cs ++ c ∷ [])
ends_put doc byte cs c h d b within = record {
  in_line = in_line-join 0 0 cs (c ∷ []) h.in_line (d ∙ sym h.docs, b ∙ sym h.bytes, within, tt);
  docs = docs_end-put 0 cs c;
  bytes = bytes_end-put 0 cs c;
}

-- what is known to end somewhere is in line
pub ends_in_line : (doc byte : ℕ) (cs : List Checkpoint) → EndsAt doc byte cs → IsInLine cs
ends_in_line doc byte cs h = in_line_from 0 0 cs h.in_line
