-- Bytes, and lines of numbers, that an output has more.
use Rattle.std.proofs.Common.{◌≡◌, ℕ, suc, ◌+◌, ◌-◌, ◌<◌, ◌≤◌, List, [], ◌∷◌, ◌++◌, Option, false, None}
use Rattle.std.proofs.Common.{Some, refl, sym, ap, subst, ◌∙◌, append_assoc, append-nil, arith, decimal, Result, Ok, Err, OnErr}
use Rattle.std.specs.Prelude.{IsTrue}
use Rattle.std.specs.Io.KnownBytes.{Appends, Keeps}
use Rattle.std.proofs.KnownBytes.{Appends-nil, Appends-trans}
use Rattle.framed_logs.specs.Steps.{lines_more}
use Rattle.framed_logs.specs.Printed.{AppendsFirst, AppendsUpTo, Printed, Prints, number_lines}

pub up_to_start : (a : Option (List ℕ)) (bytes : List ℕ) → AppendsUpTo a a bytes bytes
up_to_start a bytes = record { written = []; are = refl; grown = Appends-nil a }

pub up_to_more : (old middle new : Option (List ℕ)) (bytes rest part after : List ℕ) → AppendsUpTo old middle bytes rest
    → Appends middle new part → rest ≡ part ++ after → AppendsUpTo old new bytes after
up_to_more old middle new bytes rest part after p q e = record {
  written = p.written ++ part;
  are = p.are ∙ ap (λ l. p.written ++ l) e ∙ sym (append_assoc p.written part after);
  grown = Appends-trans old middle new p.written part p.grown q;
}

-- all of the bytes
pub whole_up_to : (old new : Option (List ℕ)) (bytes : List ℕ) → AppendsUpTo old new bytes [] → Appends old new bytes
whole_up_to old new bytes p = subst (Appends old new) (sym (p.are ∙ append-nil p.written)) p.grown

pub whole_up_to_end : (old new : Option (List ℕ)) (bytes : List ℕ) → Appends old new bytes → AppendsUpTo old new bytes []
whole_up_to_end old new bytes p = record { written = bytes; are = sym (append-nil bytes); grown = p }

pub whole_first : (old new : Option (List ℕ)) (bytes : List ℕ) → Appends old new bytes → AppendsFirst old new bytes
whole_first old new bytes p = ([], whole_up_to_end old new bytes p)

-- a call that failed left the bytes as they were
pub up_to_kept : (old middle new : Option (List ℕ)) (bytes rest : List ℕ) → AppendsUpTo old middle bytes rest
    → Keeps middle new → AppendsUpTo old new bytes rest
up_to_kept old middle new bytes rest p q = record { written = p.written; are = p.are; grown = kept old middle new p.written p.grown q }
  where
    kept : (old middle new : Option (List ℕ)) (part : List ℕ) → Appends old middle part → Keeps middle new → Appends old new part
    kept None b c part p q = tt
    kept (Some x) None c part p q = absurd p
    kept (Some x) (Some y) None part p q = absurd q
    kept (Some x) (Some y) (Some z) part p q = q ∙ p

-- the lines before a number, its own, and those after it
pub lines_at : (from number to : ℕ) → from ≤ number → number < to → number_lines from (to - from)
    ≡ number_lines from (number - from) ++ ((decimal number ++ 10 ∷ []) ++ number_lines (number + 1) (to - number - 1))
lines_at from number to low high =
    let e : to - from ≡ (number - from) + suc (to - number - 1) = omega arith in
    let f : from + (number - from) ≡ number = omega arith in
    ap (number_lines from) e ∙ lines_more from (number - from) (suc (to - number - 1))
    ∙ ap (λ k. number_lines from (number - from) ++ number_lines k (suc (to - number - 1))) f
    ∙ ap (λ l. number_lines from (number - from) ++ l)
    (sym (append_assoc (decimal number) (10 ∷ []) (number_lines (number + 1) (to - number - 1))))

-- the lines up to a number
pub lines_next : (from number : ℕ) → from ≤ number
    → number_lines from (number + 1 - from) ≡ number_lines from (number - from) ++ (decimal number ++ 10 ∷ [])
lines_next from number low =
    let e : number + 1 - number - 1 ≡ 0 = omega arith in
    lines_at from number (number + 1) low (omega arith)
    ∙ ap (λ k. number_lines from (number - from) ++ ((decimal number ++ 10 ∷ []) ++ number_lines (number + 1) k)) e
    ∙ ap (λ l. number_lines from (number - from) ++ l) (append-nil (decimal number ++ 10 ∷ []))

pub on_err : {A E : Type 0} (r : Result A E) (P : Type 0) → P → OnErr r P
on_err (Ok x) P p = tt
on_err (Err e) P p = p

-- a call that failed after these left them
pub first_kept : {A E : Type 0} (r : Result A E) (a b c : Option (List ℕ)) (bytes : List ℕ) → Appends a b bytes → Keeps b c
    → OnErr r (AppendsFirst a c bytes)
first_kept r a b c bytes p q = on_err r _ ([], up_to_kept a b c bytes [] (whole_up_to_end a b bytes p) q)

-- nothing is printed
pub prints_nothing : (printed : Printed) (lines : List ℕ) → IsTrue printed.failed → Prints printed printed lines
prints_nothing printed lines failed = record {
  first = (lines, up_to_start printed.bytes lines);
  whole = λ works. cc;
  stopped = λ _. refl;
}

-- the bytes of the output are not known
pub prints_unknown : (old new : Printed) (lines : List ℕ) → new ≡ old → new.bytes ≡ None → new.failed ≡ false → Prints old new lines
prints_unknown old new lines same unknown works =
    let none : old.bytes ≡ None = sym (ap (λ p. p.bytes) same) ∙ unknown in
    let known : Appends old.bytes new.bytes lines = subst (λ b. Appends b new.bytes lines) (sym none) tt in record {
      first = whole_first old.bytes new.bytes lines known;
      whole = λ _. (sym (ap (λ p. p.failed) same) ∙ works, known);
      stopped = λ _. same;
    }
