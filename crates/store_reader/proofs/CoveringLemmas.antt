-- When checkpoints cover.
use Rattle.std.proofs.Common.{◌≡◌, ℕ, ◌≤◌, Bool, true, false, cond, List, [], ◌∷◌, Option, Some, None, refl, sym, ap, ◌∙◌, arith}
use Rattle.std.specs.List.{AllByRecursion}
use Rattle.store_base.specs.ReadingLemmas.{some_is}
use Rattle.layered_index.specs.declared.checkpoint.Checkpoint.{Checkpoint}
use Rattle.layered_index.specs.Checkpoint.{IsInLineFrom, IsInLine, IsFilled, Covers, docs_end, bytes_end}
use Rattle.layered_index.proofs.LineLemmas.{in_line_from, in_line_somewhere}
use Rattle.layered_index.specs.IndexReading.{IsIndexPart}
use Rattle.layered_index.specs.Covering.{goes_on, covered_to}
use Rattle.layered_index.proofs.CoveredLemmas.{goes_on-true, true-goes_on}
use Rattle.store_reader.specs.Covering.{HasIndexOf}
use Rattle.layered_index.proofs.IndexLemmas.{index_parts_are_apart}

pass : {A : Type 0} (b : Bool) (x : Option A) (y : A) → cond b x None ≡ Some y → (b ≡ true) × (x ≡ Some y)
pass true x y e = (refl, e)
pass false x y e = absurd cc

-- what the test of a list tells
record AreCovered (doc byte : ℕ) (cs : List Checkpoint) (docs bytes : ℕ) : Type 0 where
  in_line : IsInLineFrom doc byte cs
  filled : AllByRecursion IsFilled cs
  docs_end : docs_end doc cs ≡ docs
  bytes_end : bytes_end byte cs ≡ bytes

pub some_pair : (a b c d : ℕ) → ◌≡◌ {A = Option (ℕ × ℕ)} (Some (a, b)) (Some (c, d)) → (a ≡ c) × (b ≡ d)
some_pair a b c d e =
    let same = some_is (a, b) (c, d) e in
    (ap (λ (x : ℕ × ℕ). x.0) same, ap (λ (x : ℕ × ℕ). x.1) same)

covered : (doc byte p q : ℕ) (cs : List Checkpoint) (docs bytes : ℕ) → IsInLineFrom p q cs → covered_to doc byte cs ≡ Some (docs, bytes) → AreCovered doc byte cs docs bytes
covered doc byte p q [] docs bytes line e = let same = some_pair doc byte docs bytes e in record { in_line = tt; filled = tt; docs_end = same.0; bytes_end = same.1 }
covered doc byte p q (c ∷ cs) docs bytes line e =
    let t = pass (goes_on doc byte c) (covered_to c.doc_range.end c.byte_range.end cs) (docs, bytes) e in
    let one = goes_on-true doc byte c t.0 in
    let d = one.docs in let b = one.bytes in let sd = one.some_docs in let sb = one.some_bytes in
    let on = covered c.doc_range.end c.byte_range.end c.doc_range.end c.byte_range.end cs docs bytes line.3 t.1 in
    record { in_line = (d, b, line.2, on.in_line); filled = ((omega arith, omega arith), on.filled); docs_end = on.docs_end; bytes_end = on.bytes_end }

covered_again : (doc byte : ℕ) (cs : List Checkpoint) → IsInLineFrom doc byte cs → AllByRecursion IsFilled cs → covered_to doc byte cs ≡ Some (docs_end doc cs, bytes_end byte cs)
covered_again doc byte [] line filled = refl
covered_again doc byte (c ∷ cs) line filled =
    let d = line.0 in let b = line.1 in let docs = filled.0.0 in let bytes = filled.0.1 in
    rw (true-goes_on doc byte c d b (omega arith) (omega arith)) (covered_again c.doc_range.end c.byte_range.end cs line.3 filled.1)

pub record IsCovered (cs : List Checkpoint) (docs bytes : ℕ) : Type 0 where
  pub covers : Covers cs bytes
  pub count : docs_end 0 cs ≡ docs

-- A list in line that passes the test covers the bytes to its end.
pub covers_by : (cs : List Checkpoint) (docs bytes : ℕ) → IsInLine cs → covered_to 0 0 cs ≡ Some (docs, bytes) → IsCovered cs docs bytes
covers_by cs docs bytes line e =
    let at = in_line_somewhere cs line in
    let c = covered 0 0 at.0 at.1 cs docs bytes at.2 e in
    record { covers = record { in_line = c.in_line; filled = c.filled; end = c.bytes_end }; count = c.docs_end }

-- One that covers bytes passes it.
pub covers_again : (cs : List Checkpoint) (bytes : ℕ) → Covers cs bytes → covered_to 0 0 cs ≡ Some (docs_end 0 cs, bytes)
covers_again cs bytes covers = covered_again 0 0 cs covers.in_line covers.filled ∙ ap (λ (n : ℕ). Some (docs_end 0 cs, n)) covers.end

-- The index part of a list that does not pass is that of none that covers the bytes.
pub not_covered : (period : ℕ) (bytes : List ℕ) (end : ℕ) (cs : List Checkpoint) → 2 ≤ period → IsIndexPart period bytes cs → ((docs : ℕ) → covered_to 0 0 cs ≡ Some (docs, end) → ⊥)
    → HasIndexOf period bytes end → ⊥
not_covered period bytes end cs two is fails has =
    let same : has.0 ≡ cs = index_parts_are_apart period has.0 cs two (in_line_from 0 0 has.0 has.1.covers.in_line) is.0 (sym has.1.spells ∙ is.1) in
    fails (docs_end 0 has.0) (sym (ap (covered_to 0 0) same) ∙ covers_again has.0 end has.1.covers)
