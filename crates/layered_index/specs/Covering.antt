-- The test of covering.
use Rattle.std.specs.Prelude.{ℕ, ◌==◌, ◌&&◌, nat_lt, Bool, if◌then◌else◌, List, [], ◌∷◌, Option, Some, None}
use Rattle.layered_index.specs.declared.checkpoint.Checkpoint.{Checkpoint}

-- whether it begins at this document and this byte, and has one of each
abbrev pub goes_on : ℕ → ℕ → Checkpoint → Bool
goes_on doc byte c = (c.doc_range.start == doc) && (c.byte_range.start == byte) && nat_lt doc c.doc_range.end && nat_lt
    byte c.byte_range.end

-- where checkpoints end that begin there, if each goes on where the one before it ends
abbrev pub covered_to : ℕ → ℕ → List Checkpoint → Option (ℕ × ℕ)
covered_to doc byte [] = Some (doc, byte)
covered_to doc byte (c ∷ cs) = if goes_on doc byte c then covered_to c.doc_range.end c.byte_range.end cs else None
