-- What is kept of the checkpoints of a layer, and what the check of an index returns.
use Rattle.std.specs.Prelude.{◌≡◌, ℕ, ◌+◌, true, ◌&&◌, if◌then◌else◌, List, [], ◌∷◌, length, take, drop, set, Option, Some, None}
use Rattle.layered_index.specs.declared.checkpoint.Checkpoint.{Checkpoint}
use Rattle.layered_index.specs.declared.check.CheckedIndex.{CheckedIndex}
use Rattle.layered_index.specs.declared.row.Row.{Row}
use Rattle.layered_index.specs.declared.tally.Tally.{Tally}
use Rattle.layered_index.specs.Covering.{goes_on, covered_to}
use Rattle.layered_index.specs.IndexReading.{IsIndexPart}
use Rattle.layered_index.specs.Rows.{ends_of, row_of, AreRowsOf}

abbrev pub no_tally : Tally
no_tally = record { count = 0; end = record { end_doc = 0; end_byte = 0 }; covers = true }

-- one more checkpoint
abbrev pub one_more : Tally → Checkpoint → Tally
one_more t c =
    record { count = t.count + 1; end = ends_of c; covers = t.covers && goes_on t.end.end_doc t.end.end_byte c }

-- A tally and these checkpoints, and rows over which theirs are written, each at its index.
abbrev pub kept : Tally × List Row → List Checkpoint → Tally × List Row
kept before [] = before
kept before (c ∷ cs) = kept (one_more before.0 c, set before.1 before.0.count (row_of (ends_of c))) cs

-- where the checkpoints of a tally end, if they cover all before
abbrev pub covered_by : Tally → Option (ℕ × ℕ)
covered_by t = if t.covers then Some (t.end.end_doc, t.end.end_byte) else None

-- The bytes are the index of a list, and the check returned this of it, and wrote as many rows as there is room for.
pub record IsChecked (period : ℕ) (bytes : List ℕ) (x : CheckedIndex) (before after : List Row) : Type 0 where
  pub cs : List Checkpoint
  pub is : IsIndexPart period bytes cs
  pub count : x.count ≡ length cs
  pub covered : x.covered ≡ covered_to 0 0 cs
  pub rows : AreRowsOf (take (length before) cs) (take (length cs) after)
  pub rest : drop (length cs) after ≡ drop (length cs) before
