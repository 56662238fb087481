-- The rows of a layer: where its checkpoints end.
use Rattle.std.specs.Prelude.{◌≡◌, ℕ, zero, suc, ◌+◌, ◌-◌, ◌*◌, ◌<◌, ◌≤◌, List, [], ◌∷◌, length, drop, map}
use Rattle.std.specs.Prelude.{reverse, Option, Some, None}
use Rattle.layered_index.specs.declared.checkpoint.Checkpoint.{Checkpoint}
use Rattle.layered_index.specs.declared.lower_layers.LayerMarks.{LayerMarks}
use Rattle.layered_index.specs.declared.outline.LayerEnd.{LayerEnd}
use Rattle.layered_index.specs.declared.row.Row.{Row}
use Rattle.layered_index.specs.declared.row.RowEnd.{RowEnd}
use Rattle.layered_index.specs.Checkpoint.{checkpoint, first_past}
use Rattle.layered_index.specs.Layers.{layer_text, layer_above, layers_from, digit_count}
use Rattle.layered_index.specs.Sought.{layers_left}

-- where the checkpoint of a row ends
abbrev pub end_of : Row → RowEnd
end_of row = record { end_doc = row.end_doc; end_byte = row.end_byte }

-- the row of a checkpoint that ends here, with no guide
abbrev pub row_of : RowEnd → Row
row_of end = record { end_doc = end.end_doc; guide = 0; end_byte = end.end_byte }

-- where the checkpoints of rows end: all that they say, whatever their guides are
abbrev pub ends_in : List Row → List RowEnd
ends_in rows = map end_of rows

-- where a checkpoint ends
abbrev pub ends_of : Checkpoint → RowEnd
ends_of c = record { end_doc = c.doc_range.end; end_byte = c.byte_range.end }

-- These are the rows of these checkpoints.
abbrev pub AreRowsOf : List Checkpoint → List Row → Type 0
AreRowsOf cs rows = ends_in rows ≡ map ends_of cs

-- where the checkpoint at a position begins: at the end of the one before it, the first one here
abbrev pub start_in : RowEnd → List RowEnd → ℕ → RowEnd
start_in start ends zero = start
start_in start [] (suc at) = start
start_in start (end ∷ ends) (suc at) = start_in end ends at

-- how many looks at this many rows a seek may take
abbrev pub rows_looked_at : ℕ → ℕ → ℕ
rows_looked_at p count = 10 + p * digit_count p count

-- the layer this many layers above a list
abbrev pub layer_at : ℕ → ℕ → List Checkpoint → List Checkpoint
layer_at period zero cs = cs
layer_at period (suc height) cs = layer_at period height (layer_above period cs)

-- the texts of the lowest layers of a list, this many, from the top down
abbrev pub lower_texts : ℕ → ℕ → List Checkpoint → List (List ℕ)
lower_texts period height cs = reverse (map (layer_text period) (layers_from period height cs))

-- The lowest layers of an index, as their callers see them: how many there are, and their texts, from the top down, if
-- they can be cut off.
pub record LayersBelow : Type 0 where
  pub period : ℕ
  pub height : ℕ
  pub texts : Option (List (List ℕ))

-- this many of the layers of a list
abbrev pub lower_layers : ℕ → ℕ → List Checkpoint → LayersBelow
lower_layers period height cs = record { period = period; height = height; texts = Some (lower_texts period height cs) }

-- These numbers say where the lowest layers of a list lie in the bytes of its index.
abbrev pub AreMarksOf : ℕ → List ℕ → List Checkpoint → LayerMarks → Type 0
AreMarksOf period bytes cs m = layers_left m.height m.place (drop m.ends bytes) (drop m.texts bytes)
    ≡ Some (lower_texts period m.height cs)

-- These are the rows of the layer that is this many layers above a list. There are none where that is above the top
-- one.
abbrev pub AreRowsAbove : ℕ → ℕ → List Checkpoint → List Row → Type 0
AreRowsAbove period height cs [] = height ≡ digit_count period (length cs)
AreRowsAbove period height cs (row ∷ rows) = AreRowsOf (layer_at period height cs) (row ∷ rows)

-- what a seek found in the layer that is this many layers above a list; nothing where that is above the top one
abbrev pub IsFoundIn : ℕ → ℕ → List Checkpoint → ℕ → Option Checkpoint → Type 0
IsFoundIn period height cs target None = height ≡ digit_count period (length cs)
IsFoundIn period height cs target (Some p) = first_past (layer_at period height cs) target ≡ Some p

-- where the last of these begins in its bytes; the number given where there is none
abbrev pub last_start : ℕ → List Checkpoint → ℕ
last_start byte [] = byte
last_start byte (c ∷ cs) = last_start c.byte_range.start cs

-- how many these are, and where the last of them begins in its bytes
abbrev pub HasEnd : List Checkpoint → LayerEnd → Type 0
HasEnd cs end = (length cs ≡ end.count) × (last_start 0 cs ≡ end.start)

-- Of the layers of a list, this is the lowest that has no more checkpoints than there is room for, from the top down,
-- and this many layers lie below it. It is none where the top one has more.
pub record IsDeepest (period room : ℕ) (cs : List Checkpoint) (height : ℕ) (layer : List Checkpoint) : Type 0 where
  pub within : height ≤ digit_count period (length cs)
  pub is : height < digit_count period (length cs) → layer ≡ layer_at period height cs
  pub none : height ≡ digit_count period (length cs) → layer ≡ []
  pub fits : length layer ≤ room
  pub last : 0 < height → room < length (layer_at period (height - 1) cs)

-- the checkpoints that end there, the first from this start on, and each other from the end of the one before it
abbrev pub checkpoints_from : RowEnd → List RowEnd → List Checkpoint
checkpoints_from start [] = []
checkpoints_from start (end ∷ ends) =
    checkpoint start.end_doc end.end_doc start.end_byte end.end_byte ∷ checkpoints_from end ends
