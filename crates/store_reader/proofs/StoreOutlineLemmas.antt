-- A store in a slice of bytes, by rows of a layer of its index.
use Rattle.std.proofs.Common.{◌≡◌, ℕ, ◌-◌, ◌<◌, ◌≤◌, List, length, drop, Option, sym, ap, ◌∙◌, subst, arith}
use Rattle.std.specs.Prelude.{Result, Ok, slice_range}
use Rattle.store_base.specs.declared.error.StoreError.{StoreError}
use Rattle.layered_index.specs.declared.checkpoint.Checkpoint.{Checkpoint}
use Rattle.layered_index.specs.declared.lower_layers.LayerMarks.{LayerMarks}
use Rattle.layered_index.specs.declared.row.Row.{Row}
use Rattle.layered_index.specs.Checkpoint.{IsInLineFrom, first_past}
use Rattle.layered_index.specs.Layers.{digit_count, index_part}
use Rattle.layered_index.specs.Rows.{LayersBelow, lower_layers, layer_at, AreMarksOf, AreRowsAbove}
use Rattle.layered_index.specs.Sought.{IndexBytes, layers_left}
use Rattle.store_format.specs.StoreFile.{data_of, checkpoints_of}
use Rattle.store_format.proofs.StoreLemmas.{checkpoints_cover}
use Rattle.store_reader.specs.declared.store_head.StoreHead.{StoreHead}
use Rattle.store_reader.specs.Opening.{IsSomeStore}
use Rattle.store_reader.specs.StoreSlices.{IsLaidOut, IsOutline}
use Rattle.store_reader.proofs.RefusedLemmas.{parts_of}

-- ---- an outline

-- the marks in the index are those in the store's
pub marks_stored : (bytes : List ℕ) (data_len : ℕ) (index : IndexBytes) (version : ℕ) (s : IsSomeStore bytes) (m : LayerMarks) → IsLaidOut bytes data_len index version s
    → AreMarksOf index.period index.bytes (checkpoints_of s.blocks) m → AreMarksOf s.period (index_part s.period (checkpoints_of s.blocks)) (checkpoints_of s.blocks) m
marks_stored bytes data_len index version s m laid marks =
    let cs = checkpoints_of s.blocks in
    subst (λ (b : List ℕ). AreMarksOf s.period b cs m) laid.index_is (subst (λ (p : ℕ). AreMarksOf p index.bytes cs m) laid.period_is marks)

-- the rows that were filled are an outline of the store
pub outline_is : (bytes : List ℕ) (s : IsSomeStore bytes) (data_len period height count : ℕ) (m : LayerMarks) (rows : List Row) → data_len ≡ length (data_of s.blocks) → period ≡ s.period
    → height ≤ digit_count s.period (length (checkpoints_of s.blocks)) → AreRowsAbove s.period height (checkpoints_of s.blocks) rows
    → (m.height ≡ height) × AreMarksOf s.period (index_part s.period (checkpoints_of s.blocks)) (checkpoints_of s.blocks) m
    → IsOutline bytes s (record { data_len = data_len; rows = count; lower = m; period = period }) rows
outline_is bytes s data_len period height count m rows size same within are marks = record {
  data_is = size;
  period_is = same;
  within = subst (λ (h : ℕ). h ≤ digit_count s.period (length (checkpoints_of s.blocks))) (sym marks.0) within;
  marks = marks.1;
  are = subst (λ (h : ℕ). AreRowsAbove s.period h (checkpoints_of s.blocks) rows) (sym marks.0) are;
}

pub deepest_is : (cs : List Checkpoint) (period p room height h : ℕ) → period ≡ p → h ≡ height → (0 < height → room < length (layer_at period (height - 1) cs))
    → 0 < h → room < length (layer_at p (h - 1) cs)
deepest_is cs period p room height h same at deepest = subst (λ (n : ℕ). 0 < n → room < length (layer_at p (n - 1) cs)) (sym at)
    (subst (λ (q : ℕ). 0 < height → room < length (layer_at q (height - 1) cs)) same deepest)

-- ---- by an outline

-- the data and a footer lie in the file
pub data_within : (bytes : List ℕ) (s : IsSomeStore bytes) (head : StoreHead) (rows : List Row) → IsOutline bytes s head rows → head.data_len ≤ length bytes - 28
data_within bytes s head rows is = omega (arith, is.data_is, (parts_of bytes s).size)

-- the layers below are those of the store
pub lower_is : (bytes : List ℕ) (s : IsSomeStore bytes) (head : StoreHead) (rows : List Row) (part : List ℕ) (end : ℕ) (lower : LayersBelow) → IsOutline bytes s head rows
    → part ≡ slice_range bytes head.data_len end → end ≡ length bytes - 28
    → lower ≡ record { period = head.period; height = head.lower.height; texts = layers_left head.lower.height head.lower.place (drop head.lower.ends part) (drop head.lower.texts part) }
    → lower ≡ lower_layers head.period head.lower.height (checkpoints_of s.blocks)
lower_is bytes s head rows part end lower is part_is at given =
    let cs = checkpoints_of s.blocks in
    let m = head.lower in
    let stored : part ≡ index_part s.period cs = part_is ∙ (λ i. slice_range bytes (is.data_is i) (at i)) ∙ (parts_of bytes s).index in
    let marks : AreMarksOf head.period part cs m = subst (λ (b : List ℕ). AreMarksOf head.period b cs m) (sym stored)
    (subst (λ (p : ℕ). AreMarksOf p (index_part s.period cs) cs m) (sym is.period_is) is.marks) in
    given ∙ ap (λ (t : Option (List (List ℕ))). record { period = head.period; height = m.height; texts = t }) marks

-- a seek by it finds the first block past a document
pub sought_by : (bytes : List ℕ) (s : IsSomeStore bytes) (head : StoreHead) (target : ℕ) (rows : List Row) (lower : LayersBelow) (r : Result (Option Checkpoint) StoreError)
    → IsOutline bytes s head rows → lower ≡ lower_layers head.period head.lower.height (checkpoints_of s.blocks)
    → ((cs : List Checkpoint) → IsInLineFrom 0 0 cs → lower ≡ lower_layers lower.period lower.height cs → AreRowsAbove lower.period lower.height cs rows → r ≡ Ok (first_past cs target))
    → r ≡ Ok (first_past (checkpoints_of s.blocks) target)
sought_by bytes s head target rows lower r is lowest answer =
    let cs = checkpoints_of s.blocks in
    let are : AreRowsAbove head.period head.lower.height cs rows = subst (λ (p : ℕ). AreRowsAbove p head.lower.height cs rows) (sym is.period_is) is.are in
    let itself : lower ≡ lower_layers lower.period lower.height cs =
    subst (λ (w : LayersBelow). w ≡ lower_layers w.period w.height cs) (sym lowest) (λ _. lower_layers head.period head.lower.height cs) in
    answer cs (checkpoints_cover s.blocks s.store.blocks).in_line itself (subst (λ (w : LayersBelow). AreRowsAbove w.period w.height cs rows) (sym lowest) are)
