-- Seeks that decode one run of each layer: what a run tells, the layers that are left, and what was found above them.
use Rattle.std.specs.Prelude.{◌≡◌, ℕ, zero, suc, ◌-◌, ◌^◌, ◌<◌, ◌≤◌, nat_lt, if◌then◌else◌, List, [], ◌∷◌, ◌++◌}
use Rattle.std.specs.Prelude.{length, take, drop, Option, Some, None}
use Rattle.store_base.specs.VInt.{◌>>=◌, number_below}
use Rattle.layered_index.specs.declared.checkpoint.Checkpoint.{Checkpoint}
use Rattle.layered_index.specs.Checkpoint.{docs_end, IsInLine, checkpoint_block, first_past}
use Rattle.layered_index.specs.Layers.{docs_start, layer_above}
use Rattle.layered_index.specs.BlockReading.{step_at, heading_at}
use Rattle.layered_index.specs.IndexReading.{numbers_at, texts_at}
use Rattle.layered_index.specs.LayerReading.{items}

-- The first of these checkpoints past the target, if all up to it can be read; or none.
unfoldable pub scanned : ℕ → ℕ → ℕ → ℕ → List ℕ → Option (Option Checkpoint)
scanned target zero doc byte bytes = Some None
scanned target (suc more) doc byte bytes =
    step_at doc byte bytes >>= λ c. if nat_lt target c.0.doc_range.end then Some (Some c.0) else scanned target more
    c.0.doc_range.end c.0.byte_range.end c.1

-- the same of a block of at most `most` checkpoints, and where its documents begin
unfoldable pub scanned_at : ℕ → ℕ → List ℕ → Option (Option Checkpoint × ℕ)
scanned_at most target bytes =
    heading_at bytes >>= λ h. if nat_lt most h.0.count then None else
    (scanned target h.0.count h.0.doc h.0.byte h.1 >>= λ found. Some (found, h.0.doc))

-- neither range is reversed, and the documents end past the target
pub record IsPast (target : ℕ) (c : Checkpoint) : Type 0 where
  pub docs : c.doc_range.start ≤ c.doc_range.end
  pub bytes : c.byte_range.start ≤ c.byte_range.end
  pub past : target < c.doc_range.end

-- These bytes are the block of the run, which has the documents of the pointer.
pub record IsRunAt (period : ℕ) (run : List Checkpoint) (p : Checkpoint) (block : List ℕ) : Type 0 where
  pub some : 0 < length run
  pub few : length run ≤ period
  pub small : period ≤ 64
  pub in_line : IsInLine run
  pub spells : block ≡ checkpoint_block run
  pub docs_first : p.doc_range.start ≡ docs_start run
  pub docs_last : p.doc_range.end ≡ docs_end 0 run

-- The top layer has one run. In any other layer the pointer that was found in the layer above points to the run.
abbrev pub IsFoundAbove : ℕ → ℕ → Option Checkpoint → List Checkpoint → Type 0
IsFoundAbove period target None cs = (0 < length cs) × (length cs ≤ period)
IsFoundAbove period target (Some p) cs = first_past (layer_above period cs) target ≡ Some p

-- the bytes of a layer from the run on that a pointer points to; without a pointer from the first run on
abbrev pub from_pointer : List ℕ → Option Checkpoint → List ℕ
from_pointer layer None = layer
from_pointer layer (Some p) = drop p.byte_range.start layer

-- the first checkpoint past the target, and those after it
abbrev pub past_on : List Checkpoint → ℕ → Option (Checkpoint × List Checkpoint)
past_on [] target = None
past_on (c ∷ cs) target = if nat_lt target c.doc_range.end then Some (c, cs) else past_on cs target

-- what a seek found in the bottom layer, and the bytes of the layer from a run on that has it
abbrev pub AreOn : List Checkpoint → ℕ → Option Checkpoint → List ℕ → Type 0
AreOn cs target None run = Unit {0}
AreOn cs target (Some c) run = past_on (items 0 0 0 run) target ≡ past_on cs target

-- the layers, by the numbers that say where they end; the first begins at this place, and no byte follows the last
unfoldable pub layers_left : ℕ → ℕ → List ℕ → List ℕ → Option (List (List ℕ))
layers_left count place ends texts = numbers_at count ends >>= λ ns. texts_at place ns.0 texts

-- the next layer, where it ends, and, of the layers after it, the ends and the bytes
unfoldable pub next_layer : ℕ → List ℕ → List ℕ → Option (List ℕ × ℕ × List ℕ × List ℕ)
next_layer place ends texts =
    number_below (2 ^ 64) ends >>= λ n.
    if nat_lt n.0 place
    then None
    else (if nat_lt (length texts) (n.0 - place) then None else Some
    (take (n.0 - place) texts, n.0, n.1, drop (n.0 - place) texts))

-- the bytes after these numbers
abbrev pub after_numbers : ℕ → List ℕ → Option (List ℕ)
after_numbers count bytes = numbers_at count bytes >>= λ ns. Some ns.1

-- These bytes stand at the end of others.
pub record IsRest (bytes rest : List ℕ) : Type 0 where
  pub front : List ℕ
  pub parts : bytes ≡ front ++ rest

-- an index whose layers were not decoded, as its callers see it
pub record IndexBytes : Type 0 where
  pub period : ℕ
  pub bytes : List ℕ

-- How many layers there are, where the numbers begin that say where they end, and where the layers begin.
pub record IsHeaded (period : ℕ) (bytes : List ℕ) (count : ℕ) (ends texts : List ℕ) : Type 0 where
  pub two : 2 ≤ period
  pub few : period ≤ 64
  pub counted : number_below 65 bytes ≡ Some (count, ends)
  pub following : after_numbers count ends ≡ Some texts
