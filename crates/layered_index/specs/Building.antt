-- An index in the making. Each layer has the bytes of its full blocks, and an open block.
use Rattle.std.specs.Prelude.{◌≡◌, ℕ, ◌+◌, ◌<◌, ◌≤◌, ◌^◌, nat_lt, if◌then◌else◌, List, [], ◌∷◌, ◌++◌, length, map}
use Rattle.std.specs.Prelude.{Option, Some, None}
use Rattle.std.specs.List.{flat_map, AllByRecursion}
use Rattle.layered_index.specs.declared.checkpoint.Checkpoint.{Checkpoint}
use Rattle.layered_index.specs.Checkpoint.{checkpoint, docs_end, IsInLine, checkpoint_block}
use Rattle.layered_index.specs.Layers.{docs_start, pointers}
use Rattle.layered_index.specs.LayerReading.{items}

-- a layer in the making: the bytes of its full blocks, and the checkpoints of the open one
pub record Layer : Type 0 where
  pub bytes : List ℕ
  pub rest : List Checkpoint

-- one more in the open block
abbrev pub put : Layer → Checkpoint → Layer
put l c = record { bytes = l.bytes; rest = l.rest ++ c ∷ [] }

-- the bytes, and those of the open block
abbrev pub text_with : Layer → List ℕ
text_with l = l.bytes ++ checkpoint_block l.rest

-- the open block's documents, and its place
abbrev pub pointer_to : Layer → Checkpoint
pointer_to l = checkpoint (docs_start l.rest) (docs_end 0 l.rest) (length l.bytes) (length (text_with l))

-- the open block written, and an empty one
abbrev pub flushed : Layer → Layer
flushed l = record { bytes = text_with l; rest = [] }

-- The layers with one more checkpoint in the first. A block that reaches the period is flushed, and its pointer goes to
-- the layer above.
unfoldable pub inserted : ℕ → List Layer → Checkpoint → List Layer
inserted period [] c = record { bytes = []; rest = c ∷ [] } ∷ []
inserted period (l ∷ ls) c =
    if nat_lt (length (put l c).rest) period then put l c ∷ ls else flushed (put l c)
    ∷ inserted period ls (pointer_to (put l c))

-- The first layer takes this checkpoint, and so on upward, if the texts can be addressed.
unfoldable pub AcceptsInsert : ℕ → List Layer → Checkpoint → Type 0
AcceptsInsert period [] c = IsInLine (c ∷ [])
AcceptsInsert period (l ∷ ls) c =
    IsInLine (put l c).rest × (period ≤ length (put l c).rest → length (text_with (put l c)) < 2 ^ 64
    → AcceptsInsert period ls (pointer_to (put l c)))

-- What a layer is after an insertion that gave this pointer. A full block is written, and still open.
abbrev pub TookOne : ℕ → Layer → Checkpoint → Layer → Option Checkpoint → Type 0
TookOne period l c new None = (length (put l c).rest < period) × (new ≡ put l c)
TookOne period l c new (Some pointer) =
    (period ≤ length (put l c).rest) × (new ≡ record { bytes = text_with (put l c); rest = (put l c).rest })
    × (pointer ≡ pointer_to (put l c)) × (length (text_with (put l c)) < 2 ^ 64)

-- one more, if there is one
abbrev pub put_some : Layer → Option Checkpoint → Layer
put_some l None = l
put_some l (Some c) = put l c

-- the bytes of the open block; none is written for an empty one
abbrev pub block_text : List Checkpoint → List ℕ
block_text [] = []
block_text (c ∷ cs) = checkpoint_block (c ∷ cs)

-- the bytes of a layer that is closed
abbrev pub closed_text : Layer → List ℕ
closed_text l = l.bytes ++ block_text l.rest

-- the pointer to a block at this place, if it has a checkpoint
abbrev pub pointer_at : ℕ → List Checkpoint → Option Checkpoint
pointer_at place [] = None
pointer_at place (c ∷ cs) = Some (checkpoint c.doc_range.start (docs_end 0 (c ∷ cs)) place
    (place + length (checkpoint_block (c ∷ cs))))

-- the pointer to a closed layer's last block
abbrev pub last_pointer : Layer → Option Checkpoint
last_pointer l = pointer_at (length l.bytes) l.rest

-- the texts of the layers, closed from the bottom up, where the layer below gives this pointer
unfoldable pub closed : List Layer → Option Checkpoint → List (List ℕ)
closed [] below = []
closed (l ∷ ls) below = closed_text (put_some l below) ∷ closed ls (last_pointer (put_some l below))

-- the texts of layers that are closed
abbrev pub texts_of : List Layer → List (List ℕ)
texts_of ls = map (λ l. l.bytes) ls

-- each layer takes the pointer from below
unfoldable pub Closes : List Layer → Option Checkpoint → Type 0
Closes [] below = Unit {0}
Closes (l ∷ ls) below =
    IsInLine (put_some l below).rest × (length (closed_text (put_some l below)) < 2 ^ 64
    → Closes ls (last_pointer (put_some l below)))

-- The layer has these checkpoints: these full runs, written, and an open one.
pub record IsLayer (period : ℕ) (cs : List Checkpoint) (runs : List (List Checkpoint)) (l : Layer) : Type 0 where
  pub some : 0 < length cs
  pub full : AllByRecursion (λ run. length run ≡ period) runs
  pub joined : flat_map (λ run. run) runs ++ l.rest ≡ cs
  pub few : length l.rest < period
  pub written : l.bytes ≡ flat_map checkpoint_block runs

-- The first layer has these checkpoints, and each other the pointers to the full runs below it.
abbrev pub IsBuilt : ℕ → List Checkpoint → List Layer → Type 0
IsBuilt period cs [] = cs ≡ []
IsBuilt period cs (l ∷ ls) = (runs : List (List Checkpoint)) × IsLayer period cs runs l
    × IsBuilt period (pointers 0 runs) ls

-- the checkpoints that were inserted
abbrev pub list_of : List Layer → List Checkpoint
list_of [] = []
list_of (l ∷ ls) = items 0 0 0 l.bytes ++ l.rest

-- what an index in the making is
pub record IsBuilder (period : ℕ) (ls : List Layer) : Type 0 where
  pub least : 2 ≤ period
  pub most : period ≤ 64
  pub built : IsBuilt period (list_of ls) ls
  pub in_line : IsInLine (list_of ls)
