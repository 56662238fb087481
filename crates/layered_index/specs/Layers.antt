-- The layers of an index, and its bytes. A period is how many checkpoints a full block of a layer has.
use Rattle.std.specs.Prelude.{ℕ, zero, suc, ◌+◌, List, [], ◌∷◌, ◌++◌, length, take, drop, map, reverse}
use Rattle.std.specs.List.{flat_map, concat}
use Rattle.std.specs.Int.Digits.{digits_of}
use Rattle.store_base.specs.VInt.{number}
use Rattle.layered_index.specs.declared.checkpoint.Checkpoint.{Checkpoint}
use Rattle.layered_index.specs.Checkpoint.{checkpoint, docs_end, checkpoint_block}

-- the runs of a list, of at most this many runs
unfoldable pub groups_within : {A : Type 0} → ℕ → ℕ → List A → List (List A)
groups_within zero period xs = []
groups_within (suc more) period [] = []
groups_within (suc more) period (x ∷ xs) = take period (x ∷ xs) ∷ groups_within more period (drop period (x ∷ xs))

-- The list in runs of the period's length; the last run may be shorter, and none is empty.
unfoldable pub groups : {A : Type 0} → ℕ → List A → List (List A)
groups period xs = groups_within (length xs) period xs

-- the checkpoint blocks of a layer, joined
abbrev pub layer_text : ℕ → List Checkpoint → List ℕ
layer_text period cs = flat_map checkpoint_block (groups period cs)

-- where the documents of a run begin
abbrev pub docs_start : List Checkpoint → ℕ
docs_start [] = 0
docs_start (c ∷ cs) = c.doc_range.start

-- For each run its documents, and the place of its block where the first block begins at this place.
abbrev pub pointers : ℕ → List (List Checkpoint) → List Checkpoint
pointers place [] = []
pointers place (run ∷ runs) =
    let after = place + length (checkpoint_block run) in
    checkpoint (docs_start run) (docs_end 0 run) place after ∷ pointers after runs

-- the layer above
abbrev pub layer_above : ℕ → List Checkpoint → List Checkpoint
layer_above period cs = pointers 0 (groups period cs)

-- how many digits a number has in this base, none for 0
unfoldable pub digit_count : ℕ → ℕ → ℕ
digit_count base n = length (digits_of base n)

-- this many layers, this one and those above it
abbrev pub layers_from : ℕ → ℕ → List Checkpoint → List (List Checkpoint)
layers_from period zero cs = []
layers_from period (suc above) cs = cs ∷ layers_from period above (layer_above period cs)

-- The layers of a list, the list itself first: as many as its length has digits in the base of the period.
abbrev pub layers : ℕ → List Checkpoint → List (List Checkpoint)
layers period cs = layers_from period (digit_count period (length cs)) cs

-- where each text ends, if they stand one after the other from this place on
abbrev pub ends_from : ℕ → List (List ℕ) → List ℕ
ends_from place [] = []
ends_from place (text ∷ texts) = (place + length text) ∷ ends_from (place + length text) texts

-- the texts of the layers, the top one first
abbrev pub texts_down : ℕ → List Checkpoint → List (List ℕ)
texts_down period cs = reverse (map (layer_text period) (layers period cs))

-- how many layers there are, where each ends, and the layers, from the top down
unfoldable pub index_part : ℕ → List Checkpoint → List ℕ
index_part period cs =
    number (digit_count period (length cs)) ++ flat_map number (ends_from 0 (texts_down period cs))
    ++ concat (texts_down period cs)

-- an index as its callers see it: its period, and its checkpoints in order
pub record Index : Type 0 where
  pub period : ℕ
  pub checkpoints : List Checkpoint
