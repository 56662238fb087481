-- Where the bytes of an index first break a rule.
use Rattle.std.specs.Prelude.{◌≡◌, ◌⊎◌, ℕ, zero, suc, ◌+◌, ◌-◌, if◌then◌else◌, List, [], ◌∷◌, ◌++◌, length, Option, Some, None}
use Rattle.std.specs.List.{concat}
use Rattle.std.specs.Option.{option_map_or}
use Rattle.layered_index.specs.declared.checkpoint.Checkpoint.{Checkpoint}
use Rattle.layered_index.specs.declared.index_fault.IndexFault.{IndexFault}
use Rattle.layered_index.specs.Checkpoint.{checkpoint, bytes_end}
use Rattle.layered_index.specs.Layers.{digit_count}
use Rattle.layered_index.specs.BlockReading.{heading_at, run_at}
use Rattle.layered_index.specs.LayerReading.{items, may_stand, IsLayerBelow}
use Rattle.layered_index.specs.IndexReading.{split_at, AreLayersBelow, last_items}

-- What points to the runs that may stand one after the other, where the first is to begin at this document and this
-- byte, and its block lies at this place.
unfoldable pub standing_within : ℕ → ℕ → ℕ → ℕ → ℕ → List ℕ → List Checkpoint
standing_within zero period doc byte place bytes = []
standing_within (suc more) period doc byte place bytes =
    option_map_or (λ r. let after = place + (length bytes - length r.1) in
    if may_stand period doc byte r.0 (length r.1) then
    (checkpoint r.0.doc r.0.doc_end place after ∷ standing_within more period r.0.doc_end r.0.byte_end after r.1) else
    []) (run_at bytes) []

unfoldable pub standing_from : ℕ → ℕ → ℕ → ℕ → List ℕ → List Checkpoint
standing_from period doc byte place bytes = standing_within (length bytes) period doc byte place bytes

-- The two lists begin with these, and don't go on alike.
pub record BeginAlike (xs ys front : List Checkpoint) : Type 0 where
  pub more : List Checkpoint
  pub others : List Checkpoint
  pub first : xs ≡ front ++ more
  pub second : ys ≡ front ++ others
  pub apart : (c : Checkpoint) (ms os : List Checkpoint) → more ≡ c ∷ ms → others ≡ c ∷ os → ⊥

-- Of the runs that may stand, those before the first to which the layer above doesn't point, if there is one.
abbrev pub ArePassed : Option (List Checkpoint) → List Checkpoint → List Checkpoint → Type 0
ArePassed None standing passed = passed ≡ standing
ArePassed (Some above) standing passed = BeginAlike above standing passed

-- where those end, the first of which lies at this place
abbrev pub PassedTo : Option (List Checkpoint) → List Checkpoint → ℕ → ℕ → Type 0
PassedTo above standing place byte =
    (passed : List Checkpoint) × ArePassed above standing passed × (bytes_end place passed ≡ byte)

-- The first run of a layer that breaks a rule begins at this byte: the runs before it may stand where they do, and are
-- those that the layer above points to first. Where each run may stand, but the layer above points to more, it is where
-- the layer ends.
abbrev pub BreaksAt : ℕ → Option (List Checkpoint) → List ℕ → ℕ → Type 0
BreaksAt period above text byte =
    PassedTo above (option_map_or (λ h. standing_from period h.0.doc h.0.byte 0 text) (heading_at text) []) 0 byte

-- the fault at a byte of the first of these layers, which are the last ones of an index of this many bytes
abbrev pub fault_in : ℕ → List (List ℕ) → ℕ → IndexFault
fault_in len layers byte = record { layer = Some (length layers - 1); byte = len - length (concat layers) + byte }

-- the list of the layers' ends
abbrev pub fault_of_list : IndexFault
fault_of_list = record { layer = None; byte = 0 }

-- The first of these layers, which are the last ones of an index of this many bytes, that is no layer below the one above
-- it has this fault.
abbrev pub HasFault : ℕ → ℕ → Option (List Checkpoint) → List (List ℕ) → IndexFault → Type 0
HasFault period len above [] fault = ⊥
HasFault period len above (t ∷ ts) fault =
    ((byte : ℕ) × (IsLayerBelow period above t → ⊥) × BreaksAt period above t byte
    × (fault ≡ fault_in len (t ∷ ts) byte))
    ⊎ (IsLayerBelow period above t × HasFault period len (Some (items 0 0 0 t)) ts fault)

-- Of what was cut off as layers, the fault is that of the first that is none; or of the list of layers, where none
-- could be cut off by it, or there are not as many as the length of their list has digits.
abbrev pub FaultOf : ℕ → ℕ → IndexFault → Option (List (List ℕ)) → Type 0
FaultOf period len fault None = fault ≡ fault_of_list
FaultOf period len fault (Some ts) = HasFault period len None ts fault ⊎ (AreLayersBelow period None ts
    × (digit_count period (length (last_items [] ts)) ≡ length ts → ⊥) × (fault ≡ fault_of_list))

-- It is the first fault of these bytes.
abbrev pub IsFirstFault : ℕ → List ℕ → IndexFault → Type 0
IsFirstFault period bytes fault = FaultOf period (length bytes) fault (split_at bytes)
