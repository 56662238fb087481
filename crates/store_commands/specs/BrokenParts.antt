-- Which part of a file keeps it from being opened.
use Rattle.std.specs.Prelude.{◌≡◌, ◌≢◌, ℕ, ◌-◌, List, length, slice_range, Ok}
use Rattle.std.specs.Option.{option_map}
use Rattle.store_base.specs.declared.error.StoreError.{StoreError}
use Rattle.store_base.specs.declared.error.StoreError.TheVariants.{Read, Memory, BadIndex}
use Rattle.layered_index.specs.declared.checkpoint.Checkpoint.{Checkpoint}
use Rattle.layered_index.specs.Covering.{covered_to}
use Rattle.layered_index.specs.Faults.{IsFirstFault}
use Rattle.layered_index.specs.IndexReading.{HasIndex, IsIndexPart}
use Rattle.store_format.specs.declared.footer.DocStoreFooter.{DocStoreFooter}
use Rattle.store_format.specs.Extraction.{Says}
use Rattle.store_commands.specs.declared.broken_part.BrokenPart.{BrokenPart}
use Rattle.store_commands.specs.declared.broken_part.BrokenPart.TheVariants.{Footer, Index, Coverage}

-- Bytes from a place of a file on are the index of this period or not: they break its rules, and this is the first
-- fault; or they are that of checkpoints, which end at this byte, or don't go on from document 0 and byte 0.
abbrev pub BreaksIndex : List ℕ → ℕ → ℕ → BrokenPart → Type 0
BreaksIndex index period offset Footer = ⊥
BreaksIndex index period offset (Index begin fault) = (begin ≡ offset) × (HasIndex period index → ⊥)
    × IsFirstFault period index fault
BreaksIndex index period offset (Coverage end covered) = (end ≡ offset) × ((cs : List Checkpoint)
    × IsIndexPart period index cs × (covered ≡ option_map (λ ends. ends.1) (covered_to 0 0 cs)))

-- the same of the bytes from the footer's offset to the footer, which ends the file
abbrev pub BreaksBefore : List ℕ → DocStoreFooter → BrokenPart → Type 0
BreaksBefore file footer part = BreaksIndex (slice_range file footer.offset (length file - 28)) footer.period footer.offset part

-- the same of a file, by what its last 28 bytes say
pub record BreaksFile (file : List ℕ) (part : BrokenPart) : Type 0 where
  pub footer : DocStoreFooter
  pub says : Says (slice_range file (length file - 28) (length file)) (Ok footer)
  pub breaks : BreaksBefore file footer part

-- An error that the footer's bytes alone bring about.
pub record IsOfFooter (e : StoreError) : Type 0 where
  pub read : e ≢ Read
  pub memory : e ≢ Memory
  pub index : e ≢ BadIndex
