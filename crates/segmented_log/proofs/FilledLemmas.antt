-- A segment that is filled and published.
use Rattle.std.proofs.Common.{◌≡◌, inl, inr, ⊎_elim, ℕ, List, ◌++◌, subst}
use Rattle.store_folder.specs.Moments.{LeavesOnly}
use Rattle.store_folder.specs.Folder.{Look}
use Rattle.store_folder.specs.Publishing.{part}
use Rattle.store_folder.proofs.Steps.{weaker}
use Rattle.store_format.specs.Block.{Slot}
use Rattle.store_format.specs.StoreFile.{StoreBlock}
use Rattle.store_published.specs.Filling.{IsStoreOf, IsOldOrNew}
use Rattle.segmented_log.specs.Names.{segment_name}
use Rattle.segmented_log.specs.Parts.{Part}
use Rattle.segmented_log.specs.Settled.{AddsSegment}

module _ (segment : Part) (brought : List Slot → Type 0) (cut : List StoreBlock → Type 0) (same : (slots : List Slot) → brought slots → slots ≡ segment.slots) (period : ℕ) where
  adds : (before : Look → Type 0) (c : Look) → IsOldOrNew before (segment_name segment.first ++ part) (segment_name segment.first) (IsStoreOf brought cut period) c → AddsSegment before segment c
  adds before c o = record {
    old = o.old;
    was = o.was;
    at_name = ⊎_elim
        (λ e. inl e)
        (λ new. inr (new.0, record { period = period; version = 3; blocks = new.1.blocks; store = new.1.store; slots_are = same _ new.1.came }, new.2)) o.at_name;
    elsewhere = o.elsewhere;
  }

  pub filled_run : {F : Type 0} (may_leave : F → Look → Type 0) (moment : F → ℕ) (left_since : F → ℕ → Look → Type 0) (old new : F) (name : List ℕ) → name ≡ segment_name segment.first
      → LeavesOnly moment left_since old new (IsOldOrNew (may_leave old) (name ++ part) name (IsStoreOf brought cut period))
      → LeavesOnly moment left_since old new (AddsSegment (may_leave old) segment)
  filled_run may_leave moment left_since old new name is run =
      weaker moment left_since old new _ _ (adds (may_leave old))
      (subst (λ (n : List ℕ). LeavesOnly moment left_since old new (IsOldOrNew (may_leave old) (n ++ part) n (IsStoreOf brought cut period))) is run)
