-- What a log knows of its folder while no call has failed.
use Rattle.std.specs.Prelude.{◌≡◌, ◌⊎◌, ℕ, ◌+◌, ◌<◌, ◌≤◌, ◌^◌, List, ◌++◌, length, map, Some, All}
use Rattle.store_folder.specs.Folder.{Look, Elsewhere, ElsewhereOfBoth, Keeps}
use Rattle.store_folder.specs.Publishing.{part, IsOldOrWhole}
use Rattle.store_format.specs.Block.{doc}
use Rattle.log_tail.specs.declared.batches.Place.{Place}
use Rattle.segmented_log.specs.declared.commit.Commit.{Commit}
use Rattle.segmented_log.specs.declared.commit.Commit.TheVariants.{OneSync, TwoSyncs}
use Rattle.log_tail.specs.Place.{contents, EndsBy}
use Rattle.log_tail.specs.Tail.{IsWholeRecords, records_in, records_of, first_of, IsTail, IsWholeTo}
use Rattle.segmented_log.specs.Names.{segment_name, tail_name}
use Rattle.segmented_log.specs.Parts.{Part, end_from, AreParts}
use Rattle.segmented_log.specs.Log.{HasSegment, Holds}

-- The tail's file is on the disk under its name.
pub record TailIsKept (may_hold : List ℕ → List ℕ → Type 0) (may_leave : Look → Type 0) (entry_kept trusted : List ℕ → Type 0) (tail : List ℕ) : Type 0 where
  pub file : (bytes : List ℕ) → may_hold tail_name bytes → bytes ≡ tail
  pub entry : entry_kept tail_name
  pub trust : trusted tail_name
  pub outcomes : Keeps tail_name (Some tail) may_leave

-- What a crash leaves while n bytes are put after those of the tail: all that it could leave before, but for the tail, which
-- has any bytes after its own, at most n.
pub record GrowsTail (before : Look → Type 0) (tail : List ℕ) (n : ℕ) (c : Look) : Type 0 where
  pub old : Look
  pub was : before old
  pub elsewhere : Elsewhere tail_name old c
  pub after : List ℕ
  pub short : length after ≤ n
  pub tail_is : c tail_name ≡ Some (tail ++ after)

-- What a crash leaves while a batch is put after those of the tail: with one sync, maybe any bytes after the tail's own, at
-- most as many as the batch has; with two, the tail or the one with the batch.
abbrev pub PutsBatch : Commit → (Look → Type 0) → List ℕ → List ℕ → Look → Type 0
PutsBatch OneSync before tail batch c = GrowsTail before tail (length batch) c
PutsBatch TwoSyncs before tail batch c = IsOldOrWhole before (tail_name ++ part) tail_name (Some (tail ++ batch)) c

-- the part of a tail's records at these places
abbrev pub part_at : ℕ → List ℕ → List Place → Part
part_at first tail places = record { first = first; slots = map doc (contents tail places) }

-- What a crash leaves while a segment is published: under its name what it could leave there before, or the segment. No
-- other name but the one beside is touched.
pub record AddsSegment (before : Look → Type 0) (segment : Part) (c : Look) : Type 0 where
  pub old : Look
  pub was : before old
  pub at_name : (c (segment_name segment.first) ≡ old (segment_name segment.first)) ⊎ HasSegment c segment
  pub elsewhere : ElsewhereOfBoth (segment_name segment.first ++ part) (segment_name segment.first) old c

-- All that a log has acknowledged is on the disk: each crash leaves these segments and this tail.
pub record IsOnDisk (may_hold : List ℕ → List ℕ → Type 0) (may_leave : Look → Type 0) (entry_kept trusted : List ℕ → Type 0) (segments : List Part) (tail : List ℕ) : Type 0 where
  pub outcomes : (c : Look) → may_leave c → Holds segments tail c
  pub tail_kept : TailIsKept may_hold may_leave entry_kept trusted tail

-- What is known of a tail that was read or made: it is whole batches, its first record has this number, and its records lie at
-- these places.
pub record IsReadTail (tail : List ℕ) (first : ℕ) (places : List Place) : Type 0 where
  pub is_tail : IsTail tail
  pub whole : IsWholeTo (length tail) tail
  pub first_is : first ≡ first_of tail
  pub records : contents tail places ≡ records_of tail
  pub within : All (EndsBy (length tail)) places

-- What a log in memory knows of its tail, whatever its folder does: its bytes, where its records lie, and what waits to be
-- put after them.
pub record IsSettledTail (sealed tail_first next : ℕ) (tail : List ℕ) (places : List Place) (pending : List ℕ) : Type 0 where
  pub is_tail : IsTail tail
  pub whole : IsWholeTo (length tail) tail
  pub records : contents tail places ≡ records_of tail
  pub within : All (EndsBy (length tail)) places
  pub first_is : tail_first ≡ first_of tail
  pub low : tail_first ≤ sealed
  pub high : sealed ≤ tail_first + length places
  pub next_is : next ≡ tail_first + length places + length (records_in pending)
  pub fits : next < 2 ^ 64
  pub pending_whole : IsWholeRecords pending
  pub small : 8 + length pending < 2 ^ 32

-- What it knows of its folder, which is honest.
pub record IsSettledFolder (may_hold : List ℕ → List ℕ → Type 0) (may_leave : Look → Type 0) (entry_kept trusted : List ℕ → Type 0) (first sealed : ℕ)
    (segments : List Part) (tail : List ℕ) : Type 0 where
  pub parts : AreParts first segments tail
  pub sealed_is : sealed ≡ end_from first segments
  pub on_disk : IsOnDisk may_hold may_leave entry_kept trusted segments tail
