-- How far the documents of a store were given.
use Rattle.std.proofs.Common.{◌≡◌, ℕ, ◌+◌, ◌-◌, ◌<◌, ◌≤◌, Bool, true, false, List, [], ◌∷◌, ◌++◌, length, map, Option, Some, sym, ap, ◌∙◌, subst, arith}
use Rattle.std.specs.Prelude.{IsTrue, slice_range}
use Rattle.layered_index.specs.Checkpoint.{Covers, first_past}
use Rattle.std.specs.List.{range_with_len}
use Rattle.std.proofs.lemmas.List.{append-nil, map-append}
use Rattle.std.proofs.lemmas.List.FromFn.{length-map-range_with_len}
use Rattle.docstore.proofs.TakenLemmas.{length-slots}
use Rattle.store_format.specs.Block.{Slot, slot}
use Rattle.store_format.specs.Slots.{slots}
use Rattle.store_format.specs.StoreFile.{StoreBlock}
use Rattle.store_reader.specs.declared.data_part.DataPart.{DataPart}
use Rattle.store_reader.specs.Iteration.{is_in}
use Rattle.store_reader.specs.Parts.{place_of, IsBlockRead}
use Rattle.store_reader.specs.Reading.{Reading, num_docs, store_of}
use Rattle.store_commands.specs.Checks.{slots_in}
use Rattle.store_commands.specs.Documents.{numbered, numbered_from, TakesSlots}
use Rattle.store_commands.proofs.AliveLemmas.{none_numbered, one_numbered, numbered_joined}
use Rattle.store_commands.proofs.CountLemmas.{range_joined, slots_joined}
use Rattle.store_commands.proofs.TakingLemmas.{takes_none, takes_more}
use Rattle.store_commands.proofs.WalkLemmas.{HasWalked, walked_first, walked_next, walked_more, walked_all, IsNext}

-- ---- the documents of a block

pub slots_split : (block : List ℕ) (m n : ℕ) → slots_in block (m + n) ≡ slots_in block m ++ map (slot block) (range_with_len m n)
slots_split block m n =
    let here : 0 + m ≡ m = omega arith in
    ap (map (slot block)) (range_joined 0 m n) ∙ map-append (slot block) (range_with_len 0 m) (range_with_len (0 + m) n)
    ∙ ap (λ (k : ℕ). slots_in block m ++ map (slot block) (range_with_len k n)) here

-- documents that are not in the set add nothing
pub numbered_skip : (first : ℕ) (block : List ℕ) (m n : ℕ) (set : Option (ℕ → Bool)) → ((id : ℕ) → first + m ≤ id → id < first + m + n → is_in set id ≡ false)
    → numbered_from first (slots_in block (m + n)) set ≡ numbered_from first (slots_in block m) set
numbered_skip first block m n set h =
    let size = length-map-range_with_len (slot block) 0 m in let more = length-map-range_with_len (slot block) m n in
    ap (λ (xs : List Slot). numbered_from first xs set) (slots_split block m n) ∙ numbered_joined first (slots_in block m) (map (slot block) (range_with_len m n)) set
    ∙ ap (λ (ys : List (ℕ × Slot)). numbered_from first (slots_in block m) set ++ ys)
    (none_numbered (first + length (slots_in block m)) (map (slot block) (range_with_len m n)) set (λ id le lt. h id (omega arith) (omega arith)))
    ∙ append-nil (numbered_from first (slots_in block m) set)

-- the next one adds its slot, if it is in the set
pub numbered_one : (first : ℕ) (block : List ℕ) (m : ℕ) (set : Option (ℕ → Bool)) → is_in set (first + m) ≡ true
    → numbered_from first (slots_in block (m + 1)) set ≡ numbered_from first (slots_in block m) set ++ (first + m, slot block m) ∷ []
numbered_one first block m set h =
    let size : length (slots_in block m) ≡ m = length-map-range_with_len (slot block) 0 m in
    ap (λ (xs : List Slot). numbered_from first xs set) (slots_split block m 1) ∙ numbered_joined first (slots_in block m) (slot block m ∷ []) set
    ∙ ap (λ (ys : List (ℕ × Slot)). numbered_from first (slots_in block m) set ++ ys) (one_numbered (first + length (slots_in block m)) (slot block m) set
    (ap (λ (k : ℕ). is_in set (first + k)) size ∙ h))
    ∙ ap (λ (k : ℕ). numbered_from first (slots_in block m) set ++ (first + k, slot block m) ∷ []) size

-- ---- the documents of a store

-- the documents of these blocks were given
abbrev pub AreGiven : {T : Type 0} → (T → ℕ → List ℕ → T → Type 0) → Option (ℕ → Bool) → T → T → List StoreBlock → Type 0
AreGiven takes set old new blocks = TakesSlots takes (numbered_from 0 (slots blocks) set) old new

-- the documents of some blocks were given
abbrev pub HasGiven : {T : Type 0} → (T → ℕ → List ℕ → T → Type 0) → Option (ℕ → Bool) → Reading → Reading → ℕ → T → T → Type 0
HasGiven takes set r now next old new = HasWalked (AreGiven takes set old new) r now next

pub given_first : {T : Type 0} (takes : T → ℕ → List ℕ → T → Type 0) (set : Option (ℕ → Bool)) (r : Reading) (old : T) → Covers r.checkpoints (length r.file.content) → HasGiven takes set r r 0 old old
given_first takes set r old covers = walked_first (AreGiven takes set old old) r covers (takes_none takes old)

-- a block that comes is the next one
pub next_in : {T : Type 0} (takes : T → ℕ → List ℕ → T → Type 0) (set : Option (ℕ → Bool)) (r now : Reading) (next : ℕ) (old new : T) (part : DataPart) (h : HasGiven takes set r now next old new)
    → Some (place_of part) ≡ first_past now.checkpoints next
    → (IsTrue now.file.honest → part.bytes ≡ slice_range now.file.content part.start (part.start + length part.bytes)) → IsNext r h.front next part
next_in takes set r now next old new part h seeks given = walked_next (AreGiven takes set old new) r now next part h seeks given

pub given_more : {T : Type 0} (takes : T → ℕ → List ℕ → T → Type 0) (set : Option (ℕ → Bool)) (r now read : Reading) (next : ℕ) (old middle new : T) (part : DataPart)
    → HasGiven takes set r now next old middle
    → Some (place_of part) ≡ first_past now.checkpoints next
    → (IsTrue now.file.honest → part.bytes ≡ slice_range now.file.content part.start (part.start + length part.bytes))
    → (num_docs now ≤ next → read ≡ now) → (next < num_docs now → IsBlockRead now next read)
    → TakesSlots takes (numbered_from part.ids.start (slots_in part.bytes (part.ids.end - part.ids.start)) set) middle new
    → HasGiven takes set r read part.ids.end old new
given_more {T} takes set r now read next old middle new part h seeks given none once block =
    walked_more (AreGiven takes set old middle) (AreGiven takes set old new) r now read next part h n none once more
  where
    n : IsNext r h.front next part
    n = next_in takes set r now next old middle part h seeks given

    more : IsTrue r.file.honest → AreGiven takes set old middle h.front → AreGiven takes set old new (h.front ++ n.block ∷ [])
    more honest before =
        let id : part.ids.start ≡ 0 + length (slots h.front) = omega (arith, n.first, h.come.next_is, length-slots h.front) in
        let some : numbered_from part.ids.start (slots_in part.bytes (part.ids.end - part.ids.start)) set ≡ numbered_from (0 + length (slots h.front)) (slots_in n.block.bytes n.block.count) set =
        ap (λ (k : ℕ). numbered_from k (slots_in part.bytes (part.ids.end - part.ids.start)) set) id
        ∙ ap (λ (xs : List ℕ). numbered_from (0 + length (slots h.front)) (slots_in xs (part.ids.end - part.ids.start)) set) (n.bytes honest)
        ∙ ap (λ (k : ℕ). numbered_from (0 + length (slots h.front)) (slots_in n.block.bytes k) set) n.count in
        let all : numbered_from 0 (slots (h.front ++ n.block ∷ [])) set ≡ numbered_from 0 (slots h.front) set ++ numbered_from part.ids.start (slots_in part.bytes (part.ids.end - part.ids.start))
        set =
        ap (λ (xs : List Slot). numbered_from 0 xs set) (slots_joined h.front n.block) ∙ numbered_joined 0 (slots h.front) (slots_in n.block.bytes n.block.count) set
        ∙ ap (λ (ys : List (ℕ × Slot)). numbered_from 0 (slots h.front) set ++ ys) (sym some) in
        subst (λ (xs : List (ℕ × Slot)). TakesSlots takes xs old new) (sym all)
        (takes_more takes old middle new (numbered_from 0 (slots h.front) set) (numbered_from part.ids.start (slots_in part.bytes (part.ids.end - part.ids.start)) set) before block)

pub given_all : {T : Type 0} (takes : T → ℕ → List ℕ → T → Type 0) (set : Option (ℕ → Bool)) (r now : Reading) (next : ℕ) (old new : T) → HasGiven takes set r now next old new → num_docs now ≤ next
    → IsTrue r.file.honest → TakesSlots takes (numbered (slots (store_of r)) set) old new
given_all takes set r now next old new h le honest = walked_all (AreGiven takes set old new) r now next h le honest
