-- The store of a segment.
use Rattle.std.proofs.Common.{◌≡◌, ℕ, List, Some, sym, ◌∙◌, ap, subst}
use Rattle.store_format.specs.Block.{Slot}
use Rattle.store_format.specs.Slots.{slots}
use Rattle.store_format.specs.StoreFile.{IsStore}
use Rattle.store_format.specs.Laws.{StoresAreApart}
use Rattle.store_folder.specs.Folder.{Look}
use Rattle.segmented_log.specs.Parts.{Part}
use Rattle.segmented_log.specs.Log.{HasSegment}

some_is : (a b : List ℕ) → Some a ≡ Some b → a ≡ b
some_is a b e = cc e

-- a file has the slots of one store
pub same_slots : StoresAreApart → (c : Look) (first : ℕ) (all others : List Slot) → HasSegment c (record { first = first; slots = all }) → HasSegment c (record { first = first; slots = others })
    → all ≡ others
same_slots apart c first all others one two =
    let a = one.1 in
    let b = two.1 in
    let same : one.0 ≡ two.0 = some_is one.0 two.0 (sym one.2 ∙ two.2) in
    let blocks = (apart a.period b.period two.0 a.version b.version a.blocks b.blocks (subst (λ (bytes : List ℕ). IsStore a.period bytes a.version a.blocks) same a.store) b.store).2 in
    sym a.slots_are ∙ ap slots blocks ∙ b.slots_are

-- a look has one segment of a first number
pub same_segment : StoresAreApart → (c : Look) (a b : Part) → a.first ≡ b.first → HasSegment c a → HasSegment c b → a ≡ b
same_segment apart c a b first one two =
    let slots_same = same_slots apart c b.first a.slots b.slots (subst (λ (n : ℕ). HasSegment c (record { first = n; slots = a.slots })) first one) two in
    λ i. record { first = first i; slots = slots_same i }
