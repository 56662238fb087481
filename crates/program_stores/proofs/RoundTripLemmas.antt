-- What is printed of a store that was published.
use Rattle.std.proofs.Common.{◌≡◌, inl, inr, ℕ, List, [], false, Option, None, Some, IfSome, subst, ◌∙◌}
use Rattle.std.specs.Io.KnownBytes.{Appends}
use Rattle.document_framing.specs.declared.form.DocumentForm.TheVariants.{Framed}
use Rattle.document_framing.specs.declared.framing.Framing.{Framing}
use Rattle.document_framing.specs.Framings.{framed}
use Rattle.framed_stores.specs.Packing.{ArePacked}
use Rattle.framed_stores.specs.Printing.{PrintsSlots}
use Rattle.framed_stores.proofs.RoundTripLemmas.{no_tail_after_store, printed_packed}
use Rattle.program_base.specs.StoresOnDisk.{IsPublished, IsReaderOf, HasStore}
use Rattle.program_stores.specs.Printed.{PrintsOthers, skips}
use Rattle.store_commands.specs.Documents.{kept_by, numbered}
use Rattle.store_files.specs.Disk.{Disk, seen}
use Rattle.store_format.specs.Footer.{version_number}
use Rattle.store_format.specs.Laws.{StoresAreApart}
use Rattle.store_format.specs.Slots.{slots}
use Rattle.store_format.specs.StoreFile.{StoreBlock, IsStore}
use Rattle.store_published.specs.Filling.{IsStoreOf}
use Rattle.store_reader.specs.Reading.{Reading, store_of}

-- what is there is the store alone, since no tail follows it
whole_content : (file : Option (List ℕ)) (content bytes : List ℕ) (period : ℕ) (blocks : List StoreBlock) → file ≡ Some content
    → content ≡ Rattle.store_format.specs.StoreFile.file period 3 blocks → HasStore false file bytes → bytes ≡ content
whole_content file content bytes period blocks there is store =
    let same : store.0 ≡ content = cc (store.1, there) in
    elim store.2 [
      | inl tail ↦ absurd (no_tail_after_store period blocks content bytes is (subst (λ (l : List ℕ). Rattle.store_commands.specs.Tails.HasTail l bytes) same tail))
      | inr whole ↦ whole.1 ∙ same
    ]

-- a reader of a store that was published has its blocks, and prints its documents
pub printed_published : (framing : Framing) (expected : Option ℕ) (known : Option (List (List ℕ))) (period : ℕ) (old new : Option (List ℕ)) (d : Disk) (name : List ℕ)
    → IsPublished name d (IsStoreOf (ArePacked None expected known) (λ _. Unit {0}) period) → StoresAreApart
    → ((reader : Reading) × IsReaderOf false (seen d name) reader × PrintsOthers (Framed framing) (skips [] false reader) reader old new)
    → IfSome known (λ documents. Appends old new (framed framing documents))
printed_published framing expected known period old new d name published apart (reader, is, prints) =
    let store = published.are in
    let whole : is.0 ≡ published.content = whole_content (seen d name) published.content is.0 period store.blocks published.seen_is store.is_file is.1 in
    let read : IsStore reader.period published.content (version_number reader.version) (store_of reader) =
    subst (λ (l : List ℕ). IsStore reader.period l (version_number reader.version) (store_of reader)) whole is.2 in
    let same : store_of reader ≡ store.blocks = (apart reader.period period published.content (version_number reader.version) 3 (store_of reader) store.blocks read store.store).2 in
    printed_packed framing expected known (slots store.blocks) prints.spans old new store.came prints.are
    (subst (λ (bs : List StoreBlock). PrintsSlots (Framed framing) (numbered (slots bs) (kept_by prints.spans)) old new) same prints.printed)
