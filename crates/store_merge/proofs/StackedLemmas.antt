-- What a stacking that was refused has put after.
use Rattle.std.proofs.Common.{◌≡◌, ℕ, true, List, [], ◌++◌, length, map, take, drop, None, refl, sym, ◌∙◌, ap, subst}
use Rattle.std.proofs.lemmas.List.{append-nil, take-append-drop}
use Rattle.std.proofs.lemmas.List.Concat.{flat_map-append}
use Rattle.std.specs.List.{list_all, range_with_len}
use Rattle.store_base.proofs.ListLemmas.{both}
use Rattle.store_base.specs.declared.error.StoreError.{StoreError}
use Rattle.store_base.specs.declared.error.StoreError.TheVariants.{ShortFile, BadVersion, BadBlockKind, BadOffset, BadIndex, InvalidArgument, DamagedDocument, BadDocument, Read, Memory, OldVersion}
use Rattle.store_base.specs.declared.error.StoreError.TheVariants.{Unserializable, BlockTooLarge, TooManyDocs, Failed, BadPeriod}
use Rattle.store_format.specs.Block.{slot}
use Rattle.store_format.specs.Slots.{slots}
use Rattle.store_format.specs.StoreFile.{StoreBlock, AreBlocks}
use Rattle.store_reader.specs.Iteration.{is_in, flags_of}
use Rattle.store_reader.specs.Reading.{Reading, num_docs, store_of}
use Rattle.docstore.specs.Laws.{taken, StoresAreStackedInOrder}
use Rattle.docstore.specs.Stacking.{with_store}
use Rattle.docstore.specs.StackingInParts.{BeginsStack, AfterStackInParts}
use Rattle.docstore.specs.Writer.{Writing, IsStoreWriter}
use Rattle.store_merge.specs.declared.input.MergeInput.{MergeInput}
use Rattle.store_merge.specs.Choice.{is_stacked, alive_slots}
use Rattle.store_merge.specs.Refusals.{HasGrown}
use Rattle.store_merge.specs.Stacking.{BeginsSlots}
use Rattle.store_merge.proofs.HonestLemmas.{all_alive}
use Rattle.store_merge.proofs.TakeLemmas.{unfailed}

nothing_begun : (reader : Reading) (old new : Writing) → taken new ≡ taken old → BeginsSlots reader old new
nothing_begun reader old new same = record { more = []; grown = same ∙ sym (append-nil (taken old)); front = λ honest. (slots (store_of reader), refl) }

-- the blocks of a writer that works
finished : (old new : Writing) → old.output.failure ≡ None → new.output.failure ≡ old.output.failure → IsStoreWriter new → AreBlocks new.output.finished
finished old new works same sound = (sound.output.works (same ∙ works)).blocks

slots_begin : (k : ℕ) (bs : List StoreBlock) → slots bs ≡ slots (take k bs) ++ slots (drop k bs)
slots_begin k bs = ap slots (sym (take-append-drop k bs)) ∙ flat_map-append (λ (b : StoreBlock). map (slot b.bytes) (range_with_len 0 b.count)) (take k bs) (drop k bs)

blocks_begun : StoresAreStackedInOrder → (reader : Reading) (old new : Writing) → new.output.failure ≡ old.output.failure → IsStoreWriter new → BeginsStack reader old new
    → BeginsSlots reader old new
blocks_begun law reader old new same sound h =
    let is : new.output.finished ≡ (with_store old h.blocks).output.finished = ap (λ (w : Writing). w.output.finished) h.after in
    let blocks : AreBlocks (with_store old h.blocks).output.finished = subst AreBlocks is (finished old new h.works same sound) in
    record {
      more = slots h.blocks;
      grown = ap taken h.after ∙ law old h.blocks blocks;
      front = λ honest. (
        slots (drop h.came.count (store_of reader)),
        slots_begin h.came.count (store_of reader) ∙ ap (λ (bs : List StoreBlock). slots bs ++ slots (drop h.came.count (store_of reader))) (sym (h.came.honest honest)),
      );
    }

-- a stacking in parts that was refused, by a writer that works on
pub refused_begun : StoresAreStackedInOrder → (reader read : Reading) (old new : Writing) (e : StoreError) → IsStoreWriter new → AfterStackInParts reader read old new e
    → new.output.failure ≡ old.output.failure → BeginsSlots reader old new
refused_begun law reader read old new OldVersion sound h same = nothing_begun reader old new (ap taken h.0)
refused_begun law reader read old new TooManyDocs sound h same = nothing_begun reader old new (ap taken h.0)
refused_begun law reader read old new Memory sound h same = blocks_begun law reader old new same sound h.0
refused_begun law reader read old new Read sound h same = blocks_begun law reader old new same sound h.0
refused_begun law reader read old new (Failed cause) sound h same = nothing_begun reader old new (ap taken (unfailed old.output.failure cause old new refl same h))
refused_begun law reader read old new (ShortFile k) sound h same = absurd h
refused_begun law reader read old new (BadVersion k) sound h same = absurd h
refused_begun law reader read old new (BadBlockKind k) sound h same = absurd h
refused_begun law reader read old new BadOffset sound h same = absurd h
refused_begun law reader read old new BadIndex sound h same = absurd h
refused_begun law reader read old new (InvalidArgument k) sound h same = absurd h
refused_begun law reader read old new (DamagedDocument k) sound h same = absurd h
refused_begun law reader read old new BadDocument sound h same = absurd h
refused_begun law reader read old new Unserializable sound h same = absurd h
refused_begun law reader read old new BlockTooLarge sound h same = absurd h
refused_begun law reader read old new (BadPeriod k) sound h same = absurd h

-- in an input that is stacked each slot is alive
pub begun_grown : {H : Type 0} (x : MergeInput H) (old new : Writing) → is_stacked x ≡ true → num_docs x.reader ≡ length (slots (store_of x.reader)) → BeginsSlots x.reader old new
    → HasGrown x old new
begun_grown x old new is count h =
    let set = flags_of x.alive in
    let all : list_all (is_in set) (range_with_len 0 (num_docs x.reader)) ≡ true = (both _ (list_all (is_in set) (range_with_len 0 (num_docs x.reader))) is).1 in
    let alive : alive_slots x ≡ slots (store_of x.reader) =
    all_alive set 0 (slots (store_of x.reader)) (subst (λ (n : ℕ). list_all (is_in set) (range_with_len 0 n) ≡ true) count all) in
    record {
      more = h.more;
      grown = h.grown;
      front = λ honest. let begins = h.front honest in (begins.0, alive ∙ begins.1);
    }
