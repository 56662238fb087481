-- What stackings leave.
use Rattle.std.proofs.Common.{◌≡◌, ℕ, ◌+◌, List, [], ◌∷◌, ◌++◌, length, refl, sym, ◌∙◌, ap, arith, append_assoc}
use Rattle.std.proofs.lemmas.List.{append-nil}
use Rattle.std.specs.List.{flat_map}
use Rattle.layered_index.specs.declared.checkpoint.Checkpoint.{Checkpoint}
use Rattle.layered_index.specs.Checkpoint.{docs_end}
use Rattle.store_format.specs.Block.{Slot}
use Rattle.store_format.specs.Slots.{slots}
use Rattle.store_format.specs.StoreFile.{StoreBlock, docs_in, checkpoints_from, file, file_with}
use Rattle.docstore.specs.Writer.{Writing, blocks_of, flushed}
use Rattle.docstore.specs.Stacking.{with_store}
use Rattle.docstore.specs.Laws.{stacked, FlushesKeepSlots, StoresAreStackedInOrder, StackedSlotsAreCounted, StackedFilesAreJoined, StackingIsAssociative, StackedAloneIsTheSame}
use Rattle.store_format.proofs.StoreLemmas.{docs_in-cons, all-front}
use Rattle.docstore.proofs.TakenLemmas.{slots-append, slots_flushed, last_fits, length-slots}

-- ---- slots

pub flushes_keep_slots : FlushesKeepSlots
flushes_keep_slots w blocks =
    append-nil (slots (w.output.finished ++ blocks_of w.pending)) ∙ slots_flushed w.output.finished w.pending (last_fits w.output.finished w.pending blocks.each)

pub stores_are_stacked_in_order : StoresAreStackedInOrder
stores_are_stacked_in_order w bs blocks =
    let front = w.output.finished ++ blocks_of w.pending in
    append-nil (slots (front ++ bs)) ∙ slots-append front bs
    ∙ ap (λ (x : List Slot). x ++ slots bs) (slots_flushed w.output.finished w.pending (last_fits w.output.finished w.pending (all-front front bs blocks.each)))

-- the checkpoints_of end where the documents do
pub checkpoints_end : (id byte : ℕ) (bs : List StoreBlock) → docs_end id (checkpoints_from id byte bs) ≡ id + docs_in bs
checkpoints_end id byte [] = omega arith
checkpoints_end id byte (b ∷ bs) = omega (arith, docs_in-cons b bs, checkpoints_end (id + b.count) (byte + length b.bytes) bs)

pub stacked_slots_are_counted : StackedSlotsAreCounted
stacked_slots_are_counted reader bs read =
    omega (arith, length-slots bs, checkpoints_end 0 0 bs, ap (λ (cs : List Checkpoint). docs_end 0 cs) read.places)

-- ---- files

-- nothing is pending after a stacking
finished_by : (w : Writing) (stores : List (List StoreBlock)) → w.pending ≡ [] → (flushed (stacked w stores)).output.finished ≡ w.output.finished ++ flat_map (λ bs. bs) stores
finished_by w [] none = ap (λ (docs : List (List ℕ)). w.output.finished ++ blocks_of docs) none
finished_by w (bs ∷ stores) none =
    finished_by (with_store w bs) stores refl
    ∙ ap (λ (docs : List (List ℕ)). ((w.output.finished ++ blocks_of docs) ++ bs) ++ flat_map (λ xs. xs) stores) none
    ∙ ap (λ (x : List StoreBlock). (x ++ bs) ++ flat_map (λ xs. xs) stores) (append-nil w.output.finished)
    ∙ append_assoc w.output.finished bs (flat_map (λ xs. xs) stores)

-- a stacking keeps the period
same_period : (w : Writing) (stores : List (List StoreBlock)) → (stacked w stores).output.period ≡ w.output.period
same_period w [] = refl
same_period w (bs ∷ stores) = same_period (with_store w bs) stores

pub stacked_files_are_joined : StackedFilesAreJoined
stacked_files_are_joined w stores none = λ i. file (same_period w stores i) 3 (finished_by w stores none i)

pub stacking_is_associative : StackingIsAssociative
stacking_is_associative w bs cs ds none =
    stacked_files_are_joined w ((bs ++ cs) ∷ ds ∷ []) none
    ∙ ap (λ (x : List StoreBlock). file w.output.period 3 (w.output.finished ++ x)) (append_assoc bs cs (ds ++ []) ∙ ap (λ (x : List StoreBlock). bs ++ x) (sym (append_assoc cs ds [])))
    ∙ sym (stacked_files_are_joined w (bs ∷ (cs ++ ds) ∷ []) none)

pub stacked_alone_is_the_same : StackedAloneIsTheSame
stacked_alone_is_the_same w bytes bs store zeros none first =
    stacked_files_are_joined w (bs ∷ []) none
    ∙ ap (λ (x : List StoreBlock). file w.output.period 3 (x ++ (bs ++ []))) first ∙ ap (λ (x : List StoreBlock). file w.output.period 3 x) (append-nil bs)
    ∙ ap (λ (x : List ℕ). file_with w.output.period 3 x bs) (sym zeros) ∙ sym store.parts
