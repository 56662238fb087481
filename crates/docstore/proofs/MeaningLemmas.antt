-- The slots of the blocks that calls leave are what the calls mean.
use Rattle.std.proofs.Common.{◌≡◌, ℕ, inl, inr, List, [], ◌∷◌, ◌++◌, map, refl, sym, ◌∙◌, ap, subst, append_assoc}
use Rattle.std.proofs.lemmas.List.{append-nil, map-append}
use Rattle.std.specs.List.{flat_map, AllByRecursion}
use Rattle.store_format.specs.Block.{Slot, doc}
use Rattle.store_format.specs.Slots.{slots}
use Rattle.store_format.specs.StoreFile.{StoreBlock, IsStoreBlock}
use Rattle.docstore.specs.Trace.{Step, Effect, adds, ends, may_end, no_effect, effect, slots_of, meaning, AreFlushed, AreJoined, BlocksBy, BlocksFrom}
use Rattle.store_format.specs.StoreFile.{block_of}
use Rattle.docstore.specs.Run.{BlocksMeanTheirCalls}
use Rattle.store_format.proofs.DocumentLemmas.{blocks_hold_documents}
use Rattle.store_format.proofs.StoreLemmas.{all-front}
use Rattle.docstore.proofs.TakenLemmas.{slots-append}

-- the slots of the blocks of some groups
slots_grouped : (groups : List (List (List ℕ))) → AllByRecursion IsStoreBlock (map block_of groups) → slots (map block_of groups) ≡ map doc (flat_map (λ g. g) groups)
slots_grouped [] each = refl
slots_grouped (g ∷ groups) each =
    slots-append (block_of g ∷ []) (map block_of groups)
    ∙ (λ i. blocks_hold_documents g each.0.few_bytes i ++ slots_grouped groups each.1 i)
    ∙ sym (map-append doc g (flat_map (λ (x : List (List ℕ)). x) groups))

slots_flushed : (size : ℕ) (docs : List (List ℕ)) (bs : List StoreBlock) → AllByRecursion IsStoreBlock bs → AreFlushed size docs bs → slots bs ≡ map doc docs
slots_flushed size docs bs each flushed =
    ap slots flushed.blocks
    ∙ slots_grouped flushed.groups (subst (AllByRecursion IsStoreBlock) flushed.blocks each)
    ∙ ap (λ (x : List (List ℕ)). map doc x) flushed.cut.joined

all_back : (bs cs : List StoreBlock) → AllByRecursion IsStoreBlock (bs ++ cs) → AllByRecursion IsStoreBlock cs
all_back [] cs h = h
all_back (b ∷ bs) cs h = all_back bs cs h.1

-- the slots of a stretch, of what was put after it, and of what comes after
slots_joined : (size : ℕ) (docs : List (List ℕ)) (stacked : List StoreBlock) (trace : List Step) (bs : List StoreBlock)
    → ((cs : List StoreBlock) → AllByRecursion IsStoreBlock cs → BlocksFrom size [] trace cs → slots cs ≡ meaning trace)
    → AllByRecursion IsStoreBlock bs → AreJoined size docs stacked (λ cs. BlocksFrom size [] trace cs) bs → slots bs ≡ (map doc docs ++ slots stacked) ++ meaning trace
slots_joined size docs stacked trace bs rest each joined =
    let all = subst (AllByRecursion IsStoreBlock) joined.parts each in
    let front = all-front (joined.front ++ stacked) joined.after all in
    ap slots joined.parts
    ∙ slots-append (joined.front ++ stacked) joined.after
    ∙ (λ i. slots-append joined.front stacked i ++ rest joined.after (all_back (joined.front ++ stacked) joined.after all) joined.others i)
    ∙ ap (λ (x : List Slot). (x ++ slots stacked) ++ meaning trace) (slots_flushed size docs joined.front (all-front joined.front stacked front) joined.flushed)

-- by what the first call does
slots_by : (size : ℕ) (docs : List (List ℕ)) (e : Effect) (trace : List Step) (bs : List StoreBlock)
    → ((more : List (List ℕ)) (cs : List StoreBlock) → AllByRecursion IsStoreBlock cs → BlocksFrom size more trace cs → slots cs ≡ map doc more ++ meaning trace)
    → AllByRecursion IsStoreBlock bs → BlocksBy size docs e (λ more cs. BlocksFrom size more trace cs) bs → slots bs ≡ (map doc docs ++ slots_of e) ++ meaning trace
slots_by size docs (adds bytes) trace bs rest each h =
    rest (docs ++ bytes ∷ []) bs each h ∙ ap (λ (x : List Slot). x ++ meaning trace) (map-append doc docs (bytes ∷ []))
slots_by size docs (ends stacked) trace bs rest each h = slots_joined size docs stacked trace bs (rest []) each h
slots_by size docs may_end trace bs rest each (inl h) = slots_joined size docs [] trace bs (rest []) each h
slots_by size docs may_end trace bs rest each (inr h) = rest docs bs each h ∙ ap (λ (x : List Slot). x ++ meaning trace) (sym (append-nil (map doc docs)))
slots_by size docs no_effect trace bs rest each h = rest docs bs each h ∙ ap (λ (x : List Slot). x ++ meaning trace) (sym (append-nil (map doc docs)))

slots_from : (size : ℕ) (docs : List (List ℕ)) (trace : List Step) (bs : List StoreBlock) → AllByRecursion IsStoreBlock bs → BlocksFrom size docs trace bs → slots bs ≡ map doc docs ++ meaning trace
slots_from size docs [] bs each h = slots_flushed size docs bs each h ∙ sym (append-nil (map doc docs))
slots_from size docs (s ∷ trace) bs each h =
    slots_by size docs (effect s) trace bs (λ more cs. slots_from size more trace cs) each h ∙ append_assoc (map doc docs) (slots_of (effect s)) (meaning trace)

-- whatever the block size
pub blocks_mean_their_calls : BlocksMeanTheirCalls
blocks_mean_their_calls size trace bs blocks h = slots_from size [] trace bs blocks.each h
