-- What was stored is found and read again.
use Rattle.std.proofs.Common.{◌≡◌, List, [], ◌∷◌, ◌++◌, length, slice_get, Some, refl, ◌∙◌, ap}
use Rattle.std.proofs.lemmas.List.Concat.{flat_map-append}
use Rattle.store_format.specs.Block.{Slot, doc}
use Rattle.docstore.specs.Trace.{Step, Effect, effect, slots_of, meaning}
use Rattle.docstore.specs.EndToEnd.{DocumentsHaveTheirIds, WrittenListsAreFound}
use Rattle.store_format.specs.Slots.{slots}
use Rattle.store_format.specs.StoreFile.{file}
use Rattle.store_format.proofs.ApartLemmas.{stores_are_apart}
use Rattle.docstore.proofs.MeaningLemmas.{blocks_mean_their_calls}

-- what stands after a list stands at its length
at_length : (xs ys : List Slot) (x : Slot) → slice_get (xs ++ x ∷ ys) (length xs) ≡ Some x
at_length [] ys x = refl
at_length (y ∷ xs) ys x = at_length xs ys x

pub documents_have_their_ids : DocumentsHaveTheirIds
documents_have_their_ids before after s bytes is =
    let joined : meaning (before ++ s ∷ after) ≡ meaning before ++ (slots_of (effect s) ++ meaning after) = flat_map-append (λ (t : Step). slots_of (effect t)) before (s ∷ after) in
    ap (λ (all : List Slot). slice_get all (length (meaning before))) (joined ∙ ap (λ (e : Effect). meaning before ++ (slots_of e ++ meaning after)) is)
    ∙ at_length (meaning before) (meaning after) (doc bytes)

pub written_lists_are_found : WrittenListsAreFound
written_lists_are_found size period trace blocks found_period version bs written cut found =
    let same = stores_are_apart found_period period (file period 3 blocks) version 3 bs blocks found written in
    (same.0, same.1, ap slots same.2 ∙ blocks_mean_their_calls size trace blocks written.blocks cut)
