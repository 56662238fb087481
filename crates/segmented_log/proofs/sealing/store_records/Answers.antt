use Rattle.std.proofs.Common.{rules, ◌≡◌, ◌+◌, ◌≤◌, ◌<◌, ◌^◌, ℕ, List, [], ◌∷◌, length, map, take, get_or, arith, sym, ap, ◌∙◌, subst}
use Rattle.std.specs.Prelude.{IsErrOf}
use Rattle.std.specs.List.{Any}
use Rattle.std.proofs.lemmas.List.{length-map, get_or-map, map-append, take_more}
use Rattle.store_base.specs.declared.error.StoreError.TheVariants.{BlockTooLarge}
use Rattle.docstore.specs.Writer.{Writing}
use Rattle.store_published.specs.Filling.{AddsDocuments}
use Rattle.store_published.proofs.FileLemmas.{adds_more}
use Rattle.log_tail.specs.declared.batches.Place.{Place}
use Rattle.log_tail.specs.Place.{content, contents}
use Rattle.segmented_log.proofs.sealing.store_records.Goals as goal

too_large : (tail : List ℕ) (places : List Place) (i : ℕ) (d : Place) (size old : ℕ) → i < length places → size ≡ old → 2 ^ 32 ≤ size + length (content tail (get_or places i d)) + 8
    → Any (λ bytes. 2 ^ 32 ≤ old + length bytes + 8) (contents tail places)
too_large tail places i d size old within same long =
    (i, content tail (get_or places i d), omega (arith, within, length-map places (content tail)), get_or-map (content tail) places i d _ within, omega (arith, long, same))

adds_place : (tail : List ℕ) (places : List Place) (i : ℕ) (d : Place) (old mid new : Writing) → i < length places → AddsDocuments (contents tail (take i places)) old mid
    → AddsDocuments (content tail (get_or places i d) ∷ []) mid new → AddsDocuments (contents tail (take (i + 1) places)) old new
adds_place tail places i d old mid new within before last =
    subst (λ (records : List (List ℕ)). AddsDocuments records old new)
    (sym (ap (map (content tail)) (take_more places i d within) ∙ map-append (content tail) (take i places) (get_or places i d ∷ [])))
    (adds_more (contents tail (take i places)) (content tail (get_or places i d) ∷ []) old mid new before last)

pub loop-place-preserved : goal.loop-place-preserved
loop-place-preserved g c = (
  adds_place c.args.tail.now c.args.places.now c.loop-place.place-index _ c.args.writer.now c.loop-place.writer c.store_document.new.writer c.loop-place-test.true c.loop-place.invariant.0
      c.in_ok-store_document.ensures.stored,
  c.in_ok-store_document.ensures.size ∙ c.loop-place.invariant.1,
)

pub returns-in_err-store_document-clause-too_large : goal.returns-in_err-store_document-clause-too_large
returns-in_err-store_document-clause-too_large g c = λ is.
    let failed : IsErrOf c.store_document.result BlockTooLarge = search rules in
    too_large c.args.tail.now c.args.places.now c.loop-place.place-index _ _ _ c.loop-place-test.true c.loop-place.invariant.1 (c.store_document.ensures.too_large failed)
