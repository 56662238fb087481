-- Reading by an outline: places and refusals.
use Rattle.std.proofs.Common.{◌≡◌, ℕ, ◌+◌, ◌-◌, ◌≤◌, inl, inr, List, length, sym, ap, ◌∙◌, arith}
use Rattle.std.specs.Prelude.{slice_get, slice_range, Result, Ok, Err}
use Rattle.store_base.specs.Outcome.{number_of}
use Rattle.store_base.specs.declared.error.StoreError.{StoreError}
use Rattle.layered_index.specs.declared.row.Row.{Row}
use Rattle.store_format.specs.Slots.{slots}
use Rattle.store_reader.specs.declared.store_head.StoreHead.{StoreHead}
use Rattle.store_reader.specs.Opening.{IsSomeStore}
use Rattle.store_reader.specs.StoreSlices.{document_in, IsOutline}
use Rattle.store_reader.proofs.StoreSliceLemmas.{err_not_ok}
use Rattle.store_c.specs.declared.place.Place.{Place}
use Rattle.store_c.specs.Outlines.{IsPlaceBy, RefusesBy}
use Rattle.store_c.proofs.GettingLemmas.{no_index}

module _ (file : List ℕ) (head : StoreHead) (rows : List Row) (id : ℕ) where
  -- a range is a place
  pub is_place_by : (start end : ℕ) → start ≤ end → end ≤ length file
      → ((s : IsSomeStore file) → IsOutline file s head rows → ◌≡◌ {A = Result (List ℕ) StoreError} (Ok (slice_range file start end)) (document_in file s id))
      → IsPlaceBy file head rows id (record { start = start; len = end - start })
  is_place_by start end order within h =
      let whole : start + (end - start) ≡ end = omega arith in
      record {
        within = omega arith;
        document = λ s is. sym (h s is) ∙ ap (λ (n : ℕ). Ok (slice_range file start n)) (sym whole);
      }

  -- a document that has a place is not refused
  pub place_by_is_given : (p : Place) (e : StoreError) → IsPlaceBy file head rows id p → (s : IsSomeStore file) → IsOutline file s head rows → document_in file s id ≡ Err e → ⊥
  place_by_is_given p e is s outline refused = err_not_ok e _ (sym refused ∙ is.document s outline)

  -- a store's document is refused by 6 or 7
  pub no_other_by : (e : StoreError) → RefusesBy file head rows id e → (s : IsSomeStore file) → IsOutline file s head rows → (number_of e ≡ 6 → ⊥) → number_of e ≡ 7
  no_other_by e h s outline other = elim h.0 [
    | inl none ↦ absurd (other (ap number_of none))
    | inr more ↦ elim more [
      | inl bad ↦ ap number_of bad
      | inr index ↦ absurd (no_index id (slice_get (slots s.blocks) id) (h.1 s outline ∙ ap (λ (x : StoreError). Err x) index))
    ]
  ]
