-- The slots of a range of ids, one after the other.
use Rattle.std.proofs.Common.{◌≡◌, ◌≤◌, ◌<◌, ℕ, ◌+◌, ◌-◌, List, [], ◌∷◌, ◌++◌, length, take, drop, Option, Some, sym, ap, subst, ◌∙◌, arith, append_assoc, append-nil}
use Rattle.std.specs.Prelude.{slice_get}
use Rattle.std.specs.List.{enumerate_from}
use Rattle.std.proofs.lemmas.List.{map-append, length-take}
use Rattle.std.proofs.lemmas.Option.{slice_get_within}
use Rattle.std.specs.Io.KnownBytes.{Appends}
use Rattle.std.proofs.KnownBytes.{Appends-trans}
use Rattle.store_base.proofs.ListLemmas.{enumerate_append, take_next, get_dropped}
use Rattle.store_format.specs.Block.{Slot, doc}
use Rattle.document_framing.specs.declared.form.DocumentForm.{DocumentForm}
use Rattle.document_framing.specs.Forms.{shown}
use Rattle.framed_stores.specs.Printing.{PrintsSlots, shown_each, slots_among}

-- one slot more
pub slots_more : (start id : ℕ) (slots : List Slot) (s : Slot) → start ≤ id → slice_get slots id ≡ Some s
    → slots_among start (id + 1) slots ≡ slots_among start id slots ++ (id, s) ∷ []
slots_more start id slots s from at =
    let n = id - start in
    let rest = drop start slots in
    let here : slice_get rest n ≡ Some s = get_dropped start slots n id (omega arith) ∙ at in
    let more : take (id + 1 - start) rest ≡ take n rest ++ s ∷ [] = ap (λ k. take k rest) (omega arith) ∙ take_next rest n s here in
    let within : n < length rest = slice_get_within rest n s here in
    let count : start + length (take n rest) ≡ id = omega (arith, length-take n rest) in
    ap (enumerate_from start) more ∙ enumerate_append start (take n rest) (s ∷ [])
    ∙ ap (λ k. enumerate_from start (take n rest) ++ (k, s) ∷ []) count

shown_more : (form : DocumentForm) (documents : List (ℕ × List ℕ)) (d : ℕ × List ℕ)
    → shown_each form (documents ++ d ∷ []) ≡ shown_each form documents ++ shown form d.0 d.1
shown_more form [] d = append-nil (shown form d.0 d.1)
shown_more form (x ∷ xs) d =
    ap (λ l. shown form x.0 x.1 ++ l) (shown_more form xs d) ∙ sym (append_assoc (shown form x.0 x.1) (shown_each form xs) (shown form d.0 d.1))

-- one document more was written
pub prints_more : (form : DocumentForm) (some : List (ℕ × Slot)) (number : ℕ) (bytes : List ℕ) (old middle new : Option (List ℕ))
    → PrintsSlots form some old middle → Appends middle new (shown form number bytes)
    → PrintsSlots form (some ++ (number, doc bytes) ∷ []) old new
prints_more form some number bytes old middle new h more = record {
  documents = h.documents ++ (number, bytes) ∷ [];
  are = map-append (λ d. (d.0, doc d.1)) h.documents ((number, bytes) ∷ []) ∙ ap (λ l. l ++ (number, doc bytes) ∷ []) h.are;
  printed = subst (Appends old new) (sym (shown_more form h.documents (number, bytes)))
      (Appends-trans old middle new (shown_each form h.documents) (shown form number bytes) h.printed more);
}
