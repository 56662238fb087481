-- What a target that shows documents wrote.
use Rattle.std.proofs.Common.{◌≡◌, List, ℕ, [], ◌∷◌, Option, sym, ap, subst, ◌∙◌}
use Rattle.std.specs.Io.KnownBytes.{Appends}
use Rattle.std.proofs.KnownBytes.{Appends-nil, Appends-trans}
use Rattle.document_framing.specs.declared.form.DocumentForm.{DocumentForm}
use Rattle.document_framing.specs.Forms.{shown}
use Rattle.store_format.specs.Block.{Slot}
use Rattle.store_commands.specs.Documents.{TakesEach, TakesSlots}
use Rattle.framed_stores.specs.Printing.{PrintsSlots, shown_each}

module _ {T N : Type 0} (name : T → N) (form : T → DocumentForm) (contents : T → Option (List ℕ)) where
  -- a target takes a document, as it is shown
  abbrev pub TakesShown : T → ℕ → List ℕ → T → Type 0
  TakesShown old number document new = (name new ≡ name old) × (form new ≡ form old)
      × Appends (contents old) (contents new) (shown (form old) number document)

  -- and several
  pub takes_shown : (old new : T) (documents : List (ℕ × List ℕ)) → TakesEach TakesShown old documents new
      → (name new ≡ name old) × Appends (contents old) (contents new) (shown_each (form old) documents)
  takes_shown old new [] h = (ap name h, subst (λ t. Appends (contents old) (contents t) []) (sym h) (Appends-nil (contents old)))
  takes_shown old new (d ∷ ds) h =
      let rest = takes_shown h.0 new ds h.2 in (
        rest.0 ∙ h.1.0,
        Appends-trans _ _ _ (shown (form old) d.0 d.1) (shown_each (form old) ds) h.1.2
            (subst (λ f. Appends (contents h.0) (contents new) (shown_each f ds)) h.1.1 rest.1),
      )

  pub prints_slots : (old new : T) (slots : List (ℕ × Slot)) → TakesSlots TakesShown slots old new
      → (name new ≡ name old) × PrintsSlots (form old) slots (contents old) (contents new)
  prints_slots old new slots h =
      let each = takes_shown old new h.documents h.taken in
      (each.0, record { documents = h.documents; are = h.are; printed = each.1 })
