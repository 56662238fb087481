-- With which number a document is refused by the table of its file.
use Rattle.std.proofs.Common.{◌≡◌, ◌↔◌, ℕ, List, Option, Some, None, arith}
use Rattle.store_format.specs.Block.{Slot, doc, damaged}
use Rattle.layered_index.specs.declared.row.Row.{Row}
use Rattle.store_c.specs.declared.place.Place.{Place}
use Rattle.store_c.specs.declared.refusal.Refusal.{Refusal}
use Rattle.store_c.specs.declared.refusal.Refusal.TheVariants.{NoDocument, Damaged, NoRoom, OtherTable, TailTooShort, OtherBlock}
use Rattle.store_c.specs.Calls.{refusal_number, IsTableOf, HasSlot, IsPlace, RefusesDocument}
use Rattle.store_c.proofs.FirstRefusalLemmas.{one_slot}

none_or_damaged : ◌≡◌ {A = Option Slot} None (Some damaged) → ⊥
none_or_damaged h = cc

given_or_none : (b : List ℕ) → ◌≡◌ {A = Option Slot} (Some (doc b)) None → ⊥
given_or_none b h = cc

given_or_damaged : (b : List ℕ) → ◌≡◌ {A = Option Slot} (Some (doc b)) (Some damaged) → ⊥
given_or_damaged b h = let same : doc b ≡ damaged = cc in cc

module _ (file : List ℕ) (table : List Row) (id : ℕ) (known : IsTableOf file table) where
  pub none_refused : (r : Refusal) (result : ℕ) → result ≡ refusal_number r → RefusesDocument file table id r → (result ≡ 6) ↔ HasSlot file id None
  none_refused NoDocument result is why = (λ _. why known, λ _. is)
  none_refused Damaged result is why = (λ e. absurd (omega (arith, e, is)), λ x. absurd (none_or_damaged (one_slot file id None (Some damaged) x (why known))))
  none_refused OtherTable result is why = absurd (why known)
  none_refused NoRoom result is why = absurd why
  none_refused TailTooShort result is why = absurd why
  none_refused OtherBlock result is why = absurd why

  pub damage_refused : (r : Refusal) (result : ℕ) → result ≡ refusal_number r → RefusesDocument file table id r → (result ≡ 7) ↔ HasSlot file id (Some damaged)
  damage_refused NoDocument result is why = (λ e. absurd (omega (arith, e, is)), λ x. absurd (none_or_damaged (one_slot file id None (Some damaged) (why known) x)))
  damage_refused Damaged result is why = (λ _. why known, λ _. is)
  damage_refused OtherTable result is why = absurd (why known)
  damage_refused NoRoom result is why = absurd why
  damage_refused TailTooShort result is why = absurd why
  damage_refused OtherBlock result is why = absurd why

  pub placed_not_none : (p : Place) → IsPlace file table id p → HasSlot file id None → ⊥
  placed_not_none p place none = given_or_none _ (one_slot file id _ None (place.document known) none)

  pub placed_not_damaged : (p : Place) → IsPlace file table id p → HasSlot file id (Some damaged) → ⊥
  placed_not_damaged p place damage = given_or_damaged _ (one_slot file id _ (Some damaged) (place.document known) damage)
