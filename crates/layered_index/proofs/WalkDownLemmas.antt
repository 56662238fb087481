-- Walking over the layers of an index, from the top down.
use Rattle.std.proofs.Common.{◌≡◌, ℕ, zero, suc, ◌+◌, ◌-◌, ◌<◌, inl, inr, List, [], ◌∷◌, length, Option, Some, None, refl, sym, ◌∙◌, ap, subst, arith, length-append}
use Rattle.std.specs.Prelude.{◌↔◌, IsSome}
use Rattle.std.specs.List.{concat}
use Rattle.store_base.specs.VInt.{◌>>=◌}
use Rattle.store_base.specs.ReadingLemmas.{bind_some, some_is}
use Rattle.layered_index.specs.declared.checkpoint.Checkpoint.{Checkpoint}
use Rattle.layered_index.specs.declared.index_fault.IndexFault.{IndexFault}
use Rattle.layered_index.specs.LayerReading.{items, IsLayerBelow}
use Rattle.layered_index.specs.IndexReading.{AreLayersBelow, last_items}
use Rattle.layered_index.specs.Faults.{BreaksAt, fault_in, HasFault}
use Rattle.layered_index.specs.Sought.{layers_left, next_layer}
use Rattle.layered_index.proofs.IndexHeadLemmas.{is_next, none_left, none_is_some}
use Rattle.layered_index.proofs.CutLemmas.{before, left_next, left_count, left_is}

-- the next of the layers that are left, and the others
record IsHere (left : ℕ) (us : List (List ℕ)) (layer : List ℕ) (end : ℕ) (more_ends more : List ℕ) : Type 0 where
  others : List (List ℕ)
  parts : us ≡ layer ∷ others
  rest : layers_left (left - 1) end more_ends more ≡ Some others

is_here : (left place : ℕ) (ends texts : List ℕ) (us : List (List ℕ)) (layer : List ℕ) (end : ℕ) (more_ends more : List ℕ) → 0 < left → layers_left left place ends texts ≡ Some us
    → next_layer place ends texts ≡ Some (layer, end, more_ends, more) → IsHere left us layer end more_ends more
is_here zero place ends texts us layer end more_ends more some e next = absurd (omega arith)
is_here (suc left) place ends texts us layer end more_ends more some e next =
    let one = ap (λ (o : Option (List ℕ × ℕ × List ℕ × List ℕ)). o >>= λ x. before x.0 (layers_left left x.1 x.2 x.3)) (sym next) ∙ sym (left_next left place ends texts) ∙ e in
    let a = bind_some (layers_left left end more_ends more) (λ ts. Some (layer ∷ ts)) us one in
    let k : suc left - 1 ≡ left = omega arith in
    record { others = a.0; parts = sym (some_is (layer ∷ a.0) us a.2); rest = ap (λ (n : ℕ). layers_left n end more_ends more) k ∙ a.1 }

-- there is a next one
pub next_there : (left place : ℕ) (ends texts : List ℕ) → 0 < left → IsSome (layers_left left place ends texts) → next_layer place ends texts ≡ None → ⊥
next_there zero place ends texts some cut none = absurd (omega arith)
next_there (suc left) place ends texts some cut none = by_left (layers_left (suc left) place ends texts) refl cut
  where
    by_left : (o : Option (List (List ℕ))) → layers_left (suc left) place ends texts ≡ o → IsSome o → ⊥
    by_left None e is = cc
    by_left (Some ts) e is = none_is_some (next_layer place ends texts) none (is_next left place ends texts ts e).next

-- after it others are left, and its bytes and theirs are all
pub record GoesOn (left : ℕ) (texts layer : List ℕ) (end : ℕ) (more_ends more : List ℕ) : Type 0 where
  pub cut : IsSome (layers_left (left - 1) end more_ends more)
  pub bytes : length layer + length more ≡ length texts

pub goes_on : (left place : ℕ) (ends texts layer : List ℕ) (end : ℕ) (more_ends more : List ℕ) → 0 < left → IsSome (layers_left left place ends texts)
    → next_layer place ends texts ≡ Some (layer, end, more_ends, more) → GoesOn left texts layer end more_ends more
goes_on left place ends texts layer end more_ends more some cut next = by_left (layers_left left place ends texts) refl cut
  where
    by_left : (o : Option (List (List ℕ))) → layers_left left place ends texts ≡ o → IsSome o → GoesOn left texts layer end more_ends more
    by_left None e is = absurd cc
    by_left (Some us) e is =
        let here = is_here left place ends texts us layer end more_ends more some e next in
        record {
          cut = subst IsSome (sym here.rest) refl;
          bytes = omega (
            arith,
            ap length (left_is left place ends texts us e),
            ap (λ (ts : List (List ℕ)). length (concat ts)) here.parts,
            length-append layer (concat here.others),
            ap length (left_is (left - 1) end more_ends more here.others here.rest),
          );
        }

-- ---- what the walk tells of all layers

-- what the layer above gives; nothing above the top one
abbrev pub given : Option (List Checkpoint) → List Checkpoint
given None = []
given (Some cs) = cs

-- Those that are left are layers exactly if all are, and their first fault is that of all.
pub record WalksOn (period len : ℕ) (ts : List (List ℕ)) (above : Option (List Checkpoint)) (left place : ℕ) (ends texts : List ℕ) : Type 0 where
  pub us : List (List ℕ)
  pub cut : layers_left left place ends texts ≡ Some us
  pub below : AreLayersBelow period above us ↔ AreLayersBelow period None ts
  pub first : (fault : IndexFault) → HasFault period len above us fault → HasFault period len None ts fault
  pub last : last_items (given above) us ≡ last_items [] ts

module _ (period len : ℕ) (ts : List (List ℕ)) (above : Option (List Checkpoint)) (left place : ℕ) (ends texts layer : List ℕ) (end : ℕ) (more_ends more : List ℕ) (some : 0 < left)
    (next : next_layer place ends texts ≡ Some (layer, end, more_ends, more)) (on : WalksOn period len ts above left place ends texts) where
  -- a layer was walked over
  pub walks_on : IsLayerBelow period above layer → WalksOn period len ts (Some (items 0 0 0 layer)) (left - 1) end more_ends more
  walks_on sound =
      let here = is_here left place ends texts on.us layer end more_ends more some on.cut next in
      record {
        us = here.others;
        cut = here.rest;
        below = (
          λ p. on.below.0 (subst (AreLayersBelow period above) (sym here.parts) (sound, p)),
          λ p. (subst (AreLayersBelow period above) here.parts (on.below.1 p)).1,
        );
        first = λ fault h. on.first fault (subst (λ (us : List (List ℕ)). HasFault period len above us fault) (sym here.parts) (inr (sound, h)));
        last = sym (ap (last_items (given above)) here.parts) ∙ on.last;
      }

  -- one breaks a rule
  pub walk_broken : (byte : ℕ) → (IsLayerBelow period above layer → ⊥) → BreaksAt period above layer byte
      → (AreLayersBelow period None ts → ⊥) × HasFault period len None ts (record { layer = Some (left - 1); byte = len - length texts + byte })
  walk_broken byte broken breaks =
      let here = is_here left place ends texts on.us layer end more_ends more some on.cut next in
      let fault : IndexFault = record { layer = Some (left - 1); byte = len - length texts + byte } in
      let is : fault ≡ fault_in len (layer ∷ here.others) byte =
      (λ i. record { layer = Some (sym (left_count left place ends texts on.us on.cut) i - 1); byte = len - length (left_is left place ends texts on.us on.cut i) + byte })
      ∙ ap (λ (us : List (List ℕ)). fault_in len us byte) here.parts in (
        λ are. broken (subst (AreLayersBelow period above) here.parts (on.below.1 are)).0,
        on.first fault (subst (λ (us : List (List ℕ)). HasFault period len above us fault) (sym here.parts) (inl (byte, broken, breaks, is))),
      )

-- no layer is left
pub walk_ends : (period len : ℕ) (ts : List (List ℕ)) (above : Option (List Checkpoint)) (place : ℕ) (ends texts : List ℕ) → WalksOn period len ts above 0 place ends texts
    → AreLayersBelow period None ts × (given above ≡ last_items [] ts)
walk_ends period len ts above place ends texts on =
    let none = (none_left place ends texts on.us on.cut).0 in
    (on.below.0 (subst (AreLayersBelow period above) (sym none) tt), sym (ap (last_items (given above)) none) ∙ on.last)
