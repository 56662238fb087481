-- What grows at its end: runs and layers.
use Rattle.std.proofs.Common.{◌≡◌, ℕ, zero, suc, ◌+◌, ◌*◌, ◌<◌, ◌≤◌, List, [], ◌∷◌, ◌++◌, length, take, drop, sym, ◌∙◌, ap, arith, length-append}
use Rattle.std.proofs.lemmas.List.{take-append-le, drop-append-le, take_all, drop_all, length-drop}
use Rattle.std.specs.List.{flat_map}
use Rattle.layered_index.specs.declared.checkpoint.Checkpoint.{Checkpoint}
use Rattle.layered_index.specs.Checkpoint.{checkpoint, docs_end, checkpoint_block}
use Rattle.layered_index.specs.Layers.{groups, docs_start, pointers}
use Rattle.layered_index.proofs.GroupLemmas.{groups_none, groups_more}

-- a list of one run
pub groups_one : {A : Type 0} (period : ℕ) (xs : List A) → 0 < length xs → length xs ≤ period → groups period xs ≡ xs ∷ []
groups_one period [] some few = absurd (omega arith)
groups_one {A} period (x ∷ xs) some few =
    groups_more period x xs (omega arith) ∙ (λ i. take_all period (x ∷ xs) few i ∷ (ap (groups period) (drop_all period (x ∷ xs) few) ∙ groups_none period) i)

-- after whole runs the others begin anew
pub groups-append : {A : Type 0} (runs period : ℕ) (xs ys : List A) → 1 ≤ period → length xs ≡ runs * period → groups period (xs ++ ys) ≡ groups period xs ++ groups period ys
groups-append zero period [] ys one whole = ap (λ g. g ++ groups period ys) (sym (groups_none period))
groups-append zero period (x ∷ xs) ys one whole = absurd (omega arith)
groups-append (suc runs) period [] ys one whole = absurd (omega arith)
groups-append {A} (suc runs) period (x ∷ xs) ys one whole =
    let fits : period ≤ length (x ∷ xs) = omega arith in
    let rest = drop period (x ∷ xs) in
    let left : length rest ≡ runs * period = omega (arith, length-drop period (x ∷ xs)) in
    groups_more period x (xs ++ ys) one
    ∙ (λ i. take-append-le period (x ∷ xs) ys fits i ∷ groups period (drop-append-le period (x ∷ xs) ys fits i))
    ∙ ap (λ (g : List (List A)). take period (x ∷ xs) ∷ g) (groups-append runs period rest ys one left)
    ∙ ap (λ (g : List (List A)). g ++ groups period ys) (sym (groups_more period x xs one))

pub pointers-append : (place : ℕ) (gs hs : List (List Checkpoint)) → pointers place (gs ++ hs) ≡ pointers place gs ++ pointers (place + length (flat_map checkpoint_block gs)) hs
pointers-append place [] hs = ap (λ (p : ℕ). pointers p hs) (omega arith)
pointers-append place (g ∷ gs) hs =
    let after = place + length (checkpoint_block g) in
    let places : after + length (flat_map checkpoint_block gs) ≡ place + length (flat_map checkpoint_block (g ∷ gs)) =
    omega (arith, length-append (checkpoint_block g) (flat_map checkpoint_block gs)) in
    ap (λ (ps : List Checkpoint). checkpoint (docs_start g) (docs_end 0 g) place after ∷ ps) (pointers-append after gs hs ∙ ap (λ (p : ℕ). pointers after gs ++ pointers p hs) places)
