-- Which documents are damaged, block by block.
use Rattle.std.proofs.Common.{◌≡◌, ◌≢◌, ℕ, zero, suc, ◌+◌, ◌-◌, ◌<◌, ◌≤◌, Bool, true, false, List, [], ◌∷◌, ◌++◌, length, map, Some, refl, sym, ap, ◌∙◌, arith}
use Rattle.std.specs.Prelude.{IsTrue, ◌&&◌, ◌||◌, nat_eq, slice_range}
use Rattle.std.specs.List.{AllByRecursion, list_any, enumerate_from, range_with_len}
use Rattle.std.proofs.Math.Bool.{and-false, and-true}
use Rattle.std.proofs.lemmas.Bool.Decides.{nat_tests}
use Rattle.std.proofs.lemmas.List.Folds.{list_any-append}
use Rattle.std.proofs.lemmas.List.FromFn.{length-map-range_with_len}
use Rattle.docstore.proofs.TakenLemmas.{length-slots}
use Rattle.store_base.proofs.ListLemmas.{enumerate_append}
use Rattle.layered_index.specs.Checkpoint.{Covers, first_past}
use Rattle.store_format.specs.Block.{Slot, slot, damaged}
use Rattle.store_format.specs.Slots.{slots}
use Rattle.store_format.specs.StoreFile.{StoreBlock}
use Rattle.store_reader.specs.declared.data_part.DataPart.{DataPart}
use Rattle.store_reader.specs.Parts.{place_of, IsBlockRead}
use Rattle.store_reader.specs.Reading.{Reading, num_docs}
use Rattle.store_commands.specs.declared.left_out.IdSpan.{IdSpan}
use Rattle.store_commands.specs.Checks.{is_damaged, slots_in}
use Rattle.store_commands.specs.Damaged.{damaged_from, is_damaged_in}
use Rattle.store_commands.specs.LeftOut.{is_in, is_among, HasId}
use Rattle.store_commands.proofs.CountLemmas.{slots_joined}
use Rattle.store_commands.proofs.GivingLemmas.{slots_split}
use Rattle.store_commands.proofs.SpanLemmas.{is_in_true, is_in_parts, or_assoc, or_false}
use Rattle.store_commands.proofs.WalkLemmas.{HasWalked, walked_first, walked_next, walked_more, walked_all, IsNext}

damaged_joined : (n : ℕ) (xs ys : List Slot) (id : ℕ) → damaged_from n (xs ++ ys) id ≡ (damaged_from n xs id || damaged_from (n + length xs) ys id)
damaged_joined n xs ys id =
    let p : ℕ × Slot → Bool = λ x. nat_eq x.0 id && is_damaged x.1 in
    ap (list_any p) (enumerate_append n xs ys) ∙ list_any-append p (enumerate_from n xs) (enumerate_from (n + length xs) ys)

among_push : (spans : List IdSpan) (s : IdSpan) (id : ℕ) → is_among (spans ++ s ∷ []) id ≡ (is_among spans id || is_in s id)
among_push spans s id = list_any-append (λ (x : IdSpan). is_in x id) spans (s ∷ []) ∙ ap (λ (b : Bool). is_among spans id || b) (or_false (is_in s id))

-- whether a range has an id, by what decides it
is_in_by : (s : IdSpan) (id : ℕ) (b : Bool) → (b ≡ true → (s.start ≤ id) × (id < s.end)) → (s.start ≤ id → id < s.end → b ≡ true) → is_in s id ≡ b
is_in_by s id true forth back = let p = forth refl in is_in_true s id p.0 p.1
is_in_by s id false forth back = (elim (is_in s id) as (λ x. is_in s id ≡ x → x ≡ false) [
  | true ↦ λ t. let p = is_in_parts s id t in absurd (let bad = back p.0 p.1 in cc)
  | false ↦ λ t. refl
]) refl

-- ---- the documents of a block

range_of_one : (d id : ℕ) → is_in (record { start = d; end = d + 1 }) id ≡ nat_eq d id
range_of_one d id = is_in_by (record { start = d; end = d + 1 }) id (nat_eq d id)
    (λ t. let same : d ≡ id = grind (arith, nat_tests) in (omega arith, omega arith))
    (λ le lt. let same : d ≡ id = omega arith in grind (arith, nat_tests))

damaged_one : (block : List ℕ) (first n id : ℕ) → damaged_from first (slots_in block (n + 1)) id ≡ (damaged_from first (slots_in block n) id || (nat_eq (first + n) id && is_damaged (slot block n)))
damaged_one block first n id =
    let size : length (slots_in block n) ≡ n = length-map-range_with_len (slot block) 0 n in
    ap (λ (xs : List Slot). damaged_from first xs id) (slots_split block n 1) ∙ damaged_joined first (slots_in block n) (slot block n ∷ []) id
    ∙ ap (λ (k : ℕ). damaged_from first (slots_in block n) id || damaged_from (first + k) (slot block n ∷ []) id) size
    ∙ ap (λ (b : Bool). damaged_from first (slots_in block n) id || b) (or_false (nat_eq (first + n) id && is_damaged (slot block n)))

pub filled_push : (spans : List IdSpan) (s : IdSpan) → AllByRecursion HasId spans → s.start < s.end → AllByRecursion HasId (spans ++ s ∷ [])
filled_push [] s h some = (some, tt)
filled_push (x ∷ xs) s h some = (h.0, filled_push xs s h.1 some)

-- one that is damaged, and one that isn't
pub found_one : (block : List ℕ) (first n : ℕ) (old spans : List IdSpan) → ((id : ℕ) → is_among spans id ≡ (is_among old id || damaged_from first (slots_in block n) id))
    → is_damaged (slot block n) ≡ true
    → (id : ℕ) → is_among (spans ++ record { start = first + n; end = (first + n) + 1 } ∷ []) id ≡ (is_among old id || damaged_from first (slots_in block (n + 1)) id)
found_one block first n old spans h bad id =
    let d = damaged_from first (slots_in block n) id in
    let here : is_in (record { start = first + n; end = (first + n) + 1 }) id ≡ (nat_eq (first + n) id && is_damaged (slot block n)) =
    range_of_one (first + n) id ∙ sym (ap (λ (b : Bool). nat_eq (first + n) id && b) bad ∙ and-true (nat_eq (first + n) id)) in
    among_push spans (record { start = first + n; end = (first + n) + 1 }) id
    ∙ ap (λ (b : Bool). b || is_in (record { start = first + n; end = (first + n) + 1 }) id) (h id)
    ∙ or_assoc (is_among old id) d (is_in (record { start = first + n; end = (first + n) + 1 }) id)
    ∙ ap (λ (b : Bool). is_among old id || (d || b)) here
    ∙ sym (ap (λ (b : Bool). is_among old id || b) (damaged_one block first n id))

pub found_none : (block : List ℕ) (first n : ℕ) (old spans : List IdSpan) → ((id : ℕ) → is_among spans id ≡ (is_among old id || damaged_from first (slots_in block n) id))
    → is_damaged (slot block n) ≡ false
    → (id : ℕ) → is_among spans id ≡ (is_among old id || damaged_from first (slots_in block (n + 1)) id)
found_none block first n old spans h sound id =
    let d = damaged_from first (slots_in block n) id in
    let none : (nat_eq (first + n) id && is_damaged (slot block n)) ≡ false = ap (λ (b : Bool). nat_eq (first + n) id && b) sound ∙ and-false (nat_eq (first + n) id) in
    h id ∙ ap (λ (b : Bool). is_among old id || b) (sym (damaged_one block first n id ∙ ap (λ (b : Bool). d || b) none ∙ or_false d))

-- those from a place on, if all are damaged
rest : (block : List ℕ) (k a n id : ℕ) → ((j : ℕ) → a ≤ j → j < a + n → slot block j ≡ damaged)
    → is_in (record { start = k; end = k + n }) id ≡ damaged_from k (map (slot block) (range_with_len a n)) id
rest block k a zero id h = is_in_by (record { start = k; end = k + 0 }) id false (λ bad. absurd cc) (λ le lt. absurd (omega arith))
rest block k a (suc n) id h =
    let on = rest block (k + 1) (a + 1) n id (λ j le lt. h j (omega arith) (omega arith)) in
    let first : is_damaged (slot block a) ≡ true = ap is_damaged (h a (omega arith) (omega arith)) in
    let split : is_in (record { start = k; end = k + suc n }) id ≡ (nat_eq k id || is_in (record { start = k + 1; end = (k + 1) + n }) id) =
    is_in_by (record { start = k; end = k + suc n }) id (nat_eq k id || is_in (record { start = k + 1; end = (k + 1) + n }) id) (forth k n id) (back k n id) in
    split ∙ ap (λ (b : Bool). nat_eq k id || b) on
    ∙ ap (λ (b : Bool). b || damaged_from (k + 1) (map (slot block) (range_with_len (a + 1) n)) id) (sym (ap (λ (b : Bool). nat_eq k id && b) first ∙ and-true (nat_eq k id)))
  where
    forth : (k n id : ℕ) → (nat_eq k id || is_in (record { start = k + 1; end = (k + 1) + n }) id) ≡ true → (k ≤ id) × (id < k + suc n)
    forth k n id e = (elim (nat_eq k id) as (λ x. nat_eq k id ≡ x → (x || is_in (record { start = k + 1; end = (k + 1) + n }) id) ≡ true → (k ≤ id) × (id < k + suc n)) [
      | true ↦ λ t _. let same : k ≡ id = grind (arith, nat_tests) in (omega arith, omega arith)
      | false ↦ λ t u. let p = is_in_parts (record { start = k + 1; end = (k + 1) + n }) id u in (omega (arith, p.0), omega (arith, p.1))
    ]) refl e

    back : (k n id : ℕ) → k ≤ id → id < k + suc n → (nat_eq k id || is_in (record { start = k + 1; end = (k + 1) + n }) id) ≡ true
    back k n id le lt = (elim (nat_eq k id) as (λ x. nat_eq k id ≡ x → (x || is_in (record { start = k + 1; end = (k + 1) + n }) id) ≡ true) [
      | true ↦ λ t. refl
      | false ↦ λ t. let apart : k ≢ id = grind (arith, nat_tests) in is_in_true (record { start = k + 1; end = (k + 1) + n }) id (omega arith) (omega arith)
    ]) refl

pub found_rest : (block : List ℕ) (first m n : ℕ) (old spans : List IdSpan) → ((id : ℕ) → is_among spans id ≡ (is_among old id || damaged_from first (slots_in block m) id))
    → ((j : ℕ) → m ≤ j → j < m + n → slot block j ≡ damaged)
    → (id : ℕ) → is_among (spans ++ record { start = first + m; end = (first + m) + n } ∷ []) id ≡ (is_among old id || damaged_from first (slots_in block (m + n)) id)
found_rest block first m n old spans h bad id =
    let d = damaged_from first (slots_in block m) id in
    let span : IdSpan = record { start = first + m; end = (first + m) + n } in
    let size : length (slots_in block m) ≡ m = length-map-range_with_len (slot block) 0 m in
    let all : damaged_from first (slots_in block (m + n)) id ≡ (d || damaged_from (first + m) (map (slot block) (range_with_len m n)) id) =
    ap (λ (xs : List Slot). damaged_from first xs id) (slots_split block m n) ∙ damaged_joined first (slots_in block m) (map (slot block) (range_with_len m n)) id
    ∙ ap (λ (k : ℕ). d || damaged_from (first + k) (map (slot block) (range_with_len m n)) id) size in
    among_push spans span id
    ∙ ap (λ (b : Bool). b || is_in span id) (h id)
    ∙ or_assoc (is_among old id) d (is_in span id)
    ∙ ap (λ (b : Bool). is_among old id || (d || b)) (rest block (first + m) m n id bad)
    ∙ sym (ap (λ (b : Bool). is_among old id || b) all)

-- ---- the blocks of a store

-- these are the damaged documents of the blocks
abbrev pub AreDamagedOf : List IdSpan → List StoreBlock → Type 0
AreDamagedOf spans blocks = (id : ℕ) → is_among spans id ≡ damaged_from 0 (slots blocks) id

-- the damaged documents of some blocks were found
pub record HasFound (r now : Reading) (next : ℕ) (spans : List IdSpan) : Type 0 where
  pub walked : HasWalked (AreDamagedOf spans) r now next
  pub filled : AllByRecursion HasId spans

pub found_first : (r : Reading) → Covers r.checkpoints (length r.file.content) → HasFound r r 0 []
found_first r covers = record { walked = walked_first (AreDamagedOf []) r covers (λ id. refl); filled = tt }

pub found_more : (r now new : Reading) (next : ℕ) (spans more : List IdSpan) (part : DataPart) → HasFound r now next spans
    → Some (place_of part) ≡ first_past now.checkpoints next
    → (IsTrue now.file.honest → part.bytes ≡ slice_range now.file.content part.start (part.start + length part.bytes))
    → (num_docs now ≤ next → new ≡ now) → (next < num_docs now → IsBlockRead now next new)
    → ((id : ℕ) → is_among more id ≡ (is_among spans id || damaged_from part.ids.start (slots_in part.bytes (part.ids.end - part.ids.start)) id)) → AllByRecursion HasId more
    → HasFound r new part.ids.end more
found_more r now new next spans more part h seeks given none once added filled = record {
  walked = walked_more (AreDamagedOf spans) (AreDamagedOf more) r now new next part h.walked n none once named;
  filled = filled;
}
  where
    front : List StoreBlock
    front = h.walked.front

    n : IsNext r h.walked.front next part
    n = walked_next (AreDamagedOf spans) r now next part h.walked seeks given

    named : IsTrue r.file.honest → AreDamagedOf spans front → AreDamagedOf more (front ++ n.block ∷ [])
    named honest old id =
        let start : part.ids.start ≡ 0 + length (slots front) = omega (arith, n.first, h.walked.come.next_is, length-slots front) in
        added id
        ∙ ap (λ (b : Bool). b || damaged_from part.ids.start (slots_in part.bytes (part.ids.end - part.ids.start)) id) (old id)
        ∙ ap (λ (k : ℕ). damaged_from 0 (slots front) id || damaged_from k (slots_in part.bytes (part.ids.end - part.ids.start)) id) start
        ∙ ap (λ (k : ℕ). damaged_from 0 (slots front) id || damaged_from (0 + length (slots front)) (slots_in part.bytes k) id) n.count
        ∙ ap (λ (xs : List ℕ). damaged_from 0 (slots front) id || damaged_from (0 + length (slots front)) (slots_in xs n.block.count) id) (n.bytes honest)
        ∙ sym (ap (λ (xs : List Slot). damaged_from 0 xs id) (slots_joined front n.block) ∙ damaged_joined 0 (slots front) (slots_in n.block.bytes n.block.count) id)

pub found_all : (r now : Reading) (next : ℕ) (spans : List IdSpan) → HasFound r now next spans → num_docs now ≤ next → IsTrue r.file.honest → (id : ℕ) → is_among spans id ≡ is_damaged_in r id
found_all r now next spans h le honest = walked_all (AreDamagedOf spans) r now next h.walked le honest
