-- Ranges of ids that are apart.
use Rattle.std.proofs.Common.{◌≡◌, ℕ, zero, suc, ◌+◌, ◌<◌, ◌≤◌, Bool, true, false, List, [], ◌∷◌, ◌++◌, length, take, max, get_or, subst, refl, sym, ap, ◌∙◌, arith}
use Rattle.std.specs.Prelude.{◌||◌, nat_lt, nat_le}
use Rattle.std.specs.List.{AllByRecursion, AllWithin}
use Rattle.std.specs.List.Sorted.{IsNonDecreasingBy}
use Rattle.std.proofs.Math.Bool.{and-false}
use Rattle.std.proofs.lemmas.Bool.{lt-ltb, le-ltb, ltb-true, ltb-false, le-leb, leb-true, lt-leb}
use Rattle.std.proofs.lemmas.List.{take_all, get_or_default}
use Rattle.std.proofs.lemmas.List.Elements.{All-get_or, All-from_recursion}
use Rattle.std.proofs.lemmas.List.Folds.{list_any_none, list_any_more, list_any-append}
use Rattle.std.proofs.lemmas.List.Sorted.{IsNonDecreasingBy-from_all_adjacent}
use Rattle.store_commands.specs.declared.left_out.IdSpan.{IdSpan}
use Rattle.store_commands.specs.LeftOut.{is_in, is_among, HasId, AreApartFrom}

-- where the next range may begin
abbrev pub end_after : ℕ → List IdSpan → ℕ
end_after from [] = from
end_after from (span ∷ spans) = end_after (span.end + 1) spans

pub apart_push : (from : ℕ) (spans : List IdSpan) (s : IdSpan) → AreApartFrom from spans → end_after from spans ≤ s.start → s.start < s.end → AreApartFrom from (spans ++ s ∷ [])
apart_push from [] s h le lt = (le, lt, tt)
apart_push from (x ∷ xs) s h le lt = (h.0, h.1, apart_push (x.end + 1) xs s h.2 le lt)

pub end_after_push : (from : ℕ) (spans : List IdSpan) (s : IdSpan) → end_after from (spans ++ s ∷ []) ≡ s.end + 1
end_after_push from [] s = refl
end_after_push from (x ∷ xs) s = end_after_push (x.end + 1) xs s

-- neither begins nor ends after the one after it
adjacent : (from : ℕ) (spans : List IdSpan) → AreApartFrom from spans → (k : ℕ) (d : IdSpan) → k + 1 < length spans
    → ((get_or spans k d).start ≤ (get_or spans (k + 1) d).start) × ((get_or spans k d).end ≤ (get_or spans (k + 1) d).end)
adjacent from [] h k d lt = absurd (omega arith)
adjacent from (x ∷ []) h k d lt = absurd (omega arith)
adjacent from (x ∷ y ∷ ys) h zero d lt = (omega (arith, h.1, h.2.0), omega (arith, h.2.0, h.2.1))
adjacent from (x ∷ y ∷ ys) h (suc k) d lt =
    let e : suc k + 1 ≡ suc (k + 1) = omega arith in rw e (adjacent (x.end + 1) (y ∷ ys) h.2 k d (omega arith))

pub ends_rise : (spans : List IdSpan) → AreApartFrom 0 spans → IsNonDecreasingBy (λ (s : IdSpan). s.end) spans
ends_rise spans h = IsNonDecreasingBy-from_all_adjacent (λ (s : IdSpan). s.end) spans (λ k d lt. (adjacent 0 spans h k d lt).1)

pub starts_rise : (spans : List IdSpan) → AreApartFrom 0 spans → IsNonDecreasingBy (λ (s : IdSpan). s.start) spans
starts_rise spans h = IsNonDecreasingBy-from_all_adjacent (λ (s : IdSpan). s.start) spans (λ k d lt. (adjacent 0 spans h k d lt).0)

-- ---- which range has an id

pub is_in_true : (s : IdSpan) (id : ℕ) → s.start ≤ id → id < s.end → is_in s id ≡ true
is_in_true s id le lt = rw (le-leb s.start id le, lt-ltb id s.end lt) refl

pub is_in_parts : (s : IdSpan) (id : ℕ) → is_in s id ≡ true → (s.start ≤ id) × (id < s.end)
is_in_parts s id e = (elim (nat_le s.start id) as (λ b. nat_le s.start id ≡ b → (s.start ≤ id) × (id < s.end)) [
  | true ↦ λ t. (leb-true s.start id t, ltb-true id s.end (rw t at e))
  | false ↦ λ t. absurd (let bad = rw t at e in cc)
]) refl

pub is_in_past : (s : IdSpan) (id : ℕ) → s.end ≤ id → is_in s id ≡ false
is_in_past s id le = rw (le-ltb id s.end le) (and-false (nat_le s.start id))

pub is_in_before : (s : IdSpan) (id : ℕ) → id < s.start → is_in s id ≡ false
is_in_before s id lt = rw (lt-leb s.start id lt) refl

-- no range has an id that those before a place end before, and those from it on begin after
pub among_none : (spans : List IdSpan) (place id : ℕ) → IsNonDecreasingBy (λ (s : IdSpan). s.start) spans → AllWithin (λ (s : IdSpan). nat_le s.end id ≡ true) spans 0 place
    → (place < length spans → (d : IdSpan) → id < (get_or spans place d).start) → is_among spans id ≡ false
among_none spans place id rise ended later = list_any_none (λ (s : IdSpan). is_in s id) spans (λ k d lt. at k d lt)
  where
    at : (k : ℕ) (d : IdSpan) → k < length spans → is_in (get_or spans k d) id ≡ false
    at k d lt = (elim (nat_lt k place) as (λ b. nat_lt k place ≡ b → is_in (get_or spans k d) id ≡ false) [
      | true ↦ λ t. is_in_past (get_or spans k d) id (leb-true _ _ (ended k d (omega arith) (ltb-true k place t)))
      | false ↦ λ t.
          let here : place ≤ k = ltb-false k place t in
          let first : id < (get_or spans place d).start = later (omega arith) d in
          let more : (get_or spans place d).start ≤ (get_or spans k d).start = rise place k d here lt in
          is_in_before (get_or spans k d) id (omega arith)
    ]) refl

-- ---- ranges that touch, as one

pub or_assoc : (a b c : Bool) → ((a || b) || c) ≡ (a || (b || c))
or_assoc true b c = refl
or_assoc false b c = refl

pub or_false : (a : Bool) → (a || false) ≡ a
or_false true = refl
or_false false = refl

-- a range that begins in one or at its end goes on with it
joined_has : (a b : IdSpan) (id : ℕ) → a.start ≤ b.start → b.start ≤ a.end → is_in (record { start = a.start; end = max a.end b.end }) id ≡ (is_in a id || is_in b id)
joined_has a b id sorted touch = (elim (is_in a id) as (λ x. is_in a id ≡ x → is_in (record { start = a.start; end = max a.end b.end }) id ≡ (x || is_in b id)) [
  | true ↦ λ t. let p = is_in_parts a id t in is_in_true (record { start = a.start; end = max a.end b.end }) id p.0 (omega (arith, p.1))
  | false ↦ λ t. (elim (is_in b id) as (λ y. is_in b id ≡ y → is_in (record { start = a.start; end = max a.end b.end }) id ≡ y) [
    | true ↦ λ u. let p = is_in_parts b id u in is_in_true (record { start = a.start; end = max a.end b.end }) id (omega (arith, p.0)) (omega (arith, p.1))
    | false ↦ λ u. neither (nat_lt id a.start) refl t u
  ]) refl
]) refl
  where
    neither : (x : Bool) → nat_lt id a.start ≡ x → is_in a id ≡ false → is_in b id ≡ false → is_in (record { start = a.start; end = max a.end b.end }) id ≡ false
    neither true e t u = is_in_before (record { start = a.start; end = max a.end b.end }) id (ltb-true id a.start e)
    neither false e t u =
        let from : a.start ≤ id = ltb-false id a.start e in
        let past : a.end ≤ id = not_in a t from in
        let other : b.end ≤ id = not_in b u (omega arith) in
        is_in_past (record { start = a.start; end = max a.end b.end }) id (omega arith)
      where
        not_in : (s : IdSpan) → is_in s id ≡ false → s.start ≤ id → s.end ≤ id
        not_in s f le = (elim (nat_lt id s.end) as (λ z. nat_lt id s.end ≡ z → s.end ≤ id) [
          | true ↦ λ k. absurd (let bad = is_in_true s id le (ltb-true id s.end k) in cc)
          | false ↦ λ k. ltb-false id s.end k
        ]) refl

-- The ranges before a place were merged, up to the last one, which the next may touch.
pub record IsMerging (spans merged : List IdSpan) (last : IdSpan) (place : ℕ) : Type 0 where
  pub apart : AreApartFrom 0 merged
  pub before : end_after 0 merged ≤ last.start
  pub some : last.start < last.end
  pub same : (id : ℕ) → (is_among merged id || is_in last id) ≡ is_among (take place spans) id
  pub sorted : (k : ℕ) (d : IdSpan) → place ≤ k → k < length spans → last.start ≤ (get_or spans k d).start

pub merging_first : (spans : List IdSpan) (first : IdSpan) (rest : List IdSpan) → spans ≡ first ∷ rest → AllByRecursion HasId spans → IsNonDecreasingBy (λ (s : IdSpan). s.start) spans
    → IsMerging spans [] first 1
merging_first spans first rest e filled rise = subst (λ (xs : List IdSpan). IsMerging xs [] first 1) (sym e) (record {
  apart = tt;
  before = omega arith;
  some = (subst (AllByRecursion HasId) e filled).0;
  same = λ id. sym (or_false (is_in first id));
  sorted = λ k d le lt. subst (IsNonDecreasingBy (λ (s : IdSpan). s.start)) e rise 0 k d (omega arith) lt;
})

-- what follows the first one stands one place further
pub place_following : (spans : List IdSpan) (first : IdSpan) (others : List IdSpan) (k : ℕ) (z : IdSpan) → spans ≡ first ∷ others → k < length others
    → (k + 1 < length spans) × (get_or others k z ≡ get_or spans (k + 1) (get_or others k z))
place_following spans first others k z e lt =
    let x = get_or others k z in
    let more : k + 1 ≡ suc k = omega arith in
    (omega (arith, ap length e), get_or_default others k z x lt ∙ sym (ap (λ (xs : List IdSpan). get_or xs (k + 1) x) e ∙ ap (λ (j : ℕ). get_or (first ∷ others) j x) more))

more_among : (spans : List IdSpan) (place id : ℕ) (x : IdSpan) → place < length spans → x ≡ get_or spans place x → is_among (take (place + 1) spans) id ≡ (is_among (take place spans) id || is_in x id)
more_among spans place id x lt at =
    list_any_more (λ (s : IdSpan). is_in s id) spans place x lt ∙ ap (λ (s : IdSpan). is_among (take place spans) id || is_in s id) (sym at)

pub merging_touch : (spans merged : List IdSpan) (last x : IdSpan) (place : ℕ) → IsMerging spans merged last place → place < length spans → x ≡ get_or spans place x → x.start ≤ last.end
    → IsMerging spans merged (record { start = last.start; end = max last.end x.end }) (place + 1)
merging_touch spans merged last x place m lt at touch =
    let sorted : last.start ≤ x.start = omega (arith, m.sorted place x (omega arith) lt, ap (λ (s : IdSpan). s.start) at) in
    record {
      apart = m.apart;
      before = m.before;
      some = omega (arith, m.some);
      same = λ id. ap (λ (b : Bool). is_among merged id || b) (joined_has last x id sorted touch) ∙ sym (or_assoc (is_among merged id) (is_in last id) (is_in x id))
          ∙ ap (λ (b : Bool). b || is_in x id) (m.same id) ∙ sym (more_among spans place id x lt at);
      sorted = λ k d le below. m.sorted k d (omega arith) below;
    }

pub merging_apart : (spans merged : List IdSpan) (last x : IdSpan) (place : ℕ) → IsMerging spans merged last place → place < length spans → x ≡ get_or spans place x → last.end < x.start
    → AllByRecursion HasId spans
    → IsNonDecreasingBy (λ (s : IdSpan). s.start) spans → IsMerging spans (merged ++ last ∷ []) x (place + 1)
merging_apart spans merged last x place m lt at gap filled rise =
    let each : HasId x = subst HasId (sym at) (All-get_or HasId spans place x lt (All-from_recursion HasId spans filled)) in
    record {
      apart = apart_push 0 merged last m.apart m.before m.some;
      before = omega (arith, end_after_push 0 merged last);
      some = each;
      same = λ id. ap (λ (b : Bool). b || is_in x id) (pushed id ∙ m.same id) ∙ sym (more_among spans place id x lt at);
      sorted = λ k d le below. omega (arith, rise place k d (omega arith) below, ap (λ (s : IdSpan). s.start) (get_or_default spans place d x lt), ap (λ (s : IdSpan). s.start) at);
    }
  where
    pushed : (id : ℕ) → is_among (merged ++ last ∷ []) id ≡ (is_among merged id || is_in last id)
    pushed id = list_any-append (λ (s : IdSpan). is_in s id) merged (last ∷ []) ∙ ap (λ (b : Bool). is_among merged id || b) (or_false (is_in last id))

pub merging_apart_all : (spans merged : List IdSpan) (last : IdSpan) (place : ℕ) → IsMerging spans merged last place → AreApartFrom 0 (merged ++ last ∷ [])
merging_apart_all spans merged last place m = apart_push 0 merged last m.apart m.before m.some

pub merging_all : (spans merged : List IdSpan) (last : IdSpan) (place : ℕ) → IsMerging spans merged last place → length spans ≤ place → (id : ℕ) → is_among (merged ++ last ∷ []) id ≡ is_among spans id
merging_all spans merged last place m le id =
    list_any-append (λ (s : IdSpan). is_in s id) merged (last ∷ []) ∙ ap (λ (b : Bool). is_among merged id || b) (or_false (is_in last id)) ∙ m.same id
    ∙ ap (λ (xs : List IdSpan). is_among xs id) (take_all place spans le)

-- each of two lists of ranges that are apart has an id
pub both_filled : (m n : ℕ) (some others : List IdSpan) → AreApartFrom m some → AreApartFrom n others → AllByRecursion HasId (some ++ others)
both_filled m n [] [] s o = tt
both_filled m n [] (y ∷ ys) s o = (o.1, both_filled m (y.end + 1) [] ys tt o.2)
both_filled m n (x ∷ xs) ys s o = (s.1, both_filled (x.end + 1) n xs ys s.2 o)
