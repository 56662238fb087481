-- A log's parts where some of them become one, and where one goes that those before it cover.
use Rattle.std.proofs.Common.{◌≡◌, ℕ, zero, suc, ◌+◌, ◌-◌, ◌≤◌, max, List, [], ◌∷◌, ◌++◌, length, drop, refl, sym, ◌∙◌, ap, subst, arith, length-append, append_assoc}
use Rattle.std.proofs.lemmas.List.{drop_all}
use Rattle.store_format.specs.Block.{Slot}
use Rattle.log_tail.specs.Tail.{first_of}
use Rattle.segmented_log.specs.Parts.{Part, end_of, tail_slots, first_in, end_from, joined, AreInLine, Ascend, log_slots, AreParts}
use Rattle.segmented_log.specs.Compacting.{slots_in, AreNext}

-- ---- parts after other parts

end_from-append : (n : ℕ) (xs ys : List Part) → end_from n (xs ++ ys) ≡ end_from (end_from n xs) ys
end_from-append n [] ys = refl
end_from-append n (x ∷ xs) ys = end_from-append (max n (end_of x)) xs ys

joined-append : (n : ℕ) (xs ys : List Part) → joined n (xs ++ ys) ≡ joined n xs ++ joined (end_from n xs) ys
joined-append n [] ys = refl
joined-append n (x ∷ xs) ys =
    ap (λ (l : List Slot). drop (n - x.first) x.slots ++ l) (joined-append (max n (end_of x)) xs ys)
    ∙ sym (append_assoc (drop (n - x.first) x.slots) (joined (max n (end_of x)) xs) (joined (end_from n (x ∷ xs)) ys))

in_line_before : (n : ℕ) (xs ys : List Part) → AreInLine n (xs ++ ys) → AreInLine n xs
in_line_before n [] ys line = tt
in_line_before n (x ∷ xs) ys line = (line.0, line.1, in_line_before (max n (end_of x)) xs ys line.2)

in_line_after : (n : ℕ) (xs ys : List Part) → AreInLine n (xs ++ ys) → AreInLine (end_from n xs) ys
in_line_after n [] ys line = line
in_line_after n (x ∷ xs) ys line = in_line_after (max n (end_of x)) xs ys line.2

in_line_append : (n : ℕ) (xs ys : List Part) → AreInLine n xs → AreInLine (end_from n xs) ys → AreInLine n (xs ++ ys)
in_line_append n [] ys one two = two
in_line_append n (x ∷ xs) ys one two = (one.0, one.1, in_line_append (max n (end_of x)) xs ys one.2 two)

-- what is in line from a number on is so from a later one
in_line_later : (n m : ℕ) (xs : List Part) → n ≤ m → AreInLine n xs → AreInLine m xs
in_line_later n m [] le line = tt
in_line_later n m (x ∷ xs) le line = (omega (arith, le, line.0), line.1, in_line_later (max n (end_of x)) (max m (end_of x)) xs (omega (arith, le)) line.2)

ascend_later : (n m : ℕ) (xs : List Part) → n ≤ m → Ascend m xs → Ascend n xs
ascend_later n m [] le up = tt
ascend_later n m (x ∷ xs) le up = (omega (arith, le, up.0), up.1)

drop-append : (k : ℕ) (xs ys : List Slot) → drop k (xs ++ ys) ≡ drop k xs ++ drop (k - length xs) ys
drop-append zero xs ys = let none : zero ≡ zero - length xs = omega arith in ap (λ (n : ℕ). xs ++ drop n ys) none
drop-append (suc k) [] ys = let same : suc k ≡ suc k - zero = omega arith in ap (λ (n : ℕ). drop n ys) same
drop-append (suc k) (x ∷ xs) ys = let same : k - length xs ≡ suc k - length (x ∷ xs) = omega arith in drop-append k xs ys ∙ ap (λ (n : ℕ). drop k xs ++ drop n ys) same

-- ---- parts that follow one another

end_next : (m e : ℕ) (run after : List Part) → AreNext e run → e ≤ m → end_from m (run ++ after) ≡ end_from (max m (e + length (slots_in run))) after
end_next m e [] after next le = let same : m ≡ max m (e + 0) = omega (arith, le) in ap (λ (n : ℕ). end_from n after) same
end_next m e (q ∷ run) after next le =
    let last : max (max m (end_of q)) (end_of q + length (slots_in run)) ≡ max m (e + length (q.slots ++ slots_in run)) = omega (arith, le, next.0, length-append q.slots (slots_in run)) in
    end_next (max m (end_of q)) (end_of q) run after next.1 (omega arith) ∙ ap (λ (n : ℕ). end_from n after) last

joined_next : (m e : ℕ) (run after : List Part) → AreNext e run → e ≤ m → joined m (run ++ after) ≡ drop (m - e) (slots_in run) ++ joined (max m (e + length (slots_in run))) after
joined_next m e [] after next le =
    let none : drop (m - e) [] ≡ [] = drop_all (m - e) [] (omega arith) in
    λ i. sym none i ++ joined (same i) after
  where
    same : m ≡ max m (e + 0)
    same = omega (arith, le)
joined_next m e (q ∷ run) after next le =
    let past = max m (end_of q) in
    let k = m - e in
    let here : m - q.first ≡ k = omega (arith, next.0) in
    let left : past - end_of q ≡ k - length q.slots = omega (arith, next.0, le) in
    let last : max past (end_of q + length (slots_in run)) ≡ max m (e + length (q.slots ++ slots_in run)) = omega (arith, next.0, le, length-append q.slots (slots_in run)) in
    ap (λ (l : List Slot). drop (m - q.first) q.slots ++ l) (joined_next past (end_of q) run after next.1 (omega arith))
    ∙ (λ i. drop (here i) q.slots ++ (drop (left i) (slots_in run) ++ joined (last i) after))
    ∙ sym (append_assoc (drop k q.slots) (drop (k - length q.slots) (slots_in run)) (joined (max m (e + length (q.slots ++ slots_in run))) after))
    ∙ ap (λ (l : List Slot). l ++ joined (max m (e + length (q.slots ++ slots_in run))) after) (sym (drop-append k q.slots (slots_in run)))

-- ---- a part with those that follow it in one

module _ (head : Part) (run after : List Part) (next : AreNext (end_of head) run) where
  abbrev pub whole : Part
  whole = record { first = head.first; slots = head.slots ++ slots_in run }

  size : end_of whole ≡ end_of head + length (slots_in run)
  size = omega (arith, length-append head.slots (slots_in run))

  whole_end : (m : ℕ) → end_from m (whole ∷ (run ++ after)) ≡ end_from m (head ∷ (run ++ after))
  whole_end m =
      let e = end_of head in
      let last : max (max m (end_of whole)) (e + length (slots_in run)) ≡ max (max m e) (e + length (slots_in run)) = omega (arith, size) in
      end_next (max m (end_of whole)) e run after next (omega (arith, size))
      ∙ ap (λ (n : ℕ). end_from n after) last
      ∙ sym (end_next (max m e) e run after next (omega arith))

  whole_joined : (m : ℕ) → joined m (whole ∷ (run ++ after)) ≡ joined m (head ∷ (run ++ after))
  whole_joined m =
      let e = end_of head in
      let more = slots_in run in
      let k = m - head.first in
      let past = max m (end_of whole) in
      let none : drop (past - e) more ≡ [] = drop_all (past - e) more (omega (arith, size)) in
      let last : max past (e + length more) ≡ max (max m e) (e + length more) = omega (arith, size) in
      let left : k - length head.slots ≡ max m e - e = omega arith in
      let rest = joined (max (max m e) (e + length more)) after in
      let one : joined past (run ++ after) ≡ rest =
      joined_next past e run after next (omega (arith, size)) ∙ (λ i. none i ++ joined (last i) after) in
      (λ i. drop-append k head.slots more i ++ one i)
      ∙ append_assoc (drop k head.slots) (drop (k - length head.slots) more) rest
      ∙ ap (λ (n : ℕ). drop k head.slots ++ (drop n more ++ rest)) left
      ∙ ap (λ (l : List Slot). drop k head.slots ++ l) (sym (joined_next (max m e) e run after next (omega arith)))

  whole_line : (m : ℕ) → AreInLine m (head ∷ (run ++ after)) → AreInLine m (whole ∷ (run ++ after))
  whole_line m line = (
    line.0,
    omega (arith, line.1, length-append head.slots (slots_in run)),
    in_line_later (max m (end_of head)) (max m (end_of whole)) (run ++ after) (omega (arith, size)) line.2,
  )

  module _ (first : ℕ) (before : List Part) (tail : List ℕ) (a : AreParts first (before ++ head ∷ (run ++ after)) tail) where
    pub whole_ends : end_from first (before ++ whole ∷ (run ++ after)) ≡ end_from first (before ++ head ∷ (run ++ after))
    whole_ends =
        end_from-append first before (whole ∷ (run ++ after)) ∙ whole_end (end_from first before)
        ∙ sym (end_from-append first before (head ∷ (run ++ after)))

    ascends : (n : ℕ) (some : List Part) → Ascend n (some ++ head ∷ (run ++ after)) → Ascend n (some ++ whole ∷ (run ++ after))
    ascends n [] up = up
    ascends n (x ∷ some) up = (up.0, ascends (x.first + 1) some up.1)

    begins : (some : List Part) (n : ℕ) → first_in (some ++ whole ∷ (run ++ after)) n ≡ first_in (some ++ head ∷ (run ++ after)) n
    begins [] n = refl
    begins (x ∷ some) n = refl

    pub whole_parts : AreParts first (before ++ whole ∷ (run ++ after)) tail
    whole_parts = record {
      first_is = a.first_is ∙ sym (begins before (first_of tail));
      in_line = in_line_append first before (whole ∷ (run ++ after)) (in_line_before first before (head ∷ (run ++ after)) a.in_line)
          (whole_line (end_from first before) (in_line_after first before (head ∷ (run ++ after)) a.in_line));
      ascend = ascends first before a.ascend;
      fits = omega (arith, whole_ends, a.fits);
      is_tail = a.is_tail;
      meets = omega (arith, whole_ends, a.meets);
      reaches = omega (arith, whole_ends, a.reaches);
    }

    pub whole_slots : log_slots first (before ++ whole ∷ (run ++ after)) tail ≡ log_slots first (before ++ head ∷ (run ++ after)) tail
    whole_slots =
        let same : joined first (before ++ whole ∷ (run ++ after)) ≡ joined first (before ++ head ∷ (run ++ after)) =
        joined-append first before (whole ∷ (run ++ after)) ∙ ap (λ (l : List Slot). joined first before ++ l) (whole_joined (end_from first before))
        ∙ sym (joined-append first before (head ∷ (run ++ after))) in
        λ i. same i ++ drop (whole_ends i - first_of tail) (tail_slots tail)

-- ---- a part that others cover

module _ (first : ℕ) (b : Part) (bs : List Part) (q : Part) (after : List Part) (tail : List ℕ) (covered : end_of q ≤ end_from first (b ∷ bs)) (a : AreParts first ((b ∷ bs) ++ q ∷ after) tail) where
  stays : max (end_from first (b ∷ bs)) (end_of q) ≡ end_from first (b ∷ bs)
  stays = omega (arith, covered)

  pub left_ends : end_from first ((b ∷ bs) ++ after) ≡ end_from first ((b ∷ bs) ++ q ∷ after)
  left_ends =
      end_from-append first (b ∷ bs) after ∙ ap (λ (n : ℕ). end_from n after) (sym stays)
      ∙ sym (end_from-append first (b ∷ bs) (q ∷ after))

  left_joined : joined first ((b ∷ bs) ++ after) ≡ joined first ((b ∷ bs) ++ q ∷ after)
  left_joined =
      let e = end_from first (b ∷ bs) in
      let none : drop (e - q.first) q.slots ≡ [] = drop_all (e - q.first) q.slots (omega (arith, covered)) in
      joined-append first (b ∷ bs) after
      ∙ (λ i. joined first (b ∷ bs) ++ (sym none i ++ joined (sym stays i) after))
      ∙ sym (joined-append first (b ∷ bs) (q ∷ after))

  ascends_left : (n : ℕ) (some : List Part) → Ascend n (some ++ q ∷ after) → Ascend n (some ++ after)
  ascends_left n [] up = ascend_later n (q.first + 1) after (omega (arith, up.0)) up.1
  ascends_left n (x ∷ some) up = (up.0, ascends_left (x.first + 1) some up.1)

  pub left_parts : AreParts first ((b ∷ bs) ++ after) tail
  left_parts = record {
    first_is = a.first_is;
    in_line = in_line_append first (b ∷ bs) after (in_line_before first (b ∷ bs) (q ∷ after) a.in_line)
        (subst (λ (n : ℕ). AreInLine n after) stays (in_line_after first (b ∷ bs) (q ∷ after) a.in_line).2);
    ascend = ascends_left first (b ∷ bs) a.ascend;
    fits = omega (arith, left_ends, a.fits);
    is_tail = a.is_tail;
    meets = omega (arith, left_ends, a.meets);
    reaches = omega (arith, left_ends, a.reaches);
  }

  pub left_slots : log_slots first ((b ∷ bs) ++ after) tail ≡ log_slots first ((b ∷ bs) ++ q ∷ after) tail
  left_slots = λ i. left_joined i ++ drop (left_ends i - first_of tail) (tail_slots tail)
