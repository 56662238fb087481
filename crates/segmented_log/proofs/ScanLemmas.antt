-- Segments that are looked at in order.
use Rattle.std.proofs.Common.{◌≡◌, ◌⊎◌, ⊎_elim, ℕ, zero, suc, ◌+◌, ◌<◌, ◌≤◌, max, List, [], ◌∷◌, ◌++◌, length, take, map, get_or, Option, Some, None, refl, sym, ◌∙◌, ap, subst, arith}
use Rattle.std.specs.Prelude.{IfNone}
use Rattle.segmented_log.specs.Parts.{Part, end_of, end_from, AreInLine, Ascend}
use Rattle.segmented_log.proofs.PartLemmas.{end_from-push, in_line-push, from_le_end}

-- the least number with which one more of these may begin
abbrev pub least_after : ℕ → List Part → ℕ
least_after n [] = n
least_after n (p ∷ parts) = least_after (p.first + 1) parts

ascend_more : (n : ℕ) (parts : List Part) (p : Part) → Ascend n parts → least_after n parts ≤ p.first → Ascend n (parts ++ p ∷ [])
ascend_more n [] p up le = (le, tt)
ascend_more n (q ∷ parts) p up le = (up.0, ascend_more (q.first + 1) parts p up.1 le)

least_more : (n : ℕ) (parts : List Part) (p : Part) → least_after n (parts ++ p ∷ []) ≡ p.first + 1
least_more n [] p = refl
least_more n (q ∷ parts) p = least_more (q.first + 1) parts p

pub record ScannedTo (first end least : ℕ) (parts : List Part) : Type 0 where
  pub end_is : end ≡ end_from first parts
  pub line : AreInLine first parts
  pub ascend : Ascend first parts
  pub least_is : least ≡ least_after first parts

pub scanned_none : (first : ℕ) → ScannedTo first first first []
scanned_none first = record { end_is = refl; line = tt; ascend = tt; least_is = refl }

pub scanned_more : (first end least : ℕ) (parts more : List Part) (p : Part) (now then : ℕ) → more ≡ parts ++ p ∷ [] → ScannedTo first end least parts → p.first ≤ end → least ≤ p.first
    → 0 < length p.slots
    → now ≡ max end (end_of p) → then ≡ p.first + 1 → ScannedTo first now then more
scanned_more first end least parts more p now then more_is s at above some now_is then_is =
    let grown : ScannedTo first now then (parts ++ p ∷ []) = record {
      end_is = now_is ∙ ap (λ (n : ℕ). max n (end_of p)) s.end_is ∙ sym (end_from-push first parts p);
      line = in_line-push first parts p s.line (omega (arith, at, s.end_is)) some;
      ascend = ascend_more first parts p s.ascend (omega (arith, above, s.least_is));
      least_is = then_is ∙ sym (least_more first parts p);
    } in
    subst (λ (l : List Part). ScannedTo first now then l) (sym more_is) grown

-- A part among others in line: where it begins, that it has slots, and where it ends.
pub line_at : (n : ℕ) (before : List Part) (p : Part) (after : List Part) → AreInLine n (before ++ p ∷ after) → (p.first ≤ end_from n before) × (0 < length p.slots)
line_at n [] p after line = (line.0, line.1)
line_at n (q ∷ before) p after line = line_at (max n (end_of q)) before p after line.2

pub ascend_at : (n : ℕ) (before : List Part) (p : Part) (after : List Part) → Ascend n (before ++ p ∷ after) → least_after n before ≤ p.first
ascend_at n [] p after up = up.0
ascend_at n (q ∷ before) p after up = ascend_at (q.first + 1) before p after up.1

pub end_at : (n : ℕ) (before : List Part) (p : Part) (after : List Part) → end_of p ≤ end_from n (before ++ p ∷ after)
end_at n [] p after = omega (arith, from_le_end (max n (end_of p)) after)
end_at n (q ∷ before) p after = end_at (max n (end_of q)) before p after

-- those before one of them, and those after it
pub split_at : {X : Type 0} (f : X → Part) (xs : List X) (i : ℕ) (x : X) → i < length xs → x ≡ get_or xs i x → (after : List Part) × (map f xs ≡ map f (take i xs) ++ f x ∷ after)
split_at f [] i x within is = absurd (omega (arith, within))
split_at f (y ∷ ys) zero x within is = (map f ys, λ j. f (sym is j) ∷ map f ys)
split_at f (y ∷ ys) (suc i) x within is =
    let rest = split_at f ys i x (omega (arith, within)) is in
    (rest.0, λ j. f y ∷ rest.1 j)

-- parts in line are looked at to the end
pub goes_on : (first end least : ℕ) (parts all : List Part) (p : Part) (after : List Part) → ScannedTo first end least parts → all ≡ parts ++ p ∷ after → AreInLine first all → Ascend first all
    → (end < p.first) ⊎ ((p.first < least) ⊎ (length p.slots ≡ 0)) → ⊥
goes_on first end least parts all p after s split line up bad =
    let at = line_at first parts p after (subst (λ (l : List Part). AreInLine first l) split line) in
    let above = ascend_at first parts p after (subst (λ (l : List Part). Ascend first l) split up) in
    ⊎_elim (λ late. omega (arith, late, at.0, s.end_is)) (λ other. ⊎_elim (λ early. omega (arith, early, above, s.least_is)) (λ none. omega (arith, none, at.1)) other) bad

-- none of them ends past the greatest u64
pub ends_within : (first top : ℕ) (parts all : List Part) (p : Part) (after : List Part) → all ≡ parts ++ p ∷ after → end_from first all < top → top ≤ end_of p → ⊥
ends_within first top parts all p after split fits past = omega (arith, end_at first parts p after, ap (λ (l : List Part). end_from first l) split, fits, past)

pub if_none : {T P : Type 0} (r : Option T) → P → IfNone r P
if_none None p = p
if_none (Some x) p = tt
