-- Halving: what is known below and above the middle.
use Rattle.std.proofs.Common.{◌≡◌, ℕ, zero, suc, ◌+◌, ◌/◌, ◌<◌, ◌≤◌, List, [], ◌∷◌, length, Some, None, refl, sym, ◌∙◌, ap, arith}
use Rattle.std.specs.Prelude.{slice_get}
use Rattle.store_base.specs.Counts.{greatest, raised}
use Rattle.layered_index.proofs.PointedLemmas.{past_here, past_later}
use Rattle.layered_index.specs.declared.checkpoint.Checkpoint.{Checkpoint}
use Rattle.layered_index.specs.Checkpoint.{IsInLineFrom, IsInLine, first_past}
use Rattle.layered_index.specs.Layers.{digit_count}
use Rattle.layered_index.proofs.IndexLemmas.{digit_count-le, digit_count_more}
use Rattle.layered_index.specs.Seeking.{NoneBelow, EndsPast, LiesBetween}
use Rattle.layered_index.proofs.LineLemmas.{in_line_somewhere}
use Rattle.layered_index.proofs.DigitLemmas.{below_digits}

-- none stands after the last
pub past_end : (cs : List Checkpoint) (target n : ℕ) → length cs ≤ n → EndsPast target (slice_get cs n)
past_end [] target n le = tt
past_end (c ∷ cs) target zero le = absurd (omega arith)
past_end (c ∷ cs) target (suc n) le = past_end cs target n (omega arith)

pub none_following : (cs : List Checkpoint) (n : ℕ) → length cs ≤ n → slice_get cs n ≡ None
none_following [] n le = refl
none_following (c ∷ cs) zero le = absurd (omega arith)
none_following (c ∷ cs) (suc n) le = none_following cs n (omega arith)

-- the answer of a seek is one of all, or none
pub all_between : (cs : List Checkpoint) (target high : ℕ) → high ≡ length cs → LiesBetween cs target 0 high
all_between cs target high is = record {
  order = omega arith;
  within = omega (arith, is);
  before = λ i c lt e. absurd (omega arith);
  past = let none = none_following cs high (omega (arith, is)) in rw none tt;
}

-- then it is the answer
pub first_at : (cs : List Checkpoint) (target high : ℕ) → NoneBelow cs target high → EndsPast target (slice_get cs high) → first_past cs target ≡ slice_get cs high
first_at [] target high none past = refl
first_at (c ∷ cs) target zero none past = past_here c cs target past
first_at (c ∷ cs) target (suc high) none past = past_later c cs target (none 0 c (omega arith) refl) ∙ first_at cs target high (λ i d lt e. none (suc i) d (omega arith) e) past

-- in a list in line later ones end no earlier
from_start : (doc byte : ℕ) (cs : List Checkpoint) (i : ℕ) (c : Checkpoint) → IsInLineFrom doc byte cs → slice_get cs i ≡ Some c → doc ≤ c.doc_range.end
from_start doc byte [] i c h e = absurd (cc)
from_start doc byte (d ∷ cs) zero c h e = let same : d ≡ c = cc in omega (arith, ap (λ (x : Checkpoint). x.doc_range.end) same, h.0, h.2.doc_order)
from_start doc byte (d ∷ cs) (suc i) c h e = omega (arith, from_start d.doc_range.end d.byte_range.end cs i c h.3 e, h.0, h.2.doc_order)

ordered : (doc byte : ℕ) (cs : List Checkpoint) (i j : ℕ) (a b : Checkpoint) → IsInLineFrom doc byte cs → i ≤ j → slice_get cs i ≡ Some a → slice_get cs j ≡ Some b → a.doc_range.end ≤ b.doc_range.end
ordered doc byte [] i j a b h le p q = absurd (cc)
ordered doc byte (d ∷ cs) zero zero a b h le p q = let same : a ≡ b = cc in omega (arith, ap (λ (x : Checkpoint). x.doc_range.end) same)
ordered doc byte (d ∷ cs) zero (suc j) a b h le p q =
    let same : d ≡ a = cc in
    omega (arith, ap (λ (x : Checkpoint). x.doc_range.end) same, from_start d.doc_range.end d.byte_range.end cs j b h.3 q)
ordered doc byte (d ∷ cs) (suc i) zero a b h le p q = absurd (omega arith)
ordered doc byte (d ∷ cs) (suc i) (suc j) a b h le p q = ordered d.doc_range.end d.byte_range.end cs i j a b h.3 (omega arith) p q

-- what does not end past the target tells it of all before
pub none_up_to : (cs : List Checkpoint) (target middle : ℕ) (c : Checkpoint) → IsInLine cs → slice_get cs middle ≡ Some c → c.doc_range.end ≤ target → NoneBelow cs target (middle + 1)
none_up_to cs target middle c h e le i d lt p =
    let from = in_line_somewhere cs h in
    omega (arith, ordered from.0 from.1 cs i middle d c from.2 (omega arith) p e)

-- ---- looks

-- a look at one of a list that is still this list
pub record IsLook (cs list : List Checkpoint) (i : ℕ) (found : Checkpoint) (start looks : ℕ) : Type 0 where
  pub same : list ≡ cs
  pub given : slice_get cs i ≡ Some found
  pub more : start ≤ looks
  pub least : raised start 1 ≤ looks

pub looked : (cs old new : List Checkpoint) (i : ℕ) (found : Checkpoint) (start before looks : ℕ) → old ≡ cs → new ≡ old → slice_get old i ≡ Some found → before ≤ greatest → looks ≡ raised before 1
    → start ≤ before → IsLook cs new i found start looks
looked cs old new i found start before looks was same given fits counted more = record {
  same = same ∙ was;
  given = ap (λ (xs : List Checkpoint). slice_get xs i) (sym was) ∙ given;
  more = omega (arith, counted, fits, more);
  least = omega (arith, counted, more);
}

-- ---- how many halves there are

pub digits_grow : (a b : ℕ) → a ≤ b → digit_count 2 a ≤ digit_count 2 b
digits_grow a b le = digit_count-le 2 (digit_count 2 b) a (omega arith) (omega (arith, below_digits 2 b (omega arith)))

-- one look, and then at most half are left
pub half_left : (rest n : ℕ) → 0 < n → rest ≤ n / 2 → digit_count 2 rest + 1 ≤ digit_count 2 n
half_left rest n some le = omega (arith, digits_grow rest (n / 2) le, digit_count_more 2 n (omega arith) some)
