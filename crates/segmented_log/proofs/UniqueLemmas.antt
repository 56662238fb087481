-- A folder is one log at most.
use Rattle.std.proofs.Common.{◌≡◌, ◌⊎◌, inl, inr, ⊎_elim, ℕ, zero, suc, ◌+◌, ◌<◌, ◌≤◌, ◌^◌, List, [], ◌∷◌, Some, None, refl, sym, ◌∙◌, subst, arith}
use Rattle.std.specs.List.{AllByRecursion, Contains}
use Rattle.store_folder.specs.Folder.{Look}
use Rattle.store_format.specs.Block.{Slot}
use Rattle.store_format.specs.Laws.{StoresAreApart}
use Rattle.log_tail.specs.Tail.{first_of}
use Rattle.segmented_log.specs.Parts.{Part, first_in, end_from, Ascend, log_slots}
use Rattle.segmented_log.specs.Log.{HasSegment, IsLog, IsBlank}
use Rattle.segmented_log.specs.Dropping.{HasOnly, AreOfOneLog}
use Rattle.segmented_log.proofs.HoldLemmas.{firsts, only_of}
use Rattle.segmented_log.proofs.PartLemmas.{begin_before}
use Rattle.segmented_log.proofs.StoreLemmas.{same_slots}

-- each first number is one of these
abbrev pub AreAmong : List Part → List Part → Type 0
AreAmong parts others = AllByRecursion (λ part. Contains (firsts others) part.first) parts

none_among : (k : ℕ) → Contains (firsts []) k → ⊥
none_among k among = absurd (omega (arith, among.1))

-- a number among the first ones is the front one, or comes after it
pub among_cons : (p : Part) (parts : List Part) (k : ℕ) → Contains (firsts (p ∷ parts)) k → (p.first ≡ k) ⊎ Contains (firsts parts) k
among_cons p parts k (zero, within, is) = inl is
among_cons p parts k (suc i, within, is) = inr (i, omega (arith, within), is)

least_first : (n : ℕ) (parts : List Part) (k : ℕ) → Ascend n parts → Contains (firsts parts) k → n ≤ k
least_first n [] k up among = absurd (none_among k among)
least_first n (p ∷ parts) k up among =
    ⊎_elim (λ same. omega (arith, up.0, same)) (λ later. omega (arith, up.0, least_first (p.first + 1) parts k up.1 later)) (among_cons p parts k among)

-- what is among these, and above the front one, is among the others
later_among : (q : Part) (others parts : List Part) (n : ℕ) → q.first < n → Ascend n parts → AreAmong parts (q ∷ others) → AreAmong parts others
later_among q others [] n below up among = tt
later_among q others (p ∷ parts) n below up among = (
  ⊎_elim (λ same. absurd (omega (arith, below, up.0, same))) (λ later. later) (among_cons q others p.first among.0),
  later_among q others parts (p.first + 1) (omega (arith, below, up.0)) up.1 among.1,
)

pub same_parts : StoresAreApart → (c : Look) (n : ℕ) (parts others : List Part) → Ascend n parts → Ascend n others → AreAmong parts others → AreAmong others parts
    → AllByRecursion (HasSegment c) parts → AllByRecursion (HasSegment c) others → parts ≡ others
same_parts apart c n [] [] up up' in' in'' has has' = refl
same_parts apart c n [] (q ∷ others) up up' in' in'' has has' = absurd (none_among q.first in''.0)
same_parts apart c n (p ∷ parts) [] up up' in' in'' has has' = absurd (none_among p.first in'.0)
same_parts apart c n (p ∷ parts) (q ∷ others) up up' in' in'' has has' =
    let le : q.first ≤ p.first = ⊎_elim (λ same. omega (arith, same)) (λ later. omega (arith, least_first (q.first + 1) others p.first up'.1 later)) (among_cons q others p.first in'.0) in
    let ge : p.first ≤ q.first = ⊎_elim (λ same. omega (arith, same)) (λ later. omega (arith, least_first (p.first + 1) parts q.first up.1 later)) (among_cons p parts q.first in''.0) in
    let first : p.first ≡ q.first = omega (arith, le, ge) in
    let slots : p.slots ≡ q.slots = same_slots apart c q.first p.slots q.slots (subst (λ (k : ℕ). HasSegment c (record { first = k; slots = p.slots })) first has.0) has'.0 in
    let rest = same_parts apart c (p.first + 1) parts others up.1 (subst (λ (k : ℕ). Ascend (k + 1) others) (sym first) up'.1)
    (later_among q others parts (p.first + 1) (omega (arith, first)) up.1 in'.1)
    (later_among p parts others (q.first + 1) (omega (arith, first)) up'.1 in''.1) has.1 has'.1 in
    λ i. record { first = first i; slots = slots i } ∷ rest i

-- a segment that is there is known
known_all : (c : Look) (segments parts : List Part) (end : ℕ) → end < 2 ^ 64 → AllByRecursion (λ part. part.first < end) parts → AllByRecursion (HasSegment c) parts → HasOnly segments c
    → AreAmong parts segments
known_all c segments [] end low below has only = tt
known_all c segments (p ∷ parts) end low below has only = (
  ⊎_elim (λ none. absurd (there has.0.0 (sym none ∙ has.0.2))) (λ among. among) (only.no_others p.first (omega (arith, below.0, low))),
  known_all c segments parts end low below.1 has.1 only,
)
  where
    there : (content : List ℕ) → None ≡ Some content → ⊥
    there content e = cc e

pub some_is : (a b : List ℕ) → Some a ≡ Some b → a ≡ b
some_is a b e = cc e

pub from_zero : (n : ℕ) (segments : List Part) → Ascend n segments → Ascend 0 segments
from_zero n [] up = tt
from_zero n (p ∷ segments) up = (omega arith, up.1)

pub same_log : StoresAreApart → (c : Look) (first other : ℕ) (all slots : List Slot) → IsLog first all c → IsLog other slots c → (first ≡ other) × (all ≡ slots)
same_log apart c first other all slots a b =
    let below = begin_before first a.segments a.parts.in_line in
    let below' = begin_before other b.segments b.parts.in_line in
    let parts : a.segments ≡ b.segments = same_parts apart c 0 a.segments b.segments (from_zero first a.segments a.parts.ascend) (from_zero other b.segments b.parts.ascend)
    (known_all c b.segments a.segments (end_from first a.segments) a.parts.fits below a.holds.each (only_of b.segments b.tail c b.holds))
    (known_all c a.segments b.segments (end_from other b.segments) b.parts.fits below' b.holds.each (only_of a.segments a.tail c a.holds)) a.holds.each b.holds.each in
    let tails : a.tail ≡ b.tail = some_is a.tail b.tail (sym a.holds.tail_is ∙ b.holds.tail_is) in
    let firsts_same : first ≡ other = a.parts.first_is ∙ (λ i. first_in (parts i) (first_of (tails i))) ∙ sym b.parts.first_is in (
      firsts_same,
      a.slots_are ∙ (λ i. log_slots (firsts_same i) (parts i) (tails i)) ∙ sym b.slots_are,
    )

-- the segments of a log are those that its folder has
pub log_parts : StoresAreApart → (c : Look) (parts : List Part) → AreOfOneLog parts → HasOnly parts c → (first : ℕ) (all : List Slot) (log : IsLog first all c) → log.segments ≡ parts
log_parts apart c parts are only first all log =
    same_parts apart c 0 log.segments parts (from_zero first log.segments log.parts.ascend) are.ascend
    (known_all c parts log.segments (end_from first log.segments) log.parts.fits (begin_before first log.segments log.parts.in_line) log.holds.each only)
    (known_all c log.segments parts (end_from (first_in parts 0) parts) are.fits (begin_before (first_in parts 0) parts are.in_line) only.each (only_of log.segments log.tail c log.holds))
    log.holds.each only.each

-- a log has a tail
pub not_blank : (c : Look) (first : ℕ) (all : List Slot) → IsLog first all c → IsBlank c → ⊥
not_blank c first all log blank = nothing log.tail (sym blank.no_tail ∙ log.holds.tail_is)
  where
    nothing : (tail : List ℕ) → None ≡ Some tail → ⊥
    nothing tail e = cc e
