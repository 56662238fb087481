-- What is read as a record is its bytes, and the bytes of version 1 are read too.
use Rattle.std.proofs.Common.{◌≡◌, ℕ, zero, suc, ◌<◌, ◌≤◌, ◌^◌, false, cond, ltb, eqb, List, [], ◌∷◌, ◌++◌, length, take, drop, Some, None, refl, sym, ap, subst, ◌∙◌, arith}
use Rattle.std.specs.Int.{w32, from_le_bytes}
use Rattle.std.specs.List.{flat_map}
use Rattle.std.proofs.lemmas.Bool.{ltb-false, eqb-true, le-ltb}
use Rattle.std.proofs.lemmas.List.{take-append-drop, take_at, drop_at, length-take, length-append, append-nil, nil_from_length}
use Rattle.std.proofs.lemmas.Nat.{from_le_bytes-to_le_bytes_4}
use Rattle.store_base.specs.VInt.{number, ◌>>=◌}
use Rattle.store_base.specs.Serialize.{IsBytes, fixed, fixed_at}
use Rattle.store_base.specs.Record.{Record, field_bytes_in, record_bytes_in, Spelling, spelling_of, bytes_at, field_at, fields_at, record_at}
use Rattle.store_base.specs.Laws.{OldRecordsAreRead, RecordsReadAreSpelled}
use Rattle.store_base.specs.ReadingLemmas.{bind_some, some_is, guard_some, pass_some, below_takes, SplitsOff, takes_from, takes_then}
use Rattle.store_base.specs.SerializeLemmas.{length-fixed}
use Rattle.store_base.specs.RecordLemmas.{Spells, record_again}
use Rattle.store_base.proofs.FixedReads.{AreOctets, wide32}

-- ---- numbers of four bytes

pub octets : (bytes : List ℕ) → IsBytes bytes → AreOctets bytes
octets [] h i = omega arith
octets (b ∷ bytes) h zero = h.0
octets (b ∷ bytes) h (suc i) = octets bytes h.1 i

pub bytes_front : (n : ℕ) (bytes : List ℕ) → IsBytes bytes → IsBytes (take n bytes)
bytes_front zero bytes h = tt
bytes_front (suc n) [] h = tt
bytes_front (suc n) (b ∷ bytes) h = (h.0, bytes_front n bytes h.1)

four_back : (n : ℕ) → n < 2 ^ 32 → from_le_bytes w32 (fixed 4 n) ≡ n
unfolding fixed
four_back n lt = from_le_bytes-to_le_bytes_4 n lt

four_again : (n : ℕ) (rest : List ℕ) → n < 2 ^ 32 → fixed_at w32 (fixed 4 n ++ rest) ≡ Some (n, rest)
four_again n rest lt =
    let long : ltb (length (fixed 4 n ++ rest)) 4 ≡ false = le-ltb _ _ (omega (arith, length-append (fixed 4 n) rest, length-fixed 4 n)) in
    rw (long, take_at (fixed 4 n) rest 4 (length-fixed 4 n), drop_at (fixed 4 n) rest 4 (length-fixed 4 n), four_back n lt) refl

four_takes : (bytes : List ℕ) (n : ℕ) (rest : List ℕ) → IsBytes bytes → fixed_at w32 bytes ≡ Some (n, rest) → SplitsOff bytes (fixed 4 n) rest
four_takes bytes n rest fits e =
    let passed = guard_some (ltb (length bytes) 4) (from_le_bytes w32 (take 4 bytes), drop 4 bytes) (n, rest) e in
    let long : 4 ≤ length bytes = ltb-false (length bytes) 4 passed.0 in
    let front : fixed 4 (from_le_bytes w32 (take 4 bytes)) ≡ take 4 bytes = wide32.back (take 4 bytes) (omega (arith, length-take 4 bytes)) (octets (take 4 bytes) (bytes_front 4 bytes fits)) in
    let text : bytes ≡ fixed 4 (from_le_bytes w32 (take 4 bytes)) ++ drop 4 bytes = sym (take-append-drop 4 bytes) ∙ ap (λ (t : List ℕ). t ++ drop 4 bytes) (sym front) in
    takes_from bytes (fixed 4 n) rest fits (subst (λ (x : ℕ × List ℕ). bytes ≡ fixed 4 x.0 ++ x.1) passed.1 text)

spells_1 : Spells (fixed 4) (2 ^ 32) (2 ^ 32) (spelling_of 1)
spells_1 = record { field = four_again; size = four_again }

pub old_records_are_read : OldRecordsAreRead
old_records_are_read fields few all = record_again (fixed 4) (2 ^ 32) (2 ^ 32) (spelling_of 1) spells_1 fields all few

-- ---- what was read

-- what is read is what text spells
record IsSpelling (text : ℕ → List ℕ) (s : Spelling) : Type 0 where
  field : (bytes : List ℕ) (n : ℕ) (rest : List ℕ) → IsBytes bytes → s.field bytes ≡ Some (n, rest) → SplitsOff bytes (text n) rest
  size : (bytes : List ℕ) (n : ℕ) (rest : List ℕ) → IsBytes bytes → s.size bytes ≡ Some (n, rest) → SplitsOff bytes (text n) rest

bytes_take : (count : ℕ) (bytes : List ℕ) (x : List ℕ × List ℕ) → IsBytes bytes → bytes_at count bytes ≡ Some x → SplitsOff bytes x.0 x.1 × (length x.0 ≡ count)
bytes_take count bytes x fits e =
    let passed = guard_some (ltb (length bytes) count) (take count bytes, drop count bytes) x e in
    let long : count ≤ length bytes = ltb-false (length bytes) count passed.0 in
    subst (λ (y : List ℕ × List ℕ). SplitsOff bytes y.0 y.1 × (length y.0 ≡ count)) passed.1
    (takes_from bytes (take count bytes) (drop count bytes) fits (sym (take-append-drop count bytes)), omega (arith, length-take count bytes))

field_takes : (text : ℕ → List ℕ) (s : Spelling) → IsSpelling text s → (bytes : List ℕ) (x : (ℕ × List ℕ) × List ℕ) → IsBytes bytes → field_at s bytes ≡ Some x
    → SplitsOff bytes (field_bytes_in text x.0) x.1
unfolding field_at
field_takes text s is bytes x fits e =
    let a = bind_some (s.field bytes) (λ field. s.size field.1 >>= λ size. bytes_at size.0 size.1 >>= λ t. Some ((field.0, t.0), t.1)) x e in
    let first = is.field bytes a.0.0 a.0.1 fits a.1 in
    let b = bind_some (s.size a.0.1) (λ size. bytes_at size.0 size.1 >>= λ t. Some ((a.0.0, t.0), t.1)) x a.2 in
    let second = is.size a.0.1 b.0.0 b.0.1 first.rest_fits b.1 in
    let c = bind_some (bytes_at b.0.0 b.0.1) (λ t. Some ((a.0.0, t.0), t.1)) x b.2 in
    let third = bytes_take b.0.0 b.0.1 c.0 second.rest_fits c.1 in
    let made : (ℕ × List ℕ) × List ℕ = ((a.0.0, c.0.0), c.0.1) in
    let size : text b.0.0 ≡ text (length c.0.0) = ap text (sym third.1) in
    let all = takes_then bytes (text a.0.0 ++ text b.0.0) b.0.1 c.0.0 c.0.1 (takes_then bytes (text a.0.0) a.0.1 (text b.0.0) b.0.1 first second) third.0 in
    let whole : SplitsOff bytes (field_bytes_in text (a.0.0, c.0.0)) c.0.1 = subst (λ (t : List ℕ). SplitsOff bytes ((text a.0.0 ++ t) ++ c.0.0) c.0.1) size all in
    subst (λ (y : (ℕ × List ℕ) × List ℕ). SplitsOff bytes (field_bytes_in text y.0) y.1) (some_is made x c.2) whole

fields_take : (text : ℕ → List ℕ) (s : Spelling) → IsSpelling text s → (n : ℕ) (bytes : List ℕ) (x : Record × List ℕ) → IsBytes bytes → fields_at s n bytes ≡ Some x
    → SplitsOff bytes (flat_map (field_bytes_in text) x.0) x.1 × (length x.0 ≡ n)
unfolding fields_at
fields_take text s is zero bytes x fits e =
    subst (λ (y : Record × List ℕ). SplitsOff bytes (flat_map (field_bytes_in text) y.0) y.1 × (length y.0 ≡ 0)) (some_is ([], bytes) x e) (record { parts = refl; rest_fits = fits }, refl)
fields_take text s is (suc n) bytes x fits e =
    let a = bind_some (field_at s bytes) (λ first. fields_at s n first.1 >>= λ others. Some (first.0 ∷ others.0, others.1)) x e in
    let first = field_takes text s is bytes a.0 fits a.1 in
    let b = bind_some (fields_at s n a.0.1) (λ others. Some (a.0.0 ∷ others.0, others.1)) x a.2 in
    let others = fields_take text s is n a.0.1 b.0 first.rest_fits b.1 in
    let made : Record × List ℕ = (a.0.0 ∷ b.0.0, b.0.1) in
    let all = takes_then bytes (field_bytes_in text a.0.0) a.0.1 (flat_map (field_bytes_in text) b.0.0) b.0.1 first others.0 in
    subst (λ (y : Record × List ℕ). SplitsOff bytes (flat_map (field_bytes_in text) y.0) y.1 × (length y.0 ≡ suc n)) (some_is made x b.2) (all, ap suc others.1)

record_takes : (text : ℕ → List ℕ) (s : Spelling) → IsSpelling text s → (bytes : List ℕ) (fields : Record) → IsBytes bytes → record_at s bytes ≡ Some fields → bytes ≡ record_bytes_in text fields
unfolding record_at
record_takes text s is bytes fields fits e =
    let a = bind_some (s.size bytes) (λ count. fields_at s count.0 count.1 >>= λ found. cond (eqb (length found.1) 0) (Some found.0) None) fields e in
    let count = is.size bytes a.0.0 a.0.1 fits a.1 in
    let b = bind_some (fields_at s a.0.0 a.0.1) (λ found. cond (eqb (length found.1) 0) (Some found.0) None) fields a.2 in
    let found = fields_take text s is a.0.0 a.0.1 b.0 count.rest_fits b.1 in
    let passed = pass_some (eqb (length b.0.1) 0) b.0.0 fields b.2 in
    let nothing : b.0.1 ≡ [] = nil_from_length b.0.1 (eqb-true _ _ passed.0) in
    let body = flat_map (field_bytes_in text) b.0.0 in
    let whole : bytes ≡ text (length b.0.0) ++ body =
    count.parts ∙ ap (λ (t : List ℕ). text a.0.0 ++ t) (found.0.parts ∙ ap (λ (t : List ℕ). body ++ t) nothing ∙ append-nil body) ∙ ap (λ (n : ℕ). text n ++ body) (sym found.1) in
    subst (λ (fs : Record). bytes ≡ record_bytes_in text fs) passed.1 whole

is_spelling_1 : IsSpelling (fixed 4) (spelling_of 1)
is_spelling_1 = record { field = four_takes; size = four_takes }

is_spelling_2 : IsSpelling number (spelling_of 2)
is_spelling_2 = record { field = λ bytes n rest fits e. (below_takes (2 ^ 32) bytes n rest fits e).0; size = λ bytes n rest fits e. (below_takes (2 ^ 64) bytes n rest fits e).0 }

pub records_read_are_spelled : RecordsReadAreSpelled
records_read_are_spelled bytes fields fits = (record_takes number (spelling_of 2) is_spelling_2 bytes fields fits, record_takes (fixed 4) (spelling_of 1) is_spelling_1 bytes fields fits)
