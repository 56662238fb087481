-- Writing and reading the fields of a record one after the other, as a loop does.
use Rattle.std.proofs.Common.{◌≡◌, ℕ, zero, suc, ◌-◌, ◌+◌, ◌≤◌, ◌<◌, ◌^◌, Bool, true, false, cond, ltb, List, [], ◌∷◌, ◌++◌, length, get_or, Option, Some, None, refl, sym, ap, ◌∙◌, append_assoc}
use Rattle.std.proofs.Common.{arith}
use Rattle.std.specs.Prelude.{Vec, ◌&&◌}
use Rattle.std.specs.List.{list_all}
use Rattle.std.specs.declared.alloc.Global.{Global}
use Rattle.std.proofs.Math.Bool.{and-false}
use Rattle.std.proofs.lemmas.Bool.{lt-ltb}
use Rattle.std.proofs.lemmas.List.{append-nil}
use Rattle.store_base.specs.declared.fault.DocFault.{DocFault}
use Rattle.store_base.specs.declared.fault.DocFault.TheVariants.{Refused, Memory}
use Rattle.store_base.specs.VInt.{◌>>=◌}
use Rattle.store_base.specs.Documents.{Fails}
use Rattle.store_base.specs.Record.{Record, field_seen, fields_seen, is_writable, doc_bytes, Spelling, field_at, fields_at}
use Rattle.store_base.proofs.FixedReads.{AreOctets}

-- ---- writing

pub bytes_pass : (bs : List ℕ) → AreOctets bs → list_all (λ b. ltb b 256) bs ≡ true
bytes_pass [] fits = refl
bytes_pass (b ∷ bs) fits = rw (lt-ltb b 256 (fits 0)) (bytes_pass bs (λ i. fits (suc i)))

-- a field that can't be written is among them
none_passes : (schema : ℕ) (fs : List (ℕ × Vec ℕ Global)) (i : ℕ) (f : ℕ × Vec ℕ Global) → i < length fs → f ≡ get_or fs i f → is_writable schema (field_seen f) ≡ false
    → list_all (is_writable schema) (fields_seen fs) ≡ false
none_passes schema [] i f lt e fails = absurd (omega (arith, lt))
none_passes schema (g ∷ fs) zero f lt e fails = rw (ap (λ (h : ℕ × Vec ℕ Global). is_writable schema (field_seen h)) (sym e) ∙ fails) refl
none_passes schema (g ∷ fs) (suc i) f lt e fails = rw (none_passes schema fs i f (omega (arith, lt)) e fails) (and-false (is_writable schema (field_seen g)))

no_bytes : (a b : Bool) (text : List ℕ) → a ≡ false → cond (a && b) (Some text) None ≡ None
no_bytes a b text e = rw e refl

-- a field that can't be written leaves the record without bytes
pub not_writable : (schema : ℕ) (fs : List (ℕ × Vec ℕ Global)) (i : ℕ) (f : ℕ × Vec ℕ Global) → i < length fs → f ≡ get_or fs i f → is_writable schema (field_seen f) ≡ false
    → doc_bytes (fields_seen fs) schema ≡ None
not_writable schema fs i f lt e fails = no_bytes (list_all (is_writable schema) (fields_seen fs)) (ltb (length (fields_seen fs)) (2 ^ 64)) _ (none_passes schema fs i f lt e fails)

-- ---- reading

-- what was read before, and what is still read
abbrev pub with_front : Record → Option (Record × List ℕ) → Option (Record × List ℕ)
with_front front read = read >>= λ x. Some (front ++ x.0, x.1)

regroup : (front : Record) (f : ℕ × List ℕ) (read : Option (Record × List ℕ)) → with_front front (read >>= λ x. Some (f ∷ x.0, x.1)) ≡ with_front (front ++ f ∷ []) read
regroup front f (Some x) = ap (λ (fs : Record). Some (fs, x.1)) (simp append_assoc)
regroup front f None = refl

pub goes_on : (s : Spelling) (front : Record) (count i : ℕ) (bytes : List ℕ) (f : ℕ × List ℕ) (after : List ℕ) (total : Option (Record × List ℕ)) → i < count → field_at s bytes ≡ Some (f, after)
    → with_front front (fields_at s (count - i) bytes) ≡ total → with_front (front ++ f ∷ []) (fields_at s (count - (i + 1)) after) ≡ total
unfolding fields_at
goes_on s front count i bytes f after total lt h so_far =
    let k : count - i ≡ suc (count - (i + 1)) = omega arith in
    let one : with_front front (fields_at s (count - i) bytes) ≡ with_front (front ++ f ∷ []) (fields_at s (count - (i + 1)) after) =
    rw (k, h) (regroup front f (fields_at s (count - (i + 1)) after)) in
    sym one ∙ so_far

ends_none : (s : Spelling) (front : Record) (count i : ℕ) (bytes : List ℕ) (total : Option (Record × List ℕ)) → i < count → field_at s bytes ≡ None
    → with_front front (fields_at s (count - i) bytes) ≡ total → total ≡ None
unfolding fields_at
ends_none s front count i bytes total lt h so_far =
    let k : count - i ≡ suc (count - (i + 1)) = omega arith in
    let one : with_front front (fields_at s (count - i) bytes) ≡ None = rw (k, h) refl in
    sym so_far ∙ one

pub ends : (s : Spelling) (e : DocFault) (front : Record) (count i : ℕ) (bytes : List ℕ) (total : Option (Record × List ℕ)) → i < count → Fails e (field_at s bytes)
    → with_front front (fields_at s (count - i) bytes) ≡ total → Fails e total
ends s Refused front count i bytes total lt none so_far = ends_none s front count i bytes total lt none so_far
ends s Memory front count i bytes total lt none so_far = tt

pub is_done : (s : Spelling) (front : Record) (count i : ℕ) (bytes : List ℕ) (total : Option (Record × List ℕ)) → count ≤ i → with_front front (fields_at s (count - i) bytes) ≡ total
    → total ≡ Some (front, bytes)
unfolding fields_at
is_done s front count i bytes total le so_far =
    let k : count - i ≡ 0 = omega arith in
    let one : with_front front (fields_at s (count - i) bytes) ≡ Some (front, bytes) = rw k (ap (λ (fs : Record). Some (fs, bytes)) (append-nil front)) in
    sym so_far ∙ one
