-- What was written of a record is read again. The trait's law cites it.
use Rattle.std.proofs.Common.{◌≡◌, ℕ, suc, ◌<◌, ◌^◌, true, false, ◌&&◌, ltb, List, [], ◌∷◌, ◌++◌, length, Some, refl}
use Rattle.std.proofs.Common.{sym, ◌∙◌, ap, arith, append_assoc, length-append}
use Rattle.std.proofs.lemmas.Bool.{le-ltb, ltb-true, and_parts}
use Rattle.std.proofs.lemmas.List.{append-nil}
use Rattle.std.proofs.Math.Seq.{drop-append_seam, take-append_seam}
use Rattle.std.specs.List.{flat_map, list_all, AllByRecursion}
use Rattle.store_base.specs.VInt.{number}
use Rattle.store_base.specs.Record.{Record, field_bytes_in, record_bytes_in, record_bytes, is_writable, Spelling}
use Rattle.store_base.specs.Record.{spelling_of, bytes_at, field_at, fields_at, record_at, reading}
use Rattle.store_base.specs.Laws.{RecordsAreRead}
use Rattle.store_base.specs.ReadingLemmas.{pass_some, below_again}

bytes_again : (bytes rest : List ℕ) → bytes_at (length bytes) (bytes ++ rest) ≡ Some (bytes, rest)
bytes_again bytes rest =
    let test : ltb (length (bytes ++ rest)) (length bytes) ≡ false =
    le-ltb _ _ (omega (arith, length-append bytes rest)) in
    rw (test, take-append_seam bytes rest, drop-append_seam bytes rest) refl

regroup : (a b c d e : List ℕ) → (((a ++ b) ++ c) ++ d) ++ e ≡ a ++ (b ++ (c ++ (d ++ e)))
regroup a b c d e = simp append_assoc

-- What text spells is read so: the numbers of fields below one limit, counts and lengths below another.
pub record Spells (text : ℕ → List ℕ) (fields sizes : ℕ) (s : Spelling) : Type 0 where
  pub field : (n : ℕ) (rest : List ℕ) → n < fields → s.field (text n ++ rest) ≡ Some (n, rest)
  pub size : (n : ℕ) (rest : List ℕ) → n < sizes → s.size (text n ++ rest) ≡ Some (n, rest)

-- a field whose parts are below the limits
abbrev pub Fits : ℕ → ℕ → ℕ × List ℕ → Type 0
Fits fields sizes f = (f.0 < fields) × (length f.1 < sizes)

fields_again : (text : ℕ → List ℕ) (limit sizes : ℕ) (s : Spelling) → Spells text limit sizes s
    → (fields : Record) (rest : List ℕ) → AllByRecursion (Fits limit sizes) fields
    → fields_at s (length fields) (flat_map (field_bytes_in text) fields ++ rest) ≡ Some (fields, rest)
unfolding fields_at field_at
fields_again text limit sizes s spells [] rest all = refl
fields_again text limit sizes s spells (f ∷ fields) rest all =
    let more = flat_map (field_bytes_in text) fields in
    let again = spells.field f.0 (text (length f.1) ++ (f.1 ++ (more ++ rest))) all.0.0 in
    let size = spells.size (length f.1) (f.1 ++ (more ++ rest)) all.0.1 in
    ap (fields_at s (suc (length fields))) (regroup (text f.0) (text (length f.1)) f.1 more rest)
    ∙ rw (again, size, bytes_again f.1 (more ++ rest), fields_again text limit sizes s spells fields rest all.1) refl

pub record_again : (text : ℕ → List ℕ) (limit sizes : ℕ) (s : Spelling) → Spells text limit sizes s → (fields : Record)
    → AllByRecursion (Fits limit sizes) fields → length fields < sizes
    → record_at s (record_bytes_in text fields) ≡ Some fields
unfolding record_at
record_again text limit sizes s spells fields all few =
    let more = flat_map (field_bytes_in text) fields in
    let others : fields_at s (length fields) more ≡ Some (fields, []) =
    ap (fields_at s (length fields)) (sym (append-nil more))
    ∙ fields_again text limit sizes s spells fields [] all in
    rw (spells.size (length fields) more few, others) refl

-- ---- version 2

spells_2 : Spells number (2 ^ 32) (2 ^ 64) (spelling_of 2)
spells_2 = record {
  field = λ n rest lt. below_again (2 ^ 32) n rest lt;
  size =
      λ n rest lt. below_again (2 ^ 64) n rest lt;
}

fits_from : (schema : ℕ) (fields : Record) → list_all (is_writable schema) fields ≡ true
    → AllByRecursion (Fits (2 ^ 32) (2 ^ 64)) fields
fits_from schema [] e = tt
fits_from schema (f ∷ fields) e =
    let parts = and_parts (is_writable schema f) (list_all (is_writable schema) fields) e in
    let a = and_parts _ _ parts.0 in
    let b = and_parts _ _ a.1 in
    let c = and_parts _ _ b.0 in
    ((ltb-true f.0 (2 ^ 32) c.0, ltb-true (length f.1) (2 ^ 64) c.1), fits_from schema fields parts.1)

pub records_are_read : RecordsAreRead
records_are_read fields schema bytes e =
    let passed = pass_some (list_all (is_writable schema) fields && ltb (length fields) (2 ^ 64))
    (record_bytes fields) bytes e in
    let parts = and_parts (list_all (is_writable schema) fields) (ltb (length fields) (2 ^ 64)) passed.0 in
    ap (reading 2) (sym passed.1) ∙ record_again number (2 ^ 32) (2 ^ 64) (spelling_of 2) spells_2 fields
    (fits_from schema fields parts.0) (ltb-true (length fields) (2 ^ 64) parts.1)
