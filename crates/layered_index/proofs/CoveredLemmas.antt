-- For callers: what the test of covering tells of one checkpoint.
use Rattle.std.proofs.Common.{◌≡◌, ◌<◌, ℕ, true, refl}
use Rattle.std.proofs.lemmas.Bool.{and_parts, ltb-true, lt-ltb, eqb-true, eq-eqb}
use Rattle.std.specs.Prelude.{◌&&◌, ◌==◌, nat_lt}
use Rattle.layered_index.specs.declared.checkpoint.Checkpoint.{Checkpoint}
use Rattle.layered_index.specs.Covering.{goes_on}

-- what the test of one checkpoint tells
pub record GoesOn (doc byte : ℕ) (c : Checkpoint) : Type 0 where
  pub docs : c.doc_range.start ≡ doc
  pub bytes : c.byte_range.start ≡ byte
  pub some_docs : doc < c.doc_range.end
  pub some_bytes : byte < c.byte_range.end

pub goes_on-true : (doc byte : ℕ) (c : Checkpoint) → goes_on doc byte c ≡ true → GoesOn doc byte c
goes_on-true doc byte c t =
    let p = and_parts ((c.doc_range.start == doc) && (c.byte_range.start == byte) && nat_lt doc c.doc_range.end) (nat_lt byte c.byte_range.end) t in
    let q = and_parts ((c.doc_range.start == doc) && (c.byte_range.start == byte)) (nat_lt doc c.doc_range.end) p.0 in
    let r = and_parts (c.doc_range.start == doc) (c.byte_range.start == byte) q.0 in
    record { docs = eqb-true _ _ r.0; bytes = eqb-true _ _ r.1; some_docs = ltb-true _ _ q.1; some_bytes = ltb-true _ _ p.1 }

pub true-goes_on : (doc byte : ℕ) (c : Checkpoint) → c.doc_range.start ≡ doc → c.byte_range.start ≡ byte → doc < c.doc_range.end → byte < c.byte_range.end → goes_on doc byte c ≡ true
true-goes_on doc byte c d b docs bytes = rw (eq-eqb c.doc_range.start doc d, eq-eqb c.byte_range.start byte b, lt-ltb doc c.doc_range.end docs, lt-ltb byte c.byte_range.end bytes) refl
