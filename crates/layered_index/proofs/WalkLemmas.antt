-- Walking over the runs of a layer: one step of it.
use Rattle.std.proofs.Common.{◌≡◌, ℕ, zero, suc, ◌+◌, ◌-◌, ◌*◌, ◌<◌, ◌≤◌, true, false, cond, List, [], ◌∷◌, length, Option, Some, None, refl, sym, ◌∙◌, ap, subst, arith}
use Rattle.std.proofs.lemmas.Bool.{cond-true, cond-false, ltb-true, and_parts}
use Rattle.std.specs.Prelude.{IsSome}
use Rattle.std.specs.Option.{option_map_or}
use Rattle.store_base.specs.VInt.{◌>>=◌, number_at}
use Rattle.store_base.specs.ReadingLemmas.{bind_some, some_is}
use Rattle.layered_index.specs.declared.checkpoint.Checkpoint.{Checkpoint}
use Rattle.layered_index.specs.declared.layers.Run.{Run}
use Rattle.layered_index.specs.Checkpoint.{checkpoint, docs_end, bytes_end}
use Rattle.layered_index.specs.BlockReading.{step_at, steps_at, heading_at, ends_of, run_at}
use Rattle.layered_index.specs.LayerReading.{may_stand, len_within, len_from, pointers_within, pointers_at}
use Rattle.layered_index.proofs.CursorLemmas.{heading_shorter, step_takes}

-- ---- a run takes bytes, two for each checkpoint

steps_take : (count doc byte : ℕ) (bytes : List ℕ) (x : List Checkpoint × List ℕ) → steps_at count doc byte bytes ≡ Some x → 2 * count + length x.1 ≤ length bytes
unfolding steps_at
steps_take zero doc byte bytes x e = omega (arith, ap (λ (y : List Checkpoint × List ℕ). length y.1) (some_is ([], bytes) x e))
steps_take (suc count) doc byte bytes x e =
    let a = bind_some (step_at doc byte bytes) (λ c. steps_at count c.0.doc_range.end c.0.byte_range.end c.1 >>= λ others. Some (c.0 ∷ others.0, others.1)) x e in
    let b = bind_some (steps_at count a.0.0.doc_range.end a.0.0.byte_range.end a.0.1) (λ others. Some (a.0.0 ∷ others.0, others.1)) x a.2 in
    omega (
      arith,
      step_takes doc byte bytes a.0 a.1,
      steps_take count a.0.0.doc_range.end a.0.0.byte_range.end a.0.1 b.0 b.1,
      ap (λ (y : List Checkpoint × List ℕ). length y.1) (some_is (a.0.0 ∷ b.0.0, b.0.1) x b.2),
    )

pub run_takes : (bytes : List ℕ) (x : Run × List ℕ) → run_at bytes ≡ Some x → (2 * x.0.count + length x.1 < length bytes)
unfolding run_at
run_takes bytes x e =
    let a = bind_some (heading_at bytes) (λ h. ends_of h.0.doc h.0.byte (steps_at h.0.count h.0.doc h.0.byte h.1) >>= λ e. Some
    (record { count = h.0.count; doc = h.0.doc; byte = h.0.byte; doc_end = e.0; byte_end = e.1 }, e.2)) x e in
    let h = a.0.0 in
    let b = bind_some (ends_of h.doc h.byte (steps_at h.count h.doc h.byte a.0.1)) (λ e. Some (record { count = h.count; doc = h.doc; byte = h.byte; doc_end = e.0; byte_end = e.1 }, e.2)) x a.2 in
    let s = bind_some (steps_at h.count h.doc h.byte a.0.1) (λ y. Some (docs_end h.doc y.0, bytes_end h.byte y.0, y.1)) b.0 b.1 in
    let same = some_is (record { count = h.count; doc = h.doc; byte = h.byte; doc_end = b.0.0; byte_end = b.0.1 }, b.0.2) x b.2 in
    let ends = some_is (docs_end h.doc s.0.0, bytes_end h.byte s.0.0, s.0.1) b.0 s.2 in
    omega (
      arith,
      heading_shorter bytes a.0 a.1,
      steps_take h.count h.doc h.byte a.0.1 s.0 s.1,
      ap (λ (y : Run × List ℕ). y.0.count) same,
      ap (λ (y : Run × List ℕ). length y.1) same,
      ap (λ (y : ℕ × ℕ × List ℕ). length y.2) ends,
    )

pub run_none : run_at [] ≡ None
unfolding run_at heading_at number_at
run_none = refl

-- ---- the length of a layer

-- so many more
abbrev pub plus : ℕ → Option ℕ → Option ℕ
plus n o = o >>= λ m. Some (n + m)

pub plus_plus : (a b : ℕ) (o : Option ℕ) → plus a (plus b o) ≡ plus (a + b) o
plus_plus a b (Some m) = ap (λ (k : ℕ). Some k) (omega arith)
plus_plus a b None = refl

-- what is counted after a run that was read
abbrev len_after : ℕ → ℕ → ℕ → ℕ → Option (Run × List ℕ) → Option ℕ
len_after more period doc byte o = o >>= λ r. cond (may_stand period doc byte r.0 (length r.1)) (plus r.0.count (len_within more period r.0.doc_end r.0.byte_end r.1)) None

len_same : (f g period doc byte : ℕ) (o : Option (Run × List ℕ)) → ((r : Run × List ℕ) → o ≡ Some r
    → len_within f period r.0.doc_end r.0.byte_end r.1 ≡ len_within g period r.0.doc_end r.0.byte_end r.1) → len_after f period doc byte o ≡ len_after g period doc byte o
len_same f g period doc byte None h = refl
len_same f g period doc byte (Some r) h = ap (λ (o : Option ℕ). cond (may_stand period doc byte r.0 (length r.1)) (plus r.0.count o) None) (h r refl)

len_none : (more period doc byte : ℕ) → len_within more period doc byte [] ≡ Some 0
unfolding len_within
len_none zero period doc byte = refl
len_none (suc more) period doc byte = refl

len_some : (more period doc byte b : ℕ) (bytes : List ℕ) → len_within (suc more) period doc byte (b ∷ bytes) ≡ len_after more period doc byte (run_at (b ∷ bytes))
unfolding len_within
len_some more period doc byte b bytes = refl

len_turns : (f g period doc byte : ℕ) (bytes : List ℕ) → length bytes ≤ f → length bytes ≤ g → len_within f period doc byte bytes ≡ len_within g period doc byte bytes
len_turns f g period doc byte [] p q = len_none f period doc byte ∙ sym (len_none g period doc byte)
len_turns zero g period doc byte (b ∷ bytes) p q = absurd (omega arith)
len_turns (suc f) zero period doc byte (b ∷ bytes) p q = absurd (omega arith)
len_turns (suc f) (suc g) period doc byte (b ∷ bytes) p q =
    len_some f period doc byte b bytes
    ∙ len_same f g period doc byte (run_at (b ∷ bytes)) (λ r e. len_turns f g period r.0.doc_end r.0.byte_end r.1 (omega (arith, run_takes (b ∷ bytes) r e)) (omega (arith, run_takes (b ∷ bytes) r e)))
    ∙ sym (len_some g period doc byte b bytes)

pub len_from_none : (period doc byte : ℕ) → len_from period doc byte [] ≡ Some 0
unfolding len_from
len_from_none period doc byte = len_none 0 period doc byte

-- what is counted after a run
abbrev pub len_then : ℕ → ℕ → ℕ → Option (Run × List ℕ) → Option ℕ
len_then period doc byte o = o >>= λ r. cond (may_stand period doc byte r.0 (length r.1)) (plus r.0.count (len_from period r.0.doc_end r.0.byte_end r.1)) None

len_then_is : (more period doc byte : ℕ) (o : Option (Run × List ℕ)) → ((r : Run × List ℕ) → o ≡ Some r → length r.1 ≤ more) → len_after more period doc byte o ≡ len_then period doc byte o
unfolding len_from
len_then_is more period doc byte None h = refl
len_then_is more period doc byte (Some r) h = ap (λ (o : Option ℕ). cond (may_stand period doc byte r.0 (length r.1)) (plus r.0.count o) None)
    (len_turns more (length r.1) period r.0.doc_end r.0.byte_end r.1 (h r refl) (omega arith))

len_from_more : (period doc byte b : ℕ) (bytes : List ℕ) → len_from period doc byte (b ∷ bytes) ≡ len_after (length bytes) period doc byte (run_at (b ∷ bytes))
unfolding len_from
len_from_more period doc byte b bytes = len_some (length bytes) period doc byte b bytes

pub len_from_some : (period doc byte : ℕ) (bytes : List ℕ) → 0 < length bytes → len_from period doc byte bytes ≡ len_then period doc byte (run_at bytes)
len_from_some period doc byte [] some = absurd (omega arith)
len_from_some period doc byte (b ∷ bytes) some =
    len_from_more period doc byte b bytes
    ∙ len_then_is (length bytes) period doc byte (run_at (b ∷ bytes)) (λ r e. omega (arith, run_takes (b ∷ bytes) r e))

-- ---- the pointers

abbrev pointers_of : ℕ → ℕ → ℕ → Option (Run × List ℕ) → List Checkpoint
pointers_of more place len o = option_map_or (λ r. let after = place + (len - length r.1) in checkpoint r.0.doc r.0.doc_end place after ∷ pointers_within more after r.1) o []

pointers_same : (f g place len : ℕ) (o : Option (Run × List ℕ)) → ((r : Run × List ℕ) (p : ℕ) → o ≡ Some r → pointers_within f p r.1 ≡ pointers_within g p r.1)
    → pointers_of f place len o ≡ pointers_of g place len o
pointers_same f g place len None h = refl
pointers_same f g place len (Some r) h = ap (λ (ps : List Checkpoint). checkpoint r.0.doc r.0.doc_end place (place + (len - length r.1)) ∷ ps) (h r (place + (len - length r.1)) refl)

pointers_none_of : (more place len : ℕ) (o : Option (Run × List ℕ)) → ((r : Run × List ℕ) → o ≡ Some r → ⊥) → pointers_of more place len o ≡ []
pointers_none_of more place len None h = refl
pointers_none_of more place len (Some r) h = absurd (h r refl)

pointers_turns : (f g place : ℕ) (bytes : List ℕ) → length bytes ≤ f → length bytes ≤ g → pointers_within f place bytes ≡ pointers_within g place bytes
unfolding pointers_within
pointers_turns zero zero place bytes p q = refl
pointers_turns zero (suc g) place bytes p q = sym (pointers_none_of g place (length bytes) (run_at bytes) (λ r e. omega (arith, run_takes bytes r e)))
pointers_turns (suc f) zero place bytes p q = pointers_none_of f place (length bytes) (run_at bytes) (λ r e. omega (arith, run_takes bytes r e))
pointers_turns (suc f) (suc g) place bytes p q = pointers_same f g place (length bytes) (run_at bytes)
    (λ r at e. pointers_turns f g at r.1 (omega (arith, run_takes bytes r e)) (omega (arith, run_takes bytes r e)))

-- the pointer to a run that was read, and then the others
abbrev pub pointers_after : ℕ → ℕ → Option (Run × List ℕ) → List Checkpoint
pointers_after place len o = option_map_or (λ r. checkpoint r.0.doc r.0.doc_end place (place + (len - length r.1)) ∷ pointers_at (place + (len - length r.1)) r.1) o []

pointers_after_is : (more place len : ℕ) (o : Option (Run × List ℕ)) → ((r : Run × List ℕ) → o ≡ Some r → length r.1 ≤ more) → pointers_of more place len o ≡ pointers_after place len o
unfolding pointers_at
pointers_after_is more place len None h = refl
pointers_after_is more place len (Some r) h =
    ap (λ (ps : List Checkpoint). checkpoint r.0.doc r.0.doc_end place (place + (len - length r.1)) ∷ ps) (pointers_turns more (length r.1) (place + (len - length r.1)) r.1 (h r refl) (omega arith))

pointers_step : (place : ℕ) (bytes : List ℕ) → pointers_within (suc (length bytes)) place bytes ≡ pointers_of (length bytes) place (length bytes) (run_at bytes)
unfolding pointers_within
pointers_step place bytes = refl

pointers_wide : (place : ℕ) (bytes : List ℕ) → pointers_at place bytes ≡ pointers_within (suc (length bytes)) place bytes
unfolding pointers_at
pointers_wide place bytes = pointers_turns (length bytes) (suc (length bytes)) place bytes (omega arith) (omega arith)

pub pointers_next : (place : ℕ) (bytes : List ℕ) → pointers_at place bytes ≡ pointers_after place (length bytes) (run_at bytes)
pointers_next place bytes =
    pointers_wide place bytes ∙ pointers_step place bytes ∙ pointers_after_is (length bytes) place (length bytes) (run_at bytes) (λ r e. omega (arith, run_takes bytes r e))

-- ---- a loop over the runs

none_is_some : {A : Type 0} (o : Option A) → None ≡ o → IsSome o → ⊥
none_is_some None e h = absurd cc
none_is_some (Some x) e h = absurd cc

-- what was counted and what is still to be counted are the whole
abbrev pub Counts : ℕ → ℕ → ℕ → List ℕ → Option ℕ → Type 0
Counts period doc byte rest total = (k : ℕ) × (plus k (len_from period doc byte rest) ≡ total)

-- no run stands here
pub walk_none : (period doc byte : ℕ) (rest : List ℕ) (total : Option ℕ) → 0 < length rest → run_at rest ≡ None → Counts period doc byte rest total → IsSome total → ⊥
walk_none period doc byte rest total some e so_far =
    let none : len_from period doc byte rest ≡ None = len_from_some period doc byte rest some ∙ ap (len_then period doc byte) e in
    none_is_some total (sym (ap (plus so_far.0) none) ∙ so_far.1)

-- one stands here that may not
pub walk_refused : (period doc byte : ℕ) (rest : List ℕ) (r : Run) (after : List ℕ) (total : Option ℕ) → run_at rest ≡ Some (r, after) → may_stand period doc byte r (length after) ≡ false
    → Counts period doc byte rest total → IsSome total → ⊥
walk_refused period doc byte rest r after total e test so_far =
    let none : len_from period doc byte rest ≡ None = len_from_some period doc byte rest (omega (arith, run_takes rest (r, after) e)) ∙ ap (len_then period doc byte) e
    ∙ cond-false (may_stand period doc byte r (length after)) (plus r.count (len_from period r.doc_end r.byte_end after)) None test in
    none_is_some total (sym (ap (plus so_far.0) none) ∙ so_far.1)

pub walk_goes_on : (period doc byte : ℕ) (rest : List ℕ) (r : Run) (after : List ℕ) (total : Option ℕ) → run_at rest ≡ Some (r, after) → may_stand period doc byte r (length after) ≡ true
    → Counts period doc byte rest total → Counts period r.doc_end r.byte_end after total
walk_goes_on period doc byte rest r after total e test so_far =
    let k = so_far.0 in
    let one : len_from period doc byte rest ≡ plus r.count (len_from period r.doc_end r.byte_end after) = len_from_some period doc byte rest (omega (arith, run_takes rest (r, after) e))
    ∙ ap (len_then period doc byte) e ∙ cond-true (may_stand period doc byte r (length after)) (plus r.count (len_from period r.doc_end r.byte_end after)) None test in
    (k + r.count, sym (plus_plus k r.count (len_from period r.doc_end r.byte_end after)) ∙ sym (ap (plus k) one) ∙ so_far.1)

pub walk_done : (period doc byte : ℕ) (rest : List ℕ) (total : Option ℕ) → length rest ≡ 0 → Counts period doc byte rest total → IsSome total
walk_done period doc byte [] total none so_far = subst IsSome (sym (ap (plus so_far.0) (len_from_none period doc byte)) ∙ so_far.1) refl
walk_done period doc byte (b ∷ rest) total none so_far = absurd (omega arith)

-- a run that may stand has a checkpoint
pub standing_some : (period doc byte : ℕ) (r : Run) (following : ℕ) → may_stand period doc byte r following ≡ true → 0 < r.count
standing_some period doc byte r following e = ltb-true 0 r.count (and_parts _ _ (and_parts _ _ (and_parts _ _ e).0).0).1

-- ---- a loop over the pointers

pub pointers_end : (place : ℕ) (rest : List ℕ) → length rest ≡ 0 → pointers_at place rest ≡ []
pointers_end place [] none = pointers_next place [] ∙ ap (pointers_after place 0) run_none
pointers_end place (b ∷ rest) none = absurd (omega arith)

pub pointers_go_on : (place : ℕ) (rest : List ℕ) (r : Run) (after : List ℕ) → run_at rest ≡ Some (r, after)
    → pointers_at place rest ≡ checkpoint r.doc r.doc_end place (place + (length rest - length after)) ∷ pointers_at (place + (length rest - length after)) after
pointers_go_on place rest r after e = pointers_next place rest ∙ ap (pointers_after place (length rest)) e

-- ---- one pointer of the layer above

pub heads : (x y : Checkpoint) (xs ys : List Checkpoint) → x ∷ xs ≡ y ∷ ys → x ≡ y
heads x y xs ys e = cc

pub none_some : {x : Checkpoint} {xs : List Checkpoint} → [] ≡ x ∷ xs → ⊥
none_some e = cc

pub not_true : (P : Type 0) → false ≡ true → P
not_true P e = absurd cc

pub positive : (n : ℕ) → (n ≡ 0 → ⊥) → 0 < n
positive zero h = absurd (h refl)
positive (suc n) h = omega arith
