-- What a seek reads of one block, and of the layers that are left.
use Rattle.std.proofs.Common.{◌≡◌, ℕ, zero, suc, ◌+◌, ◌-◌, ◌^◌, ◌<◌, ◌≤◌, inl, inr, Bool, true, false, cond, ltb, List, [], ◌∷◌, ◌++◌, length}
use Rattle.std.proofs.Common.{Option, Some, None, refl, sym, ◌∙◌, ap, subst, arith, append_assoc}
use Rattle.std.proofs.lemmas.Bool.{lt-ltb, le-ltb, cases_lt, cond-true, cond-false}
use Rattle.std.proofs.lemmas.List.{append-nil}
use Rattle.std.specs.Prelude.{IfSome, slice_range}
use Rattle.std.specs.List.{flat_map}
use Rattle.store_base.proofs.ListLemmas.{pass_none}
use Rattle.store_base.specs.VInt.{◌>>=◌}
use Rattle.store_base.specs.ReadingLemmas.{bind_some, some_is}
use Rattle.store_base.specs.Serialize.{IsBytes}
use Rattle.layered_index.specs.declared.checkpoint.Checkpoint.{Checkpoint}
use Rattle.layered_index.specs.Checkpoint.{IsInLineFrom, IsInLine, step, checkpoint_block, first_past}
use Rattle.layered_index.specs.Layers.{layer_text, docs_start}
use Rattle.layered_index.specs.BlockReading.{step_at, heading_at}
use Rattle.layered_index.specs.Sought.{scanned, scanned_at, IsPast, IsRunAt, IsFoundAbove}
use Rattle.layered_index.proofs.BlockReadingLemmas.{step_again, step_read, heading_again, heading_read}
use Rattle.layered_index.proofs.PointedLemmas.{run_pointed}
use Rattle.layered_index.proofs.GrowthLemmas.{groups_one}

-- ---- one block

-- the block of a run begins with its heading
pub heading_of_run : (c : Checkpoint) (cs : List Checkpoint) → IsInLine (c ∷ cs) → length (c ∷ cs) < 2 ^ 64
    → heading_at (checkpoint_block (c ∷ cs)) ≡ Some (record { count = length (c ∷ cs); doc = c.doc_range.start; byte = c.byte_range.start }, flat_map step (c ∷ cs) ++ [])
heading_of_run c cs h few = ap heading_at (sym (append-nil (checkpoint_block (c ∷ cs)))) ∙ heading_again c cs [] h few

-- ---- a layer

-- a layer of one run is one block
pub one_block : (period : ℕ) (cs : List Checkpoint) → 0 < length cs → length cs ≤ period → layer_text period cs ≡ checkpoint_block cs
one_block period cs some few = ap (flat_map checkpoint_block) (groups_one period cs some few) ∙ append-nil (checkpoint_block cs)

-- what a seek finds below a pointer
pub record IsSoughtBelow (period target : ℕ) (layer : List ℕ) (p : Checkpoint) (cs : List Checkpoint) : Type 0 where
  pub order : p.byte_range.start ≤ p.byte_range.end
  pub within : p.byte_range.end ≤ length layer
  pub run : List Checkpoint
  pub is_run : IsRunAt period run p (slice_range layer p.byte_range.start p.byte_range.end)
  pub first : first_past cs target ≡ first_past run target

pub below_sought : (period target : ℕ) (layer : List ℕ) (p : Checkpoint) (cs : List Checkpoint) → 1 ≤ period → period ≤ 64 → IsInLine cs → layer ≡ layer_text period cs
    → IsFoundAbove period target (Some p) cs → IsSoughtBelow period target layer p cs
below_sought period target layer p cs one small h text above =
    let is = run_pointed period target cs p one h above in
    record {
      order = is.order;
      within = omega (arith, is.within, ap length text);
      run = is.run;
      is_run = record {
        some = is.is_run.some;
        few = is.is_run.few;
        small = small;
        in_line = is.is_run.in_line;
        spells = ap (λ (t : List ℕ). slice_range t p.byte_range.start p.byte_range.end) text ∙ is.part;
        docs_first = is.docs_first;
        docs_last = is.docs_last;
      };
      first = is.first;
    }

-- ---- a block that is decoded up to what is sought

-- none past the target, in a loop
pub scan_goes_on : (target count i doc byte : ℕ) (bytes : List ℕ) (c : Checkpoint) (after : List ℕ) (total : Option (Option Checkpoint)) → i < count → step_at doc byte bytes ≡ Some (c, after)
    → c.doc_range.end ≤ target → scanned target (count - i) doc byte bytes ≡ total → scanned target (count - (i + 1)) c.doc_range.end c.byte_range.end after ≡ total
unfolding scanned
scan_goes_on target count i doc byte bytes c after total lt h past so_far =
    let k : count - i ≡ suc (count - (i + 1)) = omega arith in
    let test : ltb target c.doc_range.end ≡ false = le-ltb _ _ past in
    let one : scanned target (count - i) doc byte bytes ≡ scanned target (count - (i + 1)) c.doc_range.end c.byte_range.end after = rw (k, h, test) refl in
    sym one ∙ so_far

pub scan_finds : (target count i doc byte : ℕ) (bytes : List ℕ) (c : Checkpoint) (after : List ℕ) (total : Option (Option Checkpoint)) → i < count → step_at doc byte bytes ≡ Some (c, after)
    → target < c.doc_range.end → scanned target (count - i) doc byte bytes ≡ total → Some (Some c) ≡ total
unfolding scanned
scan_finds target count i doc byte bytes c after total lt h past so_far =
    let k : count - i ≡ suc (count - (i + 1)) = omega arith in
    let test : ltb target c.doc_range.end ≡ true = lt-ltb _ _ past in
    let one : scanned target (count - i) doc byte bytes ≡ Some (Some c) = rw (k, h, test) refl in
    sym one ∙ so_far

pub scan_ends : (target count i doc byte : ℕ) (bytes : List ℕ) (total : Option (Option Checkpoint)) → i < count → step_at doc byte bytes ≡ None → scanned target (count - i) doc byte bytes ≡ total
    → None ≡ total
unfolding scanned
scan_ends target count i doc byte bytes total lt h so_far =
    let k : count - i ≡ suc (count - (i + 1)) = omega arith in
    let one : scanned target (count - i) doc byte bytes ≡ None = rw (k, h) refl in
    sym one ∙ so_far

pub scan_is_done : (target count i doc byte : ℕ) (bytes : List ℕ) (total : Option (Option Checkpoint)) → count ≤ i → scanned target (count - i) doc byte bytes ≡ total → Some None ≡ total
unfolding scanned
scan_is_done target count i doc byte bytes total le so_far =
    let k : count - i ≡ 0 = omega arith in
    let one : scanned target (count - i) doc byte bytes ≡ Some None = rw k refl in
    sym one ∙ so_far

-- the steps of a list in line are decoded up to the first past the target
scan_again : (target doc byte : ℕ) (cs : List Checkpoint) (rest : List ℕ) → IsInLineFrom doc byte cs → scanned target (length cs) doc byte (flat_map step cs ++ rest) ≡ Some (first_past cs target)
unfolding scanned
scan_again target doc byte [] rest h = refl
scan_again target doc byte (c ∷ cs) rest h =
    let following = flat_map step cs ++ rest in
    let first : step_at doc byte (step c ++ following) ≡ Some (c, following) = (λ i. step_at (sym h.0 i) (sym h.1 i) (step c ++ following)) ∙ step_again c following h.2 in
    let on = scan_again target c.doc_range.end c.byte_range.end cs rest h.3 in
    ap (scanned target (suc (length cs)) doc byte) (append_assoc (step c) (flat_map step cs) rest)
    ∙ rw first (by_test (ltb target c.doc_range.end) (scanned target (length cs) c.doc_range.end c.byte_range.end following) on)
  where
    by_test : (b : Bool) (read : Option (Option Checkpoint)) → read ≡ Some (first_past cs target) → cond b (Some (Some c)) read ≡ Some (cond b (Some c) (first_past cs target))
    by_test true read e = refl
    by_test false read e = e

pub block_scanned : (most target : ℕ) (g : List Checkpoint) → 0 < length g → length g ≤ most → most ≤ 64 → IsInLine g
    → scanned_at most target (checkpoint_block g) ≡ Some (first_past g target, docs_start g)
unfolding scanned_at
block_scanned most target [] some few small h = absurd (omega arith)
block_scanned most target (c ∷ cs) some few small h =
    let head = heading_of_run c cs h (omega arith) in
    let test : ltb most (length (c ∷ cs)) ≡ false = le-ltb _ _ few in
    let found : scanned target (length (c ∷ cs)) c.doc_range.start c.byte_range.start (flat_map step (c ∷ cs) ++ []) ≡ Some (first_past (c ∷ cs) target) =
    scan_again target c.doc_range.start c.byte_range.start (c ∷ cs) [] h in
    rw (head, test, found) refl

pub top_scanned : (period target : ℕ) (layer : List ℕ) (cs : List Checkpoint) → period ≤ 64 → IsInLine cs → layer ≡ layer_text period cs → IsFoundAbove period target None cs
    → scanned_at period target layer ≡ Some (first_past cs target, docs_start cs)
top_scanned period target layer cs small h text above = ap (scanned_at period target) (text ∙ one_block period cs above.0 above.1) ∙ block_scanned period target cs above.0 above.1 small h

pub pointed_scanned : (period target : ℕ) (run : List Checkpoint) (p : Checkpoint) (block : List ℕ) → IsRunAt period run p block
    → scanned_at period target block ≡ Some (first_past run target, p.doc_range.start)
pointed_scanned period target run p block is =
    ap (scanned_at period target) is.spells ∙ block_scanned period target run is.some is.few is.small is.in_line ∙ (λ i. Some (first_past run target, sym is.docs_first i))

-- what is found is past the target, in any bytes
steps_scanned_past : (target count doc byte : ℕ) (bytes : List ℕ) (found : Option Checkpoint) → IsBytes bytes → scanned target count doc byte bytes ≡ Some found → IfSome found (IsPast target)
unfolding scanned
steps_scanned_past target zero doc byte bytes found fits e = subst (λ (o : Option Checkpoint). IfSome o (IsPast target)) (some_is None found e) tt
steps_scanned_past target (suc count) doc byte bytes found fits e =
    let a = bind_some (step_at doc byte bytes) (λ c. cond (ltb target c.0.doc_range.end) (Some (Some c.0)) (scanned target count c.0.doc_range.end c.0.byte_range.end c.1)) found e in
    let c = a.0.0 in
    let read = step_read doc byte bytes c a.0.1 fits a.1 in
    elim (cases_lt target c.doc_range.end) [
      | inl here ↦
          let test : ltb target c.doc_range.end ≡ true = lt-ltb _ _ here in
          let same : Some c ≡ found = some_is (Some c) found (sym (cond-true (ltb target c.doc_range.end) (Some (Some c)) (scanned target count c.doc_range.end c.byte_range.end a.0.1) test) ∙ a.2) in
          subst (λ (o : Option Checkpoint). IfSome o (IsPast target)) same (record { docs = read.limits.doc_order; bytes = read.limits.byte_order; past = here })
      | inr later ↦
          let test : ltb target c.doc_range.end ≡ false = le-ltb _ _ later in
          steps_scanned_past target count c.doc_range.end c.byte_range.end a.0.1 found read.takes.rest_fits
          (sym (cond-false (ltb target c.doc_range.end) (Some (Some c)) (scanned target count c.doc_range.end c.byte_range.end a.0.1) test) ∙ a.2)
    ]

pub scanned_past : (most target : ℕ) (bytes : List ℕ) (found : Option Checkpoint) (doc : ℕ) → IsBytes bytes → scanned_at most target bytes ≡ Some (found, doc) → IfSome found (IsPast target)
unfolding scanned_at
scanned_past most target bytes found doc fits e =
    let a = bind_some (heading_at bytes) (λ h. cond (ltb most h.0.count) None (scanned target h.0.count h.0.doc h.0.byte h.1 >>= λ f. Some (f, h.0.doc))) (found, doc) e in
    let h = a.0.0 in
    let p = pass_none (ltb most h.count) (scanned target h.count h.doc h.byte a.0.1 >>= λ f. Some (f, h.doc)) (found, doc) a.2 in
    let b = bind_some (scanned target h.count h.doc h.byte a.0.1) (λ f. Some (f, h.doc)) (found, doc) p.1 in
    let rest_fits : IsBytes a.0.1 = elim (heading_read bytes h a.0.1 fits a.1) [ inl none ↦ none.takes.rest_fits | inr more ↦ more.takes_byte.rest_fits ] in
    let same : b.0 ≡ found = ap (λ (x : Option Checkpoint × ℕ). x.0) (some_is (b.0, h.doc) (found, doc) b.2) in
    subst (λ (o : Option Checkpoint). IfSome o (IsPast target)) same (steps_scanned_past target h.count h.doc h.byte a.0.1 b.0 rest_fits b.1)

pub pair_is : (read : Option (Option Checkpoint × ℕ)) (found other : Option Checkpoint) (doc start : ℕ) → Some (found, doc) ≡ read → read ≡ Some (other, start)
    → (Some found ≡ Some other) × (doc ≡ start)
pair_is read found other doc start e f =
    let same = some_is (found, doc) (other, start) (e ∙ f) in
    (ap (λ (x : Option Checkpoint × ℕ). Some x.0) same, ap (λ (x : Option Checkpoint × ℕ). x.1) same)

-- what was read is not nothing
pub read_nothing : {A : Type 0} {x : A} (read : Option A) → None ≡ read → read ≡ Some x → ⊥
read_nothing read e f = nothing (e ∙ f)
  where
    nothing : {A : Type 0} {x : A} → None ≡ Some x → ⊥
    nothing e = cc
