-- A checkpoint block that was spelled is read, and what is read is spelled so.
use Rattle.std.proofs.Common.{◌≡◌, ℕ, zero, suc, ◌+◌, ◌-◌, ◌*◌, ◌/◌, ◌<◌, ◌≤◌, ◌^◌, ◌⊎◌, inl, inr, Bool, true, false, cond, eqb, ltb, List, [], ◌∷◌, ◌++◌, length, Option, Some, None, refl, sym, ◌∙◌}
use Rattle.std.proofs.Common.{ap, subst, arith, append_assoc, length-append}
use Rattle.std.proofs.lemmas.Bool.{lt-ltb, le-ltb, ltb-true, eqb-true, eqb-false, ne_eqb}
use Rattle.std.proofs.lemmas.List.{append-nil}
use Rattle.std.specs.List.{flat_map}
use Rattle.store_base.specs.VInt.{number}
use Rattle.store_base.specs.VInt.{◌>>=◌, number_below}
use Rattle.store_base.specs.VIntLemmas.{number_some}
use Rattle.store_base.specs.ReadingLemmas.{bind_some, some_is, below_again, below_takes, SplitsOff, takes_then}
use Rattle.store_base.specs.Serialize.{IsBytes}
use Rattle.layered_index.specs.declared.checkpoint.Checkpoint.{Checkpoint}
use Rattle.layered_index.specs.Checkpoint.{checkpoint, doc_count, byte_len, IsWithinLimits, IsInLineFrom, IsInLine, step, starts, checkpoint_block}
use Rattle.layered_index.specs.declared.run_reading.Heading.{Heading}
use Rattle.layered_index.specs.BlockReading.{step_at, steps_at, heading_at, checkpoint_block_at}
use Rattle.layered_index.proofs.CheckpointLemmas.{same_checkpoint, block_then}

-- ---- one checkpoint

pub step_again : (c : Checkpoint) (rest : List ℕ) → IsWithinLimits c → step_at c.doc_range.start c.byte_range.start (step c ++ rest) ≡ Some (c, rest)
unfolding step_at
step_again c rest fits =
    let docs = doc_count c in
    let len = byte_len c in
    let regrouped : step c ++ rest ≡ number docs ++ (number len ++ rest) = append_assoc (number docs) (number len) rest in
    let doc_end : c.doc_range.start + docs ≡ c.doc_range.end = omega (arith, fits.doc_order) in
    let byte_end : c.byte_range.start + len ≡ c.byte_range.end = omega (arith, fits.byte_order) in
    let first : number_below (2 ^ 32) (number docs ++ (number len ++ rest)) ≡ Some (docs, number len ++ rest) = below_again (2 ^ 32) docs (number len ++ rest) (omega (arith, fits.doc_end)) in
    let second : number_below (2 ^ 32) (number len ++ rest) ≡ Some (len, rest) = below_again (2 ^ 32) len rest fits.byte_len in
    let here : ltb (c.doc_range.start + docs) (2 ^ 32) ≡ true = lt-ltb _ _ (omega (arith, fits.doc_end)) in
    let there : ltb (c.byte_range.start + len) (2 ^ 64) ≡ true = lt-ltb _ _ (omega (arith, fits.byte_end)) in
    ap (step_at c.doc_range.start c.byte_range.start) regrouped
    ∙ rw (first, second, here, there) (ap (λ (d : Checkpoint). Some (d, rest)) (same_checkpoint
    (checkpoint c.doc_range.start (c.doc_range.start + docs) c.byte_range.start (c.byte_range.start + len)) c refl doc_end refl byte_end))

-- what a step is where it was read
pub record IsStep (doc byte : ℕ) (bytes : List ℕ) (c : Checkpoint) (rest : List ℕ) : Type 0 where
  pub doc_start : c.doc_range.start ≡ doc
  pub byte_start : c.byte_range.start ≡ byte
  pub limits : IsWithinLimits c
  pub takes : SplitsOff bytes (step c) rest

step_made : (doc byte docs len : ℕ) (bytes middle rest : List ℕ) → docs < 2 ^ 32 → len < 2 ^ 32 → doc + docs < 2 ^ 32 → byte + len < 2 ^ 64 → SplitsOff bytes (number docs) middle
    → SplitsOff middle (number len) rest
    → IsStep doc byte bytes (checkpoint doc (doc + docs) byte (byte + len)) rest
step_made doc byte docs len bytes middle rest a b d e p q =
    let docs_is : docs ≡ doc + docs - doc = omega arith in
    let len_is : len ≡ byte + len - byte = omega arith in record {
      doc_start = refl;
      byte_start = refl;
      limits = record { doc_order = omega arith; doc_end = d; byte_order = omega arith; byte_len = omega arith; byte_end = e };
      takes = subst (λ (m : ℕ). SplitsOff bytes (number m ++ number (byte + len - byte)) rest) docs_is
          (subst (λ (m : ℕ). SplitsOff bytes (number docs ++ number m) rest) len_is (takes_then bytes (number docs) middle (number len) rest p q));
    }

pub step_read : (doc byte : ℕ) (bytes : List ℕ) (c : Checkpoint) (rest : List ℕ) → IsBytes bytes → step_at doc byte bytes ≡ Some (c, rest) → IsStep doc byte bytes c rest
unfolding step_at
step_read doc byte bytes c rest fits e =
    let a = bind_some (number_below (2 ^ 32) bytes) (λ docs. number_below (2 ^ 32) docs.1 >>= λ len. cond (ltb (doc + docs.0) (2 ^ 32))
    (cond (ltb (byte + len.0) (2 ^ 64)) (Some (checkpoint doc (doc + docs.0) byte (byte + len.0), len.1)) None) None) (c, rest) e in
    let docs = a.0.0 in
    let b = bind_some (number_below (2 ^ 32) a.0.1) (λ len. cond (ltb (doc + docs) (2 ^ 32))
    (cond (ltb (byte + len.0) (2 ^ 64)) (Some (checkpoint doc (doc + docs) byte (byte + len.0), len.1)) None) None) (c, rest) a.2 in
    let len = b.0.0 in
    let p = pass_both (ltb (doc + docs) (2 ^ 32)) (ltb (byte + len) (2 ^ 64)) (checkpoint doc (doc + docs) byte (byte + len), b.0.1) (c, rest) b.2 in
    let one = below_takes (2 ^ 32) bytes docs a.0.1 fits a.1 in
    let two = below_takes (2 ^ 32) a.0.1 len b.0.1 one.0.rest_fits b.1 in
    subst (λ (x : Checkpoint × List ℕ). IsStep doc byte bytes x.0 x.1) p.2
    (step_made doc byte docs len bytes a.0.1 b.0.1 one.1 two.1 (ltb-true _ _ p.0) (ltb-true _ _ p.1) one.0 two.0)
  where
    pass_both : {A : Type 0} (b c : Bool) (x y : A) → cond b (cond c (Some x) None) None ≡ Some y → (b ≡ true) × (c ≡ true) × (x ≡ y)
    pass_both true true x y e = (refl, refl, cc)
    pass_both true false x y e = absurd cc
    pass_both false c x y e = absurd cc

-- ---- so many

pub steps_again : (doc byte : ℕ) (cs : List Checkpoint) (rest : List ℕ) → IsInLineFrom doc byte cs → steps_at (length cs) doc byte (flat_map step cs ++ rest) ≡ Some (cs, rest)
unfolding steps_at
steps_again doc byte [] rest h = refl
steps_again doc byte (c ∷ cs) rest h =
    let first : step_at doc byte (step c ++ (flat_map step cs ++ rest)) ≡ Some (c, flat_map step cs ++ rest) = (λ i. step_at (sym h.0 i) (sym h.1 i) (step c ++ (flat_map step cs ++ rest)))
    ∙ step_again c (flat_map step cs ++ rest) h.2 in
    ap (steps_at (suc (length cs)) doc byte) (append_assoc (step c) (flat_map step cs) rest)
    ∙ rw (first, steps_again c.doc_range.end c.byte_range.end cs rest h.3) refl

pub record AreSteps (count doc byte : ℕ) (bytes : List ℕ) (cs : List Checkpoint) (rest : List ℕ) : Type 0 where
  pub counted : length cs ≡ count
  pub runs : IsInLineFrom doc byte cs
  pub takes : SplitsOff bytes (flat_map step cs) rest

pub steps_read : (count doc byte : ℕ) (bytes : List ℕ) (cs : List Checkpoint) (rest : List ℕ) → IsBytes bytes → steps_at count doc byte bytes ≡ Some (cs, rest) → AreSteps count doc byte bytes cs rest
unfolding steps_at
steps_read zero doc byte bytes cs rest fits e =
    subst (λ (x : List Checkpoint × List ℕ). AreSteps 0 doc byte bytes x.0 x.1) (some_is ([], bytes) (cs, rest) e)
    (record { counted = refl; runs = tt; takes = record { parts = refl; rest_fits = fits } })
steps_read (suc count) doc byte bytes cs rest fits e =
    let a = bind_some (step_at doc byte bytes) (λ c. steps_at count c.0.doc_range.end c.0.byte_range.end c.1 >>= λ others. Some (c.0 ∷ others.0, others.1)) (cs, rest) e in
    let c = a.0.0 in
    let b = bind_some (steps_at count c.doc_range.end c.byte_range.end a.0.1) (λ others. Some (c ∷ others.0, others.1)) (cs, rest) a.2 in
    let one = step_read doc byte bytes c a.0.1 fits a.1 in
    let two = steps_read count c.doc_range.end c.byte_range.end a.0.1 b.0.0 b.0.1 one.takes.rest_fits b.1 in
    subst (λ (x : List Checkpoint × List ℕ). AreSteps (suc count) doc byte bytes x.0 x.1) (some_is (c ∷ b.0.0, b.0.1) (cs, rest) b.2)
    (record {
      counted = ap suc two.counted;
      runs = (one.doc_start, one.byte_start, one.limits, two.runs);
      takes = takes_then bytes (step c) a.0.1 (flat_map step b.0.0) b.0.1 one.takes two.takes;
    })

-- each takes two bytes
pub length-steps-ge : (cs : List Checkpoint) → 2 * length cs ≤ length (flat_map step cs)
length-steps-ge [] = omega arith
length-steps-ge (c ∷ cs) = omega (
  arith,
  length-append (step c) (flat_map step cs),
  length-append (number (doc_count c)) (number (byte_len c)),
  number_some (doc_count c),
  number_some (byte_len c),
  length-steps-ge cs,
)

-- ---- a block

pub heading_again : (c : Checkpoint) (cs : List Checkpoint) (rest : List ℕ) → IsInLine (c ∷ cs) → length (c ∷ cs) < 2 ^ 64
    → heading_at (checkpoint_block (c ∷ cs) ++ rest) ≡ Some (record { count = length (c ∷ cs); doc = c.doc_range.start; byte = c.byte_range.start }, flat_map step (c ∷ cs) ++ rest)
unfolding heading_at
heading_again c cs rest h few =
    let doc = c.doc_range.start in
    let byte = c.byte_range.start in
    let steps = flat_map step (c ∷ cs) ++ rest in
    let count : number_below (2 ^ 64) (number (length (c ∷ cs)) ++ (number doc ++ (number byte ++ steps))) ≡ Some (length (c ∷ cs), number doc ++ (number byte ++ steps)) =
    below_again (2 ^ 64) (length (c ∷ cs)) (number doc ++ (number byte ++ steps)) few in
    let docs : number_below (2 ^ 32) (number doc ++ (number byte ++ steps)) ≡ Some (doc, number byte ++ steps) =
    below_again (2 ^ 32) doc (number byte ++ steps) (omega (arith, h.2.doc_order, h.2.doc_end)) in
    let bytes : number_below (2 ^ 64) (number byte ++ steps) ≡ Some (byte, steps) = below_again (2 ^ 64) byte steps (omega (arith, h.2.byte_order, h.2.byte_end)) in
    let not_none : eqb (length (c ∷ cs)) 0 ≡ false = ne_eqb (length (c ∷ cs)) 0 (λ e. omega arith) in
    let enough : ltb (length (number doc ++ (number byte ++ steps)) / 2) (length (c ∷ cs)) ≡ false =
    le-ltb _ _ (omega (arith, length-append (number doc) (number byte ++ steps), length-append (number byte) steps, length-append (flat_map step (c ∷ cs)) rest, length-steps-ge (c ∷ cs))) in
    let begin : starts (c ∷ cs) ++ steps ≡ number doc ++ (number byte ++ steps) = append_assoc (number doc) (number byte) steps in
    ap heading_at (block_then (c ∷ cs) rest ∙ ap (λ (t : List ℕ). number (length (c ∷ cs)) ++ t) begin) ∙ rw (count, not_none, enough, docs, bytes) refl

pub block_again : (cs : List Checkpoint) (rest : List ℕ) → IsInLine cs → length cs < 2 ^ 64 → checkpoint_block_at (checkpoint_block cs ++ rest) ≡ Some (cs, rest)
unfolding checkpoint_block_at heading_at steps_at
block_again [] rest h few = ap checkpoint_block_at (block_then [] rest) ∙ rw (below_again (2 ^ 64) 0 rest (omega arith)) refl
block_again (c ∷ cs) rest h few = block_by (c ∷ cs) rest (checkpoint_block (c ∷ cs) ++ rest) (heading_again c cs rest h few) (steps_again c.doc_range.start c.byte_range.start (c ∷ cs) rest h)
  where
    block_by : (cs : List Checkpoint) (rest : List ℕ) (bytes : List ℕ) {h : Heading} {steps : List ℕ} → heading_at bytes ≡ Some (h, steps) → steps_at h.count h.doc h.byte steps ≡ Some (cs, rest)
        → checkpoint_block_at bytes ≡ Some (cs, rest)
    block_by cs rest bytes e f = rw e f

pub record IsBlock (bytes : List ℕ) (cs : List Checkpoint) (rest : List ℕ) : Type 0 where
  pub in_line : IsInLine cs
  pub few : length cs < 2 ^ 64
  pub takes : SplitsOff bytes (checkpoint_block cs) rest

pub some_block : (count doc byte : ℕ) (bytes a b c : List ℕ) (cs : List Checkpoint) (rest : List ℕ) → 0 < count → count < 2 ^ 64 → SplitsOff bytes (number count) a → SplitsOff a (number doc) b
    → SplitsOff b (number byte) c → AreSteps count doc byte c cs rest → IsBlock bytes cs rest
unfolding checkpoint_block
some_block count doc byte bytes a b c [] rest some few p q r s = absurd (omega (arith, s.counted))
some_block count doc byte bytes a b c (x ∷ cs) rest some few p q r s =
    let runs = s.runs in
    let front = takes_then bytes (number count) a (number doc ++ number byte) c p (takes_then a (number doc) b (number byte) c q r) in
    let whole = takes_then bytes (number count ++ (number doc ++ number byte)) c (flat_map step (x ∷ cs)) rest front s.takes in
    record {
      in_line = (refl, refl, runs.2, runs.3);
      few = omega (arith, s.counted);
      takes = subst (λ (t : List ℕ). SplitsOff bytes t rest) (λ i. (number (sym s.counted i) ++ (number (sym runs.0 i) ++ number (sym runs.1 i))) ++ flat_map step (x ∷ cs)) whole;
    }

-- what a heading is where it was read, if it counts some
pub record CountsSome (bytes : List ℕ) (h : Heading) (rest : List ℕ) : Type 0 where
  pub some : 0 < h.count
  pub few : h.count < 2 ^ 64
  pub after_count : List ℕ
  pub after_doc : List ℕ
  pub takes_count : SplitsOff bytes (number h.count) after_count
  pub takes_doc : SplitsOff after_count (number h.doc) after_doc
  pub takes_byte : SplitsOff after_doc (number h.byte) rest

-- if it counts none
pub record CountsNone (bytes : List ℕ) (h : Heading) (rest : List ℕ) : Type 0 where
  pub none : h.count ≡ 0
  pub takes : SplitsOff bytes (number 0) rest

chosen : {A : Type 0} (b : Bool) (x y z : A) → cond b x y ≡ z → ((b ≡ true) × (x ≡ z)) ⊎ ((b ≡ false) × (y ≡ z))
chosen true x y z e = inl (refl, e)
chosen false x y z e = inr (refl, e)

abbrev starts_at : ℕ → List ℕ → Option (Heading × List ℕ)
starts_at count bytes = number_below (2 ^ 32) bytes >>= λ doc. number_below (2 ^ 64) doc.1 >>= λ byte. Some (record { count = count; doc = doc.0; byte = byte.0 }, byte.1)

starts_read : (count : ℕ) (bytes a : List ℕ) (h : Heading) (rest : List ℕ) → 0 < count → count < 2 ^ 64 → SplitsOff bytes (number count) a → starts_at count a ≡ Some (h, rest)
    → CountsSome bytes h rest
starts_read count bytes a h rest some few takes e =
    let p = bind_some (number_below (2 ^ 32) a) (λ doc. number_below (2 ^ 64) doc.1 >>= λ byte. Some (record { count = count; doc = doc.0; byte = byte.0 }, byte.1)) (h, rest) e in
    let q = bind_some (number_below (2 ^ 64) p.0.1) (λ byte. Some (record { count = count; doc = p.0.0; byte = byte.0 }, byte.1)) (h, rest) p.2 in
    let one = below_takes (2 ^ 32) a p.0.0 p.0.1 takes.rest_fits p.1 in
    let two = below_takes (2 ^ 64) p.0.1 q.0.0 q.0.1 one.0.rest_fits q.1 in
    let made : Heading × List ℕ = (record { count = count; doc = p.0.0; byte = q.0.0 }, q.0.1) in
    subst (λ (x : Heading × List ℕ). CountsSome bytes x.0 x.1) (some_is made (h, rest) q.2)
    (record { some = some; few = few; after_count = a; after_doc = p.0.1; takes_count = takes; takes_doc = one.0; takes_byte = two.0 })

pub heading_read : (bytes : List ℕ) (h : Heading) (rest : List ℕ) → IsBytes bytes → heading_at bytes ≡ Some (h, rest) → CountsNone bytes h rest ⊎ CountsSome bytes h rest
unfolding heading_at
heading_read bytes h rest fits e =
    let none : Heading = record { count = 0; doc = 0; byte = 0 } in
    let a = bind_some (number_below (2 ^ 64) bytes) (λ count. cond (eqb count.0 0) (Some (none, count.1)) (cond (ltb (length count.1 / 2) count.0) None (starts_at count.0 count.1))) (h, rest) e in
    let count = a.0.0 in
    let takes = below_takes (2 ^ 64) bytes count a.0.1 fits a.1 in
    elim (chosen (eqb count 0) (Some (none, a.0.1)) (cond (ltb (length a.0.1 / 2) count) None (starts_at count a.0.1)) (Some (h, rest)) a.2) [
      | inl p ↦
          let is_zero : count ≡ 0 = eqb-true count 0 p.0 in
          inl (subst (λ (x : Heading × List ℕ). CountsNone bytes x.0 x.1) (some_is (none, a.0.1) (h, rest) p.1)
          (record { none = refl; takes = subst (λ (n : ℕ). SplitsOff bytes (number n) a.0.1) is_zero takes.0 }))
      | inr p ↦
          let not_zero = eqb-false count 0 p.0 in
          elim (chosen (ltb (length a.0.1 / 2) count) None (starts_at count a.0.1) (Some (h, rest)) p.1) [
            | inl q ↦ absurd (none_is_none q.1)
            | inr q ↦ inr (starts_read count bytes a.0.1 h rest (positive count not_zero) takes.1 takes.0 q.1)
          ]
    ]
  where
    none_is_none : {A : Type 0} {x : A} → None ≡ Some x → ⊥
    none_is_none e = cc

    positive : (n : ℕ) → (n ≡ 0 → ⊥) → 0 < n
    positive zero h = absurd (h refl)
    positive (suc n) h = omega arith

block_none : checkpoint_block [] ≡ number 0
unfolding checkpoint_block
block_none = append-nil (number 0 ++ []) ∙ append-nil (number 0)

no_steps : (doc byte : ℕ) (bytes : List ℕ) (cs : List Checkpoint) (rest : List ℕ) → steps_at 0 doc byte bytes ≡ Some (cs, rest) → (cs ≡ []) × (bytes ≡ rest)
unfolding steps_at
no_steps doc byte bytes cs rest e =
    let same = some_is ([], bytes) (cs, rest) e in
    (ap (λ (x : List Checkpoint × List ℕ). x.0) (sym same), ap (λ (x : List Checkpoint × List ℕ). x.1) same)

pub block_read : (bytes : List ℕ) (cs : List Checkpoint) (rest : List ℕ) → IsBytes bytes → checkpoint_block_at bytes ≡ Some (cs, rest) → IsBlock bytes cs rest
unfolding checkpoint_block_at
block_read bytes cs rest fits e =
    let a = bind_some (heading_at bytes) (λ h. steps_at h.0.count h.0.doc h.0.byte h.1) (cs, rest) e in
    let h = a.0.0 in
    elim (heading_read bytes h a.0.1 fits a.1) [
      | inl none ↦
          let nothing = no_steps h.doc h.byte a.0.1 cs rest (ap (λ (n : ℕ). steps_at n h.doc h.byte a.0.1) (sym none.none) ∙ a.2) in
          let takes : SplitsOff bytes (checkpoint_block []) rest = subst (λ (t : List ℕ). SplitsOff bytes t rest) (sym block_none)
          (subst (λ (r : List ℕ). SplitsOff bytes (number 0) r) nothing.1 none.takes) in
          subst (λ (xs : List Checkpoint). IsBlock bytes xs rest) (sym nothing.0) (record { in_line = tt; few = omega arith; takes = takes })
      | inr some ↦ some_block h.count h.doc h.byte bytes some.after_count some.after_doc a.0.1 cs rest some.some some.few some.takes_count some.takes_doc some.takes_byte
          (steps_read h.count h.doc h.byte a.0.1 cs rest some.takes_byte.rest_fits a.2)
    ]

-- a block has at least two bytes for each checkpoint
pub length-block-ge : (cs : List Checkpoint) → 2 * length cs ≤ length (checkpoint_block cs)
unfolding checkpoint_block
length-block-ge cs = omega (arith, length-append (number (length cs) ++ starts cs) (flat_map step cs), length-steps-ge cs)
