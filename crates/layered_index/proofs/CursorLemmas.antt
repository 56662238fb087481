-- The checkpoints that bytes of a layer give: one step of it.
use Rattle.std.proofs.Common.{◌≡◌, ℕ, zero, suc, ◌+◌, ◌-◌, ◌*◌, ◌/◌, ◌<◌, ◌≤◌, ◌^◌, Bool, true, false, cond, eqb, ltb, leb, List, [], ◌∷◌, ◌++◌, length, Option, Some, None, refl, sym, ◌∙◌, ap, arith}
use Rattle.std.proofs.Common.{append_assoc}
use Rattle.std.specs.Option.{option_map_or}
use Rattle.std.specs.List.{flat_map, AllByRecursion}
use Rattle.store_base.specs.VInt.{◌>>=◌, number_at, number_below}
use Rattle.store_base.specs.ReadingLemmas.{bind_some, some_is, guard_some, pass_some}
use Rattle.layered_index.specs.declared.checkpoint.Checkpoint.{Checkpoint}
use Rattle.layered_index.specs.declared.run_reading.Heading.{Heading}
use Rattle.layered_index.specs.Checkpoint.{checkpoint, IsInLineFrom, IsInLine, step, checkpoint_block}
use Rattle.layered_index.specs.BlockReading.{step_at, heading_at}
use Rattle.layered_index.specs.Layers.{groups, layer_text}
use Rattle.layered_index.specs.LayerReading.{next_in_block, next_at, items_within, items}
use Rattle.layered_index.proofs.BlockReadingLemmas.{step_again, heading_again}
use Rattle.layered_index.proofs.GroupLemmas.{groups_joined}
use Rattle.layered_index.proofs.LineLemmas.{in_line_somewhere}
use Rattle.layered_index.proofs.RunLemmas.{IsRun, groups_are_runs}

-- ---- what is read takes bytes

number_shorter : (bytes : List ℕ) (x : ℕ × List ℕ) → number_at bytes ≡ Some x → length x.1 < length bytes
unfolding number_at
number_shorter [] x e = absurd (cc)
number_shorter (b ∷ bytes) x e = elim (leb 128 b) as (λ v. cond v (Some (b - 128, bytes)) (number_at bytes >>= λ high. cond (eqb high.0 0) None (Some (b + 128 * high.0, high.1))) ≡ Some x
    → length x.1 < length (b ∷ bytes)) [
      | true ↦ λ h. omega (arith, ap (λ (y : ℕ × List ℕ). length y.1) (some_is (b - 128, bytes) x h))
      | false ↦ λ h.
          let found = bind_some (number_at bytes) (λ high. cond (eqb high.0 0) None (Some (b + 128 * high.0, high.1))) x h in
          let passed = guard_some (eqb found.0.0 0) (b + 128 * found.0.0, found.0.1) x found.2 in
          omega (arith, number_shorter bytes found.0 found.1, ap (λ (y : ℕ × List ℕ). length y.1) passed.1)
    ] e

pub below_shorter : (limit : ℕ) (bytes : List ℕ) (x : ℕ × List ℕ) → number_below limit bytes ≡ Some x → length x.1 < length bytes
below_shorter limit bytes x e =
    let a = bind_some (number_at bytes) (λ m. cond (ltb m.0 limit) (Some m) None) x e in
    let p = pass_some (ltb a.0.0 limit) a.0 x a.2 in
    omega (arith, number_shorter bytes a.0 a.1, ap (λ (y : ℕ × List ℕ). length y.1) p.1)

pass_both : {A : Type 0} (b c : Bool) (x y : A) → cond b (cond c (Some x) None) None ≡ Some y → x ≡ y
pass_both true true x y e = cc
pass_both true false x y e = absurd cc
pass_both false c x y e = absurd cc

-- a checkpoint takes two bytes
pub step_takes : (doc byte : ℕ) (bytes : List ℕ) (x : Checkpoint × List ℕ) → step_at doc byte bytes ≡ Some x → 2 + length x.1 ≤ length bytes
unfolding step_at
step_takes doc byte bytes x e =
    let a = bind_some (number_below (2 ^ 32) bytes) (λ docs. number_below (2 ^ 32) docs.1 >>= λ len. cond (ltb (doc + docs.0) (2 ^ 32))
    (cond (ltb (byte + len.0) (2 ^ 64)) (Some (checkpoint doc (doc + docs.0) byte (byte + len.0), len.1)) None) None) x e in
    let docs = a.0.0 in
    let b = bind_some (number_below (2 ^ 32) a.0.1) (λ len. cond (ltb (doc + docs) (2 ^ 32))
    (cond (ltb (byte + len.0) (2 ^ 64)) (Some (checkpoint doc (doc + docs) byte (byte + len.0), len.1)) None) None) x a.2 in
    let len = b.0.0 in
    let p = pass_both (ltb (doc + docs) (2 ^ 32)) (ltb (byte + len) (2 ^ 64)) (checkpoint doc (doc + docs) byte (byte + len), b.0.1) x b.2 in
    omega (arith, below_shorter (2 ^ 32) bytes a.0 a.1, below_shorter (2 ^ 32) a.0.1 b.0 b.1, ap (λ (y : Checkpoint × List ℕ). length y.1) p)

step_shorter : (doc byte : ℕ) (bytes : List ℕ) (x : Checkpoint × List ℕ) → step_at doc byte bytes ≡ Some x → length x.1 < length bytes
step_shorter doc byte bytes x e = omega (arith, step_takes doc byte bytes x e)

pub heading_shorter : (bytes : List ℕ) (x : Heading × List ℕ) → heading_at bytes ≡ Some x → length x.1 < length bytes
unfolding heading_at
heading_shorter bytes x e =
    let none : Heading = record { count = 0; doc = 0; byte = 0 } in
    let a = bind_some (number_below (2 ^ 64) bytes) (λ count. cond (eqb count.0 0) (Some (none, count.1)) (cond (ltb (length count.1 / 2) count.0) None
    (number_below (2 ^ 32) count.1 >>= λ doc. number_below (2 ^ 64) doc.1 >>= λ byte. Some (record { count = count.0; doc = doc.0; byte = byte.0 }, byte.1)))) x e in
    let one = below_shorter (2 ^ 64) bytes a.0 a.1 in
    let two = inner a.0.0 a.0.1 x (eqb a.0.0 0) (ltb (length a.0.1 / 2) a.0.0) a.2 in
    omega (arith, one, two)
  where
    inner : (count : ℕ) (rest : List ℕ) (x : Heading × List ℕ) (u v : Bool) → cond u (Some (record { count = 0; doc = 0; byte = 0 }, rest)) (cond v None
        (number_below (2 ^ 32) rest >>= λ doc. number_below (2 ^ 64) doc.1 >>= λ byte. Some (record { count = count; doc = doc.0; byte = byte.0 }, byte.1))) ≡ Some x → length x.1 ≤ length rest
    inner count rest x true v e = omega (arith, ap (λ (y : Heading × List ℕ). length y.1) (some_is (record { count = 0; doc = 0; byte = 0 }, rest) x e))
    inner count rest x false true e = absurd (cc)
    inner count rest x false false e =
        let p = bind_some (number_below (2 ^ 32) rest) (λ doc. number_below (2 ^ 64) doc.1 >>= λ byte. Some (record { count = count; doc = doc.0; byte = byte.0 }, byte.1)) x e in
        let q = bind_some (number_below (2 ^ 64) p.0.1) (λ byte. Some (record { count = count; doc = p.0.0; byte = byte.0 }, byte.1)) x p.2 in
        omega (
          arith,
          below_shorter (2 ^ 32) rest p.0 p.1,
          below_shorter (2 ^ 64) p.0.1 q.0 q.1,
          ap (λ (y : Heading × List ℕ). length y.1) (some_is (record { count = count; doc = p.0.0; byte = q.0.0 }, q.0.1) x q.2),
        )

in_block_shorter : (left doc byte : ℕ) (bytes : List ℕ) (x : Checkpoint × ℕ × List ℕ) → next_in_block left doc byte bytes ≡ Some x → length x.2 < length bytes
unfolding next_in_block
in_block_shorter zero doc byte bytes x e = absurd (cc)
in_block_shorter (suc left) doc byte bytes x e =
    let a = bind_some (step_at doc byte bytes) (λ c. Some (c.0, left, c.1)) x e in
    omega (arith, step_shorter doc byte bytes a.0 a.1, ap (λ (y : Checkpoint × ℕ × List ℕ). length y.2) (some_is (a.0.0, left, a.0.1) x a.2))

pub next_shorter : (left doc byte : ℕ) (bytes : List ℕ) (x : Checkpoint × ℕ × List ℕ) → next_at left doc byte bytes ≡ Some x → length x.2 < length bytes
unfolding next_at
next_shorter zero doc byte bytes x e =
    let a = bind_some (heading_at bytes) (λ h. next_in_block h.0.count h.0.doc h.0.byte h.1) x e in
    omega (arith, heading_shorter bytes a.0 a.1, in_block_shorter a.0.0.count a.0.0.doc a.0.0.byte a.0.1 x a.2)
next_shorter (suc left) doc byte bytes x e = in_block_shorter (suc left) doc byte bytes x e

-- ---- one step

abbrev items_of : ℕ → Option (Checkpoint × ℕ × List ℕ) → List Checkpoint
items_of more o = option_map_or (λ n. n.0 ∷ items_within more n.1 n.0.doc_range.end n.0.byte_range.end n.2) o []

same_of : (f g : ℕ) (o : Option (Checkpoint × ℕ × List ℕ)) → ((x : Checkpoint × ℕ × List ℕ) → o ≡ Some x
    → items_within f x.1 x.0.doc_range.end x.0.byte_range.end x.2 ≡ items_within g x.1 x.0.doc_range.end x.0.byte_range.end x.2) → items_of f o ≡ items_of g o
same_of f g None h = refl
same_of f g (Some x) h = ap (λ (cs : List Checkpoint). x.0 ∷ cs) (h x refl)

none_of : (g : ℕ) (o : Option (Checkpoint × ℕ × List ℕ)) → ((x : Checkpoint × ℕ × List ℕ) → o ≡ Some x → ⊥) → items_of g o ≡ []
none_of g None h = refl
none_of g (Some x) h = absurd (h x refl)

-- enough turns are as good as more
turns : (f g left doc byte : ℕ) (bytes : List ℕ) → length bytes ≤ f → length bytes ≤ g → items_within f left doc byte bytes ≡ items_within g left doc byte bytes
unfolding items_within
turns zero zero left doc byte bytes p q = refl
turns zero (suc g) left doc byte bytes p q = sym (none_of g (next_at left doc byte bytes) (λ x e. omega (arith, next_shorter left doc byte bytes x e)))
turns (suc f) zero left doc byte bytes p q = none_of f (next_at left doc byte bytes) (λ x e. omega (arith, next_shorter left doc byte bytes x e))
turns (suc f) (suc g) left doc byte bytes p q =
    same_of f g (next_at left doc byte bytes) (λ x e. turns f g x.1 x.0.doc_range.end x.0.byte_range.end x.2 (omega (arith, next_shorter left doc byte bytes x e))
    (omega (arith, next_shorter left doc byte bytes x e)))

-- what a reading gives, and then the others
abbrev pub items_after : Option (Checkpoint × ℕ × List ℕ) → List Checkpoint
items_after o = option_map_or (λ n. n.0 ∷ items n.1 n.0.doc_range.end n.0.byte_range.end n.2) o []

step_of : (left doc byte : ℕ) (bytes : List ℕ) → items_within (suc (length bytes)) left doc byte bytes ≡ items_of (length bytes) (next_at left doc byte bytes)
unfolding items_within
step_of left doc byte bytes = refl

after_of : (k : ℕ) (o : Option (Checkpoint × ℕ × List ℕ)) → ((x : Checkpoint × ℕ × List ℕ) → o ≡ Some x → length x.2 ≤ k) → items_of k o ≡ items_after o
unfolding items
after_of k None h = refl
after_of k (Some x) h = ap (λ (cs : List Checkpoint). x.0 ∷ cs) (turns k (length x.2) x.1 x.0.doc_range.end x.0.byte_range.end x.2 (h x refl) (omega arith))

widened : (left doc byte : ℕ) (bytes : List ℕ) → items left doc byte bytes ≡ items_within (suc (length bytes)) left doc byte bytes
unfolding items
widened left doc byte bytes = turns (length bytes) (suc (length bytes)) left doc byte bytes (omega arith) (omega arith)

pub items_next : (left doc byte : ℕ) (bytes : List ℕ) → items left doc byte bytes ≡ items_after (next_at left doc byte bytes)
items_next left doc byte bytes =
    widened left doc byte bytes ∙ step_of left doc byte bytes ∙ after_of (length bytes) (next_at left doc byte bytes) (λ x e. omega (arith, next_shorter left doc byte bytes x e))

-- ---- the text of a layer

-- after a block it does not matter where the block ended
next_anew : (d b : ℕ) (bytes : List ℕ) → next_at 0 d b bytes ≡ next_at 0 0 0 bytes
unfolding next_at
next_anew d b bytes = refl

pub items_anew : (d b : ℕ) (bytes : List ℕ) → items 0 d b bytes ≡ items 0 0 0 bytes
items_anew d b bytes = items_next 0 d b bytes ∙ ap items_after (next_anew d b bytes) ∙ sym (items_next 0 0 0 bytes)

next_is_step : (left doc byte : ℕ) (bytes : List ℕ) → next_at (suc left) doc byte bytes ≡ (step_at doc byte bytes >>= λ c. Some (c.0, left, c.1))
unfolding next_at next_in_block
next_is_step left doc byte bytes = refl

-- one checkpoint of a block, and then the others
pub items_step : (left doc byte : ℕ) (bytes : List ℕ) (c : Checkpoint) (rest : List ℕ) → step_at doc byte bytes ≡ Some (c, rest)
    → items (suc left) doc byte bytes ≡ c ∷ items left c.doc_range.end c.byte_range.end rest
items_step left doc byte bytes c rest e =
    let next : next_at (suc left) doc byte bytes ≡ Some (c, left, rest) = next_is_step left doc byte bytes ∙ rw e refl in
    items_next (suc left) doc byte bytes ∙ ap items_after next

-- the same in a loop, and where it ends
pub items_left : (count i doc byte : ℕ) (bytes : List ℕ) (c : Checkpoint) (rest : List ℕ) → i < count → step_at doc byte bytes ≡ Some (c, rest)
    → items (count - i) doc byte bytes ≡ c ∷ items (count - (i + 1)) c.doc_range.end c.byte_range.end rest
items_left count i doc byte bytes c rest lt e =
    let k : count - i ≡ suc (count - (i + 1)) = omega arith in
    ap (λ (n : ℕ). items n doc byte bytes) k ∙ items_step (count - (i + 1)) doc byte bytes c rest e

pub items_over : (count i doc byte : ℕ) (bytes : List ℕ) → count ≤ i → items (count - i) doc byte bytes ≡ items 0 0 0 bytes
items_over count i doc byte bytes le =
    let k : count - i ≡ 0 = omega arith in
    ap (λ (n : ℕ). items n doc byte bytes) k ∙ items_anew doc byte bytes

pub items_steps : (doc byte : ℕ) (cs : List Checkpoint) (rest : List ℕ) → IsInLineFrom doc byte cs → items (length cs) doc byte (flat_map step cs ++ rest) ≡ cs ++ items 0 0 0 rest
items_steps doc byte [] rest h = items_anew doc byte rest
items_steps doc byte (c ∷ cs) rest h =
    let following = flat_map step cs ++ rest in
    let first : step_at doc byte (step c ++ following) ≡ Some (c, following) = (λ i. step_at (sym h.0 i) (sym h.1 i) (step c ++ following)) ∙ step_again c following h.2 in
    ap (items (suc (length cs)) doc byte) (append_assoc (step c) (flat_map step cs) rest)
    ∙ items_step (length cs) doc byte (step c ++ following) c following first
    ∙ ap (λ (xs : List Checkpoint). c ∷ xs) (items_steps c.doc_range.end c.byte_range.end cs rest h.3)

next_of_heading : (d b : ℕ) (bytes : List ℕ) (h : Heading) (rest : List ℕ) (left : ℕ) → heading_at bytes ≡ Some (h, rest) → h.count ≡ suc left → next_at 0 d b bytes ≡ next_at h.count h.doc h.byte rest
unfolding next_at
next_of_heading d b bytes h rest left e some = rw (e, some) refl

-- the checkpoints of a block after its heading
pub items_heading : (d b : ℕ) (bytes : List ℕ) (h : Heading) (rest : List ℕ) → heading_at bytes ≡ Some (h, rest) → 0 < h.count → items 0 d b bytes ≡ items h.count h.doc h.byte rest
items_heading d b bytes h rest e some = by_count h.count refl some
  where
    by_count : (n : ℕ) → h.count ≡ n → 0 < n → items 0 d b bytes ≡ items h.count h.doc h.byte rest
    by_count zero same lt = absurd (omega arith)
    by_count (suc left) same lt = items_next 0 d b bytes ∙ ap items_after (next_of_heading d b bytes h rest left e same) ∙ sym (items_next h.count h.doc h.byte rest)

pub items_block : (d b : ℕ) (cs : List Checkpoint) (rest : List ℕ) → 0 < length cs → IsInLine cs → length cs < 2 ^ 64 → items 0 d b (checkpoint_block cs ++ rest) ≡ cs ++ items 0 0 0 rest
items_block d b [] rest some h few = absurd (omega arith)
items_block d b (c ∷ cs) rest some h few =
    let doc = c.doc_range.start in
    let byte = c.byte_range.start in
    let heading : Heading = record { count = length (c ∷ cs); doc = doc; byte = byte } in
    let steps = flat_map step (c ∷ cs) ++ rest in
    items_heading d b (checkpoint_block (c ∷ cs) ++ rest) heading steps (heading_again c cs rest h few) (omega arith)
    ∙ items_steps doc byte (c ∷ cs) rest h

next_none : (d b : ℕ) → next_at 0 d b [] ≡ None
unfolding next_at heading_at number_at
next_none d b = refl

pub items_none : (d b : ℕ) → items 0 d b [] ≡ []
items_none d b = items_next 0 d b [] ∙ ap items_after (next_none d b)

-- the joined blocks of runs give the runs joined
pub items_runs : (period d b : ℕ) (gs : List (List Checkpoint)) → period ≤ 64 → AllByRecursion (IsRun period) gs → items 0 d b (flat_map checkpoint_block gs) ≡ flat_map (λ g. g) gs
items_runs period d b [] small runs = items_none d b
items_runs period d b (g ∷ gs) small runs =
    items_block d b g (flat_map checkpoint_block gs) runs.0.some runs.0.in_line (omega (arith, runs.0.few))
    ∙ ap (λ (cs : List Checkpoint). g ++ cs) (items_runs period 0 0 gs small runs.1)

-- the text of a layer gives the layer
pub items_layer : (period : ℕ) (cs : List Checkpoint) → 1 ≤ period → period ≤ 64 → IsInLine cs → items 0 0 0 (layer_text period cs) ≡ cs
items_layer period cs one small h =
    let from = in_line_somewhere cs h in
    items_runs period 0 0 (groups period cs) small (groups_are_runs period from.0 from.1 cs one from.2) ∙ groups_joined period cs one
