-- The top layer of an index, which tells where the documents end, and the bottom layer, which has its checkpoints.
use Rattle.std.proofs.Common.{◌≡◌, ℕ, zero, suc, ◌+◌, ◌-◌, ◌<◌, ◌≤◌, ◌^◌, inl, inr, List, [], ◌∷◌, ◌++◌, length, Option, Some, None, refl, sym, ◌∙◌, ap, subst, arith}
use Rattle.std.proofs.lemmas.List.{append-nil}
use Rattle.std.specs.Prelude.{Result, Ok}
use Rattle.store_base.specs.declared.error.StoreError.{StoreError}
use Rattle.std.specs.List.{flat_map, AllByRecursion}
use Rattle.store_base.specs.ReadingLemmas.{some_is}
use Rattle.layered_index.specs.declared.checkpoint.Checkpoint.{Checkpoint}
use Rattle.layered_index.specs.Checkpoint.{docs_end, IsInLineFrom, IsInLine, step, checkpoint_block}
use Rattle.layered_index.specs.Layers.{groups, layer_text, pointers, layer_above, digit_count}
use Rattle.layered_index.specs.IndexReading.{IsIndexPart}
use Rattle.layered_index.specs.LayerReading.{items}
use Rattle.layered_index.proofs.LineLemmas.{in_line_somewhere}
use Rattle.layered_index.specs.Sought.{IsFoundAbove, next_layer, IsHeaded}
use Rattle.layered_index.specs.declared.run_reading.Heading.{Heading}
use Rattle.layered_index.proofs.SoughtLemmas.{heading_of_run}
use Rattle.layered_index.proofs.BlockReadingLemmas.{step_again}
use Rattle.layered_index.specs.BlockReading.{step_at, heading_at}
use Rattle.layered_index.proofs.IndexLemmas.{no_layers}
use Rattle.layered_index.proofs.DigitLemmas.{below_digits}
use Rattle.layered_index.proofs.LayerLemmas.{layer_above_is_in_line}
use Rattle.std.proofs.lemmas.Bool.{cases_lt}
use Rattle.layered_index.proofs.CursorLemmas.{items_layer, items_none}
use Rattle.layered_index.proofs.GroupLemmas.{groups_joined}
use Rattle.layered_index.proofs.RunLemmas.{IsRun, groups_are_runs}
use Rattle.layered_index.proofs.OpenLemmas.{small_texts}
use Rattle.layered_index.proofs.IndexHeadLemmas.{none_is_some, head_digits}
use Rattle.layered_index.proofs.LowerLemmas.{AreSmall, lower_first, lower_there, lower_next}
use Rattle.layered_index.proofs.OutlineLemmas.{at_in_line, some_at, some_digits, few_at}
use Rattle.layered_index.specs.Rows.{layer_at}

-- ---- where the documents end

pub docs_end-append : (doc : ℕ) (xs ys : List Checkpoint) → docs_end doc (xs ++ ys) ≡ docs_end (docs_end doc xs) ys
docs_end-append doc [] ys = refl
docs_end-append doc (x ∷ xs) ys = docs_end-append x.doc_range.end xs ys

docs_end-pointers : (period doc place : ℕ) (gs : List (List Checkpoint)) → AllByRecursion (IsRun period) gs → docs_end doc (pointers place gs) ≡ docs_end doc (flat_map (λ g. g) gs)
docs_end-pointers period doc place [] runs = refl
docs_end-pointers period doc place ([] ∷ gs) runs = absurd (omega (arith, runs.0.some))
docs_end-pointers period doc place ((c ∷ cs) ∷ gs) runs =
    docs_end-pointers period (docs_end c.doc_range.end cs) (place + length (checkpoint_block (c ∷ cs))) gs runs.1 ∙ sym (docs_end-append c.doc_range.end cs (flat_map (λ (g : List Checkpoint). g) gs))

docs_end-above : (period : ℕ) (cs : List Checkpoint) → 1 ≤ period → IsInLine cs → docs_end 0 (layer_above period cs) ≡ docs_end 0 cs
docs_end-above period cs one h =
    let from = in_line_somewhere cs h in
    docs_end-pointers period 0 0 (groups period cs) (groups_are_runs period from.0 from.1 cs one from.2) ∙ ap (docs_end 0) (groups_joined period cs one)

-- the text of a layer of one run, whose documents end there
pub record IsTop (period : ℕ) (end : ℕ) (text : List ℕ) : Type 0 where
  pub list : List Checkpoint
  pub in_line : IsInLine list
  pub is_text : text ≡ layer_text period list
  pub one_run : IsFoundAbove period 0 None list
  pub docs : docs_end 0 list ≡ end

docs_end_at : (period height count : ℕ) (cs : List Checkpoint) → 1 ≤ period → period ≤ 64 → height ≤ count → IsInLine cs → AreSmall period count cs
    → docs_end 0 (layer_at period height cs) ≡ docs_end 0 cs
docs_end_at period zero count cs one small le h all = refl
docs_end_at period (suc height) zero cs one small le h all = absurd (omega arith)
docs_end_at period (suc height) (suc count) cs one small le h all =
    docs_end_at period height count (layer_above period cs) one small (omega arith) (layer_above_is_in_line period cs one small h all.0) all.1 ∙ docs_end-above period cs one h

-- an index without layers is that of no checkpoints
pub head_none : (period : ℕ) (bytes : List ℕ) (count : ℕ) (ends texts : List ℕ) (cs : List Checkpoint) → IsHeaded period bytes count ends texts → count ≡ 0 → IsIndexPart period bytes cs → cs ≡ []
head_none period bytes count ends texts cs head none is = no_layers period cs head.two (sym (head_digits period bytes count ends texts cs head is) ∙ none)

-- there is a top layer
pub top_there : (period : ℕ) (bytes : List ℕ) (count : ℕ) (ends texts : List ℕ) (cs : List Checkpoint) → IsHeaded period bytes count ends texts → length bytes < 2 ^ 64 → (count ≡ 0 → ⊥)
    → IsIndexPart period bytes cs → next_layer 0 ends texts ≡ None → ⊥
top_there period bytes count ends texts cs head fits some is = lower_there period count 0 ends texts cs (omega (arith, some)) (lower_first period bytes count ends texts cs head fits is)

pub top_is : (period : ℕ) (bytes : List ℕ) (count : ℕ) (ends texts : List ℕ) (cs : List Checkpoint) (top : List ℕ) (following : ℕ) (more_ends more : List ℕ) → IsHeaded period bytes count ends texts
    → length bytes < 2 ^ 64 → (count ≡ 0 → ⊥) → IsIndexPart period bytes cs → next_layer 0 ends texts ≡ Some (top, following, more_ends, more) → IsTop period (docs_end 0 cs) top
top_is period bytes count ends texts cs top following more_ends more head fits some is e =
    let digits = head_digits period bytes count ends texts cs head is in
    let left = lower_first period bytes count ends texts cs head fits is in
    let all = small_texts period (2 ^ 64) bytes cs fits is in
    let within : count - 1 ≤ digit_count period (length cs) = omega (arith, digits) in
    let filled = some_digits period (count - 1) cs (omega (arith, digits, some)) in
    let power : digit_count period (length cs) ≡ suc (count - 1) = omega (arith, digits, some) in
    let few : length cs < period ^ suc (count - 1) = subst (λ (d : ℕ). length cs < period ^ d) power (below_digits period (length cs) head.two) in
    let two = head.two in
    record {
      list = layer_at period (count - 1) cs;
      in_line = at_in_line period (count - 1) (digit_count period (length cs)) cs (omega (arith, two)) head.few within is.0 all;
      is_text = (lower_next period count 0 ends texts top following more_ends more cs (omega (arith, some)) left e).text;
      one_run = (some_at period (count - 1) cs (omega (arith, two)) filled, few_at period (count - 1) cs (omega (arith, two)) (omega (arith, few)));
      docs = docs_end_at period (count - 1) (digit_count period (length cs)) cs (omega (arith, two)) head.few within is.0 all;
    }

-- ---- the bottom layer

-- the last layer that is passed gives the list
pub bottom_gives : (period : ℕ) (bytes bottom : List ℕ) (cs : List Checkpoint) → 2 ≤ period → period ≤ 64 → IsIndexPart period bytes cs
    → (0 < digit_count period (length cs) → bottom ≡ layer_text period cs) → (0 ≡ digit_count period (length cs) → bottom ≡ []) → items 0 0 0 bottom ≡ cs
bottom_gives period bytes bottom cs two small is some none = elim (cases_lt 0 (digit_count period (length cs))) [
  | inl lt ↦ ap (items 0 0 0) (some lt) ∙ items_layer period cs (omega arith) small is.0
  | inr le ↦
      let zero_digits : digit_count period (length cs) ≡ 0 = omega (arith, le) in
      ap (items 0 0 0) (none (sym zero_digits)) ∙ items_none 0 0 ∙ sym (no_layers period cs two zero_digits)
]

pub end_is : (a b : ℕ) → a ≡ b → ◌≡◌ {A = Result ℕ StoreError} (Ok a) (Ok b)
end_is a b e = ap (λ (n : ℕ). Ok n) e

-- ---- the block of the top layer

-- the steps that are left of a block whose documents end there
pub record AreSteps (doc byte count : ℕ) (bytes : List ℕ) (end : ℕ) : Type 0 where
  pub left : List Checkpoint
  pub line : IsInLineFrom doc byte left
  pub text : bytes ≡ flat_map step left
  pub counted : length left ≡ count
  pub docs : docs_end doc left ≡ end

-- what is read of the heading of a block
pub record IsHeadOf (cs : List Checkpoint) (read : Option (Heading × List ℕ)) : Type 0 where
  pub heading : Heading
  pub rest : List ℕ
  pub is : read ≡ Some (heading, rest)
  pub count : heading.count ≡ length cs
  pub steps : AreSteps heading.doc heading.byte heading.count rest (docs_end 0 cs)

pub head_of : (cs : List Checkpoint) (bytes : List ℕ) → IsInLine cs → 0 < length cs → length cs ≤ 64 → bytes ≡ checkpoint_block cs → IsHeadOf cs (heading_at bytes)
head_of [] bytes h some few text = absurd (omega arith)
head_of (c ∷ cs) bytes h some few text = record {
  heading = record { count = length (c ∷ cs); doc = c.doc_range.start; byte = c.byte_range.start };
  rest = flat_map step (c ∷ cs) ++ [];
  is = ap heading_at text ∙ heading_of_run c cs h (omega arith);
  count = refl;
  steps = record { left = c ∷ cs; line = h; text = append-nil (flat_map step (c ∷ cs)); counted = refl; docs = refl };
}

pub head_is : (cs : List Checkpoint) (read : Option (Heading × List ℕ)) (h : Heading) (rest : List ℕ) → IsHeadOf cs read → read ≡ Some (h, rest)
    → (h.count ≡ length cs) × AreSteps h.doc h.byte h.count rest (docs_end 0 cs)
head_is cs read h rest is e =
    subst (λ (x : Heading × List ℕ). (x.0.count ≡ length cs) × AreSteps x.0.doc x.0.byte x.0.count x.1 (docs_end 0 cs)) (some_is (is.heading, is.rest) (h, rest) (sym is.is ∙ e)) (is.count, is.steps)

-- one more is read
record NextStep (doc byte count : ℕ) (bytes : List ℕ) (end : ℕ) : Type 0 where
  next : Checkpoint
  rest : List ℕ
  is : step_at doc byte bytes ≡ Some (next, rest)
  others : AreSteps next.doc_range.end next.byte_range.end (count - 1) rest end

next_step : (doc byte count : ℕ) (bytes : List ℕ) (end : ℕ) → 0 < count → AreSteps doc byte count bytes end → NextStep doc byte count bytes end
next_step doc byte count bytes end some are = by_left are.left are.line are.text are.counted are.docs
  where
    by_left : (left : List Checkpoint) → IsInLineFrom doc byte left → bytes ≡ flat_map step left → length left ≡ count → docs_end doc left ≡ end → NextStep doc byte count bytes end
    by_left [] line text counted docs = absurd (omega arith)
    by_left (c ∷ left) line text counted docs = record {
      next = c;
      rest = flat_map step left;
      is = ap (step_at doc byte) text ∙ (λ i. step_at (sym line.0 i) (sym line.1 i) (step c ++ flat_map step left)) ∙ step_again c (flat_map step left) line.2;
      others = record { left = left; line = line.3; text = refl; counted = omega arith; docs = docs };
    }

pub steps_there : (doc byte count i : ℕ) (bytes : List ℕ) (end : ℕ) → i < count → AreSteps doc byte (count - i) bytes end → step_at doc byte bytes ≡ None → ⊥
steps_there doc byte count i bytes end lt are none = none_is_some (step_at doc byte bytes) none (next_step doc byte (count - i) bytes end (omega arith) are).is

pub steps_on : (doc byte count i : ℕ) (bytes : List ℕ) (end : ℕ) (c : Checkpoint) (rest : List ℕ) → i < count → AreSteps doc byte (count - i) bytes end → step_at doc byte bytes ≡ Some (c, rest)
    → AreSteps c.doc_range.end c.byte_range.end (count - (i + 1)) rest end
steps_on doc byte count i bytes end c rest lt are e =
    let next = next_step doc byte (count - i) bytes end (omega arith) are in
    let one_less : count - i - 1 ≡ count - (i + 1) = omega arith in
    subst (λ (x : Checkpoint × List ℕ). AreSteps x.0.doc_range.end x.0.byte_range.end (count - (i + 1)) x.1 end) (some_is (next.next, next.rest) (c, rest) (sym next.is ∙ e))
    (subst (λ (n : ℕ). AreSteps next.next.doc_range.end next.next.byte_range.end n next.rest end) one_less next.others)
