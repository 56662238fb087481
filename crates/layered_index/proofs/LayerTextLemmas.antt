-- The text of a layer is counted and pointed at as the layer is, and what is counted is the text of a layer.
use Rattle.std.proofs.Common.{◌≡◌, ℕ, zero, suc, ◌+◌, ◌-◌, ◌<◌, ◌≤◌, ◌^◌, ◌⊎◌, inl, inr, Bool, true, false, cond, eqb, ◌&&◌, ◌||◌, eq-eqb, List, [], ◌∷◌, ◌++◌, length, take, drop, Option, Some, None}
use Rattle.std.proofs.Common.{refl, sym, ◌∙◌, ap, subst, arith, length-append}
use Rattle.std.proofs.lemmas.Bool.{cases_lt, eqb-true, cond-true, lt-ltb, le-leb, ltb-true, leb-true, and_parts}
use Rattle.std.proofs.lemmas.List.{take-append-drop, length-take, append-nil, drop_all}
use Rattle.std.specs.Prelude.{IsSome}
use Rattle.std.specs.List.{flat_map, AllByRecursion}
use Rattle.std.specs.Option.{option_map_or}
use Rattle.store_base.specs.VInt.{◌>>=◌}
use Rattle.store_base.specs.ReadingLemmas.{bind_some, some_is, SplitsOff}
use Rattle.store_base.specs.Serialize.{IsBytes}
use Rattle.layered_index.specs.declared.checkpoint.Checkpoint.{Checkpoint}
use Rattle.layered_index.specs.declared.run_reading.Heading.{Heading}
use Rattle.layered_index.specs.declared.layers.Run.{Run}
use Rattle.layered_index.specs.Checkpoint.{checkpoint, docs_end, bytes_end, IsInLineFrom, IsInLine, step, checkpoint_block}
use Rattle.layered_index.specs.Layers.{groups, layer_text, pointers, layer_above}
use Rattle.layered_index.specs.BlockReading.{steps_at, heading_at, ends_of, run_at}
use Rattle.layered_index.specs.LayerReading.{may_stand, len_from, len_at, pointers_at}
use Rattle.layered_index.specs.Faults.{standing_from, PassedTo, BreaksAt}
use Rattle.layered_index.proofs.FaultLemmas.{passed_here}
use Rattle.layered_index.proofs.BlockReadingLemmas.{heading_again, heading_read, steps_again, steps_read, some_block}
use Rattle.layered_index.proofs.CheckpointLemmas.{block_some}
use Rattle.layered_index.proofs.GroupLemmas.{groups_none, groups_more, by_runs}
use Rattle.layered_index.proofs.GrowthLemmas.{groups_one, groups-append}
use Rattle.layered_index.proofs.LineLemmas.{in_line-split, in_line-join, in_line_from, in_line_somewhere}
use Rattle.layered_index.proofs.RunLemmas.{IsRun, groups_are_runs}
use Rattle.layered_index.proofs.WalkLemmas.{run_takes, plus, len_then, len_from_none, len_from_some, pointers_after, pointers_next, pointers_end}

-- ---- one run

-- a run in short
abbrev pub run_of : List Checkpoint → Run
run_of [] = record { count = 0; doc = 0; byte = 0; doc_end = 0; byte_end = 0 }
run_of (c ∷ cs) = record { count = length (c ∷ cs); doc = c.doc_range.start; byte = c.byte_range.start; doc_end = docs_end c.doc_range.end cs; byte_end = bytes_end c.byte_range.end cs }

pub record IsInShort (doc byte : ℕ) (g : List Checkpoint) (r : Run) : Type 0 where
  pub counted : r.count ≡ length g
  pub docs : r.doc ≡ doc
  pub bytes : r.byte ≡ byte
  pub docs_done : r.doc_end ≡ docs_end doc g
  pub bytes_done : r.byte_end ≡ bytes_end byte g

pub in_short : (doc byte : ℕ) (g : List Checkpoint) → 0 < length g → IsInLineFrom doc byte g → IsInShort doc byte g (run_of g)
in_short doc byte [] some h = absurd (omega arith)
in_short doc byte (c ∷ cs) some h = record { counted = refl; docs = h.0; bytes = h.1; docs_done = refl; bytes_done = refl }

run_by : (c : Checkpoint) (cs : List Checkpoint) (rest bytes steps : List ℕ) → heading_at bytes ≡ Some (record { count = length (c ∷ cs); doc = c.doc_range.start; byte = c.byte_range.start }, steps)
    → steps_at (length (c ∷ cs)) c.doc_range.start c.byte_range.start steps ≡ Some (c ∷ cs, rest) → run_at bytes ≡ Some (run_of (c ∷ cs), rest)
unfolding run_at
run_by c cs rest bytes steps e f = rw (e, f) refl

pub run_again : (g : List Checkpoint) (rest : List ℕ) → 0 < length g → length g < 2 ^ 64 → IsInLine g → run_at (checkpoint_block g ++ rest) ≡ Some (run_of g, rest)
run_again [] rest some few h = absurd (omega arith)
run_again (c ∷ cs) rest some few h =
    run_by c cs rest (checkpoint_block (c ∷ cs) ++ rest) (flat_map step (c ∷ cs) ++ rest) (heading_again c cs rest h few) (steps_again c.doc_range.start c.byte_range.start (c ∷ cs) rest h)

-- a run that was read
pub record ReadsRun (bytes : List ℕ) (r : Run) (rest : List ℕ) : Type 0 where
  pub run : List Checkpoint
  pub runs : IsInLineFrom r.doc r.byte run
  pub short : IsInShort r.doc r.byte run r
  pub takes : SplitsOff bytes (checkpoint_block run) rest

pub run_read : (bytes : List ℕ) (r : Run) (rest : List ℕ) → IsBytes bytes → 0 < r.count → run_at bytes ≡ Some (r, rest) → ReadsRun bytes r rest
unfolding run_at
run_read bytes r rest fits some e =
    let a = bind_some (heading_at bytes) (λ h. ends_of h.0.doc h.0.byte (steps_at h.0.count h.0.doc h.0.byte h.1) >>= λ e. Some
    (record { count = h.0.count; doc = h.0.doc; byte = h.0.byte; doc_end = e.0; byte_end = e.1 }, e.2)) (r, rest) e in
    let h = a.0.0 in
    let b = bind_some (ends_of h.doc h.byte (steps_at h.count h.doc h.byte a.0.1)) (λ e. Some (record { count = h.count; doc = h.doc; byte = h.byte; doc_end = e.0; byte_end = e.1 }, e.2)) (
      r,
      rest,
    ) a.2 in
    let s = bind_some (steps_at h.count h.doc h.byte a.0.1) (λ y. Some (docs_end h.doc y.0, bytes_end h.byte y.0, y.1)) b.0 b.1 in
    let made : Run = record { count = h.count; doc = h.doc; byte = h.byte; doc_end = docs_end h.doc s.0.0; byte_end = bytes_end h.byte s.0.0 } in
    let ends = some_is (docs_end h.doc s.0.0, bytes_end h.byte s.0.0, s.0.1) b.0 s.2 in
    let same : (made, s.0.1) ≡ (r, rest) = (λ i. (record { count = h.count; doc = h.doc; byte = h.byte; doc_end = (ends i).0; byte_end = (ends i).1 }, (ends i).2))
    ∙ some_is (record { count = h.count; doc = h.doc; byte = h.byte; doc_end = b.0.0; byte_end = b.0.1 }, b.0.2) (r, rest) b.2 in
    let counts : h.count ≡ r.count = ap (λ (x : Run × List ℕ). x.0.count) same in
    elim (heading_read bytes h a.0.1 fits a.1) [
      | inl none ↦ absurd (omega (arith, none.none))
      | inr more ↦
          let steps = steps_read h.count h.doc h.byte a.0.1 s.0.0 s.0.1 more.takes_byte.rest_fits s.1 in
          let block = some_block h.count h.doc h.byte bytes more.after_count more.after_doc a.0.1 s.0.0 s.0.1 more.some more.few more.takes_count more.takes_doc more.takes_byte steps in
          let whole : ReadsRun bytes made s.0.1 = record {
            run = s.0.0;
            runs = steps.runs;
            short = record { counted = sym steps.counted; docs = refl; bytes = refl; docs_done = refl; bytes_done = refl };
            takes = block.takes;
          } in
          subst (λ (x : Run × List ℕ). ReadsRun bytes x.0 x.1) same whole
    ]

-- ---- the pointers

-- nothing points into no bytes
pub pointers_none : (place : ℕ) → pointers_at place [] ≡ []
pointers_none place = pointers_end place [] refl

pub pointers_again : (period place : ℕ) (gs : List (List Checkpoint)) → period ≤ 64 → AllByRecursion (IsRun period) gs → pointers_at place (flat_map checkpoint_block gs) ≡ pointers place gs
pointers_again period place [] small runs = pointers_none place
pointers_again period place ([] ∷ gs) small runs = absurd (omega (arith, runs.0.some))
pointers_again period place ((c ∷ cs) ∷ gs) small runs =
    let block = checkpoint_block (c ∷ cs) in
    let more = flat_map checkpoint_block gs in
    let places : place + (length (block ++ more) - length more) ≡ place + length block = omega (arith, length-append block more) in
    pointers_next place (block ++ more)
    ∙ ap (pointers_after place (length (block ++ more))) (run_again (c ∷ cs) more runs.0.some (omega (arith, runs.0.few)) runs.0.in_line)
    ∙ (λ i. checkpoint c.doc_range.start (docs_end c.doc_range.end cs) place (places i) ∷ pointers_at (places i) more)
    ∙ ap (λ (ps : List Checkpoint). checkpoint c.doc_range.start (docs_end c.doc_range.end cs) place (place + length block) ∷ ps) (pointers_again period (place + length block) gs small runs.1)

-- the text of a layer is pointed at as the layer above points
pub pointers_layer : (period : ℕ) (cs : List Checkpoint) → 1 ≤ period → period ≤ 64 → IsInLine cs → pointers_at 0 (layer_text period cs) ≡ layer_above period cs
pointers_layer period cs one small h =
    let from = in_line_somewhere cs h in
    pointers_again period 0 (groups period cs) small (groups_are_runs period from.0 from.1 cs one from.2)

-- ---- the length

text_none : (period : ℕ) → layer_text period [] ≡ []
text_none period = ap (flat_map checkpoint_block) (groups_none period)

text_more : (period : ℕ) (x : Checkpoint) (xs : List Checkpoint) → 1 ≤ period → layer_text period (x ∷ xs) ≡ checkpoint_block (take period (x ∷ xs)) ++ layer_text period (drop period (x ∷ xs))
text_more period x xs one = ap (flat_map checkpoint_block) (groups_more period x xs one)

all_true : (a b c d e : Bool) → a ≡ true → b ≡ true → c ≡ true → d ≡ true → e ≡ true → ((((a && b) && c) && d) && e) ≡ true
all_true a b c d e p q r s t = (λ i. (((p i && q i) && r i) && s i) && t i)

-- the last run, or a full one
last_or_full : (period : ℕ) (x : Checkpoint) (xs : List Checkpoint) → 1 ≤ period → (eqb (length (take period (x ∷ xs))) period || eqb (length (layer_text period (drop period (x ∷ xs)))) 0) ≡ true
last_or_full period x xs one = elim (cases_lt (length (x ∷ xs)) period) [
  | inl short ↦
      let nothing : drop period (x ∷ xs) ≡ [] = drop_all period (x ∷ xs) (omega arith) in
      or_second _ _ (eq-eqb _ _ (ap length (ap (layer_text period) nothing ∙ text_none period)))
  | inr full ↦
      let len : length (take period (x ∷ xs)) ≡ period = omega (arith, length-take period (x ∷ xs)) in
      or_first _ _ (eq-eqb _ _ len)
]
  where
    or_first : (a b : Bool) → a ≡ true → (a || b) ≡ true
    or_first a b e = ap (λ (v : Bool). v || b) e

    or_second : (a b : Bool) → b ≡ true → (a || b) ≡ true
    or_second true b e = refl
    or_second false b e = e

pub len_again : (period : ℕ) (cs : List Checkpoint) → 1 ≤ period → period ≤ 64 → (doc byte : ℕ) → IsInLineFrom doc byte cs → len_from period doc byte (layer_text period cs) ≡ Some (length cs)
len_again period cs one small = by_runs period (λ xs. (d b : ℕ) → IsInLineFrom d b xs → len_from period d b (layer_text period xs) ≡ Some (length xs)) one
    (λ d b r. ap (len_from period d b) (text_none period) ∙ len_from_none period d b)
    (λ x xs others d b r.
    let g = take period (x ∷ xs) in
    let rest = drop period (x ∷ xs) in
    let parts : g ++ rest ≡ x ∷ xs = take-append-drop period (x ∷ xs) in
    let both = in_line-split d b g rest (subst (IsInLineFrom d b) (sym parts) r) in
    let some : 0 < length g = omega (arith, length-take period (x ∷ xs)) in
    let few : length g ≤ period = omega (arith, length-take period (x ∷ xs)) in
    let short = in_short d b g some both.0 in
    let following = layer_text period rest in
    let stands : may_stand period d b (run_of g) (length following) ≡ true = all_true _ _ _ _ _ (eq-eqb _ _ short.docs) (eq-eqb _ _ short.bytes) (lt-ltb _ _ (omega (arith, short.counted)))
    (le-leb _ _ (omega (arith, short.counted)))
    (ap (λ (n : ℕ). eqb n period || eqb (length following) 0) short.counted ∙ last_or_full period x xs one) in
    let counted : len_from period (run_of g).doc_end (run_of g).byte_end following ≡ Some (length rest) = (λ i. len_from period (short.docs_done i) (short.bytes_done i) following)
    ∙ others (docs_end d g) (bytes_end b g) both.1 in
    let whole : (run_of g).count + length rest ≡ length (x ∷ xs) = omega (arith, short.counted, length-append g rest, ap length parts) in
    ap (len_from period d b) (text_more period x xs one)
    ∙ len_from_some period d b (checkpoint_block g ++ following) (omega (arith, block_some g, length-append (checkpoint_block g) following))
    ∙ ap (len_then period d b) (run_again g following some (omega arith) (in_line_from d b g both.0))
    ∙ cond-true (may_stand period d b (run_of g) (length following)) (plus (run_of g).count (len_from period (run_of g).doc_end (run_of g).byte_end following)) None stands
    ∙ ap (plus (run_of g).count) counted
    ∙ ap (λ (n : ℕ). Some n) whole)
    cs

-- ---- what was counted

-- runs that were counted
pub record ReadsRuns (period doc byte : ℕ) (bytes : List ℕ) (n : ℕ) : Type 0 where
  pub list : List Checkpoint
  pub runs : IsInLineFrom doc byte list
  pub text : bytes ≡ layer_text period list
  pub counted : length list ≡ n

-- a run in front of a layer
text_cons : (period : ℕ) (g cs : List Checkpoint) → 1 ≤ period → 0 < length g → length g ≤ period → (length g ≡ period) ⊎ (length cs ≡ 0)
    → layer_text period (g ++ cs) ≡ checkpoint_block g ++ layer_text period cs
text_cons period g cs one some few (inl full) = ap (flat_map checkpoint_block) (groups-append 1 period g cs one (omega arith)
    ∙ ap (λ (gs : List (List Checkpoint)). gs ++ groups period cs) (groups_one period g some few))
text_cons period g (c ∷ cs) one some few (inr none) = absurd (omega arith)
text_cons period g [] one some few (inr none) =
    ap (layer_text period) (append-nil g) ∙ ap (flat_map checkpoint_block) (groups_one period g some few) ∙ ap (λ (t : List ℕ). checkpoint_block g ++ t) (sym (text_none period))

-- what a run that may stand is
record Stands (period doc byte : ℕ) (r : Run) (following : ℕ) : Type 0 where
  docs : r.doc ≡ doc
  bytes : r.byte ≡ byte
  some : 0 < r.count
  few : r.count ≤ period
  last_or_full : (r.count ≡ period) ⊎ (following ≡ 0)

or_cases : (a b : Bool) → (a || b) ≡ true → (a ≡ true) ⊎ (b ≡ true)
or_cases true b e = inl refl
or_cases false b e = inr e

stands_from : (period doc byte : ℕ) (r : Run) (following : ℕ) → may_stand period doc byte r following ≡ true → Stands period doc byte r following
stands_from period doc byte r following e =
    let a = and_parts _ _ e in
    let b = and_parts _ _ a.0 in
    let c = and_parts _ _ b.0 in
    let d = and_parts _ _ c.0 in
    record {
      docs = eqb-true r.doc doc d.0;
      bytes = eqb-true r.byte byte d.1;
      some = ltb-true 0 r.count c.1;
      few = leb-true r.count period b.1;
      last_or_full = elim (or_cases (eqb r.count period) (eqb following 0) a.1) [ inl full ↦ inl (eqb-true r.count period full) | inr last ↦ inr (eqb-true following 0 last) ];
    }

-- nothing is counted in no bytes
counts_none : (period doc byte n : ℕ) (bytes : List ℕ) → length bytes ≡ 0 → len_from period doc byte bytes ≡ Some n → n ≡ 0
counts_none period doc byte n [] none e = sym (some_is 0 n (sym (len_from_none period doc byte) ∙ e))
counts_none period doc byte n (b ∷ bytes) none e = absurd (omega arith)

reads_more : (period doc byte : ℕ) (bytes : List ℕ) (n : ℕ) (r : Run) (rest : List ℕ) (m : ℕ) → 1 ≤ period → IsBytes bytes → run_at bytes ≡ Some (r, rest) → Stands period doc byte r (length rest)
    → len_from period r.doc_end r.byte_end rest ≡ Some m → r.count + m ≡ n
    → ((reads : ReadsRun bytes r rest) → ReadsRuns period r.doc_end r.byte_end rest m) → ReadsRuns period doc byte bytes n
reads_more period doc byte bytes n r rest m one fits e stands counts total others =
    let reads = run_read bytes r rest fits stands.some e in
    let more = others reads in
    let g = reads.run in
    let cs = more.list in
    let moved : IsInLineFrom doc byte g = subst (λ (b : ℕ). IsInLineFrom doc b g) stands.bytes (subst (λ (d : ℕ). IsInLineFrom d r.byte g) stands.docs reads.runs) in
    let following : IsInLineFrom (docs_end doc g) (bytes_end byte g) cs =
    subst (λ (b : ℕ). IsInLineFrom (docs_end doc g) b cs) (reads.short.bytes_done ∙ ap (λ (b : ℕ). bytes_end b g) stands.bytes)
    (subst (λ (d : ℕ). IsInLineFrom d r.byte_end cs) (reads.short.docs_done ∙ ap (λ (d : ℕ). docs_end d g) stands.docs) more.runs) in
    let last_or_full : (length g ≡ period) ⊎ (length cs ≡ 0) = elim stands.last_or_full [
      | inl full ↦ inl (sym reads.short.counted ∙ full)
      | inr last ↦ inr (more.counted ∙ counts_none period r.doc_end r.byte_end m rest last counts)
    ] in
    record {
      list = g ++ cs;
      runs = in_line-join doc byte g cs moved following;
      text = reads.takes.parts ∙ ap (λ (t : List ℕ). checkpoint_block g ++ t) more.text ∙ sym
          (text_cons period g cs one (omega (arith, reads.short.counted, stands.some)) (omega (arith, reads.short.counted, stands.few)) last_or_full);
      counted = omega (arith, length-append g cs, reads.short.counted, more.counted, total);
    }

pub len_read : (k period doc byte : ℕ) (bytes : List ℕ) (n : ℕ) → 1 ≤ period → IsBytes bytes → length bytes ≤ k → len_from period doc byte bytes ≡ Some n → ReadsRuns period doc byte bytes n
len_read k period doc byte [] n one fits le e = record { list = []; runs = tt; text = sym (text_none period); counted = some_is 0 n (sym (len_from_none period doc byte) ∙ e) }
len_read zero period doc byte (b ∷ bytes) n one fits le e = absurd (omega arith)
len_read (suc k) period doc byte (b ∷ bytes) n one fits le e =
    let a = bind_some (run_at (b ∷ bytes)) (λ r. cond (may_stand period doc byte r.0 (length r.1)) (plus r.0.count (len_from period r.0.doc_end r.0.byte_end r.1)) None) n
    (sym (len_from_some period doc byte (b ∷ bytes) (omega arith)) ∙ e) in
    let r = a.0.0 in
    let rest = a.0.1 in
    let p = pass_cond (may_stand period doc byte r (length rest)) (plus r.count (len_from period r.doc_end r.byte_end rest)) n a.2 in
    let m = bind_some (len_from period r.doc_end r.byte_end rest) (λ m. Some (r.count + m)) n p.1 in
    reads_more period doc byte (b ∷ bytes) n r rest m.0 one fits a.1 (stands_from period doc byte r (length rest) p.0) m.1 (some_is (r.count + m.0) n m.2)
    (λ reads. len_read k period r.doc_end r.byte_end rest m.0 one reads.takes.rest_fits (omega (arith, run_takes (b ∷ bytes) a.0 a.1)) m.1)
  where
    pass_cond : {A : Type 0} (b : Bool) (x : Option A) (y : A) → cond b x None ≡ Some y → (b ≡ true) × (x ≡ Some y)
    pass_cond true x y e = (refl, e)
    pass_cond false x y e = absurd (cc)

-- ---- a layer

heading_of : (g : List Checkpoint) (rest : List ℕ) (doc byte : ℕ) → 0 < length g → length g < 2 ^ 64 → IsInLineFrom doc byte g
    → (h : Heading) × (steps : List ℕ) × (heading_at (checkpoint_block g ++ rest) ≡ Some (h, steps)) × (h.doc ≡ doc) × (h.byte ≡ byte)
heading_of [] rest doc byte some few h = absurd (omega arith)
heading_of (c ∷ cs) rest doc byte some few h =
    (record { count = length (c ∷ cs); doc = c.doc_range.start; byte = c.byte_range.start }, flat_map step (c ∷ cs) ++ rest, heading_again c cs rest (in_line_from doc byte (c ∷ cs) h) few, h.0, h.1)

len_at_is : (period : ℕ) (bytes : List ℕ) → len_at period bytes ≡ (heading_at bytes >>= λ h. len_from period h.0.doc h.0.byte bytes)
unfolding len_at
len_at_is period bytes = refl

-- The text of a layer in line is counted.
pub layer_again : (period : ℕ) (cs : List Checkpoint) → 1 ≤ period → period ≤ 64 → 0 < length cs → IsInLine cs → len_at period (layer_text period cs) ≡ Some (length cs)
layer_again period [] one small some h = absurd (omega arith)
layer_again period (x ∷ xs) one small some h =
    let doc = x.doc_range.start in
    let byte = x.byte_range.start in
    let g = take period (x ∷ xs) in
    let rest = drop period (x ∷ xs) in
    let parts : g ++ rest ≡ x ∷ xs = take-append-drop period (x ∷ xs) in
    let both = in_line-split doc byte g rest (subst (IsInLineFrom doc byte) (sym parts) h) in
    let head = heading_of g (layer_text period rest) doc byte (omega (arith, length-take period (x ∷ xs))) (omega (arith, length-take period (x ∷ xs))) both.0 in
    let first : heading_at (layer_text period (x ∷ xs)) ≡ Some (head.0, head.1) = ap heading_at (text_more period x xs one) ∙ head.2 in
    len_at_is period (layer_text period (x ∷ xs))
    ∙ ap (λ (o : Option (Heading × List ℕ)). o >>= λ h. len_from period h.0.doc h.0.byte (layer_text period (x ∷ xs))) first
    ∙ (λ i. len_from period (head.3 i) (head.4 i) (layer_text period (x ∷ xs)))
    ∙ len_again period (x ∷ xs) one small doc byte h

-- What is counted is the text of a layer in line.
pub layer_read : (period : ℕ) (bytes : List ℕ) (n : ℕ) → 1 ≤ period → IsBytes bytes → len_at period bytes ≡ Some n
    → (cs : List Checkpoint) × IsInLine cs × (bytes ≡ layer_text period cs) × (length cs ≡ n)
layer_read period bytes n one fits e =
    let a = bind_some (heading_at bytes) (λ h. len_from period h.0.doc h.0.byte bytes) n (sym (len_at_is period bytes) ∙ e) in
    let reads = len_read (length bytes) period a.0.0.doc a.0.0.byte bytes n one fits (omega arith) a.2 in
    (reads.list, in_line_from a.0.0.doc a.0.0.byte reads.list reads.runs, reads.text, reads.counted)

-- ---- a walk over a layer

-- where no heading stands is no layer
pub layer_none : (period : ℕ) (bytes : List ℕ) → heading_at bytes ≡ None → IsSome (len_at period bytes) → ⊥
layer_none period bytes e some = not_some (len_at period bytes) (len_at_is period bytes ∙ ap (λ (o : Option (Heading × List ℕ)). o >>= λ h. len_from period h.0.doc h.0.byte bytes) e) some
  where
    not_some : {A : Type 0} (o : Option A) → o ≡ None → IsSome o → ⊥
    not_some None e h = absurd cc
    not_some (Some x) e h = absurd cc

-- A walk over the runs, where the first begins as the heading says, is one over the layer: what it counts,
pub layer_counted : (period : ℕ) (text : List ℕ) (h : Heading) (steps : List ℕ) → heading_at text ≡ Some (h, steps) → len_at period text ≡ len_from period h.doc h.byte text
layer_counted period text h steps e = len_at_is period text ∙ ap (λ (o : Option (Heading × List ℕ)). o >>= λ g. len_from period g.0.doc g.0.byte text) e

-- and where it breaks a rule
pub layer_breaks_at : (period : ℕ) (above : Option (List Checkpoint)) (text : List ℕ) (h : Heading) (steps : List ℕ) (byte : ℕ) → heading_at text ≡ Some (h, steps)
    → PassedTo above (standing_from period h.doc h.byte 0 text) 0 byte → BreaksAt period above text byte
layer_breaks_at period above text h steps byte e to = subst (λ (o : Option (Heading × List ℕ)).
    PassedTo above (option_map_or (λ (g : Heading × List ℕ). standing_from period g.0.doc g.0.byte 0 text) o []) 0 byte) (sym e) to

-- no heading, no run
pub layer_breaks : (period : ℕ) (above : Option (List Checkpoint)) (text : List ℕ) → heading_at text ≡ None → BreaksAt period above text 0
layer_breaks period above text e = passed_here above _ 0 (ap (λ (o : Option (Heading × List ℕ)). option_map_or (λ (g : Heading × List ℕ). standing_from period g.0.doc g.0.byte 0 text) o []) e)
