-- An index in the making stays one when a checkpoint is inserted.
use Rattle.std.proofs.Common.{◌≡◌, ℕ, suc, ◌+◌, ◌*◌, ◌/◌, ◌^◌, ◌<◌, ◌≤◌, inl, inr, ltb, List, [], ◌∷◌, ◌++◌, length, Option, Some, refl, sym, ◌∙◌, ap, subst, arith, append_assoc, length-append}
use Rattle.std.proofs.lemmas.Bool.{cond-true, cond-false, lt-ltb, le-ltb, cases_lt}
use Rattle.std.proofs.lemmas.List.{append-nil, length_push}
use Rattle.std.proofs.lemmas.List.Concat.{flat_map-append}
use Rattle.std.proofs.lemmas.Nat.{div-mul-add}
use Rattle.std.specs.List.{flat_map, AllByRecursion}
use Rattle.std.specs.Option.{option_to_list}
use Rattle.layered_index.specs.declared.checkpoint.Checkpoint.{Checkpoint}
use Rattle.layered_index.specs.Checkpoint.{checkpoint, docs_end, bytes_end, IsInLineFrom, IsInLine, checkpoint_block}
use Rattle.layered_index.specs.Layers.{groups, layer_text, docs_start, pointers, layer_above, digit_count}
use Rattle.layered_index.specs.LayerReading.{items}
use Rattle.layered_index.specs.Building.{Layer, put, pointer_to, flushed, inserted, AcceptsInsert, block_text, pointer_at, IsLayer, IsBuilt, list_of, IsBuilder}
use Rattle.layered_index.proofs.GroupLemmas.{groups_none}
use Rattle.layered_index.proofs.GrowthLemmas.{groups_one, groups-append, pointers-append}
use Rattle.layered_index.proofs.LineLemmas.{in_line-split, in_line_somewhere, in_line_from}
use Rattle.layered_index.proofs.RunLemmas.{IsRun}
use Rattle.layered_index.proofs.IndexLemmas.{digit_count_zero, digit_count_more}
use Rattle.layered_index.proofs.LayerLemmas.{layer_above_is_in_line, length-pointers}
use Rattle.layered_index.proofs.CursorLemmas.{items_runs}

-- ---- full runs in front of a list

groups_front : (period : ℕ) (run ys : List Checkpoint) → 1 ≤ period → length run ≡ period → groups period (run ++ ys) ≡ run ∷ groups period ys
groups_front period run ys one full = groups-append 1 period run ys one (omega arith) ∙ ap (λ (rs : List (List Checkpoint)). rs ++ groups period ys) (groups_one period run (omega arith) (omega arith))

-- full runs are groups, and then those of the rest
groups_full : (period : ℕ) (runs : List (List Checkpoint)) (rest : List Checkpoint) → 1 ≤ period → AllByRecursion (λ run. length run ≡ period) runs
    → groups period (flat_map (λ run. run) runs ++ rest) ≡ runs ++ groups period rest
groups_full period [] rest one full = refl
groups_full period (run ∷ runs) rest one full =
    ap (groups period) (append_assoc run (flat_map (λ (r : List Checkpoint). r) runs) rest)
    ∙ groups_front period run (flat_map (λ (r : List Checkpoint). r) runs ++ rest) one full.0
    ∙ ap (λ (rs : List (List Checkpoint)). run ∷ rs) (groups_full period runs rest one full.1)

-- a short list has at most one block
text_last : (period : ℕ) (xs : List Checkpoint) → length xs ≤ period → flat_map checkpoint_block (groups period xs) ≡ block_text xs
text_last period [] few = ap (flat_map checkpoint_block) (groups_none period)
text_last period (x ∷ xs) few = ap (flat_map checkpoint_block) (groups_one period (x ∷ xs) (omega arith) few) ∙ append-nil (checkpoint_block (x ∷ xs))

pointer_last : (period place : ℕ) (xs : List Checkpoint) → length xs ≤ period → pointers place (groups period xs) ≡ option_to_list (pointer_at place xs)
pointer_last period place [] few = ap (pointers place) (groups_none period)
pointer_last period place (x ∷ xs) few = ap (pointers place) (groups_one period (x ∷ xs) (omega arith) few)

-- ---- a layer, and some more after its list

layer_groups : (period : ℕ) (cs : List Checkpoint) (runs : List (List Checkpoint)) (l : Layer) (more : List Checkpoint) → 1 ≤ period → IsLayer period cs runs l
    → groups period (cs ++ more) ≡ runs ++ groups period (l.rest ++ more)
layer_groups period cs runs l more one is =
    ap (λ (xs : List Checkpoint). groups period (xs ++ more)) (sym is.joined)
    ∙ ap (groups period) (append_assoc (flat_map (λ (r : List Checkpoint). r) runs) l.rest more)
    ∙ groups_full period runs (l.rest ++ more) one is.full

-- the text of the longer list
pub layer_text_more : (period : ℕ) (cs : List Checkpoint) (runs : List (List Checkpoint)) (l : Layer) (more : List Checkpoint) → 1 ≤ period → IsLayer period cs runs l
    → length (l.rest ++ more) ≤ period
    → layer_text period (cs ++ more) ≡ l.bytes ++ block_text (l.rest ++ more)
layer_text_more period cs runs l more one is few =
    ap (flat_map checkpoint_block) (layer_groups period cs runs l more one is)
    ∙ flat_map-append checkpoint_block runs (groups period (l.rest ++ more))
    ∙ (λ i. sym is.written i ++ text_last period (l.rest ++ more) few i)

-- the layer above it
pub layer_above_more : (period : ℕ) (cs : List Checkpoint) (runs : List (List Checkpoint)) (l : Layer) (more : List Checkpoint) → 1 ≤ period → IsLayer period cs runs l
    → length (l.rest ++ more) ≤ period
    → layer_above period (cs ++ more) ≡ pointers 0 runs ++ option_to_list (pointer_at (length l.bytes) (l.rest ++ more))
layer_above_more period cs runs l more one is few =
    let place : length (flat_map checkpoint_block runs) ≡ length l.bytes = ap length (sym is.written) in
    ap (pointers 0) (layer_groups period cs runs l more one is)
    ∙ pointers-append 0 runs (groups period (l.rest ++ more))
    ∙ ap (λ (p : ℕ). pointers 0 runs ++ pointers p (groups period (l.rest ++ more))) (omega (arith, place))
    ∙ ap (λ (xs : List Checkpoint). pointers 0 runs ++ xs) (pointer_last period (length l.bytes) (l.rest ++ more) few)

-- the open block of a longer list is in line, and so is the layer above, if the text can be addressed
pub rest_in_line : (period : ℕ) (cs : List Checkpoint) (runs : List (List Checkpoint)) (l : Layer) (more : List Checkpoint) → IsLayer period cs runs l → IsInLine (cs ++ more)
    → IsInLine (l.rest ++ more)
rest_in_line period cs runs l more is h =
    let joined : cs ++ more ≡ flat_map (λ (r : List Checkpoint). r) runs ++ (l.rest ++ more) = ap (λ (xs : List Checkpoint). xs ++ more) (sym is.joined)
    ∙ append_assoc (flat_map (λ (r : List Checkpoint). r) runs) l.rest more in
    let from = in_line_somewhere (flat_map (λ (r : List Checkpoint). r) runs ++ (l.rest ++ more)) (subst IsInLine joined h) in
    in_line_from _ _ (l.rest ++ more) (in_line-split from.0 from.1 (flat_map (λ (r : List Checkpoint). r) runs) (l.rest ++ more) from.2).1

pub above_in_line : (period : ℕ) (cs : List Checkpoint) (runs : List (List Checkpoint)) (l : Layer) (more : List Checkpoint) → 1 ≤ period → period ≤ 64 → IsLayer period cs runs l
    → length (l.rest ++ more) ≤ period → IsInLine (cs ++ more)
    → length (l.bytes ++ block_text (l.rest ++ more)) < 2 ^ 64 → IsInLine (pointers 0 runs ++ option_to_list (pointer_at (length l.bytes) (l.rest ++ more)))
above_in_line period cs runs l more one small is few h fits =
    let len : length (layer_text period (cs ++ more)) ≡ length (l.bytes ++ block_text (l.rest ++ more)) = ap length (layer_text_more period cs runs l more one is few) in
    subst IsInLine (layer_above_more period cs runs l more one is few) (layer_above_is_in_line period (cs ++ more) one small h (omega (arith, len, fits)))

-- ---- one more

block_text_put : (xs : List Checkpoint) (c : Checkpoint) → block_text (xs ++ c ∷ []) ≡ checkpoint_block (xs ++ c ∷ [])
block_text_put [] c = refl
block_text_put (x ∷ xs) c = refl

place_after : (bytes : List ℕ) (run : List Checkpoint) → length bytes + length (checkpoint_block run) ≡ length (bytes ++ checkpoint_block run)
place_after bytes run = sym (length-append bytes (checkpoint_block run))

pointer_put : (bytes : List ℕ) (xs : List Checkpoint) (c : Checkpoint) → pointer_at (length bytes) (xs ++ c ∷ []) ≡ Some (pointer_to (record { bytes = bytes; rest = xs ++ c ∷ [] }))
pointer_put bytes [] c = ap (λ (e : ℕ). Some (checkpoint c.doc_range.start (docs_end 0 (c ∷ [])) (length bytes) e)) (place_after bytes (c ∷ []))
pointer_put bytes (x ∷ xs) c = ap (λ (e : ℕ). Some (checkpoint x.doc_range.start (docs_end 0 (x ∷ (xs ++ c ∷ []))) (length bytes) e)) (place_after bytes (x ∷ (xs ++ c ∷ [])))

-- what an insertion leaves
pub inserted_none : (period : ℕ) (c : Checkpoint) → inserted period [] c ≡ record { bytes = []; rest = c ∷ [] } ∷ []
unfolding inserted
inserted_none period c = refl

pub inserted_stays : (period : ℕ) (l : Layer) (ls : List Layer) (c : Checkpoint) → length (put l c).rest < period → inserted period (l ∷ ls) c ≡ put l c ∷ ls
unfolding inserted
inserted_stays period l ls c lt = cond-true (ltb (length (put l c).rest) period) (put l c ∷ ls) (flushed (put l c) ∷ inserted period ls (pointer_to (put l c)))
    (lt-ltb (length (put l c).rest) period lt)

pub inserted_flushes : (period : ℕ) (l : Layer) (ls : List Layer) (c : Checkpoint) → period ≤ length (put l c).rest
    → inserted period (l ∷ ls) c ≡ flushed (put l c) ∷ inserted period ls (pointer_to (put l c))
unfolding inserted
inserted_flushes period l ls c le = cond-false (ltb (length (put l c).rest) period) (put l c ∷ ls) (flushed (put l c) ∷ inserted period ls (pointer_to (put l c)))
    (le-ltb (length (put l c).rest) period le)

all_append : {A : Type 0} (P : A → Type 0) (xs : List A) (y : A) → AllByRecursion P xs → P y → AllByRecursion P (xs ++ y ∷ [])
all_append P [] y h p = (p, tt)
all_append P (x ∷ xs) y h p = (h.0, all_append P xs y h.1 p)

joined_more : (runs : List (List Checkpoint)) (run : List Checkpoint) → flat_map (λ r. r) (runs ++ run ∷ []) ≡ flat_map (λ r. r) runs ++ run
joined_more runs run = flat_map-append (λ (r : List Checkpoint). r) runs (run ∷ []) ∙ ap (λ (xs : List Checkpoint). flat_map (λ (r : List Checkpoint). r) runs ++ xs) (append-nil run)

stays_layer : (period : ℕ) (cs : List Checkpoint) (runs : List (List Checkpoint)) (l : Layer) (c : Checkpoint) → IsLayer period cs runs l → length (put l c).rest < period
    → IsLayer period (cs ++ c ∷ []) runs (put l c)
stays_layer period cs runs l c is lt = record {
  some = omega (arith, length_push cs c);
  full = is.full;
  joined = sym (append_assoc (flat_map (λ (r : List Checkpoint). r) runs) l.rest (c ∷ [])) ∙ ap (λ (xs : List Checkpoint). xs ++ c ∷ []) is.joined;
  few = lt;
  written = is.written;
}

flushed_layer : (period : ℕ) (cs : List Checkpoint) (runs : List (List Checkpoint)) (l : Layer) (c : Checkpoint) → 2 ≤ period → IsLayer period cs runs l → period ≤ length (put l c).rest
    → IsLayer period (cs ++ c ∷ []) (runs ++ (l.rest ++ c ∷ []) ∷ []) (flushed (put l c))
flushed_layer period cs runs l c two is le = record {
  some = omega (arith, length_push cs c);
  full = all_append (λ (r : List Checkpoint). length r ≡ period) runs (l.rest ++ c ∷ []) is.full (omega (arith, length_push l.rest c, is.few));
  joined = append-nil (flat_map (λ (r : List Checkpoint). r) (runs ++ (l.rest ++ c ∷ []) ∷ []))
      ∙ joined_more runs (l.rest ++ c ∷ [])
      ∙ sym (append_assoc (flat_map (λ (r : List Checkpoint). r) runs) l.rest (c ∷ []))
      ∙ ap (λ (xs : List Checkpoint). xs ++ c ∷ []) is.joined;
  few = omega (arith, two);
  written = (λ i. is.written i ++ sym (append-nil (checkpoint_block (l.rest ++ c ∷ []))) i) ∙ sym (flat_map-append checkpoint_block runs ((l.rest ++ c ∷ []) ∷ []));
}

-- the pointers to one more run
pointers_flushed : (period : ℕ) (cs : List Checkpoint) (runs : List (List Checkpoint)) (l : Layer) (c : Checkpoint) → IsLayer period cs runs l
    → pointers 0 (runs ++ (l.rest ++ c ∷ []) ∷ []) ≡ pointers 0 runs ++ pointer_to (put l c) ∷ []
pointers_flushed period cs runs l c is =
    let place : length (flat_map checkpoint_block runs) ≡ length l.bytes = ap length (sym is.written) in
    pointers-append 0 runs ((l.rest ++ c ∷ []) ∷ [])
    ∙ ap (λ (p : ℕ). pointers 0 runs ++ pointers p ((l.rest ++ c ∷ []) ∷ [])) (omega (arith, place))
    ∙ ap (λ (e : ℕ). pointers 0 runs ++ checkpoint (docs_start (l.rest ++ c ∷ [])) (docs_end 0 (l.rest ++ c ∷ [])) (length l.bytes) e ∷ []) (place_after l.bytes (l.rest ++ c ∷ []))

inserted_built : (period : ℕ) (cs : List Checkpoint) (ls : List Layer) (c : Checkpoint) → 2 ≤ period → IsBuilt period cs ls → IsBuilt period (cs ++ c ∷ []) (inserted period ls c)
inserted_built period cs [] c two none =
    subst (IsBuilt period (cs ++ c ∷ [])) (sym (inserted_none period c)) (
      [],
      record { some = omega (arith, length_push cs c); full = tt; joined = ap (λ (xs : List Checkpoint). xs ++ c ∷ []) (sym none); few = omega (arith, two); written = refl },
      refl,
    )
inserted_built period cs (l ∷ ls) c two built = elim (cases_lt (length (put l c).rest) period) [
  | inl lt ↦ subst (IsBuilt period (cs ++ c ∷ [])) (sym (inserted_stays period l ls c lt)) (built.0, stays_layer period cs built.0 l c built.1 lt, built.2)
  | inr le ↦
      subst (IsBuilt period (cs ++ c ∷ [])) (sym (inserted_flushes period l ls c le)) (
        built.0 ++ (l.rest ++ c ∷ []) ∷ [],
        flushed_layer period cs built.0 l c two built.1 le,
        subst (λ (xs : List Checkpoint). IsBuilt period xs (inserted period ls (pointer_to (put l c)))) (sym (pointers_flushed period cs built.0 l c built.1))
            (inserted_built period (pointers 0 built.0) ls (pointer_to (put l c)) two built.2),
      )
]

takes : (period : ℕ) (cs : List Checkpoint) (ls : List Layer) (c : Checkpoint) → 2 ≤ period → period ≤ 64 → IsBuilt period cs ls → IsInLine (cs ++ c ∷ []) → AcceptsInsert period ls c
unfolding AcceptsInsert
takes period cs [] c two small none h = subst (λ (xs : List Checkpoint). IsInLine (xs ++ c ∷ [])) none h
takes period cs (l ∷ ls) c two small built h =
    let few : length (l.rest ++ c ∷ []) ≤ period = omega (arith, length_push l.rest c, built.1.few) in (
      rest_in_line period cs built.0 l (c ∷ []) built.1 h,
      λ full fits.
          let text : length (l.bytes ++ block_text (l.rest ++ c ∷ [])) < 2 ^ 64 = subst (λ (t : List ℕ). length (l.bytes ++ t) < 2 ^ 64) (sym (block_text_put l.rest c)) fits in
          let above = above_in_line period cs built.0 l (c ∷ []) (omega (arith, two)) small built.1 few h text in
          takes period (pointers 0 built.0) ls (pointer_to (put l c)) two small built.2 (subst (λ (o : Option Checkpoint). IsInLine (pointers 0 built.0 ++ option_to_list o))
          (pointer_put l.bytes l.rest c) above),
    )

-- an index in the making takes what follows its list
pub builder_takes : (period : ℕ) (ls : List Layer) (c : Checkpoint) → IsBuilder period ls → IsInLine (list_of ls ++ c ∷ []) → AcceptsInsert period ls c
builder_takes period ls c is h = takes period (list_of ls) ls c is.least is.most is.built h

-- ---- what is seen

-- full runs of a list in line are runs of a layer
full_are_runs : (period doc byte : ℕ) (runs : List (List Checkpoint)) → 1 ≤ period → AllByRecursion (λ run. length run ≡ period) runs → IsInLineFrom doc byte (flat_map (λ run. run) runs)
    → AllByRecursion (IsRun period) runs
full_are_runs period doc byte [] one full h = tt
full_are_runs period doc byte (run ∷ runs) one full h =
    let both = in_line-split doc byte run (flat_map (λ (r : List Checkpoint). r) runs) h in
    let first : IsRun period run = record { some = omega (arith, full.0); few = omega (arith, full.0); in_line = in_line_from doc byte run both.0 } in
    (first, full_are_runs period (docs_end doc run) (bytes_end byte run) runs one full.1 both.1)

list_is : (period : ℕ) (cs : List Checkpoint) (ls : List Layer) → 1 ≤ period → period ≤ 64 → IsBuilt period cs ls → IsInLine cs → list_of ls ≡ cs
list_is period cs [] one small none h = sym none
list_is period cs (l ∷ ls) one small built h =
    let from = in_line_somewhere (flat_map (λ (r : List Checkpoint). r) built.0 ++ l.rest) (subst IsInLine (sym built.1.joined) h) in
    let runs = full_are_runs period from.0 from.1 built.0 one built.1.full (in_line-split from.0 from.1 (flat_map (λ (r : List Checkpoint). r) built.0) l.rest from.2).0 in
    ap (λ (xs : List Checkpoint). xs ++ l.rest) (ap (items 0 0 0) built.1.written ∙ items_runs period 0 0 built.0 small runs) ∙ built.1.joined

-- an insertion puts the checkpoint after the list
pub list_of-inserted : (period : ℕ) (ls : List Layer) (c : Checkpoint) → IsBuilder period ls → IsInLine (list_of ls ++ c ∷ []) → list_of (inserted period ls c) ≡ list_of ls ++ c ∷ []
list_of-inserted period ls c is h = list_is period (list_of ls ++ c ∷ []) (inserted period ls c) (omega (arith, is.least)) is.most (inserted_built period (list_of ls) ls c is.least is.built) h

-- and leaves an index in the making
pub inserted_is_builder : (period : ℕ) (ls : List Layer) (c : Checkpoint) → IsBuilder period ls → IsInLine (list_of ls ++ c ∷ []) → IsBuilder period (inserted period ls c)
inserted_is_builder period ls c is h =
    let same = list_of-inserted period ls c is h in
    record {
      least = is.least;
      most = is.most;
      built = subst (λ (cs : List Checkpoint). IsBuilt period cs (inserted period ls c)) (sym same) (inserted_built period (list_of ls) ls c is.least is.built);
      in_line = subst IsInLine (sym same) h;
    }

-- ---- how many layers there are

length-joined : (period : ℕ) (runs : List (List Checkpoint)) → AllByRecursion (λ run. length run ≡ period) runs → length (flat_map (λ run. run) runs) ≡ length runs * period
length-joined period [] full = omega arith
length-joined period (run ∷ runs) full =
    let others = length-joined period runs full.1 in
    let more : suc (length runs) * period ≡ length runs * period + period = omega arith in
    omega (arith, length-append run (flat_map (λ (r : List Checkpoint). r) runs), full.0, others, more)

pub length-built : (period : ℕ) (cs : List Checkpoint) (ls : List Layer) → 2 ≤ period → IsBuilt period cs ls → length ls ≡ digit_count period (length cs)
length-built period cs [] two none = sym (ap (λ (xs : List Checkpoint). digit_count period (length xs)) none ∙ digit_count_zero period)
length-built period cs (l ∷ ls) two built =
    let runs = built.0 in
    let total : length runs * period + length l.rest ≡ length cs = omega (
      arith,
      ap length built.1.joined,
      length-append (flat_map (λ (r : List Checkpoint). r) runs) l.rest,
      length-joined period runs built.1.full,
    ) in
    let quotient : length cs / period ≡ length (pointers 0 runs) = ap (λ (n : ℕ). n / period) (sym total) ∙ div-mul-add (length runs) period (length l.rest) built.1.few
    ∙ sym (length-pointers 0 runs) in
    let above = length-built period (pointers 0 runs) ls two built.2 in
    omega (arith, digit_count_more period (length cs) two built.1.some, ap (digit_count period) quotient, above)
