-- The closed layers of an index in the making are the layers of its list.
use Rattle.std.proofs.Common.{◌≡◌, ℕ, ◌+◌, ◌^◌, ◌<◌, ◌≤◌, List, [], ◌∷◌, ◌++◌, length, map, reverse, take, drop, set, Option, Some, None, refl, sym, ◌∙◌, ap, subst, arith, append_assoc, length-append}
use Rattle.std.proofs.lemmas.List.{append-nil, length_push, take_all, take_at, drop_all, take_more_set, drop-set-lt, map-append}
use Rattle.std.specs.List.{flat_map, concat}
use Rattle.std.specs.Option.{option_to_list}
use Rattle.store_base.specs.VInt.{number}
use Rattle.layered_index.specs.declared.checkpoint.Checkpoint.{Checkpoint}
use Rattle.layered_index.specs.Checkpoint.{IsInLine}
use Rattle.layered_index.specs.Layers.{layer_text, pointers, layer_above, digit_count, layers_from, layers, ends_from, texts_down, index_part}
use Rattle.layered_index.specs.Building.{Layer, texts_of, put_some, block_text, closed_text, pointer_at, last_pointer, closed, Closes, IsBuilt, list_of, IsBuilder}
use Rattle.layered_index.proofs.InsertionLemmas.{IsAt, from_here}
use Rattle.layered_index.proofs.BuilderLemmas.{layer_text_more, layer_above_more, rest_in_line, above_in_line, length-built}

-- what a layer has with a pointer, if there is one
rest_some : (l : Layer) (o : Option Checkpoint) → (put_some l o).rest ≡ l.rest ++ option_to_list o
rest_some l None = sym (append-nil l.rest)
rest_some l (Some c) = refl

bytes_some : (l : Layer) (o : Option Checkpoint) → (put_some l o).bytes ≡ l.bytes
bytes_some l None = refl
bytes_some l (Some c) = refl

few_some : (period : ℕ) (xs : List Checkpoint) (o : Option Checkpoint) → length xs < period → length (xs ++ option_to_list o) ≤ period
few_some period xs None lt = omega (arith, length-append xs (option_to_list {X = Checkpoint} None))
few_some period xs (Some c) lt = omega (arith, length_push xs c)

closed_text_some : (l : Layer) (o : Option Checkpoint) → closed_text (put_some l o) ≡ l.bytes ++ block_text (l.rest ++ option_to_list o)
closed_text_some l o = λ i. bytes_some l o i ++ block_text (rest_some l o i)

last_pointer_some : (l : Layer) (o : Option Checkpoint) → last_pointer (put_some l o) ≡ pointer_at (length l.bytes) (l.rest ++ option_to_list o)
last_pointer_some l o = λ i. pointer_at (length (bytes_some l o i)) (rest_some l o i)

closes : (period : ℕ) (cs : List Checkpoint) (ls : List Layer) (o : Option Checkpoint) → 2 ≤ period → period ≤ 64 → IsBuilt period cs ls → IsInLine (cs ++ option_to_list o) → Closes ls o
unfolding Closes
closes period cs [] o two small built h = tt
closes period cs (l ∷ ls) o two small built h =
    let few = few_some period l.rest o built.1.few in (
      subst IsInLine (sym (rest_some l o)) (rest_in_line period cs built.0 l (option_to_list o) built.1 h),
      λ fits.
          let text : length (l.bytes ++ block_text (l.rest ++ option_to_list o)) < 2 ^ 64 = subst (λ (t : List ℕ). length t < 2 ^ 64) (closed_text_some l o) fits in
          let above = above_in_line period cs built.0 l (option_to_list o) (omega (arith, two)) small built.1 few h text in
          closes period (pointers 0 built.0) ls (last_pointer (put_some l o)) two small built.2
          (subst (λ (p : Option Checkpoint). IsInLine (pointers 0 built.0 ++ option_to_list p)) (sym (last_pointer_some l o)) above),
    )

-- so many layers of the list, with a pointer from below
closed_texts : (period : ℕ) (cs : List Checkpoint) (ls : List Layer) (o : Option Checkpoint) → 2 ≤ period → IsBuilt period cs ls
    → closed ls o ≡ map (layer_text period) (layers_from period (length ls) (cs ++ option_to_list o))
unfolding closed
closed_texts period cs [] o two built = refl
closed_texts period cs (l ∷ ls) o two built =
    let one : 1 ≤ period = omega (arith, two) in
    let few = few_some period l.rest o built.1.few in
    let here : closed_text (put_some l o) ≡ layer_text period (cs ++ option_to_list o) =
    closed_text_some l o ∙ sym (layer_text_more period cs built.0 l (option_to_list o) one built.1 few) in
    let above : pointers 0 built.0 ++ option_to_list (last_pointer (put_some l o)) ≡ layer_above period (cs ++ option_to_list o) =
    ap (λ (p : Option Checkpoint). pointers 0 built.0 ++ option_to_list p) (last_pointer_some l o) ∙ sym (layer_above_more period cs built.0 l (option_to_list o) one built.1 few) in
    let others = closed_texts period (pointers 0 built.0) ls (last_pointer (put_some l o)) two built.2
    ∙ ap (λ (xs : List Checkpoint). map (layer_text period) (layers_from period (length ls) xs)) above in
    λ i. here i ∷ others i

closed_layers : (period : ℕ) (ls : List Layer) → IsBuilder period ls → closed ls None ≡ map (layer_text period) (layers period (list_of ls))
closed_layers period ls is =
    closed_texts period (list_of ls) ls None is.least is.built
    ∙ ap (λ (xs : List Checkpoint). map (layer_text period) (layers_from period (length ls) xs)) (append-nil (list_of ls))
    ∙ ap (λ (n : ℕ). map (layer_text period) (layers_from period n (list_of ls))) (length-built period (list_of ls) ls is.least is.built)

-- an index in the making can be closed
pub builder_closes : (period : ℕ) (ls : List Layer) → IsBuilder period ls → Closes ls None
builder_closes period ls is = closes period (list_of ls) ls None is.least is.most is.built (subst IsInLine (sym (append-nil (list_of ls))) is.in_line)

-- the bytes of an index by its closed layers
pub index_part_is : (period : ℕ) (ls : List Layer) → IsBuilder period ls
    → index_part period (list_of ls) ≡ (number (length ls) ++ flat_map number (ends_from 0 (reverse (closed ls None)))) ++ concat (reverse (closed ls None))
unfolding index_part
index_part_is period ls is =
    let texts : texts_down period (list_of ls) ≡ reverse (closed ls None) = ap reverse (sym (closed_layers period ls is)) in
    let count : digit_count period (length (list_of ls)) ≡ length ls = sym (length-built period (list_of ls) ls is.least is.built) in
    λ i. (number (count i) ++ flat_map number (ends_from 0 (texts i))) ++ concat (texts i)

-- ---- closing one layer

closes_some : (l : Layer) (ls : List Layer) (o : Option Checkpoint) → Closes (l ∷ ls) o → IsInLine (put_some l o).rest
    × (length (closed_text (put_some l o)) < 2 ^ 64 → Closes ls (last_pointer (put_some l o)))
unfolding Closes
closes_some l ls o h = h

closed_none : (o : Option Checkpoint) → closed [] o ≡ []
unfolding closed
closed_none o = refl

closed_some : (l : Layer) (ls : List Layer) (o : Option Checkpoint) → closed (l ∷ ls) o ≡ closed_text (put_some l o) ∷ closed ls (last_pointer (put_some l o))
unfolding closed
closed_some l ls o = refl

pub closes_here : (ls : List Layer) (at : ℕ) (l : Layer) (o : Option Checkpoint) → IsAt ls at l → Closes (drop at ls) o → IsInLine (put_some l o).rest
closes_here ls at l o here h = (closes_some l (drop (at + 1) ls) o (subst (λ (xs : List Layer). Closes xs o) (from_here ls at l here) h)).0

pub closes_next : (ls : List Layer) (at : ℕ) (l new : Layer) (o : Option Checkpoint) → IsAt ls at l → Closes (drop at ls) o → length (closed_text (put_some l o)) < 2 ^ 64
    → Closes (drop (at + 1) (set ls at new)) (last_pointer (put_some l o))
closes_next ls at l new o here h fits =
    let same : drop (at + 1) (set ls at new) ≡ drop (at + 1) ls = drop-set-lt (at + 1) ls at new (omega arith) in
    subst (λ (xs : List Layer). Closes xs (last_pointer (put_some l o))) (sym same) ((closes_some l (drop (at + 1) ls) o (subst (λ (xs : List Layer). Closes xs o) (from_here ls at l here) h)).1 fits)

pub closed_next : (ls : List Layer) (at : ℕ) (l new : Layer) (o : Option Checkpoint) → IsAt ls at l → new.bytes ≡ closed_text (put_some l o)
    → texts_of (take (at + 1) (set ls at new)) ++ closed (drop (at + 1) (set ls at new)) (last_pointer (put_some l o)) ≡ texts_of (take at ls) ++ closed (drop at ls) o
closed_next ls at l new o here e =
    let same : drop (at + 1) (set ls at new) ≡ drop (at + 1) ls = drop-set-lt (at + 1) ls at new (omega arith) in
    let following = closed (drop (at + 1) ls) (last_pointer (put_some l o)) in
    let front : texts_of (take (at + 1) (set ls at new)) ≡ texts_of (take at ls) ++ closed_text (put_some l o) ∷ [] =
    ap texts_of (take_more_set ls at new here.within) ∙ map-append (λ (x : Layer). x.bytes) (take at ls) (new ∷ [])
    ∙ ap (λ (t : List ℕ). texts_of (take at ls) ++ t ∷ []) e in
    (λ i. front i ++ closed (same i) (last_pointer (put_some l o)))
    ∙ append_assoc (texts_of (take at ls)) (closed_text (put_some l o) ∷ []) following
    ∙ ap (λ (ts : List (List ℕ)). texts_of (take at ls) ++ ts) (sym (ap (λ (xs : List Layer). closed xs o) (from_here ls at l here) ∙ closed_some l (drop (at + 1) ls) o))

pub closed_all : (ls : List Layer) (at : ℕ) (o : Option Checkpoint) → length ls ≤ at → texts_of ls ≡ texts_of (take at ls) ++ closed (drop at ls) o
closed_all ls at o le =
    sym ((λ i. texts_of (take_all at ls le i) ++ (ap (λ (xs : List Layer). closed xs o) (drop_all at ls le) ∙ closed_none o) i) ∙ append-nil (texts_of ls))

-- what a Vec has when its slice was changed as a whole
pub whole_slice : {A : Type 0} (n : ℕ) (xs ys : List A) → length xs ≡ length ys → n ≡ length ys → take n (xs ++ drop (length xs) ys) ≡ xs
whole_slice {A} n xs ys same len =
    let none : drop (length xs) ys ≡ [] = drop_all (length xs) ys (omega arith) in
    ap (λ (zs : List A). take n (xs ++ zs)) none ∙ take_at xs [] n (omega arith)
