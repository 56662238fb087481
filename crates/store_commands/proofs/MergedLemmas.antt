-- Which slots of a store are merged.
use Rattle.std.proofs.Common.{◌≡◌, ◌≢◌, ◌+◌, ◌<◌, ◌≤◌, inl, inr, ℕ, zero, suc, Bool, true, false, List, [], ◌∷◌, ◌++◌, length, map, take, drop, Option, Some}
use Rattle.std.proofs.Common.{None, Bor, Result, Ok, Err, refl, sym, ap, subst, ◌∙◌, arith}
use Rattle.std.specs.Prelude.{◌⊎◌, nat_le, ◌&&◌, IfSome, slice_get}
use Rattle.std.specs.List.{flat_map, list_all, range_with_len}
use Rattle.store_base.specs.declared.error.StoreError.{StoreError}
use Rattle.store_base.specs.declared.error.StoreError.TheVariants.{OldVersion, Memory}
use Rattle.store_format.specs.declared.version.DocStoreVersion.{DocStoreVersion}
use Rattle.store_format.specs.declared.version.DocStoreVersion.TheVariants.{V1, V2, V3}
use Rattle.docstore.specs.StackingInParts.{BeginsStack}
use Rattle.docstore.specs.Writer.{Writing}
use Rattle.std.proofs.lemmas.List.{append-nil, take_at}
use Rattle.store_format.specs.Block.{Slot}
use Rattle.store_format.specs.Slots.{slots}
use Rattle.store_reader.specs.Iteration.{alive, is_in, flags_of}
use Rattle.store_reader.specs.Reading.{Reading, IsSameStore, num_docs, store_of}
use Rattle.store_reader.specs.Walking.{PassesDead}
use Rattle.store_merge.specs.declared.input.MergeInput.{MergeInput}
use Rattle.store_merge.specs.declared.merge_error.MergeError.{MergeError}
use Rattle.store_merge.specs.Choice.{is_stacked, alive_of, alive_slots, first_old}
use Rattle.store_merge.specs.Inputs.{AreEach, AreInputsKept, AreStackedBy, IsAskedOnce, IsSteadyInput}
use Rattle.store_merge.specs.Merge.{IsEnded, IsFailed}
use Rattle.store_merge.specs.Stacking.{IsReadInParts}
use Rattle.store_commands.specs.Merging.{is_kept, KeepsDocuments, kept_slots, IsMergedReader, is_stacked_without, IsReadIfStacked, IsSteadyMerge, input_of, EndsStore}
use Rattle.store_commands.proofs.AliveLemmas.{alive_agreed}

of_set : (words : List (Bor (List ℕ))) (all : List Slot) (set : Option (List Bool)) → KeepsDocuments words (length all) set → alive all (flags_of set) ≡ alive all (Some (is_kept words))
of_set words all None none = alive_agreed all None (Some (is_kept words)) (λ id lt. sym (ap (λ (ws : List (Bor (List ℕ))). is_kept ws id) none))
of_set words all (Some set) h = alive_agreed all (flags_of (Some set)) (Some (is_kept words)) h.2

-- the slots of the one input are those that the words keep
pub kept_alone : {H : Type 0} (words : List (Bor (List ℕ))) (reader : Reading) (x : MergeInput H) → x.reader ≡ reader → KeepsDocuments words (length (slots (store_of reader))) x.alive
    → flat_map alive_slots (x ∷ []) ≡ kept_slots words reader
kept_alone words reader x same kept =
    append-nil (alive_slots x) ∙ ap (λ (r : Reading). alive_of r (flags_of x.alive)) same ∙ of_set words (slots (store_of reader)) x.alive kept

-- ---- what is left of the one input

pub record IsLeft {H : Type 0} (x : MergeInput H) (left : List (MergeInput H)) (r : Reading) : Type 0 where
  pub is : left ≡ input_of H r x.alive ∷ []
  pub store : IsSameStore x.reader r
  pub asked : IsAskedOnce x.reader r

pub left_alone : {H : Type 0} (x : MergeInput H) (left : List (MergeInput H)) (r : Reading) → AreInputsKept (x ∷ []) left → map (λ (y : MergeInput H). y.reader) left ≡ r ∷ [] → IsLeft x left r
left_alone x [] r kept is = absurd kept
left_alone {H} x (y ∷ []) r kept is =
    let same : y.reader ≡ r = cc in
    let all : y ≡ input_of H r x.alive = (λ i. input_of H (same i) (kept.0.set i)) in
    record {
      is = ap (λ (z : MergeInput H). z ∷ []) all;
      store = subst (IsSameStore x.reader) same kept.0.store;
      asked = subst (IsAskedOnce x.reader) same kept.0.asked;
    }
left_alone x (y ∷ z ∷ left) r kept is = absurd kept.1

-- the one input stands in the list that had it
pub items_left : {H : Type 0} (x : MergeInput H) (xs left items : List (MergeInput H)) (len : ℕ) (r : Reading) → xs ≡ x ∷ [] → AreInputsKept xs left → len ≡ length xs
    → map (λ (y : MergeInput H). y.reader) (take len (left ++ drop (length left) items)) ≡ r ∷ [] → map (λ (y : MergeInput H). y.reader) left ≡ r ∷ []
items_left {H} x xs left items len r alone kept size is =
    let one : length left ≡ 1 = left_one left (subst (λ (ys : List (MergeInput H)). AreInputsKept ys left) alone kept) in
    let same : length left ≡ len = omega (arith, ap length alone) in
    ap (map (λ (y : MergeInput H). y.reader)) (sym (take_at left (drop (length left) items) len same)) ∙ is
  where
    left_one : (left : List (MergeInput H)) → AreInputsKept (x ∷ []) left → length left ≡ 1
    left_one [] k = absurd k
    left_one (y ∷ []) k = refl
    left_one (y ∷ z ∷ ys) k = absurd k.1

merged_reader : {H : Type 0} (reader : Reading) (x : MergeInput H) (left : List (MergeInput H)) (r : Reading) → x.reader ≡ reader → IsLeft x left r → IsMergedReader reader r
merged_reader reader x left r same h = subst (λ (s : Reading). IsMergedReader s r) same (record { store = h.store; asked = h.asked })

pub reader_alone : {H : Type 0} (reader : Reading) (x : MergeInput H) (xs left : List (MergeInput H)) (r : Reading) → xs ≡ x ∷ [] → x.reader ≡ reader → AreInputsKept xs left
    → map (λ (y : MergeInput H). y.reader) left ≡ r ∷ [] → IsMergedReader reader r
reader_alone {H} reader x xs left r alone same kept is =
    merged_reader reader x left r same (left_alone x left r (subst (λ (ys : List (MergeInput H)). AreInputsKept ys left) alone kept) is)

-- ---- how the one input was read

-- what the set of an input says of an id is what the words say
kept_in : (words : List (Bor (List ℕ))) (count : ℕ) (set : Option (List Bool)) → KeepsDocuments words count set → (id : ℕ) → id < count → is_in (flags_of set) id ≡ is_kept words id
kept_in words count None none id below = sym (ap (λ (ws : List (Bor (List ℕ))). is_kept ws id) none)
kept_in words count (Some set) keeps id below = keeps.2 id below

all_agreed : (p q : ℕ → Bool) (from n : ℕ) → ((id : ℕ) → from ≤ id → id < from + n → p id ≡ q id) → list_all p (range_with_len from n) ≡ list_all q (range_with_len from n)
all_agreed p q from zero h = refl
all_agreed p q from (suc n) h =
    ap (λ (b : Bool). b && list_all p (range_with_len (from + 1) n)) (h from (omega arith) (omega arith))
    ∙ ap (λ (b : Bool). q from && b) (all_agreed p q (from + 1) n (λ id le lt. h id (omega arith) (omega arith)))

same_stacked : {H : Type 0} (words : List (Bor (List ℕ))) (x : MergeInput H) → KeepsDocuments words (num_docs x.reader) x.alive → is_stacked x ≡ is_stacked_without words x.reader
same_stacked words x keeps =
    ap (λ (b : Bool). nat_le 6 (length x.reader.checkpoints) && b)
    (all_agreed (is_in (flags_of x.alive)) (is_kept words) 0 (num_docs x.reader) (λ id le lt. kept_in words (num_docs x.reader) x.alive keeps id (omega arith)))

pub read_alone : {H : Type 0} (size : ℕ) (words : List (Bor (List ℕ))) (reader : Reading) (x : MergeInput H) (xs left : List (MergeInput H)) (r : Reading) → xs ≡ x ∷ [] → x.reader ≡ reader
    → KeepsDocuments words (num_docs reader) x.alive → AreInputsKept xs left → map (λ (y : MergeInput H). y.reader) left ≡ r ∷ [] → AreStackedBy (IsReadInParts size) xs left
    → IsReadIfStacked size words reader r
read_alone {H} size words reader x xs left r alone same keeps kept is read =
    let here = left_alone x left r (subst (λ (ys : List (MergeInput H)). AreInputsKept ys left) alone kept) is in
    let each : AreStackedBy (IsReadInParts size) (x ∷ []) (input_of H r x.alive ∷ []) =
    subst (λ (ys : List (MergeInput H)). AreStackedBy (IsReadInParts size) (x ∷ []) ys) here.is (subst (λ (ys : List (MergeInput H)). AreStackedBy (IsReadInParts size) ys left) alone read) in
    subst (λ (s : Reading). IsReadIfStacked size words s r) same
    (λ whole. each.0 (same_stacked words x (subst (λ (s : Reading). KeepsDocuments words (num_docs s) x.alive) (sym same) keeps) ∙ whole))

-- ---- which reads of the one input failed

-- what no set has alive, the words do not keep
dead_of : (words : List (Bor (List ℕ))) (count : ℕ) (set : Option (List Bool)) (id : ℕ) → KeepsDocuments words count set → id < count → is_in (flags_of set) id ≡ false → is_kept words id ≡ false
dead_of words count None id keeps below dead = let is : true ≡ false = dead in absurd cc
dead_of words count (Some set) id keeps below dead = sym (keeps.2 id below) ∙ dead

passed_of : (words : List (Bor (List ℕ))) (reader : Reading) (set : Option (List Bool)) → KeepsDocuments words (num_docs reader) set → PassesDead (flags_of set) reader.checkpoints 0 (num_docs reader)
    → PassesDead (Some (is_kept words)) reader.checkpoints 0 (num_docs reader)
passed_of words reader set keeps p = record {
  place = p.place;
  block = p.block;
  is_at = p.is_at;
  after = p.after;
  before = p.before;
  dead = λ k from below. dead_of words (num_docs reader) set k keeps (omega (arith, p.before)) (p.dead k from below);
}

steady_of : {H : Type 0} (words : List (Bor (List ℕ))) (x : MergeInput H) (r : Reading) → KeepsDocuments words (num_docs x.reader) x.alive → IsSteadyInput x (input_of H r x.alive)
    → IsSteadyMerge words x.reader r
steady_of words x r keeps (inl stays) = inl stays
steady_of words x r keeps (inr passes) = inr (passed_of words x.reader x.alive keeps passes.1)

pub steady_alone : {H : Type 0} (words : List (Bor (List ℕ))) (reader : Reading) (x : MergeInput H) (xs left : List (MergeInput H)) (r : Reading) → xs ≡ x ∷ [] → x.reader ≡ reader
    → KeepsDocuments words (num_docs reader) x.alive → AreInputsKept xs left → map (λ (y : MergeInput H). y.reader) left ≡ r ∷ [] → ⊥ ⊎ AreEach IsSteadyInput xs left → IsSteadyMerge words reader r
steady_alone words reader x xs left r alone same keeps kept is (inl never) = absurd never
steady_alone {H} words reader x xs left r alone same keeps kept is (inr steady) =
    let here = left_alone x left r (subst (λ (ys : List (MergeInput H)). AreInputsKept ys left) alone kept) is in
    let each = subst (λ (ys : List (MergeInput H)). AreEach IsSteadyInput (x ∷ []) ys) here.is (subst (λ (ys : List (MergeInput H)). AreEach IsSteadyInput ys left) alone steady) in
    subst (λ (s : Reading). IsSteadyMerge words s r) same (steady_of words x r (subst (λ (s : Reading). KeepsDocuments words (num_docs s) x.alive) (sym same) keeps) each.0)

-- ---- why the merge of the one input ended

error_of : Result (Unit {0}) MergeError → StoreError
error_of (Ok x) = Memory
error_of (Err e) = e.error

first_old_alone : {H : Type 0} (x : MergeInput H) → x.reader.version ≡ V1 → first_old (x ∷ []) ≡ Some 0
first_old_alone x is = rw is refl

none_old_alone : {H : Type 0} (x : MergeInput H) → x.reader.version ≢ V1 → first_old (x ∷ []) ≡ None
none_old_alone x not = by x.reader.version refl
  where
    by : (v : DocStoreVersion) → x.reader.version ≡ v → first_old (x ∷ []) ≡ None
    by V1 is = absurd (not is)
    by V2 is = rw is refl
    by V3 is = rw is refl

only_place : {X : Type 0} (x y : X) (place : ℕ) → slice_get (x ∷ []) place ≡ Some y → place ≡ 0
only_place x y zero is = refl
only_place x y (suc place) is = absurd cc

pub ends_alone : {H : Type 0} (words : List (Bor (List ℕ))) (reader : Reading) (x : MergeInput H) (xs left : List (MergeInput H)) (r : Reading)
    (old new : Writing) (result : Result (Unit {0}) MergeError) (e : MergeError)
    → xs ≡ x ∷ [] → x.reader ≡ reader → KeepsDocuments words (num_docs reader) x.alive → AreInputsKept xs left → map (λ (y : MergeInput H). y.reader) left ≡ r ∷ [] → result ≡ Err e
    → IfSome (first_old xs) (λ place. (result ≡ Err (record { error = OldVersion; input = place })) × (new ≡ old) × (left ≡ xs))
    → (first_old xs ≡ None → IsEnded BeginsStack xs left old new e) → IsFailed e.error ⊎ (new.output.failure ≡ old.output.failure)
    → EndsStore H words reader r old new e.error × IsMergedReader reader r
unfolding error_of
ends_alone {H} words reader x xs left r old new result e alone same keeps kept readers is old_one ended works = (
  record {
    set = x.alive;
    kept = keeps;
    old_version = λ first.
        let h = at_first (first_old_alone x (ap (λ (s : Reading). s.version) same ∙ first)) in
        (ap error_of (sym is ∙ h.0), h.1, left_same (h.2));
    ended = λ not.
        let h : IsEnded BeginsStack (x ∷ []) left old new e = ended_one (none_old_alone x (λ first. not (ap (λ (s : Reading). s.version) (sym same) ∙ first))) in
        let place : e.input ≡ 0 = only_place x h.named e.input h.is_named in
        let at : IsEnded BeginsStack (x ∷ []) left old new (record { error = e.error; input = 0 }) =
        subst (λ (n : ℕ). IsEnded BeginsStack (x ∷ []) left old new (record { error = e.error; input = n })) place h in
        let one : x ∷ [] ≡ input_of H reader x.alive ∷ [] = (λ i. input_of H (same i) x.alive ∷ []) in
        subst (λ (ys : List (MergeInput H)). IsEnded BeginsStack ys (input_of H r x.alive ∷ []) old new (record { error = e.error; input = 0 })) one
        (subst (λ (ys : List (MergeInput H)). IsEnded BeginsStack (x ∷ []) ys old new (record { error = e.error; input = 0 })) here.is at);
    works = works;
  },
  merged_reader reader x left r same here,
)
  where
    here : IsLeft x left r
    here = left_alone x left r (subst (λ (ys : List (MergeInput H)). AreInputsKept ys left) alone kept) readers

    at_first : first_old (x ∷ []) ≡ Some 0 → (result ≡ Err (record { error = OldVersion; input = 0 })) × (new ≡ old) × (left ≡ xs)
    at_first f = subst (λ (o : Option ℕ). IfSome o (λ place. (result ≡ Err (record { error = OldVersion; input = place })) × (new ≡ old) × (left ≡ xs))) (ap first_old alone ∙ f) old_one

    ended_one : first_old (x ∷ []) ≡ None → IsEnded BeginsStack (x ∷ []) left old new e
    ended_one f = subst (λ (ys : List (MergeInput H)). IsEnded BeginsStack ys left old new e) alone (ended (ap first_old alone ∙ f))

    left_same : left ≡ xs → r ≡ reader
    left_same l = let both : r ∷ [] ≡ x.reader ∷ [] = sym readers ∙ ap (map (λ (y : MergeInput H). y.reader)) (l ∙ alone) in let first : r ≡ x.reader = cc in first ∙ same
