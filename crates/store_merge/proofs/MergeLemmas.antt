-- How far a merge has come.
use Rattle.std.proofs.Common.{◌≡◌, ℕ, zero, suc, ◌+◌, ◌<◌, ◌≤◌, inl, inr, List, [], ◌∷◌, ◌++◌, length, take, drop, get_or, set, Some, refl, sym, ◌∙◌, ap, subst}
use Rattle.std.proofs.Common.{arith, append_assoc}
use Rattle.std.proofs.lemmas.List.{append-nil, take_more_set, take_all, get_or-set_same, length-set}
use Rattle.std.proofs.lemmas.List.Concat.{flat_map-append}
use Rattle.std.proofs.lemmas.List.Sums.{fold-append}
use Rattle.std.proofs.lemmas.Option.{slice_get-get_or}
use Rattle.std.specs.Prelude.{slice_get}
use Rattle.std.specs.List.{AllByRecursion, flat_map}
use Rattle.store_base.proofs.ListLemmas.{front_more, next_same}
use Rattle.store_format.specs.Block.{Slot}
use Rattle.docstore.specs.Laws.{taken}
use Rattle.docstore.specs.Stacking.{with_store}
use Rattle.docstore.specs.Writer.{Writing, with_document, with_documents, with_failures}
use Rattle.store_merge.specs.declared.input.MergeInput.{MergeInput}
use Rattle.store_merge.specs.Bringing.{Brought, stacked, copied, with_brought, merged, slots_brought, IsBrought, AreBrought}
use Rattle.store_merge.specs.Inputs.{AreEach, AreInputsKept, IsInputKept, IsInputTaken, IsSteadyInput}
use Rattle.store_merge.specs.Merge.{IsMerged}
use Rattle.store_merge.proofs.CopyLemmas.{same_failure}
use Rattle.docstore.proofs.FileLemmas.{counted_documents}
use Rattle.store_reader.proofs.RecentLemmas.{same_as_it_is}

-- ---- lists that are gone over

pub all_at : {A : Type 0} (P : A → Type 0) (xs : List A) (i : ℕ) (d : A) → AllByRecursion P xs → i < length xs → P (get_or xs i d)
all_at P [] i d h lt = absurd (omega (arith, lt))
all_at P (x ∷ xs) zero d h lt = h.0
all_at P (x ∷ xs) (suc i) d h lt = all_at P xs i d h.1 (omega (arith, lt))

-- the next one, before and after it is written
pub named_is : {A : Type 0} (olds news : List A) (i : ℕ) (d : A) → drop i news ≡ drop i olds → i < length olds → slice_get olds i ≡ Some (get_or news i d)
named_is olds news i d rest lt = slice_get-get_or olds i d lt ∙ ap (λ x. Some x) (sym (next_same olds news i d rest))

pub left_is : {A : Type 0} (news : List A) (i : ℕ) (y : A) → i < length news → slice_get (set news i y) i ≡ Some y
left_is news i y lt = slice_get-get_or (set news i y) i y (omega (arith, lt, length-set news i y)) ∙ ap (λ x. Some x) (get_or-set_same news i y y lt)

-- ---- what is kept

pub each_same : {H : Type 0} (Is : MergeInput H → MergeInput H → Type 0) → ((x : MergeInput H) → Is x x) → (xs : List (MergeInput H)) → AreEach Is xs xs
each_same Is same [] = tt
each_same Is same (x ∷ xs) = (same x, each_same Is same xs)

kept_same : {H : Type 0} (x : MergeInput H) → IsInputKept x x
kept_same x = record { store = same_as_it_is x.reader; set = refl; asked = omega arith }

pub all_kept : {H : Type 0} (xs : List (MergeInput H)) → AreInputsKept xs xs
all_kept xs = each_same IsInputKept kept_same xs

pub steady_same : {H : Type 0} (x : MergeInput H) → IsSteadyInput x x
steady_same x = inl refl

each_push : {H : Type 0} (Is : MergeInput H → MergeInput H → Type 0) (xs ys : List (MergeInput H)) (x y : MergeInput H) → AreEach Is xs ys → Is x y
    → AreEach Is (xs ++ x ∷ []) (ys ++ y ∷ [])
each_push Is [] [] x y h is = (is, tt)
each_push Is (a ∷ xs) (b ∷ ys) x y h is = (h.0, each_push Is xs ys x y h.1 is)
each_push Is [] (b ∷ ys) x y h is = absurd h
each_push Is (a ∷ xs) [] x y h is = absurd h

pub each_more : {H : Type 0} (Is : MergeInput H → MergeInput H → Type 0) (olds news : List (MergeInput H)) (i : ℕ) (d y : MergeInput H) → length news ≡ length olds → i < length olds
    → drop i news ≡ drop i olds → Is (get_or news i d) y → AreEach Is (take i olds) (take i news) → AreEach Is (take (i + 1) olds) (take (i + 1) (set news i y))
each_more Is olds news i d y len lt rest is h =
    let x = get_or news i d in
    subst (λ xs. AreEach Is xs (take (i + 1) (set news i y))) (sym (front_more olds news i d rest lt))
    (subst (AreEach Is (take i olds ++ x ∷ [])) (sym (take_more_set news i y (omega (arith, len, lt)))) (each_push Is (take i olds) (take i news) x y h is))

pub each_all : {H : Type 0} (Is : MergeInput H → MergeInput H → Type 0) (i : ℕ) (olds news : List (MergeInput H)) → length news ≡ length olds → length olds ≤ i
    → AreEach Is (take i olds) (take i news) → AreEach Is olds news
each_all Is i olds news len le h =
    let old = take_all i olds le in
    let new = take_all i news (omega (arith, len, le)) in
    subst (λ xs. AreEach Is xs news) old (subst (AreEach Is (take i olds)) new h)

-- what holds of an input that is as it was, and of those before a place, holds of all, where the others are as they were
pub rest_all : {H : Type 0} (Is : MergeInput H → MergeInput H → Type 0) → ((x : MergeInput H) → Is x x) → (i : ℕ) (olds news : List (MergeInput H)) → AreEach Is (take i olds) (take i news)
    → drop i news ≡ drop i olds → AreEach Is olds news
rest_all Is same zero olds news h rest = subst (AreEach Is olds) (sym rest) (each_same Is same olds)
rest_all Is same (suc i) [] [] h rest = tt
rest_all Is same (suc i) (x ∷ olds) (y ∷ news) h rest = (h.0, rest_all Is same i olds news h.1 rest)
rest_all Is same (suc i) [] (y ∷ news) h rest = absurd h
rest_all Is same (suc i) (x ∷ olds) [] h rest = absurd h

-- the others are as they were
pub kept_all : {H : Type 0} (i : ℕ) (olds news : List (MergeInput H)) → AreInputsKept (take i olds) (take i news) → drop i news ≡ drop i olds → AreInputsKept olds news
kept_all i olds news h rest = rest_all IsInputKept kept_same i olds news h rest

-- ---- what has come

counted : (n : ℕ) (w : Writing) (part : Brought) → with_brought (with_failures n w) part ≡ with_failures n (with_brought w part)
counted n w (stacked bs) = refl
counted n w (copied docs) = counted_documents n w docs

brought_push : {H : Type 0} (xs : List (MergeInput H)) (parts : List Brought) (x : MergeInput H) (part : Brought) → AreBrought xs parts → IsBrought x part
    → AreBrought (xs ++ x ∷ []) (parts ++ part ∷ [])
brought_push [] [] x part h is = (is, tt)
brought_push (y ∷ xs) (p ∷ parts) x part h is = (h.0, brought_push xs parts x part h.1 is)
brought_push [] (p ∷ parts) x part h is = absurd h
brought_push (y ∷ xs) [] x part h is = absurd h

pub none_merged : {H : Type 0} (w : Writing) → IsMerged {H = H} [] w w
none_merged w = record { parts = []; came = tt; after = refl; works = inr refl; grown = sym (append-nil (taken w)) }

-- what came of inputs leaves a writer as failed as it was
parts_failure : (w : Writing) (parts : List Brought) → (merged w parts).output.failure ≡ w.output.failure
parts_failure w [] = refl
parts_failure w (stacked bs ∷ parts) = parts_failure (with_store w bs) parts
parts_failure w (copied docs ∷ parts) = parts_failure (with_documents w docs) parts ∙ same_failure w docs

pub merged_failure : {H : Type 0} (start old : Writing) (xs : List (MergeInput H)) → IsMerged xs start old → old.output.failure ≡ start.output.failure
merged_failure start old xs h = ap (λ (w : Writing). w.output.failure) h.after ∙ parts_failure start h.parts

merged_push : {H : Type 0} (xs : List (MergeInput H)) (x : MergeInput H) (start old new : Writing) → IsMerged xs start old → IsInputTaken x old new → IsMerged (xs ++ x ∷ []) start new
merged_push xs x start old new h t =
    let n = new.output.failures in
    let all : merged start (h.parts ++ t.part ∷ []) ≡ with_brought (merged start h.parts) t.part = fold-append with_brought start h.parts (t.part ∷ []) in
    record {
      parts = h.parts ++ t.part ∷ [];
      came = brought_push xs h.parts x t.part h.came t.came;
      after = t.after
          ∙ ap (λ (v : Writing). with_failures n (with_brought v t.part)) h.after
          ∙ ap (with_failures n) (counted old.output.failures (merged start h.parts) t.part ∙ ap (with_failures old.output.failures) (sym all));
      works = elim t.works [
        | inl worked ↦ inl (sym (merged_failure start old xs h) ∙ worked)
        | inr idle ↦ elim h.works [
          | inl worked ↦ inl worked
          | inr before ↦ inr (idle ∙ before)
        ]
      ];
      grown = t.grown ∙ ap (λ (ss : List Slot). ss ++ slots_brought t.part) h.grown ∙ append_assoc (taken start) (flat_map slots_brought h.parts) (slots_brought t.part)
          ∙ ap (λ (ss : List Slot). taken start ++ ss) (ap (λ (ss : List Slot). flat_map slots_brought h.parts ++ ss) (sym (append-nil (slots_brought t.part)))
          ∙ sym (flat_map-append slots_brought h.parts (t.part ∷ [])));
    }

pub merged_more : {H : Type 0} (olds news : List (MergeInput H)) (i : ℕ) (d : MergeInput H) (start old new : Writing) → i < length olds → drop i news ≡ drop i olds
    → IsMerged (take i olds) start old → IsInputTaken (get_or news i d) old new → IsMerged (take (i + 1) olds) start new
merged_more olds news i d start old new lt rest h t =
    subst (λ xs. IsMerged xs start new) (sym (front_more olds news i d rest lt)) (merged_push (take i olds) (get_or news i d) start old new h t)

pub merged_all : {H : Type 0} (i : ℕ) (olds : List (MergeInput H)) (start new : Writing) → length olds ≤ i → IsMerged (take i olds) start new → IsMerged olds start new
merged_all i olds start new le h = subst (λ xs. IsMerged xs start new) (take_all i olds le) h
