-- What comes of whole stores that are merged.
use Rattle.std.proofs.Common.{◌≡◌, ◌∷◌, ◌++◌, ℕ, suc, ◌+◌, ◌<◌, ◌≤◌, List, [], length, map, refl, sym, ◌∙◌, ap, subst, arith}
use Rattle.std.specs.Prelude.{None, Bool, true, false, ◌&&◌, nat_le}
use Rattle.std.specs.List.{filter, enumerate_from, flat_map, list_all, range_with_len, AllByRecursion}
use Rattle.std.proofs.lemmas.Bool.{leb-true, leb-false}
use Rattle.std.proofs.lemmas.List.{flat_map_more}
use Rattle.store_format.specs.Block.{Slot}
use Rattle.store_format.specs.Slots.{slots}
use Rattle.store_format.specs.StoreFile.{blocks_at}
use Rattle.store_reader.specs.Iteration.{is_in, flags_of, alive}
use Rattle.store_reader.specs.Reading.{num_docs, store_of}
use Rattle.store_merge.specs.declared.input.MergeInput.{MergeInput}
use Rattle.store_merge.specs.Bringing.{Brought, stacked, copied, IsBrought, AreBrought}
use Rattle.store_merge.specs.Choice.{is_stacked}
use Rattle.store_merge.specs.Merge.{IsHonest}
use Rattle.store_folder.specs.Folder.{Look}
use Rattle.segmented_log.specs.Compacting.{IsWhole}
use Rattle.segmented_log.specs.Joining.{HasBlocks, ComesOf, ComeOf, HaveBlocks}

-- without a set each slot is alive
all_alive : (n : ℕ) (xs : List Slot) → map (λ (x : ℕ × Slot). x.1) (filter (λ (x : ℕ × Slot). is_in None x.0) (enumerate_from n xs)) ≡ xs
all_alive n [] = refl
all_alive n (x ∷ xs) = ap (λ (l : List Slot). x ∷ l) (all_alive (n + 1) xs)

pub alive_all : (xs : List Slot) → alive xs None ≡ xs
alive_all xs = all_alive 0 xs

-- one input more
pub flat_push : {X : Type 0} (f : X → List Slot) (xs more : List X) (x : X) → more ≡ xs ++ x ∷ [] → flat_map f more ≡ flat_map f xs ++ f x
flat_push f xs more x is = ap (flat_map f) is ∙ sym (flat_map_more f [] xs x)

pub all_push : {X : Type 0} (P : X → Type 0) (xs more : List X) (x : X) → more ≡ xs ++ x ∷ [] → AllByRecursion P xs → P x → AllByRecursion P more
all_push {X} P xs more x is all one = subst (AllByRecursion P) (sym is) (by xs all)
  where
    by : (some : List X) → AllByRecursion P some → AllByRecursion P (some ++ x ∷ [])
    by [] none = (one, tt)
    by (y ∷ some) each = (each.0, by some each.1)

-- ---- what came of inputs

length_blocks : (cs : List _) (bytes : List ℕ) → length (blocks_at cs bytes) ≡ length cs
unfolding blocks_at
length_blocks [] bytes = refl
length_blocks (c ∷ cs) bytes = ap suc (length_blocks cs _)

all_in : (ids : List ℕ) → list_all (is_in None) ids ≡ true
all_in [] = refl
all_in (id ∷ ids) = all_in ids

and_true : (b : Bool) → (b && true) ≡ b
and_true true = refl
and_true false = refl

-- a whole input is stacked if it has at least six blocks
stacked_is : {H : Type 0} (x : MergeInput H) → IsWhole x → is_stacked x ≡ nat_le 6 (length x.reader.checkpoints)
stacked_is x whole =
    let ids = range_with_len 0 (num_docs x.reader) in
    ap (λ a. nat_le 6 (length x.reader.checkpoints) && list_all (is_in (flags_of a)) ids) whole.alive
    ∙ ap (λ b. nat_le 6 (length x.reader.checkpoints) && b) (all_in ids) ∙ and_true (nat_le 6 (length x.reader.checkpoints))

comes : {H : Type 0} (x : MergeInput H) (part : Brought) → IsWhole x → IsHonest x → IsBrought x part → ComesOf (store_of x.reader) part
comes x (stacked bs) whole honest came =
    let many : 6 ≤ length x.reader.checkpoints = leb-true 6 (length x.reader.checkpoints) (sym (stacked_is x whole) ∙ came.0) in
    (omega (arith, many, length_blocks x.reader.checkpoints x.reader.file.content), came.1.honest honest)
comes x (copied docs) whole honest came =
    let few : length x.reader.checkpoints < 6 = leb-false 6 (length x.reader.checkpoints) (sym (stacked_is x whole) ∙ came.0) in (
      omega (arith, few, length_blocks x.reader.checkpoints x.reader.file.content),
      came.1.truly honest ∙ ap (λ a. alive (slots (store_of x.reader)) (flags_of a)) whole.alive ∙ alive_all (slots (store_of x.reader)),
    )

pub come_of : {H : Type 0} (c : Look) (firsts : List ℕ) (inputs : List (MergeInput H)) (parts : List Brought) → HaveBlocks c firsts inputs → AllByRecursion IsWhole inputs
    → AllByRecursion IsHonest inputs → AreBrought inputs parts → ComeOf c firsts parts
come_of c [] [] [] have whole honest came = tt
come_of c (first ∷ firsts) (x ∷ inputs) (part ∷ parts) have whole honest came =
    ((store_of x.reader, have.0, comes x part whole.0 honest.0 came.0), come_of c firsts inputs parts have.1 whole.1 honest.1 came.1)
come_of c [] [] (part ∷ parts) have whole honest came = absurd came
come_of c [] (x ∷ inputs) parts have whole honest came = absurd have
come_of c (first ∷ firsts) [] parts have whole honest came = absurd have
come_of c (first ∷ firsts) (x ∷ inputs) [] have whole honest came = absurd came

-- one segment more
pub have_push : {H : Type 0} (c : Look) (firsts more : List ℕ) (first : ℕ) (xs all : List (MergeInput H)) (x : MergeInput H) → more ≡ firsts ++ first ∷ [] → all ≡ xs ++ x ∷ []
    → HaveBlocks c firsts xs → HasBlocks c first (store_of x.reader) → HaveBlocks c more all
have_push {H} c firsts more first xs all x is are have has =
    subst (HaveBlocks c more) (sym are) (subst (λ (l : List ℕ). HaveBlocks c l (xs ++ x ∷ [])) (sym is) (by firsts xs have))
  where
    by : (some : List ℕ) (inputs : List (MergeInput H)) → HaveBlocks c some inputs → HaveBlocks c (some ++ first ∷ []) (inputs ++ x ∷ [])
    by [] [] none = (has, tt)
    by (n ∷ some) (y ∷ inputs) each = (each.0, by some inputs each.1)
    by [] (y ∷ inputs) each = absurd each
    by (n ∷ some) [] each = absurd each
