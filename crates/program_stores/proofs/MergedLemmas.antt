-- What was merged of several stores.
use Rattle.std.proofs.Common.{◌≡◌, ◌∙◌, ◌<◌, ◌+◌, ℕ, zero, suc, List, [], ◌∷◌, ◌++◌, length, map, take, get_or, Bor, refl, sym, ap, subst, append_assoc, append-nil, arith}
use Rattle.std.specs.List.{AllByRecursion}
use Rattle.std.proofs.lemmas.List.{map-append, take_more}
use Rattle.docstore.specs.Laws.{taken}
use Rattle.docstore.specs.Writer.{Writing}
use Rattle.program_base.specs.StoresOnDisk.{IsPublished}
use Rattle.program_stores.specs.Merged.{AreKept, AreMerged, AddsSlots}
use Rattle.store_files.specs.Disk.{Disk}
use Rattle.store_format.specs.Block.{Slot}
use Rattle.store_format.specs.Slots.{slots}
use Rattle.store_format.specs.StoreFile.{StoreBlock}
use Rattle.store_published.specs.Filling.{IsStoreOf}
use Rattle.store_reader.specs.Reading.{Reading}

module _ {X : Type 0} (is_reader : X → Reading → Type 0) (words : X → List (List ℕ)) where
  -- one store more, after the others
  pub merged_more : (xs : List X) (x : X) (all some : List Slot) → AreMerged is_reader words xs all → AreKept (is_reader x) (words x) some
      → AreMerged is_reader words (xs ++ x ∷ []) (all ++ some)
  merged_more [] x all some none kept = (some, [], ap (λ (l : List Slot). l ++ some) none ∙ sym (append-nil some), kept, refl)
  merged_more (y ∷ ys) x all some (first, rest, is, here, more) kept =
      (first, rest ++ some, ap (λ (l : List Slot). l ++ some) is ∙ append_assoc first rest some, here, merged_more ys x rest some more kept)

  pub adds_none : (w : Writing) → AddsSlots (AreMerged is_reader words []) w w
  adds_none w = record { added = []; are_added = refl; grown = sym (append-nil (taken w)) }

  pub adds_more : (xs : List X) (x : X) (old mid new : Writing) → AddsSlots (AreMerged is_reader words xs) old mid → AddsSlots (AreKept (is_reader x) (words x)) mid new
      → AddsSlots (AreMerged is_reader words (xs ++ x ∷ [])) old new
  adds_more xs x old mid new first second = record {
    added = first.added ++ second.added;
    are_added = merged_more xs x first.added second.added first.are_added second.are_added;
    grown = second.grown ∙ ap (λ (l : List Slot). l ++ second.added) first.grown ∙ append_assoc (taken old) first.added second.added;
  }

  -- what is known of each of the stores is known of its path
  pub merged_at : (path : X → List ℕ) (is_at : List ℕ → Reading → Type 0) (named : List ℕ → List (List ℕ)) (here : X → Type 0)
      → ((x : X) → words x ≡ named (path x)) → ((x : X) (r : Reading) → here x → is_reader x r → is_at (path x) r)
      → (xs : List X) (all : List Slot) → AllByRecursion here xs → AreMerged is_reader words xs all → AreMerged is_at named (map path xs) all
  merged_at path is_at named here same at [] all holds none = none
  merged_at path is_at named here same at (x ∷ xs) all holds (first, rest, is, kept, more) = (
    first,
    rest,
    is,
    record { reader = kept.reader; is = at x kept.reader holds.0 kept.is; given = kept.given; are_words = kept.are_words ∙ same x; are = kept.are },
    merged_at path is_at named here same at xs rest holds.1 more,
  )

-- what was put into a new store is what it has
pub brought : (are : List Slot → Type 0) (old new : Writing) → taken old ≡ [] → AddsSlots are old new → are (taken new)
brought are old new none h = subst are (sym (h.grown ∙ ap (λ (l : List Slot). l ++ h.added) none)) h.are_added

-- what was published has slots of which this holds too
pub published_as : (name : List ℕ) (d : Disk) (brings are : List Slot → Type 0) (cut : List StoreBlock → Type 0) (period : ℕ) → ((all : List Slot) → brings all → are all)
    → IsPublished name d (IsStoreOf brings cut period) → IsPublished name d (IsStoreOf are cut period)
published_as name d brings are cut period wider h = record {
  content = h.content;
  are = record { blocks = h.are.blocks; is_file = h.are.is_file; store = h.are.store; came = wider (slots h.are.blocks) h.are.came; cut_is = h.are.cut_is };
  seen_is = h.seen_is;
  kept = h.kept;
}

-- one element more of which it holds
pub all_more : {X : Type 0} (P : X → Type 0) (xs : List X) (x : X) → AllByRecursion P xs → P x → AllByRecursion P (xs ++ x ∷ [])
all_more P [] x all here = (here, tt)
all_more P (y ∷ ys) x all here = (all.0, all_more P ys x all.1 here)

-- it holds of the element at an index
pub all_at : {X : Type 0} (P : X → Type 0) (xs : List X) (i : ℕ) (other : X) → i < length xs → AllByRecursion P xs → P (get_or xs i other)
all_at P [] i other below all = absurd (omega arith)
all_at P (x ∷ xs) zero other below all = all.0
all_at P (x ∷ xs) (suc i) other below all = all_at P xs i other (omega arith) all.1

-- the names of one more, where each has the name at its index
pub names_more : {X : Type 0} (name : X → List ℕ) (xs : List X) (x : X) (ys : List (Bor (List ℕ))) (i : ℕ) (other : Bor (List ℕ)) → i < length ys → name x ≡ (get_or ys i other).now
    → map name xs ≡ map (λ y. y.now) (take i ys) → map name (xs ++ x ∷ []) ≡ map (λ y. y.now) (take (i + 1) ys)
names_more name xs x ys i other below named same =
    map-append name xs (x ∷ []) ∙ ap (λ (l : List (List ℕ)). l ++ name x ∷ []) same ∙ ap (λ (n : List ℕ). map (λ y. y.now) (take i ys) ++ n ∷ []) named
    ∙ sym (map-append (λ (y : Bor (List ℕ)). y.now) (take i ys) (get_or ys i other ∷ [])) ∙ sym (ap (map (λ (y : Bor (List ℕ)). y.now)) (take_more ys i other below))

pub map_same : {X : Type 0} (xs : List X) → map (λ x. x) xs ≡ xs
map_same [] = refl
map_same (x ∷ xs) = ap (λ (l : List _). x ∷ l) (map_same xs)
