-- The slots of a store that is copied whole.
use Rattle.std.proofs.Common.{◌≡◌, ℕ, ◌+◌, List, [], ◌∷◌, ◌++◌, map, Option, Some, None, Bor, refl, ap, ◌∙◌, subst}
use Rattle.std.specs.Prelude.{IsTrue}
use Rattle.docstore.specs.Laws.{taken}
use Rattle.docstore.specs.Writer.{Writing}
use Rattle.store_format.specs.Block.{Slot, doc}
use Rattle.store_format.specs.Slots.{slots}
use Rattle.store_reader.specs.Reading.{Reading, IsSameStore, store_of}
use Rattle.store_published.specs.Filling.{AddsSome}
use Rattle.store_commands.specs.Appending.{CopiesStore, IsAppended}
use Rattle.store_reader.specs.Iteration.{alive_from}
use Rattle.store_commands.specs.Merging.{is_kept, kept_slots}
use Rattle.store_commands.proofs.AliveLemmas.{alive_agreed}

all_alive : (n : ℕ) (xs : List Slot) → alive_from n xs None ≡ xs
all_alive n [] = refl
all_alive n (x ∷ xs) = ap (λ (ys : List Slot). x ∷ ys) (all_alive (n + 1) xs)

-- without words all are kept
pub all_kept : (words : List (Bor (List ℕ))) (reader : Reading) → words ≡ [] → kept_slots words reader ≡ slots (store_of reader)
all_kept words reader none =
    ap (λ (ws : List (Bor (List ℕ))). kept_slots ws reader) none ∙ alive_agreed (slots (store_of reader)) (Some (is_kept [])) None (λ id lt. refl)
    ∙ all_alive 0 (slots (store_of reader))

pub same_honest : (old new : Reading) → IsSameStore old new → IsTrue new.file.honest → IsTrue old.file.honest
same_honest old new same honest = subst IsTrue same.honest honest

-- a new writer into which a store was copied, and after it some documents
pub some_appended : (copied : Option Reading) (reader : Reading) (old mid new : Writing) → copied ≡ Some reader → taken old ≡ [] → CopiesStore old mid reader
    → AddsSome mid new → IsAppended copied (λ documents. Unit {0}) (taken new)
some_appended copied reader old mid new is empty copies some = record {
  reader = reader;
  is = is;
  documents = some.0;
  came = tt;
  slots_are = λ honest.
      some.1.grown
      ∙ ap (λ (xs : List Slot). xs ++ map doc some.0) (copies honest ∙ ap (λ (xs : List Slot). xs ++ slots (store_of reader)) empty);
}
