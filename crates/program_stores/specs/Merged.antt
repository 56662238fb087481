-- The documents of several stores, one store after the other.
use Rattle.std.specs.Prelude.{◌≡◌, ℕ, List, [], ◌∷◌, ◌++◌, map, if◌then◌else◌}
use Rattle.std.specs.Borrow.{Bor}
use Rattle.std.specs.List.{flat_map}
use Rattle.std.specs.Str.{bytes_eq}
use Rattle.docstore.specs.Laws.{taken}
use Rattle.docstore.specs.Writer.{Writing}
use Rattle.program_base.specs.WordLists.{words_of}
use Rattle.program_stores.specs.declared.merge.LeftOut.{LeftOut}
use Rattle.store_commands.specs.Merging.{kept_slots}
use Rattle.store_format.specs.Block.{Slot}
use Rattle.store_format.specs.Footer.{version_number}
use Rattle.store_format.specs.StoreFile.{IsStore}
use Rattle.store_reader.specs.Reading.{Reading, store_of}

-- the words that leave documents out of the input of a path
abbrev pub words_for : List LeftOut → List ℕ → List (List ℕ)
words_for without path = flat_map (λ part. if bytes_eq part.input.now path then words_of part.ids else []) without

-- A reader has the store that these bytes are.
abbrev pub IsReaderIn : List ℕ → Reading → Type 0
IsReaderIn content reader = IsStore reader.period content (version_number reader.version) (store_of reader)

-- The slots are those that words keep of the store of a reader.
pub record AreKept (is_reader : Reading → Type 0) (words : List (List ℕ)) (all : List Slot) : Type 0 where
  pub reader : Reading
  pub is : is_reader reader
  pub given : List (Bor (List ℕ))
  pub are_words : map (λ word. word.now) given ≡ words
  pub are : all ≡ kept_slots given reader

-- The slots are those that its words keep of each store, in order.
abbrev pub AreMerged : {X : Type 0} → (X → Reading → Type 0) → (X → List (List ℕ)) → List X → List Slot → Type 0
AreMerged is_reader words [] all = all ≡ []
AreMerged is_reader words (x ∷ xs) all = (first : List Slot) × (rest : List Slot) × (all ≡ first ++ rest)
    × AreKept (is_reader x) (words x) first × AreMerged is_reader words xs rest

-- Slots of which this holds were put after those of a writer.
pub record AddsSlots (are : List Slot → Type 0) (old new : Writing) : Type 0 where
  pub added : List Slot
  pub are_added : are added
  pub grown : taken new ≡ taken old ++ added
