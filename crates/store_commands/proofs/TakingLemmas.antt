-- What a target took.
use Rattle.std.proofs.Common.{◌≡◌, ℕ, List, [], ◌∷◌, ◌++◌, map, refl, ap, ◌∙◌, subst}
use Rattle.std.proofs.lemmas.List.{map-append}
use Rattle.std.specs.Prelude.{Ok, Some}
use Rattle.store_format.specs.Block.{Slot, doc, damaged}
use Rattle.store_reader.specs.CallAnswers.{exact_result}
use Rattle.store_commands.specs.Documents.{TakesEach, TakesSlots}

pub takes_joined : {T : Type 0} (takes : T → ℕ → List ℕ → T → Type 0) (old middle new : T) (xs ys : List (ℕ × List ℕ)) → TakesEach takes old xs middle → TakesEach takes middle ys new
    → TakesEach takes old (xs ++ ys) new
takes_joined {T} takes old middle new [] ys h k = subst (λ (t : T). TakesEach takes t ys new) h k
takes_joined takes old middle new (x ∷ xs) ys h k = (h.0, h.1, takes_joined takes h.0 middle new xs ys h.2 k)

pub takes_none : {T : Type 0} (takes : T → ℕ → List ℕ → T → Type 0) (old : T) → TakesSlots takes [] old old
takes_none takes old = record { documents = []; are = refl; taken = refl }

pub takes_more : {T : Type 0} (takes : T → ℕ → List ℕ → T → Type 0) (old middle new : T) (some more : List (ℕ × Slot)) → TakesSlots takes some old middle → TakesSlots takes more middle new
    → TakesSlots takes (some ++ more) old new
takes_more takes old middle new some more h k = record {
  documents = h.documents ++ k.documents;
  are =
      map-append (λ d. (d.0, doc d.1)) h.documents k.documents
      ∙ ap (λ (xs : List (ℕ × Slot)). xs ++ map (λ d. (d.0, doc d.1)) k.documents) h.are
      ∙ ap (λ (ys : List (ℕ × Slot)). some ++ ys) k.are;
  taken = takes_joined takes old middle new h.documents k.documents h.taken k.taken;
}

-- a document at a position, which was taken
pub takes_one : {T : Type 0} (takes : T → ℕ → List ℕ → T → Type 0) (old new : T) (s : Slot) (bytes : List ℕ) (id : ℕ) → Ok bytes ≡ exact_result id (Some s) → takes old id bytes new
    → TakesSlots takes ((id, s) ∷ []) old new
takes_one takes old new (doc xs) bytes id e h =
    let same : bytes ≡ xs = cc in
    record { documents = (id, bytes) ∷ []; are = ap (λ (ys : List ℕ). (id, doc ys) ∷ []) same; taken = (new, h, refl) }
takes_one takes old new damaged bytes id e h = absurd cc
