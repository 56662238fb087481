-- Documents of inputs, as a sink takes them.
use Rattle.std.specs.Prelude.{◌≡◌, ℕ, List, [], ◌∷◌, ◌++◌, Option, None, Some, IfSome, ⊤}
use Rattle.std.specs.List.{flat_map}
use Rattle.std.specs.Option.{option_map}
use Rattle.document_framing.specs.declared.framing.Framing.{Framing}
use Rattle.document_framing.specs.Framings.{documents_of}
use Rattle.document_framing.specs.declared.feeding.FeedError.{FeedError}
use Rattle.document_framing.specs.declared.feeding.FeedError.TheVariants.{Input, Sink}

-- the documents of an input, where its bytes are known
abbrev pub known_documents : Framing → Option (List ℕ) → Option (List (List ℕ))
known_documents framing bytes = option_map (documents_of framing) bytes

-- the documents of inputs, one input after the other, where their bytes are known
abbrev pub all_documents : Framing → Option (List (List ℕ)) → Option (List (List ℕ))
all_documents framing inputs = option_map (flat_map (documents_of framing)) inputs

-- The first of the inputs that are left was opened: a reader has its bytes, and the others are left.
pub record IsOpened (all : List (List ℕ)) (input : Option (List ℕ)) (left : Option (List (List ℕ))) : Type 0 where
  pub bytes : List ℕ
  pub others : List (List ℕ)
  pub are : all ≡ bytes ∷ others
  pub reader : input ≡ Some bytes
  pub rest : left ≡ Some others

-- These documents are the first of all.
abbrev pub AreFirst : List (List ℕ) → List (List ℕ) → Type 0
AreFirst all documents = (others : List (List ℕ)) × (all ≡ documents ++ others)

-- Known documents begin with these, and lose them.
abbrev pub Gives : Option (List (List ℕ)) → Option (List (List ℕ)) → List (List ℕ) → Type 0
Gives None left documents = ⊤
Gives (Some all) None documents = ⊥
Gives (Some all) (Some others) documents = all ≡ documents ++ others

-- Where documents are known, none is left.
abbrev pub AreSpent : Option (List (List ℕ)) → Option (List (List ℕ)) → Type 0
AreSpent known left = IfSome known (λ _. left ≡ Some [])

-- A sink took the documents by which the known ones became fewer.
pub record Feeds {S : Type 0} (adds : S → List (List ℕ) → S → Type 0) (known left : Option (List (List ℕ)))
    (old new : S) : Type 0 where
  pub documents : List (List ℕ)
  pub added : adds old documents new
  pub given : Gives known left documents

-- A sink took all documents, which are those that are known.
pub record FeedsAll {S : Type 0} (adds : S → List (List ℕ) → S → Type 0) (known : Option (List (List ℕ)))
    (old new : S) : Type 0 where
  pub documents : List (List ℕ)
  pub added : adds old documents new
  pub all : IfSome known (λ known. documents ≡ known)

-- A sink took the first of the documents, and no more came.
pub record FeedsFirst {S : Type 0} (adds : S → List (List ℕ) → S → Type 0) (known : Option (List (List ℕ)))
    (old new : S) : Type 0 where
  pub documents : List (List ℕ)
  pub added : adds old documents new
  pub first : IfSome known (λ known. AreFirst known documents)

-- A sink took the first of the documents, and then it failed.
pub record FailsAfter {S : Type 0} (adds : S → List (List ℕ) → S → Type 0) (fails : S → S → Type 0)
    (known : Option (List (List ℕ))) (old new : S) : Type 0 where
  pub middle : S
  pub fed : FeedsFirst adds known old middle
  pub failed : fails middle new

-- Why not all documents came, and which were taken before.
abbrev pub EndsFeed : {S F E : Type 0} → (S → List (List ℕ) → S → Type 0) → (S → S → Type 0)
    → Option (List (List ℕ)) → S → S → FeedError F E → Type 0
EndsFeed adds fails known old new (Input error) = FeedsFirst adds known old new
EndsFeed adds fails known old new (Sink error) = FailsAfter adds fails known old new
