-- Lemmas on documents that a sink takes.
use Rattle.std.proofs.Math.Seq.{drop-cons}
use Rattle.std.proofs.Common.{add-one, get_or, Bor, ◌≡◌, ℕ, ◌+◌, ◌<◌, ◌≤◌, Bool, true, false, cond, List, [], ◌∷◌, ◌++◌, length, take, drop, map, refl, sym, ap, subst, ◌∙◌, arith}
use Rattle.std.proofs.Common.{append_assoc, append-nil, take-append-drop, Option, None, Some, IfSome, Result, Ok, Err, OnOk, IfErr}
use Rattle.std.proofs.lemmas.List.{map-append, drop-append-le}
use Rattle.std.specs.List.{flat_map}
use Rattle.std.specs.Io.BufRead.{take_through, drop_through, DropsConsumable, DropsThrough}
use Rattle.std.specs.Io.KnownBytes.{prepend_known}
use Rattle.std.proofs.BufReadLemmas.{take_through-nil}
use Rattle.document_framing.specs.declared.feeding.FeedError.{FeedError}
use Rattle.document_framing.specs.declared.feeding.FeedError.TheVariants.{Input, Sink}
use Rattle.document_framing.specs.declared.framing.Framing.{Framing}
use Rattle.document_framing.specs.Framings.{IsPiece, pieces, documents_of, document_in, end_of}
use Rattle.document_framing.specs.Feeding.{all_documents, known_documents, AreFirst, AreSpent, IsOpened, Gives, Feeds, FeedsAll, FeedsFirst, FailsAfter, EndsFeed}
use Rattle.document_framing.specs.Taking.{documents_in, TakesPieces, FailsWithin}
use Rattle.document_framing.proofs.PieceLemmas.{splits_append, splits_piece, one_piece, pieces_through, EndsOpen, through_all, documents_are}

-- documents that go from one state of knowledge to the next, and from that to a third
pub gives_more : (a b c : Option (List (List ℕ))) (ds es : List (List ℕ)) → Gives a b ds → Gives b c es → Gives a c (ds ++ es)
gives_more None b c ds es p q = tt
gives_more (Some x) None c ds es p q = absurd p
gives_more (Some x) (Some y) None ds es p q = absurd q
gives_more (Some x) (Some y) (Some z) ds es p q = p ∙ ap (λ l. ds ++ l) q ∙ sym (append_assoc ds es z)

pub gives_none : (a : Option (List (List ℕ))) → Gives a a []
gives_none None = tt
gives_none (Some x) = refl

-- what is first of what is left is first of all
pub first_of : (a b : Option (List (List ℕ))) (ds es : List (List ℕ)) → Gives a b ds → IfSome b (λ l. AreFirst l es) → IfSome a (λ l. AreFirst l (ds ++ es))
first_of None b ds es p q = tt
first_of (Some x) None ds es p q = absurd p
first_of (Some x) (Some y) ds es p q = (q.0, p ∙ ap (λ l. ds ++ l) q.1 ∙ sym (append_assoc ds es q.0))

-- all came where none is left
pub all_of : (a b : Option (List (List ℕ))) (ds : List (List ℕ)) → Gives a b ds → AreSpent a b → IfSome a (λ l. ds ≡ l)
all_of None b ds p q = tt
all_of (Some x) None ds p q = absurd p
all_of (Some x) (Some y) ds p q = let none : y ≡ [] = cc in sym (p ∙ ap (λ l. ds ++ l) none ∙ append-nil ds)

pub spent_after : (a b c : Option (List (List ℕ))) (ds : List (List ℕ)) → Gives a b ds → AreSpent b c → AreSpent a c
spent_after None b c ds p q = tt
spent_after (Some x) None c ds p q = absurd p
spent_after (Some x) (Some y) c ds p q = q

-- what is left where a buffer's bytes are consumed
pub left_buffered : (a c : Option (List ℕ)) (len n : ℕ) → n ≤ len → DropsConsumable a c (Some len) n → IfSome a (λ xs. c ≡ Some (drop n xs))
left_buffered None c len n within drops = tt
left_buffered (Some xs) c len n within drops = drops within

-- an input whose bytes are split has no document where it has no byte
none_in_none : (framing : Framing) (end : ℕ) → end_of framing ≡ Some end → documents_of framing [] ≡ []
none_in_none framing end e = documents_are framing end [] e

-- a read that gave nothing was at the end
pub nothing_read : (framing : Framing) (end : ℕ) (piece : List ℕ) (a c : Option (List ℕ)) → end_of framing ≡ Some end
    → IfSome a (λ xs. piece ≡ take_through end xs) → DropsThrough a c end → length piece ≡ 0
    → Gives (known_documents framing a) (known_documents framing c) [] × AreSpent (known_documents framing a) (known_documents framing c)
nothing_read framing end piece None c e is left none = (tt, tt)
nothing_read framing end piece (Some xs) c e is left none =
    let empty : xs ≡ [] = take_through-nil end xs (ap length (sym is) ∙ none) in
    let now : c ≡ Some [] = left ∙ ap (λ l. Some (drop_through end l)) empty in
    let known : known_documents framing c ≡ Some [] = ap (known_documents framing) now ∙ ap Some (none_in_none framing end e) in
    (subst (λ o. Gives (Some (documents_of framing xs)) o []) (sym known) (ap (documents_of framing) empty ∙ none_in_none framing end e), known)

-- nothing is left after a piece that its end does not close
pub last_read : (framing : Framing) (end : ℕ) (piece : List ℕ) (a c : Option (List ℕ)) → end_of framing ≡ Some end
    → IfSome a (λ xs. piece ≡ take_through end xs) → DropsThrough a c end → EndsOpen end piece
    → AreSpent (known_documents framing a) (known_documents framing c)
last_read framing end piece None c e is left ends = tt
last_read framing end piece (Some xs) c e is left ends =
    ap (known_documents framing) left
    ∙ ap (λ l. Some (documents_of framing l)) (through_all end xs (subst (EndsOpen end) is ends))
    ∙ ap Some (none_in_none framing end e)

pub all_first : (a : Option (List (List ℕ))) (ds : List (List ℕ)) → IfSome a (λ l. ds ≡ l) → IfSome a (λ l. AreFirst l ds)
all_first None ds p = tt
all_first (Some x) ds p = ([], sym p ∙ sym (append-nil ds))

pub none_first : (a : Option (List (List ℕ))) → IfSome a (λ l. AreFirst l [])
none_first None = tt
none_first (Some x) = (x, refl)

-- the buffer's bytes are the first of those that a reader has left
pub buffer_first : (b : Bool) (buffer : List ℕ) (o : Option (List ℕ))
    → IfSome (cond b None (prepend_known buffer o)) (λ xs. (ys : List ℕ) × (xs ≡ buffer ++ ys))
buffer_first true buffer o = tt
buffer_first false buffer None = tt
buffer_first false buffer (Some ys) = (ys, refl)

module _ {S : Type 0} (adds : S → List (List ℕ) → S → Type 0) (fails : S → S → Type 0)
    (none : (s : S) → adds s [] s)
    (more : (a b c : S) (ds es : List (List ℕ)) → adds a ds b → adds b es c → adds a (ds ++ es) c) where
  pub took_none : (framing : Framing) (end : ℕ) (s : S) → TakesPieces adds framing end [] s s
  took_none framing end s = record { added = none s; apart = λ ys. refl }

  -- one piece more was taken
  pub took_more : (framing : Framing) (end : ℕ) (xs rest piece after : List ℕ) (old middle new : S)
      → TakesPieces adds framing end xs old middle → IsPiece end rest piece after
      → adds middle (document_in framing piece ∷ []) new → TakesPieces adds framing end (xs ++ piece) old new
  took_more framing end xs rest piece after old middle new took is one =
      let closed = is.front ++ end ∷ [] in
      let alone : pieces end piece ≡ piece ∷ [] = ap (pieces end) is.closed ∙ one_piece end is.front is.none ∙ ap (λ p. p ∷ []) (sym is.closed) in
      let documents : documents_in framing end (xs ++ piece) ≡ documents_in framing end xs ++ document_in framing piece ∷ [] =
      ap (map (document_in framing)) (took.apart piece ∙ ap (λ l. pieces end xs ++ l) alone)
      ∙ map-append (document_in framing) (pieces end xs) (piece ∷ []) in
      record {
        added = subst (λ l. adds old l new) (sym documents) (more old middle new _ _ took.added one);
        apart = splits_append end xs piece took.apart
            (subst (λ p. (ys : List ℕ) → pieces end (p ++ ys) ≡ pieces end p ++ pieces end ys) (sym is.closed) (splits_piece end is.front is.none));
      }

  -- the documents of bytes, some of which are taken
  documents_apart : (framing : Framing) (end : ℕ) (xs ys : List ℕ) (old new : S) → TakesPieces adds framing end xs old new
      → documents_in framing end (xs ++ ys) ≡ documents_in framing end xs ++ documents_in framing end ys
  documents_apart framing end xs ys old new took =
      ap (map (document_in framing)) (took.apart ys) ∙ map-append (document_in framing) (pieces end xs) (pieces end ys)

  pub failed_within : (framing : Framing) (end : ℕ) (bytes xs rest : List ℕ) (old middle new : S) → bytes ≡ xs ++ rest
      → TakesPieces adds framing end xs old middle → fails middle new → FailsWithin adds fails framing end bytes old new
  failed_within framing end bytes xs rest old middle new whole took failed = record {
    middle = middle;
    documents = documents_in framing end xs;
    added = took.added;
    failed = failed;
    first = λ others. (
      documents_in framing end (rest ++ others),
      ap (λ l. documents_in framing end (l ++ others)) whole ∙ ap (documents_in framing end) (append_assoc xs rest others)
          ∙ documents_apart framing end xs (rest ++ others) old middle took,
    );
  }

  -- the documents that a reader has whole in its buffer
  pub fed_buffered : (framing : Framing) (end n : ℕ) (buffer : List ℕ) (a c : Option (List ℕ)) (old new : S)
      → end_of framing ≡ Some end → n ≤ length buffer → IfSome a (λ xs. (ys : List ℕ) × (xs ≡ buffer ++ ys))
      → IfSome a (λ xs. c ≡ Some (drop n xs)) → TakesPieces adds framing end (take n buffer) old new
      → Feeds adds (known_documents framing a) (known_documents framing c) old new
  fed_buffered framing end n buffer None c old new e within first left took =
      record { documents = documents_in framing end (take n buffer); added = took.added; given = tt }
  fed_buffered framing end n buffer (Some xs) c old new e within first left took =
      let rest = drop n buffer ++ first.0 in
      let dropped : drop n xs ≡ rest = ap (drop n) first.1 ∙ drop-append-le n buffer first.0 within in
      let whole : xs ≡ take n buffer ++ rest =
      first.1 ∙ ap (λ l. l ++ first.0) (sym (take-append-drop n buffer)) ∙ append_assoc (take n buffer) (drop n buffer) first.0 in
      let split : documents_of framing xs ≡ documents_in framing end (take n buffer) ++ documents_of framing (drop n xs) =
      documents_are framing end xs e ∙ ap (documents_in framing end) whole
      ∙ documents_apart framing end (take n buffer) rest old new took
      ∙ ap (λ l. documents_in framing end (take n buffer) ++ l) (ap (documents_in framing end) (sym dropped) ∙ sym (documents_are framing end (drop n xs) e)) in
      record {
        documents = documents_in framing end (take n buffer);
        added = took.added;
        given = subst (λ o. Gives (Some (documents_of framing xs)) (known_documents framing o) (documents_in framing end (take n buffer))) (sym left) split;
      }

  pub failed_buffered : (framing : Framing) (end : ℕ) (buffer : List ℕ) (a : Option (List ℕ)) (old new : S)
      → end_of framing ≡ Some end → IfSome a (λ xs. (ys : List ℕ) × (xs ≡ buffer ++ ys))
      → FailsWithin adds fails framing end buffer old new → FailsAfter adds fails (known_documents framing a) old new
  failed_buffered framing end buffer None old new e first failed =
      record { middle = failed.middle; fed = record { documents = failed.documents; added = failed.added; first = tt }; failed = failed.failed }
  failed_buffered framing end buffer (Some xs) old new e first failed =
      let some = failed.first first.0 in
      record {
        middle = failed.middle;
        fed = record {
          documents = failed.documents;
          added = failed.added;
          first = (some.0, documents_are framing end xs e ∙ ap (documents_in framing end) first.1 ∙ some.1);
        };
        failed = failed.failed;
      }

  -- the document of the piece that was read
  pub fed_piece : (framing : Framing) (end : ℕ) (piece : List ℕ) (a c : Option (List ℕ)) (old new : S)
      → end_of framing ≡ Some end → IfSome a (λ xs. piece ≡ take_through end xs) → DropsThrough a c end → 0 < length piece
      → adds old (document_in framing piece ∷ []) new → Feeds adds (known_documents framing a) (known_documents framing c) old new
  fed_piece framing end piece None c old new e is left some added =
      record { documents = document_in framing piece ∷ []; added = added; given = tt }
  fed_piece framing end piece (Some xs) c old new e is left some added =
      let split : documents_of framing xs ≡ document_in framing piece ∷ documents_of framing (drop_through end xs) =
      documents_are framing end xs e ∙ ap (map (document_in framing)) (pieces_through end xs (long xs (subst (λ p. 0 < length p) is some)))
      ∙ ap (λ p. document_in framing p ∷ documents_in framing end (drop_through end xs)) (sym is)
      ∙ ap (λ l. document_in framing piece ∷ l) (sym (documents_are framing end (drop_through end xs) e)) in
      record {
        documents = document_in framing piece ∷ [];
        added = added;
        given = subst (λ o. Gives (Some (documents_of framing xs)) (known_documents framing o) (document_in framing piece ∷ [])) (sym left) split;
      }
    where
      long : (xs : List ℕ) → 0 < length (take_through end xs) → 0 < length xs
      long [] h = h
      long (x ∷ xs) h = omega arith

  -- and then of what is left, in a further step
  pub fed_more : (a b c : Option (List (List ℕ))) (old middle new : S) → Feeds adds a b old middle → Feeds adds b c middle new → Feeds adds a c old new
  fed_more a b c old middle new p q = record {
    documents = p.documents ++ q.documents;
    added = more old middle new p.documents q.documents p.added q.added;
    given = gives_more a b c p.documents q.documents p.given q.given;
  }

  pub fed_none : (a : Option (List (List ℕ))) (s : S) → Feeds adds a a s s
  fed_none a s = record { documents = []; added = none s; given = gives_none a }

  -- a sink that took nothing while the input stayed as it was
  pub fed_kept : (a : Option (List (List ℕ))) (old new : S) → adds old [] new → Feeds adds a a old new
  fed_kept a old new added = record { documents = []; added = added; given = gives_none a }

  pub fed_all : (a b : Option (List (List ℕ))) (old new : S) → Feeds adds a b old new → AreSpent a b → FeedsAll adds a old new
  fed_all a b old new p q = record { documents = p.documents; added = p.added; all = all_of a b p.documents p.given q }

  pub first_after : (a b : Option (List (List ℕ))) (old middle new : S) → Feeds adds a b old middle → FeedsFirst adds b middle new → FeedsFirst adds a old new
  first_after a b old middle new p q = record {
    documents = p.documents ++ q.documents;
    added = more old middle new p.documents q.documents p.added q.added;
    first = first_of a b p.documents q.documents p.given q.first;
  }

  pub none_fed : (a : Option (List (List ℕ))) (s : S) → FeedsFirst adds a s s
  none_fed a s = record { documents = []; added = none s; first = none_first a }

  pub failed_after : (a b : Option (List (List ℕ))) (old middle new : S) → Feeds adds a b old middle → FailsAfter adds fails b middle new → FailsAfter adds fails a old new
  failed_after a b old middle new p q = record { middle = q.middle; fed = first_after a b old middle q.middle p q.fed; failed = q.failed }

  pub failed_now : (a : Option (List (List ℕ))) (old new : S) → fails old new → FailsAfter adds fails a old new
  failed_now a old new failed = record { middle = old; fed = none_fed a old; failed = failed }

  pub first_now : (a b : Option (List (List ℕ))) (old new : S) → Feeds adds a b old new → FeedsFirst adds a old new
  first_now a b old new p = subst (FeedsFirst adds a old) refl (first_of_fed p)
    where
      first_of_fed : Feeds adds a b old new → FeedsFirst adds a old new
      first_of_fed p = record {
        documents = p.documents;
        added = p.added;
        first = subst (λ l. IfSome a (λ all. AreFirst all l)) (append-nil p.documents) (first_of a b p.documents [] p.given (none_first b));
      }

  pub ended_after : {F E : Type 0} (a b : Option (List (List ℕ))) (old middle new : S) (e : FeedError F E) → Feeds adds a b old middle
      → EndsFeed adds fails b middle new e → EndsFeed adds fails a old new e
  ended_after a b old middle new (Input error) p q = first_after a b old middle new p q
  ended_after a b old middle new (Sink error) p q = failed_after a b old middle new p q

-- facts that are weaker than those of a result
pub on_ok : {T E : Type 0} (r : Result T E) (P Q : Type 0) → (P → Q) → OnOk r P → OnOk r Q
on_ok (Ok x) P Q f h = f h
on_ok (Err e) P Q f h = tt

pub if_err : {T E : Type 0} (r : Result T E) (P Q : E → Type 0) → ((e : E) → P e → Q e) → IfErr r P → IfErr r Q
if_err (Ok x) P Q f h = tt
if_err (Err e) P Q f h = f e h

-- all that is known of the inputs, and of the first of them and the others
module _ (framing : Framing) where
  documents_first : (bytes : List ℕ) (others : List (List ℕ))
      → flat_map (documents_of framing) (bytes ∷ others) ≡ documents_of framing bytes ++ flat_map (documents_of framing) others
  documents_first bytes others = refl

  pub gives_input : (all left : Option (List (List ℕ))) (input : Option (List ℕ)) (ds : List (List ℕ))
      → IfSome all (λ all. IsOpened all input left) → IfSome (known_documents framing input) (λ known. ds ≡ known)
      → Gives (all_documents framing all) (all_documents framing left) ds
  gives_input None left input ds is all = tt
  gives_input (Some all') left input ds is all =
      let came : ds ≡ documents_of framing is.bytes =
      subst (λ o. IfSome (known_documents framing o) (λ known. ds ≡ known)) is.reader all in
      subst (λ o. Gives (Some (flat_map (documents_of framing) all')) (all_documents framing o) ds) (sym is.rest)
      (ap (flat_map (documents_of framing)) is.are ∙ ap (λ l. l ++ flat_map (documents_of framing) is.others) (sym came))

  pub first_input : (all left : Option (List (List ℕ))) (input : Option (List ℕ)) (ds : List (List ℕ))
      → IfSome all (λ all. IsOpened all input left) → IfSome (known_documents framing input) (λ known. AreFirst known ds)
      → IfSome (all_documents framing all) (λ known. AreFirst known ds)
  first_input None left input ds is first = tt
  first_input (Some all') left input ds is first =
      let came : AreFirst (documents_of framing is.bytes) ds =
      subst (λ o. IfSome (known_documents framing o) (λ known. AreFirst known ds)) is.reader first in (
        came.0 ++ flat_map (documents_of framing) is.others,
        ap (flat_map (documents_of framing)) is.are ∙ ap (λ l. l ++ flat_map (documents_of framing) is.others) came.1
            ∙ append_assoc ds came.0 (flat_map (documents_of framing) is.others),
      )

  pub spent_inputs : (a b : Option (List (List ℕ))) → IfSome b (λ all. all ≡ [])
      → (ds : List (List ℕ)) → Gives (all_documents framing a) (all_documents framing b) ds → AreSpent (all_documents framing a) (all_documents framing b)
  spent_inputs None b none ds p = tt
  spent_inputs (Some x) None none ds p = absurd p
  spent_inputs (Some x) (Some y) none ds p = ap (λ l. Some (flat_map (documents_of framing) l)) none

-- the paths from one on: that one, and those after it
pub paths_from : (paths : List (Bor (List ℕ))) (place : ℕ) → place < length paths
    → map (λ path. path.now) (drop place paths) ≡ (get_or paths place (record { ref_ptr = (0, 0); now = [] })).now ∷ map (λ path. path.now) (drop (place + 1) paths)
paths_from paths place within =
    let none : Bor (List ℕ) = record { ref_ptr = (0, 0); now = [] } in
    let next : drop place paths ≡ get_or paths place none ∷ drop (place + 1) paths = rw add-one (drop-cons paths place none within) in
    ap (map (λ path. path.now)) next
