-- What a log and an output are after inputs were fed.
use Rattle.std.proofs.Common.{◌≡◌, ℕ, ◌+◌, List, length, map, length-append, [], ◌++◌, Option, None, Some, Result, Ok, Err, OnErr, OnOk, sym, ap, subst, ◌∙◌, append-nil}
use Rattle.std.specs.Prelude.{IfSome}
use Rattle.std.proofs.lemmas.List.{length-map}
use Rattle.store_format.specs.Block.{doc}
use Rattle.document_framing.specs.declared.feeding.FeedError.{FeedError}
use Rattle.document_framing.specs.declared.feeding.FeedError.TheVariants as feed
use Rattle.document_framing.specs.declared.inputs.InputFault.{InputFault}
use Rattle.document_framing.specs.Feeding.{AreFirst, EndsFeed, FailsAfter, FeedsAll, FeedsFirst}
use Rattle.segmented_log.specs.declared.error.LogError.{LogError}
use Rattle.store_folder.specs.Folder.{Look}
use Rattle.segmented_log.specs.Log.{LogView}
use Rattle.framed_logs.specs.declared.sync_policy.SyncPolicy.{SyncPolicy}
use Rattle.framed_logs.specs.declared.sync_policy.SyncPolicy.TheVariants.{End}
use Rattle.framed_logs.specs.declared.whole_inputs.AppendError.{AppendError}
use Rattle.framed_logs.specs.Printed.{Printed}
use Rattle.framed_logs.specs.Appending.{Adds, EndsAppend, FailsSync, PutsAll, Stops, StopsAfter, Syncs}
use Rattle.framed_logs.specs.Causes.{of_feed}
use Rattle.framed_logs.proofs.AppendLemmas.{adds_stops, adds_then_stops, puts_all, stops_broken, stops_synced}

pub on_ok_when : {A E : Type 0} (r : Result A E) (H P : Type 0) → (H → OnOk r P) → OnOk r (H → P)
on_ok_when (Ok x) H P f = f
on_ok_when (Err e) H P f = tt

pub on_err_when : {A E : Type 0} (r : Result A E) (H P : Type 0) → (H → OnErr r P) → OnErr r (H → P)
on_err_when (Ok x) H P f = tt
on_err_when (Err e) H P f = f

-- what holds after an Ok and after an error
pub on_either : {A E : Type 0} (r : Result A E) (P Q X : Type 0) → OnOk r P → OnErr r Q → (P → X) → (Q → X) → X
on_either (Ok x) P Q X p q f h = f p
on_either (Err e) P Q X p q f h = h q

-- all documents are the first of all
pub all_first : (known : Option (List (List ℕ))) (documents : List (List ℕ)) → IfSome known (λ known. documents ≡ known)
    → IfSome known (λ known. AreFirst known documents)
all_first None documents p = tt
all_first (Some known) documents p = ([], sym p ∙ sym (append-nil documents))

-- an error of a feed ends an append as others do
pub ends_feed : {F : Type 0} (leaves : F → F → (Look → Type 0) → Type 0) (policy : SyncPolicy) (known : Option (List (List ℕ))) (old new : LogView F) (p q : Printed)
    (e : FeedError InputFault LogError) → StopsAfter leaves policy known old new p q → EndsAppend leaves policy known old new p q (of_feed e)
ends_feed leaves policy known old new p q (feed.Input fault) stops = stops
ends_feed leaves policy known old new p q (feed.Sink error) stops = stops

module _ {T F H : Type 0} (leaves : F → F → (Look → Type 0) → Type 0) (policy : T → SyncPolicy) (log : T → LogView F) (numbers : T → Printed) (honest : H) where
  -- what a sink takes and what it fails with
  abbrev pub TakesRecords : T → List (List ℕ) → T → Type 0
  TakesRecords old documents new = (policy new ≡ policy old)
      × (H → Adds (policy old) documents (log old) (log new) (numbers old) (numbers new))

  abbrev pub FailsRecords : T → T → Type 0
  FailsRecords old new = (policy new ≡ policy old) × (H → Stops leaves (policy old) [] (log old) (log new) (numbers old) (numbers new))

  pub first_stops : (known : Option (List (List ℕ))) (old new : T) → FeedsFirst TakesRecords known old new
      → StopsAfter leaves (policy old) known (log old) (log new) (numbers old) (numbers new)
  first_stops known old new p = record {
    documents = p.documents;
    first = p.first;
    stops = adds_stops leaves (policy old) p.documents (log old) (log new) (numbers old) (numbers new) (p.added.1 honest);
  }

  pub failed_stops : (known : Option (List (List ℕ))) (old new : T) → FailsAfter TakesRecords FailsRecords known old new
      → StopsAfter leaves (policy old) known (log old) (log new) (numbers old) (numbers new)
  failed_stops known old new p =
      let fed = p.fed in
      let stops = subst (λ x. Stops leaves x [] (log p.middle) (log new) (numbers p.middle) (numbers new)) fed.added.0 (p.failed.1 honest) in record {
        documents = fed.documents;
        first = fed.first;
        stops = adds_then_stops leaves (policy old) fed.documents (log old) (log p.middle) (log new) (numbers old) (numbers p.middle) (numbers new)
            (fed.added.1 honest) stops;
      }

  pub feed_stops : (known : Option (List (List ℕ))) (old new : T) (e : FeedError InputFault LogError)
      → EndsFeed TakesRecords FailsRecords known old new e
      → StopsAfter leaves (policy old) known (log old) (log new) (numbers old) (numbers new)
  feed_stops known old new (feed.Input fault) p = first_stops known old new p
  feed_stops known old new (feed.Sink error) p = failed_stops known old new p

  pub all_stops : (known : Option (List (List ℕ))) (old new : T) → FeedsAll TakesRecords known old new
      → StopsAfter leaves (policy old) known (log old) (log new) (numbers old) (numbers new)
  all_stops known old new p =
      first_stops known old new (record { documents = p.documents; added = p.added; first = all_first known p.documents p.all })

  -- the sync after a feed failed
  pub after_broken : (known : Option (List (List ℕ))) (old middle new : T) → StopsAfter leaves (policy old) known (log old) (log middle) (numbers old) (numbers middle)
      → FailsSync leaves (log middle) (log new) (numbers middle) (numbers new)
      → StopsAfter leaves (policy old) known (log old) (log new) (numbers old) (numbers new)
  after_broken known old middle new p f = record {
    documents = p.documents;
    first = p.first;
    stops = stops_broken leaves (policy old) p.documents (log old) (log middle) (log new) (numbers old) (numbers middle) (numbers new) p.stops f;
  }

  -- the sync after a feed that failed
  pub after_synced : (known : Option (List (List ℕ))) (old middle new : T) → (policy old ≡ End → ⊥)
      → StopsAfter leaves (policy old) known (log old) (log middle) (numbers old) (numbers middle)
      → Syncs (log middle) (log new) (numbers middle) (numbers new)
      → StopsAfter leaves (policy old) known (log old) (log new) (numbers old) (numbers new)
  after_synced known old middle new early p s = record {
    documents = p.documents;
    first = p.first;
    stops = stops_synced leaves (policy old) p.documents (log old) (log middle) (log new) (numbers old) (numbers middle) (numbers new) early p.stops s;
  }

  pub feed_puts : (known : Option (List (List ℕ))) (old middle new : T) → FeedsAll TakesRecords known old middle
      → Syncs (log middle) (log new) (numbers middle) (numbers new) → PutsAll known (log old) (log new) (numbers old) (numbers new)
  feed_puts known old middle new p s = puts_all (policy old) known p.documents (log old) (log middle) (log new)
      (numbers old) (numbers middle) (numbers new) p.all (p.added.1 honest) s

-- what waited was put on the disk, and there was nothing else
pub counted : {F : Type 0} (policy : SyncPolicy) (expected : Option ℕ) (documents : List (List ℕ)) (came : ℕ) (old middle new : LogView F) (p q r : Printed)
    → policy ≡ End → Adds policy documents old middle p q → Syncs middle new q r → came ≡ length middle.pending
    → IfSome expected (λ count. came ≡ count) → IfSome expected (λ count. length new.slots ≡ length old.slots + count)
counted policy None documents came old middle new p q r is a s waits e = tt
counted policy (Some count) documents came old middle new p q r is a s waits e =
    let all : length new.slots ≡ length middle.slots + length middle.pending =
    ap length s.slots ∙ length-append middle.slots (map doc middle.pending) ∙ ap (λ n. length middle.slots + n) (length-map middle.pending doc) in
    let before : middle.slots ≡ old.slots =
    a.slots ∙ ap (λ l. old.slots ++ map doc l) (a.late is) ∙ append-nil old.slots in
    all ∙ ap (λ l. length l + length middle.pending) before ∙ ap (λ n. length old.slots + n) (sym waits ∙ e)
