-- What a call of a writer leaves, by its answer.
use Rattle.std.proofs.Common.{◌≡◌, ℕ, List, [], Option, Some, None, Result, Ok, Err, refl, sym, ◌∙◌, ap}
use Rattle.std.specs.Prelude.{IfSome, IfErr, IsErrOf, OnOk}
use Rattle.std.proofs.lemmas.List.{append-nil}
use Rattle.store_base.specs.declared.error.Cause.{Cause}
use Rattle.store_base.specs.declared.error.StoreError.{StoreError}
use Rattle.store_base.specs.declared.error.StoreError.TheVariants.{ShortFile, BadVersion, BadBlockKind, BadOffset, BadIndex, InvalidArgument, DamagedDocument, BadDocument, Read, Memory, OldVersion}
use Rattle.store_base.specs.declared.error.StoreError.TheVariants.{Unserializable, BlockTooLarge, TooManyDocs, Failed, BadPeriod}
use Rattle.store_format.specs.StoreFile.{StoreBlock}
use Rattle.docstore.specs.Trace.{Call, Answer, no_memory, refused, store, store_bytes, stack, no_effect, effect_of}
use Rattle.docstore.specs.Writer.{Writing, flushed, with_failures, AfterFailed, AfterRefusal, AfterDocument, StoresDocument}
use Rattle.store_reader.specs.Reading.{Reading}
use Rattle.docstore.specs.Stacking.{AreRead, with_store, AfterStack}
use Rattle.docstore.specs.Run.{answer_of, after_effect}

-- The writer worked, and the call had its effect.
pub record Made (call : Call) (answer : Answer) (old new : Writing) : Type 0 where
  pub works : old.output.failure ≡ None
  pub after : new ≡ with_failures new.output.failures (after_effect old (effect_of call answer))

-- a call that leaves the writer
stays : (call : Call) (answer : Answer) (old new : Writing) → effect_of call answer ≡ no_effect → new ≡ old → new.output.failure ≡ None → Made call answer old new
stays call answer old new none is works = record {
  works = ap (λ (w : Writing). w.output.failure) (sym is) ∙ works;
  after = is ∙ ap (λ (n : ℕ). with_failures n old) (ap (λ (w : Writing). w.output.failures) (sym is)) ∙ ap (λ e. with_failures new.output.failures (after_effect old e)) (sym none);
}

-- a call that failed for good, now or before
fails : (call : Call) (answer : Answer) (old new : Writing) (before : Option Cause) (cause : Cause) → effect_of call answer ≡ no_effect → AfterFailed before cause old new → new.output.failure ≡ None
    → Made call answer old new
fails call answer old new None cause none h works = let failure : new.output.failure ≡ Some cause = h.failure in absurd cc
fails call answer old new (Some first) cause none h works = stays call answer old new none h.1 works

accepted_works : (before : Option Cause) (x : Unit {0}) → IfSome before (λ cause. IsErrOf (Ok x) (Failed cause)) → before ≡ None
accepted_works None x h = refl
accepted_works (Some cause) x h = absurd cc

-- ---- documents

unstored : (bytes : Option (List ℕ)) → effect_of (store bytes) no_memory ≡ no_effect
unstored None = refl
unstored (Some bytes) = refl

turned_down : (bytes : Option (List ℕ)) → effect_of (store bytes) refused ≡ no_effect
turned_down None = refl
turned_down (Some bytes) = refl

document_refused : (bytes : Option (List ℕ)) (e : StoreError) (old new : Writing) → AfterDocument old new e → new.output.failure ≡ None → Made (store bytes) (answer_of (Err e)) old new
document_refused bytes (ShortFile k) old new h works = absurd h
document_refused bytes (BadVersion k) old new h works = absurd h
document_refused bytes (BadBlockKind k) old new h works = absurd h
document_refused bytes BadOffset old new h works = absurd h
document_refused bytes BadIndex old new h works = absurd h
document_refused bytes (InvalidArgument k) old new h works = absurd h
document_refused bytes (DamagedDocument k) old new h works = absurd h
document_refused bytes BadDocument old new h works = absurd h
document_refused bytes Read old new h works = absurd h
document_refused bytes Memory old new h works = stays (store bytes) no_memory old new (unstored bytes) h.1 works
document_refused bytes OldVersion old new h works = absurd h
document_refused bytes Unserializable old new h works = stays (store bytes) refused old new (turned_down bytes) h works
document_refused bytes BlockTooLarge old new h works = stays (store bytes) refused old new (turned_down bytes) h works
document_refused bytes TooManyDocs old new h works = stays (store bytes) refused old new (turned_down bytes) h works
document_refused bytes (Failed cause) old new h works = fails (store bytes) refused old new old.output.failure cause (turned_down bytes) h works
document_refused bytes (BadPeriod k) old new h works = absurd h

pub document_made : (bytes : Option (List ℕ)) (result : Result (Unit {0}) StoreError) (old new : Writing) → OnOk result (StoresDocument bytes old new)
    → IfSome old.output.failure (λ cause. IsErrOf result (Failed cause)) → IfErr result (AfterDocument old new) → new.output.failure ≡ None → Made (store bytes) (answer_of result) old new
document_made None (Ok x) old new stored failed err works = absurd stored
document_made (Some bytes) (Ok x) old new stored failed err works = record { works = accepted_works old.output.failure x failed; after = stored }
document_made bytes (Err e) old new stored failed err works = document_refused bytes e old new err works

-- ---- bytes

bytes_refused : (bytes : List ℕ) (e : StoreError) (old new : Writing) → AfterRefusal old new e → new.output.failure ≡ None → Made (store_bytes bytes) (answer_of (Err e)) old new
bytes_refused bytes (ShortFile k) old new h works = absurd h
bytes_refused bytes (BadVersion k) old new h works = absurd h
bytes_refused bytes (BadBlockKind k) old new h works = absurd h
bytes_refused bytes BadOffset old new h works = absurd h
bytes_refused bytes BadIndex old new h works = absurd h
bytes_refused bytes (InvalidArgument k) old new h works = absurd h
bytes_refused bytes (DamagedDocument k) old new h works = absurd h
bytes_refused bytes BadDocument old new h works = absurd h
bytes_refused bytes Read old new h works = absurd h
bytes_refused bytes Memory old new h works = stays (store_bytes bytes) no_memory old new refl h.1 works
bytes_refused bytes OldVersion old new h works = absurd h
bytes_refused bytes Unserializable old new h works = absurd h
bytes_refused bytes BlockTooLarge old new h works = stays (store_bytes bytes) refused old new refl h works
bytes_refused bytes TooManyDocs old new h works = stays (store_bytes bytes) refused old new refl h works
bytes_refused bytes (Failed cause) old new h works = fails (store_bytes bytes) refused old new old.output.failure cause refl h works
bytes_refused bytes (BadPeriod k) old new h works = absurd h

pub bytes_made : (bytes : List ℕ) (result : Result (Unit {0}) StoreError) (old new : Writing) → OnOk result (StoresDocument (Some bytes) old new)
    → IfSome old.output.failure (λ cause. IsErrOf result (Failed cause)) → IfErr result (AfterRefusal old new) → new.output.failure ≡ None → Made (store_bytes bytes) (answer_of result) old new
bytes_made bytes (Ok x) old new stored failed err works = record { works = accepted_works old.output.failure x failed; after = stored }
bytes_made bytes (Err e) old new stored failed err works = bytes_refused bytes e old new err works

-- ---- stores

-- no store after the pending documents
pub store_of_none : (w : Writing) → with_store w [] ≡ flushed w
store_of_none w = λ i. record w { pending = []; output = record w.output { finished = append-nil (flushed w).output.finished i; content = append-nil (flushed w).output.content i } }

store_refused : (bs : List StoreBlock) (e : StoreError) (reader read : Reading) (old new : Writing) → AfterStack reader read old new e → new.output.failure ≡ None
    → Made (stack bs) (answer_of (Err e)) old new
store_refused bs (ShortFile k) reader read old new h works = absurd h
store_refused bs (BadVersion k) reader read old new h works = absurd h
store_refused bs (BadBlockKind k) reader read old new h works = absurd h
store_refused bs BadOffset reader read old new h works = absurd h
store_refused bs BadIndex reader read old new h works = absurd h
store_refused bs (InvalidArgument k) reader read old new h works = absurd h
store_refused bs (DamagedDocument k) reader read old new h works = absurd h
store_refused bs BadDocument reader read old new h works = absurd h
store_refused bs Read reader read old new h works = record { works = h.0.0; after = h.0.1 ∙ ap (with_failures new.output.failures) (sym (store_of_none old)) }
store_refused bs Memory reader read old new h works = record { works = h.0.0; after = h.0.1 }
store_refused bs OldVersion reader read old new h works = stays (stack bs) refused old new refl h.0 works
store_refused bs Unserializable reader read old new h works = absurd h
store_refused bs BlockTooLarge reader read old new h works = absurd h
store_refused bs TooManyDocs reader read old new h works = stays (stack bs) refused old new refl h.0 works
store_refused bs (Failed cause) reader read old new h works = fails (stack bs) refused old new old.output.failure cause refl h works
store_refused bs (BadPeriod k) reader read old new h works = absurd h

-- a stacking and the blocks that came of the reader's file
pub record IsStacked (reader : Reading) (result : Result (Unit {0}) StoreError) (old new : Writing) : Type 0 where
  pub blocks : List StoreBlock
  pub read : OnOk result (AreRead reader blocks)
  pub made : Made (stack blocks) (answer_of result) old new

pub store_made : (reader read : Reading) (result : Result (Unit {0}) StoreError) (old new : Writing)
    → OnOk result ((bs : List StoreBlock) × AreRead reader bs × (new ≡ with_failures new.output.failures (with_store old bs)))
    → OnOk result (old.output.failure ≡ None) → IfErr result (AfterStack reader read old new) → new.output.failure ≡ None → IsStacked reader result old new
store_made reader read (Ok x) old new stacked works_before err works = record {
  blocks = stacked.0;
  read = stacked.1;
  made = record { works = works_before; after = stacked.2 };
}
store_made reader read (Err e) old new stacked works_before err works = record {
  blocks = [];
  read = tt;
  made = store_refused [] e reader read old new err works;
}
