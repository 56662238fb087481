-- Why calls of a writer are refused, by where its list of calls stands.
use Rattle.std.proofs.Common.{◌≡◌, ℕ, ◌+◌, ◌-◌, ◌≤◌, ◌^◌, ◌⊎◌, inl, inr, Bool, true, false, if◌then◌else◌, nat_lt, List, [], ◌∷◌, ◌++◌, length, Option, Some, None, Result, Ok, Err, refl, ◌∙◌, ap}
use Rattle.std.proofs.Common.{arith, length-append}
use Rattle.std.specs.Prelude.{◌≢◌, ◌↔◌, IfErr, IsErrOf, OnOk, MatchOption}
use Rattle.std.proofs.lemmas.Bool.{cases_lt}
use Rattle.store_base.specs.declared.error.Cause.{Cause}
use Rattle.store_base.specs.declared.error.StoreError.{StoreError}
use Rattle.store_base.specs.declared.error.StoreError.TheVariants.{ShortFile, BadVersion, BadBlockKind, BadOffset, BadIndex, InvalidArgument, DamagedDocument, BadDocument, Read, Memory, OldVersion}
use Rattle.store_base.specs.declared.error.StoreError.TheVariants.{Unserializable, BlockTooLarge, TooManyDocs, Failed, BadPeriod}
use Rattle.store_format.specs.declared.version.DocStoreVersion.{DocStoreVersion}
use Rattle.store_format.specs.declared.version.DocStoreVersion.TheVariants.{V1, V2, V3}
use Rattle.store_format.specs.Block.{block}
use Rattle.store_format.specs.StoreFile.{docs_in}
use Rattle.docstore.specs.Trace.{Effect, adds, ends, may_end, no_effect, slots_of, weight}
use Rattle.docstore.specs.Writer.{Writing, num_docs, blocks_of, flushed, HasIdLeft, IsTooLarge, HasTooMuch, IsStoreWriter, AfterFailed, AfterRefusal, AfterDocument, StoresDocument}
use Rattle.store_reader.specs.Reading.{Reading, num_docs as docs_of}
use Rattle.docstore.specs.Stacking.{IsOld, HasTooMany, AfterStack, with_store}
use Rattle.docstore.specs.Causes.{stage_after, HasId, HasRoom, BytesGet, DocumentGets, CanStack, StoreGets}
use Rattle.docstore.specs.Run.{stage_of, after_effect}
use Rattle.store_format.proofs.StoreLemmas.{docs_in-append}
use Rattle.docstore.proofs.TakenLemmas.{length-slots}

-- a writer that works after a call has not failed in it
works_on : (before : Option Cause) (cause : Cause) (old new : Writing) → before ≡ None → new.output.failure ≡ None → AfterFailed before cause old new → ⊥
works_on None cause old new none works h = let failure : new.output.failure ≡ Some cause = h.failure in absurd cc
works_on (Some first) cause old new none works h = absurd cc

-- no refusal for the count, so there is an id
id_left : (result : Result (Unit {0}) StoreError) (w : Writing) → IsStoreWriter w → w.output.failure ≡ None → (IsErrOf result TooManyDocs ↔ ((w.output.failure ≡ None) × (num_docs w ≡ 2 ^ 32 - 1)))
    → (result ≡ Err TooManyDocs → ⊥) → HasIdLeft w
id_left result w sound works too_many not_this = elim (cases_lt (num_docs w) (2 ^ 32 - 1)) [
  | inl lt ↦ record { works = works; left = lt }
  | inr le ↦ absurd (not_this (too_many.1 (works, omega (arith, le, sound.ids))))
]

-- neither of the two refusals of bytes
room : (result : Result (Unit {0}) StoreError) (w : Writing) (bytes : List ℕ) → HasIdLeft w → (IsTooLarge w bytes → ⊥) → HasRoom (stage_of w) bytes
room result w bytes id not_this = (
  id.left,
  elim (cases_lt (length (block (w.pending ++ bytes ∷ []))) (2 ^ 32)) [
    | inl lt ↦ lt
    | inr le ↦ absurd (not_this (record { id = id; large = le }))
  ],
)

-- ---- bytes

pub bytes_get : (bytes : List ℕ) (result : Result (Unit {0}) StoreError) (old new : Writing) → IsStoreWriter old → old.output.failure ≡ None → new.output.failure ≡ None
    → (IsErrOf result TooManyDocs ↔ ((old.output.failure ≡ None) × (num_docs old ≡ 2 ^ 32 - 1))) → (IsErrOf result BlockTooLarge ↔ IsTooLarge old bytes) → IfErr result (AfterRefusal old new)
    → BytesGet (stage_of old) bytes result
bytes_get bytes (Ok x) old new sound worked works too_many too_large err = room (Ok x) old bytes (id_left (Ok x) old sound worked too_many (λ e. absurd cc)) (λ t. let e : Ok x ≡ Err BlockTooLarge =
    too_large.1 t in absurd cc)
bytes_get bytes (Err (ShortFile k)) old new sound worked works too_many too_large err = absurd err
bytes_get bytes (Err (BadVersion k)) old new sound worked works too_many too_large err = absurd err
bytes_get bytes (Err (BadBlockKind k)) old new sound worked works too_many too_large err = absurd err
bytes_get bytes (Err BadOffset) old new sound worked works too_many too_large err = absurd err
bytes_get bytes (Err BadIndex) old new sound worked works too_many too_large err = absurd err
bytes_get bytes (Err (InvalidArgument k)) old new sound worked works too_many too_large err = absurd err
bytes_get bytes (Err (DamagedDocument k)) old new sound worked works too_many too_large err = absurd err
bytes_get bytes (Err BadDocument) old new sound worked works too_many too_large err = absurd err
bytes_get bytes (Err Read) old new sound worked works too_many too_large err = absurd err
bytes_get bytes (Err Memory) old new sound worked works too_many too_large err = room (Err Memory) old bytes (id_left (Err Memory) old sound worked too_many (λ e. absurd cc))
    (λ t. let r : Result (Unit {0}) StoreError = Err Memory in let e : r ≡ Err BlockTooLarge = too_large.1 t in absurd cc)
bytes_get bytes (Err OldVersion) old new sound worked works too_many too_large err = absurd err
bytes_get bytes (Err Unserializable) old new sound worked works too_many too_large err = absurd err
bytes_get bytes (Err BlockTooLarge) old new sound worked works too_many too_large err = let t = too_large.0 refl in (t.id.left, t.large)
bytes_get bytes (Err TooManyDocs) old new sound worked works too_many too_large err = (too_many.0 refl).1
bytes_get bytes (Err (Failed cause)) old new sound worked works too_many too_large err = absurd (works_on old.output.failure cause old new worked works err)
bytes_get bytes (Err (BadPeriod k)) old new sound worked works too_many too_large err = absurd err

-- ---- documents

-- a document that was taken
document_fits : (bytes : Option (List ℕ)) (x : Unit {0}) (old new : Writing) → HasIdLeft old → StoresDocument bytes old new
    → (HasTooMuch old bytes → IsErrOf (Ok x) BlockTooLarge ⊎ IsErrOf (Ok x) Memory)
    → MatchOption bytes ⊥ (HasRoom (stage_of old))
document_fits None x old new id stored too_much = absurd stored
document_fits (Some bytes) x old new id stored too_much = room (Ok x) old bytes id (λ t. elim (too_much t) [
  | inl e ↦ absurd cc
  | inr e ↦ absurd cc
])

-- a document that was too large
document_is_large : (bytes : Option (List ℕ)) (old : Writing) → HasTooMuch old bytes → MatchOption bytes ⊥ (λ b. HasId (stage_of old) × (2 ^ 32 ≤ length (block (old.pending ++ b ∷ []))))
document_is_large None old h = absurd h
document_is_large (Some bytes) old h = (h.id.left, h.large)

pub document_gets : (bytes : Option (List ℕ)) (result : Result (Unit {0}) StoreError) (old new : Writing) → IsStoreWriter old → old.output.failure ≡ None → new.output.failure ≡ None
    → OnOk result (StoresDocument bytes old new)
    → (IsErrOf result TooManyDocs ↔ ((old.output.failure ≡ None) × (num_docs old ≡ 2 ^ 32 - 1))) → (IsErrOf result Unserializable → HasIdLeft old × (bytes ≡ None))
    → (IsErrOf result BlockTooLarge → HasTooMuch old bytes)
    → (HasTooMuch old bytes → IsErrOf result BlockTooLarge ⊎ IsErrOf result Memory) → IfErr result (AfterDocument old new) → DocumentGets (stage_of old) bytes result
document_gets bytes (Ok x) old new sound worked works stored too_many unserializable too_large too_much err =
    document_fits bytes x old new (id_left (Ok x) old sound worked too_many (λ e. absurd cc)) stored too_much
document_gets bytes (Err (ShortFile k)) old new sound worked works stored too_many unserializable too_large too_much err = absurd err
document_gets bytes (Err (BadVersion k)) old new sound worked works stored too_many unserializable too_large too_much err = absurd err
document_gets bytes (Err (BadBlockKind k)) old new sound worked works stored too_many unserializable too_large too_much err = absurd err
document_gets bytes (Err BadOffset) old new sound worked works stored too_many unserializable too_large too_much err = absurd err
document_gets bytes (Err BadIndex) old new sound worked works stored too_many unserializable too_large too_much err = absurd err
document_gets bytes (Err (InvalidArgument k)) old new sound worked works stored too_many unserializable too_large too_much err = absurd err
document_gets bytes (Err (DamagedDocument k)) old new sound worked works stored too_many unserializable too_large too_much err = absurd err
document_gets bytes (Err BadDocument) old new sound worked works stored too_many unserializable too_large too_much err = absurd err
document_gets bytes (Err Read) old new sound worked works stored too_many unserializable too_large too_much err = absurd err
document_gets bytes (Err Memory) old new sound worked works stored too_many unserializable too_large too_much err = (id_left (Err Memory) old sound worked too_many (λ e. absurd cc)).left
document_gets bytes (Err OldVersion) old new sound worked works stored too_many unserializable too_large too_much err = absurd err
document_gets bytes (Err Unserializable) old new sound worked works stored too_many unserializable too_large too_much err = let u = unserializable refl in (u.0.left, u.1)
document_gets bytes (Err BlockTooLarge) old new sound worked works stored too_many unserializable too_large too_much err = document_is_large bytes old (too_large refl)
document_gets bytes (Err TooManyDocs) old new sound worked works stored too_many unserializable too_large too_much err = (too_many.0 refl).1
document_gets bytes (Err (Failed cause)) old new sound worked works stored too_many unserializable too_large too_much err = absurd (works_on old.output.failure cause old new worked works err)
document_gets bytes (Err (BadPeriod k)) old new sound worked works stored too_many unserializable too_large too_much err = absurd err

-- ---- stores

is_old : (version : DocStoreVersion) → (version ≡ V1) ⊎ (version ≢ V1)
is_old V1 = inl refl
is_old V2 = inr (λ e. absurd cc)
is_old V3 = inr (λ e. absurd cc)

-- neither of the two refusals of a store
can_stack : (result : Result (Unit {0}) StoreError) (w : Writing) (reader : Reading) → w.output.failure ≡ None → (IsErrOf result OldVersion ↔ IsOld w reader)
    → (IsErrOf result TooManyDocs ↔ HasTooMany w reader)
    → (result ≡ Err OldVersion → ⊥) → (result ≡ Err TooManyDocs → ⊥) → CanStack (stage_of w) reader
can_stack result w reader works old_version too_many not_old not_many = elim (is_old reader.version) [
  | inl is ↦ absurd (not_old (old_version.1 (record { works = works; version = is })))
  | inr is_not ↦ (
    is_not,
    elim (cases_lt (num_docs w + docs_of reader) (2 ^ 32)) [
      | inl lt ↦ lt
      | inr le ↦ absurd (not_many (too_many.1 (record { works = works; version = is_not; many = le })))
    ],
  )
]

pub store_gets : (result : Result (Unit {0}) StoreError) (reader read : Reading) (old new : Writing) → old.output.failure ≡ None → new.output.failure ≡ None
    → (IsErrOf result OldVersion ↔ IsOld old reader) → (IsErrOf result TooManyDocs ↔ HasTooMany old reader) → IfErr result (AfterStack reader read old new)
    → StoreGets (stage_of old) reader read result
store_gets (Ok x) reader read old new worked works old_version too_many err = can_stack (Ok x) old reader worked old_version too_many (λ e. absurd cc) (λ e. absurd cc)
store_gets (Err (ShortFile k)) reader read old new worked works old_version too_many err = absurd err
store_gets (Err (BadVersion k)) reader read old new worked works old_version too_many err = absurd err
store_gets (Err (BadBlockKind k)) reader read old new worked works old_version too_many err = absurd err
store_gets (Err BadOffset) reader read old new worked works old_version too_many err = absurd err
store_gets (Err BadIndex) reader read old new worked works old_version too_many err = absurd err
store_gets (Err (InvalidArgument k)) reader read old new worked works old_version too_many err = absurd err
store_gets (Err (DamagedDocument k)) reader read old new worked works old_version too_many err = absurd err
store_gets (Err BadDocument) reader read old new worked works old_version too_many err = absurd err
store_gets (Err Read) reader read old new worked works old_version too_many err = (can_stack (Err Read) old reader worked old_version too_many (λ e. absurd cc) (λ e. absurd cc), err.2)
store_gets (Err Memory) reader read old new worked works old_version too_many err = (can_stack (Err Memory) old reader worked old_version too_many (λ e. absurd cc) (λ e. absurd cc), err.2)
store_gets (Err OldVersion) reader read old new worked works old_version too_many err = (old_version.0 refl).version
store_gets (Err Unserializable) reader read old new worked works old_version too_many err = absurd err
store_gets (Err BlockTooLarge) reader read old new worked works old_version too_many err = absurd err
store_gets (Err TooManyDocs) reader read old new worked works old_version too_many err = let t = too_many.0 refl in (t.version, t.many)
store_gets (Err (Failed cause)) reader read old new worked works old_version too_many err = absurd (works_on old.output.failure cause old new worked works err)
store_gets (Err (BadPeriod k)) reader read old new worked works old_version too_many err = absurd err

-- ---- where a writer stands after a call

docs_of_blocks : (docs : List (List ℕ)) → docs_in (blocks_of docs) ≡ length docs
docs_of_blocks [] = refl
docs_of_blocks (d ∷ docs) = omega arith

flushed_docs : (w : Writing) → num_docs (flushed w) ≡ num_docs w
flushed_docs w = omega (arith, docs_in-append w.output.finished (blocks_of w.pending), docs_of_blocks w.pending)

-- a document, whether it fills its block or not
one_more : (full : Bool) (w : Writing) → stage_of (if full then flushed w else w) ≡ record { count = num_docs w; pending = if full then [] else w.pending }
one_more true w = ap (λ (n : ℕ). record { count = n; pending = [] }) (flushed_docs w)
one_more false w = refl

pub stage_then : (w : Writing) (e : Effect) → stage_of (after_effect w e) ≡ stage_after w.block_size (stage_of w) e
stage_then w (adds bytes) =
    let docs = w.pending ++ bytes ∷ [] in
    let full = nat_lt w.block_size (weight docs) in
    let next : Writing = record w { pending = docs } in
    let count : num_docs next ≡ num_docs w + 1 = omega (arith, length-append w.pending (bytes ∷ [])) in
    one_more full next ∙ ap (λ (n : ℕ). record { count = n; pending = if full then [] else docs }) count
stage_then w (ends bs) =
    let count : num_docs (with_store w bs) ≡ num_docs w + length (slots_of (ends bs)) = omega (arith, docs_in-append (flushed w).output.finished bs, flushed_docs w, length-slots bs) in
    ap (λ (n : ℕ). record { count = n; pending = [] }) count
stage_then w may_end =
    let count : num_docs (flushed w) ≡ num_docs w + length (slots_of may_end) = omega (arith, flushed_docs w) in
    ap (λ (n : ℕ). record { count = n; pending = [] }) count
stage_then w no_effect =
    let count : num_docs w ≡ num_docs w + length (slots_of no_effect) = omega arith in
    ap (λ (n : ℕ). record { count = n; pending = w.pending }) count
