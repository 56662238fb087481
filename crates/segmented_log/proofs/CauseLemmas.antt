-- Errors that a call passes on.
use Rattle.std.proofs.Common.{◌≡◌, ⊎_elim, ℕ, ◌<◌, List, [], ◌∷◌, None, sym, ◌∙◌, subst, arith}
use Rattle.std.specs.List.{AllByRecursion, Contains}
use Rattle.std.specs.Prelude.{Result, Ok, Err, IfErr, IsErrOf}
use Rattle.std.specs.Result.{IsErrAnd}
use Rattle.store_folder.specs.Folder.{Look}
use Rattle.segmented_log.specs.declared.error.LogError.{LogError}
use Rattle.segmented_log.specs.declared.error.LogError.TheVariants.{Memory, Failed, Unsynced, Full, Broken}
use Rattle.segmented_log.specs.Names.{segment_name}
use Rattle.segmented_log.specs.Parts.{Part, end_from, AreParts}
use Rattle.segmented_log.specs.Log.{Holds}
use Rattle.segmented_log.specs.Causes.{IsOfSeals, IsOfJoins, IsFault, IsFailure}
use Rattle.segmented_log.proofs.HoldLemmas.{firsts}
use Rattle.segmented_log.proofs.PartLemmas.{begin_before}
use Rattle.segmented_log.proofs.UniqueLemmas.{among_cons}

seals_of : (e : LogError) → IsFault e → IsOfSeals e
seals_of Memory of = tt
seals_of (Failed reason) of = tt
seals_of Unsynced of = tt
seals_of _ of = absurd of

pub if_seals : {T : Type 0} (r : Result T LogError) → IfErr r IsFault → IfErr r IsOfSeals
if_seals (Ok x) of = tt
if_seals (Err e) of = seals_of e of

-- a fault is an error of a call that joins segments
pub joins_of : (e : LogError) → IsFault e → IsOfJoins e
joins_of Memory of = tt
joins_of (Failed reason) of = tt
joins_of Unsynced of = tt
joins_of _ of = absurd of

-- an error that a table has not
pub never : {T : Type 0} (P : LogError → Type 0) (e : LogError) → (P e → ⊥) → (r : Result T LogError) → IfErr r P → IsErrOf r e → ⊥
never P e empty (Ok x) of is = let none : ⊥ = cc is in absurd none
never P e empty (Err d) of is = let same : d ≡ e = cc is in empty (subst P same of)

-- An error is one error alone.
err_is : {T : Type 0} (d e : LogError) → ◌≡◌ {A = Result T LogError} (Err d) (Err e) → d ≡ e
err_is d e is = cc is

-- no result is both Ok and this error
pub ok_alone : {T : Type 0} (e : LogError) (x : T) → IsErrOf (Ok x) e → ⊥
ok_alone e x is = cc is

pub err_alone : {T : Type 0} (d e : LogError) → (d ≡ e → ⊥) → IsErrOf {T = T} (Err d) e → ⊥
err_alone d e other is = other (err_is d e is)

-- A `?` after a call that fails for lack of memory returns no other error.
pub memory_alone : {T : Type 0} (e : LogError) → (e ≡ Memory → ⊥) → (r : Result T LogError) → IsErrAnd r (λ d. d ≡ Memory) → IsErrOf r e → ⊥
memory_alone e other (Ok x) failed is = failed
memory_alone e other (Err d) failed is = other (sym (err_is d e is) ∙ failed)

-- errors that differ
-- An error for lack of memory is no failure.
pub no_failure : {T : Type 0} (r : Result T LogError) → IsErrAnd r (λ d. d ≡ Memory) → IsErrAnd r IsFailure → ⊥
no_failure (Ok x) memory failed = failed
no_failure (Err d) memory failed = subst IsFailure memory failed

pub broken_full : Broken ≡ Full → ⊥
broken_full is = cc is

not_among : (k : ℕ) (parts : List Part) → AllByRecursion (λ part. part.first < k) parts → Contains (firsts parts) k → ⊥
not_among k [] below among = absurd (omega (arith, among.1))
not_among k (p ∷ parts) below among = ⊎_elim (λ same. omega (arith, same, below.0)) (λ later. not_among k parts below.1 later) (among_cons p parts k among)

-- the number from which on no segment has records has no segment
pub none_sealed : (first sealed : ℕ) (segments : List Part) (tail : List ℕ) (c : Look) → AreParts first segments tail → sealed ≡ end_from first segments → Holds segments tail c
    → c (segment_name sealed) ≡ None
none_sealed first sealed segments tail c parts sealed_is held =
    ⊎_elim (λ none. none)
    (λ among. absurd (not_among (end_from first segments) segments (begin_before first segments parts.in_line) (subst (λ (n : ℕ). Contains (firsts segments) n) sealed_is among)))
    (held.no_others sealed (omega (arith, sealed_is, parts.fits)))
