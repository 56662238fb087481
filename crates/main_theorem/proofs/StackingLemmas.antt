-- Stackings of stores in memory.
use Rattle.std.proofs.Common.{◌≡◌, ◌≢◌, inl, inr, ℕ, ◌+◌, ◌<◌, ◌^◌, List, [], ◌++◌, length, Result, Ok, Err, refl, sym, ap, ◌∙◌, subst, arith}
use Rattle.std.proofs.lemmas.List.{append-nil}
use Rattle.std.specs.Prelude.{◌↔◌, IsTrue, IsErrOf, OnOk, IfErr, MatchResult}
use Rattle.store_base.specs.Counts.{HasRisen}
use Rattle.store_base.specs.declared.error.StoreError.{StoreError}
use Rattle.store_base.specs.declared.error.StoreError.TheVariants.{ShortFile, BadVersion, BadBlockKind, BadOffset, BadIndex, InvalidArgument, DamagedDocument, BadDocument, Read, Memory, OldVersion}
use Rattle.store_base.specs.declared.error.StoreError.TheVariants.{Unserializable, BlockTooLarge, TooManyDocs, Failed, BadPeriod}
use Rattle.layered_index.specs.declared.checkpoint.Checkpoint.{Checkpoint}
use Rattle.layered_index.specs.Checkpoint.{docs_end}
use Rattle.store_format.specs.declared.version.DocStoreVersion.TheVariants.{V1}
use Rattle.store_format.specs.Footer.{version_number}
use Rattle.store_format.specs.Laws.{StoresAreApart}
use Rattle.store_reader.specs.Reading.{Reading, IsSeen, num_docs as docs_of, store_of}
use Rattle.store_format.specs.StoreFile.{StoreBlock, docs_in, file, IsStore}
use Rattle.docstore.specs.Writer.{Writing, num_docs, blocks_of, flushed, new_writing, with_failures}
use Rattle.docstore.specs.BlockOutput.{BlockOutput}
use Rattle.docstore.specs.Stacking.{AreRead, with_store, IsOld, HasTooMany, AfterStack}
use Rattle.docstore.proofs.StackLawLemmas.{checkpoints_end}
use Rattle.main_theorem.specs.Stacking.{IsNewStore}
use Rattle.main_theorem.specs.Want.{IsWant}

pub no_rise : (a b : ℕ) → a ≡ 0 → b ≡ 0 → HasRisen a b → ⊥
no_rise a b za zb h = let lt = h.risen (omega (arith, zb)) in omega (arith, lt, za, zb)

-- The reader has the file's store, which can be stacked.
pub record IsThat (r : Reading) (bs : List StoreBlock) : Type 0 where
  pub same : store_of r ≡ bs
  pub newer : r.version ≢ V1
  pub docs : docs_of r ≡ docs_in bs

pub is_that : (bytes : List ℕ) (bs : List StoreBlock) (r : Reading) → StoresAreApart → IsNewStore bytes bs → IsStore r.period bytes (version_number r.version) (store_of r) → IsSeen r → IsThat r bs
is_that bytes bs r apart new store seen =
    let same = apart r.period new.period bytes (version_number r.version) new.version (store_of r) bs store new.store in
    record {
      same = same.2;
      newer = λ old. absurd (omega (arith, same.1, ap version_number old, new.newer));
      docs = omega (arith, ap (λ (cs : List Checkpoint). docs_end 0 cs) seen.checkpoints_are, checkpoints_end 0 0 (store_of r), ap docs_in same.2);
    }

pub put_after : (r left : Reading) (bs : List StoreBlock) (old new : Writing) (result : Result (Unit {0}) StoreError) → IsThat r bs → IsTrue r.file.honest → r.file.failures ≡ 0
    → left.file.failures ≡ 0 → num_docs old + docs_in bs < 2 ^ 32
    → OnOk result ((cs : List StoreBlock) × AreRead r cs × (new ≡ with_failures new.output.failures (with_store old cs)))
    → (IsErrOf result OldVersion ↔ IsOld old r) → (IsErrOf result TooManyDocs ↔ HasTooMany old r) → IfErr result (AfterStack r left old new)
    → MatchResult result (λ x. new ≡ with_failures new.output.failures (with_store old bs)) IsWant
put_after r left bs old new (Ok x) that honest zero none few stacked is_old many err =
    stacked.2 ∙ ap (λ (cs : List StoreBlock). with_failures new.output.failures (with_store old cs)) (stacked.1.honest honest ∙ that.same)
put_after r left bs old new (Err Memory) that honest zero none few stacked is_old many err = inl refl
put_after r left bs old new (Err (Failed cause)) that honest zero none few stacked is_old many err = inr (cause, refl)
put_after r left bs old new (Err Read) that honest zero none few stacked is_old many err = absurd (no_rise _ _ zero none err.2)
put_after r left bs old new (Err OldVersion) that honest zero none few stacked is_old many err = absurd (that.newer (is_old.0 refl).version)
put_after r left bs old new (Err TooManyDocs) that honest zero none few stacked is_old many err = absurd (omega (arith, (many.0 refl).many, that.docs, few))
put_after r left bs old new (Err (ShortFile n)) that honest zero none few stacked is_old many err = absurd err
put_after r left bs old new (Err (BadVersion n)) that honest zero none few stacked is_old many err = absurd err
put_after r left bs old new (Err (BadBlockKind n)) that honest zero none few stacked is_old many err = absurd err
put_after r left bs old new (Err BadOffset) that honest zero none few stacked is_old many err = absurd err
put_after r left bs old new (Err BadIndex) that honest zero none few stacked is_old many err = absurd err
put_after r left bs old new (Err (InvalidArgument n)) that honest zero none few stacked is_old many err = absurd err
put_after r left bs old new (Err (DamagedDocument n)) that honest zero none few stacked is_old many err = absurd err
put_after r left bs old new (Err BadDocument) that honest zero none few stacked is_old many err = absurd err
put_after r left bs old new (Err Unserializable) that honest zero none few stacked is_old many err = absurd err
put_after r left bs old new (Err BlockTooLarge) that honest zero none few stacked is_old many err = absurd err
put_after r left bs old new (Err (BadPeriod n)) that honest zero none few stacked is_old many err = absurd err

-- ---- two stackings

-- A writer that put these two stores, and nothing else, into an output that held nothing.
pub record HasTwo (last : Writing) (period : ℕ) (bs cs : List StoreBlock) : Type 0 where
  pub period_is : last.output.period ≡ period
  pub before : last.output.before ≡ []
  pub finished : (flushed last).output.finished ≡ bs ++ cs

pub first_docs : (first : Writing) (size : ℕ) (output : BlockOutput) → first ≡ new_writing size output → output.finished ≡ [] → num_docs first ≡ 0
first_docs first size output is none = ap num_docs is ∙ ap (λ (xs : List StoreBlock). docs_in xs + 0) none

-- the blocks after the first stacking
mid_finished : (first mid : Writing) (size : ℕ) (output : BlockOutput) (bs : List StoreBlock) → first ≡ new_writing size output → output.finished ≡ []
    → mid ≡ with_failures mid.output.failures (with_store first bs) → mid.output.finished ≡ bs
mid_finished first mid size output bs is none one =
    ap (λ (w : Writing). w.output.finished) one
    ∙ ap (λ (w : Writing). (w.output.finished ++ blocks_of w.pending) ++ bs) is
    ∙ ap (λ (xs : List StoreBlock). (xs ++ []) ++ bs) none

pub mid_docs : (first mid : Writing) (size : ℕ) (output : BlockOutput) (bs : List StoreBlock) → first ≡ new_writing size output → output.finished ≡ []
    → mid ≡ with_failures mid.output.failures (with_store first bs) → num_docs mid ≡ docs_in bs
mid_docs first mid size output bs is none one =
    let pending : mid.pending ≡ [] = ap (λ (w : Writing). w.pending) one in
    omega (arith, ap docs_in (mid_finished first mid size output bs is none one), ap length pending)

pub has_two : (first mid last : Writing) (size period : ℕ) (output : BlockOutput) (bs cs : List StoreBlock) → first ≡ new_writing size output → output.finished ≡ [] → output.before ≡ []
    → output.period ≡ period
    → mid ≡ with_failures mid.output.failures (with_store first bs) → last ≡ with_failures last.output.failures (with_store mid cs) → HasTwo last period bs cs
has_two first mid last size period output bs cs is none empty per one two =
    let pending : mid.pending ≡ [] = ap (λ (w : Writing). w.pending) one in
    let later : last.pending ≡ [] = ap (λ (w : Writing). w.pending) two in
    let blocks : last.output.finished ≡ bs ++ cs =
    ap (λ (w : Writing). w.output.finished) two
    ∙ (λ i. (mid_finished first mid size output bs is none one i ++ blocks_of (pending i)) ++ cs)
    ∙ ap (λ (xs : List StoreBlock). xs ++ cs) (append-nil bs) in
    record {
      period_is = ap (λ (w : Writing). w.output.period) two ∙ ap (λ (w : Writing). w.output.period) one ∙ ap (λ (w : Writing). w.output.period) is ∙ per;
      before = ap (λ (w : Writing). w.output.before) two ∙ ap (λ (w : Writing). w.output.before) one ∙ ap (λ (w : Writing). w.output.before) is ∙ empty;
      finished = (λ i. blocks i ++ blocks_of (later i)) ∙ append-nil (bs ++ cs);
    }

-- the file that it leaves
pub file_of_two : (last : Writing) (period : ℕ) (bs cs : List StoreBlock) (content : List ℕ) → HasTwo last period bs cs
    → content ≡ last.output.before ++ file last.output.period 3 (flushed last).output.finished → content ≡ file period 3 (bs ++ cs)
file_of_two last period bs cs content two is = is ∙ (λ i. two.before i ++ file (two.period_is i) 3 (two.finished i))

pub store_of_two : (last : Writing) (period : ℕ) (bs cs : List StoreBlock) (content : List ℕ) → HasTwo last period bs cs → content ≡ file period 3 (bs ++ cs)
    → IsStore last.output.period (file last.output.period 3 (flushed last).output.finished) 3 (flushed last).output.finished → IsNewStore content (bs ++ cs)
store_of_two last period bs cs content two is store =
    let P : ℕ → List StoreBlock → Type 0 = λ p xs. IsStore p (file p 3 xs) 3 xs in
    let one = subst (λ (p : ℕ). P p (flushed last).output.finished) two.period_is store in
    record {
      period = period;
      version = 3;
      newer = omega arith;
      store = subst (λ (bytes : List ℕ). IsStore period bytes 3 (bs ++ cs)) (sym is) (subst (P period) two.finished one);
    }
