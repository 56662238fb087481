-- What a list of commands leaves.
use Rattle.std.proofs.Common.{◌≡◌, ℕ, ◌≤◌, inl, inr, List, [], ◌∷◌, ◌++◌, length, Option, Some, None, Result, refl, sym, ◌∙◌, ap, subst, arith}
use Rattle.std.specs.Prelude.{IfSome}
use Rattle.std.specs.List.{fold}
use Rattle.std.proofs.lemmas.List.Sums.{fold-append}
use Rattle.store_base.specs.Outputs.{Termination}
use Rattle.docstore.specs.Causes.{Stage, first_stage, stage_after, CommandGets, HaveCauses}
use Rattle.docstore.proofs.CauseLemmas.{stage_then}
use Rattle.store_base.specs.declared.error.Cause.{Cause}
use Rattle.store_base.specs.declared.error.Cause.TheVariants.{Write, Memory as OutOfMemory}
use Rattle.store_base.specs.declared.error.StoreError.{StoreError}
use Rattle.store_base.specs.declared.error.StoreError.TheVariants.{ShortFile, BadVersion, BadBlockKind, BadOffset, BadIndex, InvalidArgument, DamagedDocument, BadDocument, Read, Memory, OldVersion}
use Rattle.store_base.specs.declared.error.StoreError.TheVariants.{Unserializable, BlockTooLarge, TooManyDocs, Failed, BadPeriod}
use Rattle.docstore.specs.declared.run.StoreCommand.{StoreCommand}
use Rattle.docstore.specs.declared.run.StoreCommand.TheVariants.{Doc, Bytes, Stack}
use Rattle.store_format.specs.StoreFile.{data_of}
use Rattle.docstore.specs.Trace.{Step, effect}
use Rattle.docstore.specs.BlockOutput.{BlockOutput, HasCause, HasNotEnded, AfterFailedClose, AfterClose, HoldsBlocks}
use Rattle.docstore.specs.Writer.{Writing, AfterFailed, IsStoreWriter, blocks_of}
use Rattle.docstore.specs.Run.{stage_of, IsStep, IsKept, IsCall, IsTrace, AreCommandsKept, OutputState, AfterRun}
use Rattle.docstore.proofs.RunSoFarLemmas.{IsRunSoFar, run_step, run_closes}
use Rattle.docstore.proofs.WriterLemmas.{cause_further}

-- where a list of calls stands at its end
abbrev stage_by : ℕ → Stage → List Step → Stage
stage_by size at trace = fold (λ a s. stage_after size a (effect s)) at trace

-- While the writer works it has made these calls.
pub record IsRunBy {D H : Type 0} (size period : ℕ) (held : List ℕ) (doc_bytes : D → Option (List ℕ)) (commands left : List (StoreCommand D H)) (results : List (Result (Unit {0}) StoreError))
    (w : Writing) : Type 0 where
  pub trace : List Step
  pub calls : IsTrace doc_bytes commands results trace
  pub causes : HaveCauses size doc_bytes first_stage commands left results trace
  pub stage : stage_of w ≡ fold (λ a s. stage_after size a (effect s)) first_stage trace
  pub so_far : IsRunSoFar size period held trace w

abbrev pub IsRun : {D H : Type 0} → ℕ → ℕ → List ℕ → (D → Option (List ℕ)) → List (StoreCommand D H) → List (StoreCommand D H) → List (Result (Unit {0}) StoreError) → Writing → Type 0
IsRun size period held doc_bytes commands left results w = w.output.failure ≡ None → IsRunBy size period held doc_bytes commands left results w

trace_more : {D H : Type 0} (doc_bytes : D → Option (List ℕ)) (commands : List (StoreCommand D H)) (results : List (Result (Unit {0}) StoreError)) (trace : List Step) (command : StoreCommand D H)
    (result : Result (Unit {0}) StoreError) (s : Step)
    → IsTrace doc_bytes commands results trace → IsStep doc_bytes command result s → IsTrace doc_bytes (commands ++ command ∷ []) (results ++ result ∷ []) (trace ++ s ∷ [])
trace_more doc_bytes [] [] [] command result s h is = (is, tt)
trace_more doc_bytes (c ∷ commands) (r ∷ results) (t ∷ trace) command result s h is = (h.0, trace_more doc_bytes commands results trace command result s h.1 is)
trace_more doc_bytes [] [] (t ∷ trace) command result s h is = absurd h
trace_more doc_bytes [] (r ∷ results) trace command result s h is = absurd h
trace_more doc_bytes (c ∷ commands) [] trace command result s h is = absurd h
trace_more doc_bytes (c ∷ commands) (r ∷ results) [] command result s h is = absurd h

causes_more : {D H : Type 0} (size : ℕ) (doc_bytes : D → Option (List ℕ)) (at : Stage) (commands left : List (StoreCommand D H)) (results : List (Result (Unit {0}) StoreError)) (trace : List Step)
    (command after : StoreCommand D H) (result : Result (Unit {0}) StoreError) (s : Step)
    → HaveCauses size doc_bytes at commands left results trace → CommandGets doc_bytes (stage_by size at trace) command after result
    → HaveCauses size doc_bytes at (commands ++ command ∷ []) (left ++ after ∷ []) (results ++ result ∷ []) (trace ++ s ∷ [])
causes_more size doc_bytes at [] [] [] [] command after result s h is = (is, tt)
causes_more size doc_bytes at (c ∷ commands) (d ∷ left) (r ∷ results) (t ∷ trace) command after result s h is =
    (h.0, causes_more size doc_bytes (stage_after size at (effect t)) commands left results trace command after result s h.1 is)
causes_more size doc_bytes at [] [] [] (t ∷ trace) command after result s h is = absurd h
causes_more size doc_bytes at [] [] (r ∷ results) trace command after result s h is = absurd h
causes_more size doc_bytes at [] (d ∷ left) results trace command after result s h is = absurd h
causes_more size doc_bytes at (c ∷ commands) [] results trace command after result s h is = absurd h
causes_more size doc_bytes at (c ∷ commands) (d ∷ left) [] trace command after result s h is = absurd h
causes_more size doc_bytes at (c ∷ commands) (d ∷ left) (r ∷ results) [] command after result s h is = absurd h

-- one more call
pub run_by_more : {D H : Type 0} (size period : ℕ) (held : List ℕ) (doc_bytes : D → Option (List ℕ)) (commands left : List (StoreCommand D H)) (results : List (Result (Unit {0}) StoreError))
    (command after : StoreCommand D H) (result : Result (Unit {0}) StoreError) (old new : Writing)
    → (new.output.failure ≡ None → IsCall doc_bytes command after result old new) → IsRun size period held doc_bytes commands left results old
    → IsRun size period held doc_bytes (commands ++ command ∷ []) (left ++ after ∷ []) (results ++ result ∷ []) new
run_by_more size period held doc_bytes commands left results command after result old new made run = λ works.
    let call = made works in
    let before = run call.works in
    record {
      trace = before.trace ++ call.step ∷ [];
      calls = trace_more doc_bytes commands results before.trace command result call.step before.calls call.is;
      causes = causes_more size doc_bytes first_stage commands left results before.trace command after result call.step before.causes
          (subst (λ (at : Stage). CommandGets doc_bytes at command after result) before.stage call.cause);
      stage = ap stage_of call.after ∙ stage_then old (effect call.step)
          ∙ (λ i. stage_after (before.so_far.size_is i) (before.stage i) (effect call.step))
          ∙ sym (fold-append (λ a s. stage_after size a (effect s)) first_stage before.trace (call.step ∷ []));
      so_far = run_step size period held before.trace call.step old new call.after before.so_far;
    }

-- ---- what is kept

pub all_kept : {D H : Type 0} (commands : List (StoreCommand D H)) → AreCommandsKept commands commands
all_kept [] = tt
all_kept (Doc d ∷ commands) = (refl, all_kept commands)
all_kept (Bytes v ∷ commands) = (refl, all_kept commands)
all_kept (Stack reader ∷ commands) = (inl refl, all_kept commands)

pub kept_more : {D H : Type 0} (olds news : List (StoreCommand D H)) (old new : StoreCommand D H) → AreCommandsKept olds news → IsKept old new → AreCommandsKept (olds ++ old ∷ []) (news ++ new ∷ [])
kept_more [] [] old new h is = (is, tt)
kept_more (c ∷ olds) (d ∷ news) old new h is = (h.0, kept_more olds news old new h.1 is)
kept_more [] (d ∷ news) old new h is = absurd h
kept_more (c ∷ olds) [] old new h is = absurd h

-- ---- failures

-- Why a writer has failed, if it has, by what the output held at first.
abbrev pub HasFailedSince : List ℕ → ℕ → Writing → Type 0
HasFailedSince held failures w = IfSome w.output.failure (λ cause. HasCause cause failures w.output.failures held w.output.content)

pub none_failed : (held : List ℕ) (failures : ℕ) (w : Writing) → w.output.failure ≡ None → HasFailedSince held failures w
none_failed held failures w none = subst (λ (o : Option Cause). IfSome o (λ cause. HasCause cause failures w.output.failures held w.output.content)) (sym none) tt

-- a cause since an output that held the finished blocks
since : (held : List ℕ) (failures : ℕ) (old : BlockOutput) (cause : Cause) (risen : ℕ) (content : List ℕ) → failures ≤ old.failures → old.before ≡ held → HoldsBlocks old
    → HasCause cause old.failures risen old.content content → HasCause cause failures risen held content
since held failures old cause risen content le before holds why =
    cause_further cause failures old.failures risen held (data_of old.finished) old.content content le (holds.written ∙ ap (λ (x : List ℕ). x ++ data_of old.finished) before) why

-- a call that failed for good
failed_by : (held : List ℕ) (failures : ℕ) (old new : Writing) (first : Option Cause) (cause : Cause) → failures ≤ old.output.failures → IsStoreWriter old
    → (old.output.failure ≡ None → old.output.before ≡ held)
    → IfSome first (λ c. HasCause c failures old.output.failures held old.output.content) → AfterFailed first cause old new → HasCause cause failures new.output.failures held new.output.content
failed_by held failures old new None cause le sound before was h =
    since held failures old.output cause new.output.failures new.output.content le (before h.worked) (sound.output.works h.worked) h.why
failed_by held failures old new (Some first) cause le sound before was h =
    subst (λ (w : Writing). HasCause cause failures w.output.failures held w.output.content) (sym h.1)
    (subst (λ (c : Cause). HasCause c failures old.output.failures held old.output.content) (sym h.0) was)

pub failed_more : (held : List ℕ) (failures : ℕ) (old new : Writing) → failures ≤ old.output.failures → IsStoreWriter old → (old.output.failure ≡ None → old.output.before ≡ held)
    → HasFailedSince held failures old → IfSome new.output.failure (λ cause. AfterFailed old.output.failure cause old new) → HasFailedSince held failures new
failed_more held failures old new le sound before was h = go new.output.failure h
  where
    go : (after : Option Cause) → IfSome after (λ cause. AfterFailed old.output.failure cause old new) → IfSome after (λ cause. HasCause cause failures new.output.failures held new.output.content)
    go None h = tt
    go (Some cause) h = failed_by held failures old new old.output.failure cause le sound before was h

not_asked : (cause : Cause) (old new : Termination) → new ≡ old → HasNotEnded cause old new
not_asked Write old new same = inl same
not_asked OutOfMemory old new same = same

-- a writer that is not closed
not_closed : (held : OutputState) (w : Writing) (first : Option Cause) (cause : Cause) (new : OutputState) → w.output.failure ≡ first → held.failures ≤ w.output.failures
    → w.output.termination ≡ held.termination
    → IsStoreWriter w → (w.output.failure ≡ None → w.output.before ≡ held.content)
    → IfSome first (λ c. HasCause c held.failures w.output.failures held.content w.output.content) → AfterFailedClose first cause w.output new.content new.termination new.failures
    → HasCause cause held.failures new.failures held.content new.content × HasNotEnded cause held.termination new.termination
not_closed held w None cause new is le ends sound before was h = (
  since held.content held.failures w.output cause new.failures new.content le (before is) (sound.output.works is) h.0,
  subst (λ (t : Termination). HasNotEnded cause t new.termination) ends h.1,
)
not_closed held w (Some first) cause new is le ends sound before was h =
    let same : HasCause cause held.failures w.output.failures held.content w.output.content =
    subst (λ (c : Cause). HasCause c held.failures w.output.failures held.content w.output.content) (sym h.0) was in (
      subst (λ (n : ℕ). HasCause cause held.failures n held.content new.content) (sym h.2) (subst (λ (x : List ℕ). HasCause cause held.failures w.output.failures held.content x) (sym h.1) same),
      not_asked cause held.termination new.termination (h.3 ∙ ends),
    )

one_waits : (docs : List (List ℕ)) → length (blocks_of docs) ≤ 1
one_waits [] = omega arith
one_waits (d ∷ docs) = omega arith

pub after_run : {D H : Type 0} (size period : ℕ) (doc_bytes : D → Option (List ℕ)) (commands left : List (StoreCommand D H)) (results : List (Result (Unit {0}) StoreError)) (held : OutputState)
    (w : Writing)
    (e : StoreError) (new : OutputState)
    → held.failures ≤ w.output.failures → w.output.termination ≡ held.termination → IsStoreWriter w → IsRun size period held.content doc_bytes commands left results w
    → HasFailedSince held.content held.failures w → AfterClose e w.output new.content new.termination new.failures → AfterRun size doc_bytes commands left held new e
after_run size period doc_bytes commands left results held w Memory new le ends sound run was h =
    let made = run h.0 in
    inr (
      record {
        results = results;
        trace = made.trace;
        blocks = w.output.finished;
        waiting = blocks_of w.pending;
        calls = made.calls;
        causes = made.causes;
        cut = run_closes size period held.content made.trace w made.so_far;
        one = one_waits w.pending;
        output = h.1 ∙ (sound.output.works h.0).written ∙ ap (λ (x : List ℕ). x ++ data_of w.output.finished) made.so_far.before;
      },
      h.3 ∙ ends,
    )
after_run size period doc_bytes commands left results held w (Failed cause) new le ends sound run was h =
    not_closed held w w.output.failure cause new refl le ends sound (λ works. (run works).so_far.before) was h
after_run size period doc_bytes commands left results held w (ShortFile k) new le ends sound run was h = absurd h
after_run size period doc_bytes commands left results held w (BadVersion k) new le ends sound run was h = absurd h
after_run size period doc_bytes commands left results held w (BadBlockKind k) new le ends sound run was h = absurd h
after_run size period doc_bytes commands left results held w BadOffset new le ends sound run was h = absurd h
after_run size period doc_bytes commands left results held w BadIndex new le ends sound run was h = absurd h
after_run size period doc_bytes commands left results held w (InvalidArgument k) new le ends sound run was h = absurd h
after_run size period doc_bytes commands left results held w (DamagedDocument k) new le ends sound run was h = absurd h
after_run size period doc_bytes commands left results held w BadDocument new le ends sound run was h = absurd h
after_run size period doc_bytes commands left results held w Read new le ends sound run was h = absurd h
after_run size period doc_bytes commands left results held w OldVersion new le ends sound run was h = absurd h
after_run size period doc_bytes commands left results held w Unserializable new le ends sound run was h = absurd h
after_run size period doc_bytes commands left results held w BlockTooLarge new le ends sound run was h = absurd h
after_run size period doc_bytes commands left results held w TooManyDocs new le ends sound run was h = absurd h
after_run size period doc_bytes commands left results held w (BadPeriod k) new le ends sound run was h = absurd h

-- ---- lists that are gone over
