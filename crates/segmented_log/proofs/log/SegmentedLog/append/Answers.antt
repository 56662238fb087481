use Rattle.std.proofs.Common.{◌≡◌, ℕ, ◌+◌, ◌++◌, ◌∷◌, [], length, ◌∙◌, ap, arith, length-append, Result, Ok, Err}
use Rattle.std.specs.Result.{IsErr, OnOk}
use Rattle.std.proofs.lemmas.Bool.{OnFalse_at, false≢true}
use Rattle.segmented_log.specs.declared.error.LogError.{LogError}
use Rattle.segmented_log.specs.declared.error.LogError.TheVariants.{Broken, Full, TooLong, BatchFull, Memory}
use Rattle.log_tail.specs.Tail.{records_in, framed, four}
use Rattle.log_tail.proofs.Frames.{length-four}
use Rattle.log_tail.proofs.Logs.{one_more}
use Rattle.segmented_log.specs.Settled.{IsSettledTail}
use Rattle.segmented_log.proofs.CauseLemmas.{ok_alone, err_alone, memory_alone}
use Rattle.segmented_log.proofs.SyncLemmas.{next_number, both_on_false}
use Rattle.segmented_log.proofs.log.SegmentedLog.append.Goals as goal

-- errors that differ
broken_long : Broken ≡ TooLong → ⊥
broken_long is = cc is

broken_batch : Broken ≡ BatchFull → ⊥
broken_batch is = cc is

full_long : Full ≡ TooLong → ⊥
full_long is = cc is

full_batch : Full ≡ BatchFull → ⊥
full_batch is = cc is

batch_long : BatchFull ≡ TooLong → ⊥
batch_long is = cc is

long_memory : TooLong ≡ Memory → ⊥
long_memory is = cc is

batch_memory : BatchFull ≡ Memory → ⊥
batch_memory is = cc is

-- What holds of an Ok alone holds of an error.
none_taken : (P : Type 0) (r : Result ℕ LogError) → IsErr r → OnOk r P
none_taken P (Ok n) failed = absurd (false≢true failed)
none_taken P (Err d) failed = _

pub invariant_of-self : goal.invariant_of-self
invariant_of-self g c = rw c.in_err-add_record.ensures.kept c.self.invariant

pub invariant_of-self-2 : goal.invariant_of-self-2
invariant_of-self-2 g c =
    let known = OnFalse_at c.if-self.false c.self.invariant in
    let s = known.0 in
    let log = c.self.inside in
    let bytes = c.args.bytes.now in
    let body = c.add_record.new.self.pending in
    let more = one_more log.tail.pending bytes body (omega arith) c.in_ok-add_record.ensures.added s.pending_whole in
    let now : IsSettledTail log.sealed log.tail_first (log.next + 1) log.tail.bytes log.places.items body = record {
      is_tail = s.is_tail;
      whole = s.whole;
      records = s.records;
      within = s.within;
      first_is = s.first_is;
      low = s.low;
      high = s.high;
      next_is = omega (arith, s.next_is, ap length more.1, length-append (records_in log.tail.pending) (bytes ∷ []));
      fits = omega arith;
      pending_whole = more.0;
      small = omega (
        arith,
        ap length c.pending.ensures,
        ap length c.in_ok-add_record.ensures.added,
        length-append log.tail.pending (framed bytes),
        length-append
            (four (length bytes)) bytes,
        length-four (length bytes),
      );
    } in
    rw c.add_record.ensures.bytes (both_on_false _ _ _ now known.1)

pub returns-clause-pending : goal.returns-clause-pending
returns-clause-pending g c =
    let s = (OnFalse_at c.if-self.false c.self.invariant).0 in
    let more = one_more c.self.inside.tail.pending c.args.bytes.now c.add_record.new.self.pending (omega arith) c.in_ok-add_record.ensures.added s.pending_whole in
    more.1 ∙ ap (λ v. v.pending ++ c.args.bytes.now ∷ []) c.self.view_is

pub returns-clause-number : goal.returns-clause-number
returns-clause-number g c = λ h.
    let known = OnFalse_at c.if-self.false c.self.invariant in
    next_number _ _ _ _ _ _ known.0 _ _ (known.1 h).0.parts
    ∙ ap (λ v. v.first + length v.slots + length v.pending) c.self.view_is

pub returns-then-number-clause-full : goal.returns-then-number-clause-full
returns-then-number-clause-full g c = λ h is.
    let known = OnFalse_at c.if-self.false c.self.invariant in
    let number : c.self.inside.next ≡ c.args.self.now.first + length c.args.self.now.slots + length c.args.self.now.pending =
    next_number _ _ _ _ _ _ known.0 _ _ (known.1 h).0.parts
    ∙ ap (λ v. v.first + length v.slots + length v.pending) c.self.view_is in
    omega (arith, number, c.if-number.true)

pub returns-then-self-clause-too_long : goal.returns-then-self-clause-too_long
returns-then-self-clause-too_long g c = λ is. absurd (err_alone Broken TooLong broken_long is)

pub returns-then-self-clause-batch_full : goal.returns-then-self-clause-batch_full
returns-then-self-clause-batch_full g c = λ is. absurd (err_alone Broken BatchFull broken_batch is)

pub returns-then-number-clause-too_long : goal.returns-then-number-clause-too_long
returns-then-number-clause-too_long g c = λ is. absurd (err_alone Full TooLong full_long is)

pub returns-then-number-clause-batch_full : goal.returns-then-number-clause-batch_full
returns-then-number-clause-batch_full g c = λ is. absurd (err_alone Full BatchFull full_batch is)

pub returns-then-bytes-pending-clause-too_long : goal.returns-then-bytes-pending-clause-too_long
returns-then-bytes-pending-clause-too_long g c = λ is. absurd (err_alone BatchFull TooLong batch_long is)

pub returns-clause-too_long : goal.returns-clause-too_long
returns-clause-too_long g c = λ is. absurd (ok_alone TooLong _ is)

pub returns-clause-batch_full : goal.returns-clause-batch_full
returns-clause-batch_full g c = λ is. absurd (ok_alone BatchFull _ is)

pub returns-clause-taken : goal.returns-clause-taken
returns-clause-taken g c = omega (arith, c.if-bytes-gt-MAX_RECORD.false)

pub returns-in_err-add_record-clause-taken : goal.returns-in_err-add_record-clause-taken
returns-in_err-add_record-clause-taken g c = none_taken _ _ c.from_residual.ensures.0

pub returns-in_err-add_record-clause-too_long : goal.returns-in_err-add_record-clause-too_long
returns-in_err-add_record-clause-too_long g c = λ is. absurd (memory_alone TooLong long_memory _ c.from_residual.ensures.1 is)

pub returns-in_err-add_record-clause-batch_full : goal.returns-in_err-add_record-clause-batch_full
returns-in_err-add_record-clause-batch_full g c = λ is. absurd (memory_alone BatchFull batch_memory _ c.from_residual.ensures.1 is)
