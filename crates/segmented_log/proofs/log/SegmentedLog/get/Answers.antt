use Rattle.std.proofs.Common.{◌≡◌, ◌⊎◌, ◌<◌, ◌∙◌, map, refl, sym, ap, subst, arith}
use Rattle.std.proofs.lemmas.Bool.{OnFalse_at, false≢true}
use Rattle.std.specs.Prelude.{IsTrue}
use Rattle.std.specs.List.{sum_by}
use Rattle.store_base.specs.Counts.{HasRisen}
use Rattle.std.specs.Result.{IsErrAnd}
use Rattle.segmented_log.specs.Parts.{part_of, sealed_of, parts_of, end_from, log_slots, AreParts}
use Rattle.segmented_log.specs.Log.{slot_at, Gives}
use Rattle.segmented_log.specs.Settled.{IsSettledTail}
use Rattle.segmented_log.specs.Bounds.{AreBounds}
use Rattle.segmented_log.specs.declared.error.LogError.TheVariants.{Broken}
use Rattle.segmented_log.specs.Causes.{IsOfReads, IsFailure}
use Rattle.segmented_log.proofs.CauseLemmas.{never}
use Rattle.segmented_log.proofs.RunOfParts.{view_parts}
use Rattle.segmented_log.proofs.SyncLemmas.{both_on_false}
use Rattle.segmented_log.proofs.log.SegmentedLog.get.Goals.{After-get_record}
use Rattle.segmented_log.proofs.log.SegmentedLog.get.Goals as goal

pub get_record-requires : goal.get_record-requires
get_record-requires g c =
    let log = c.self.inside in
    let settled = (OnFalse_at c.if-self.false c.self.invariant).0 in (
      log.next,
      log.tail.pending,
      subst (λ b. IsSettledTail log.sealed log.tail_first log.next b c.deref.result.now log.tail.pending) (sym c.bytes.ensures)
          (subst (λ p. IsSettledTail log.sealed log.tail_first log.next log.tail.bytes p log.tail.pending) (sym c.deref.ensures.value) settled),
    )

-- the bounds that are read by
bounds : (g : _) (c : After-get_record g) → IsTrue g.F.Folder.honest
    → AreBounds (record { first = c.self.inside.first; sealed = c.self.inside.sealed; tail_first = c.self.inside.tail_first; may_overlap = c.self.inside.may_overlap })
    (map (λ s. part_of s.first s.reader) c.self.inside.segments.items) c.bytes.result.now
bounds g c h =
    let log = c.self.inside in
    let known = (OnFalse_at c.if-self.false c.self.invariant).1 h in
    record {
      parts = subst (λ b. AreParts log.first (map (λ s. part_of s.first s.reader) log.segments.items) b) (sym c.bytes.ensures) known.0.parts;
      sealed_is = known.0.sealed_is;
      next = known.2;
    }

pub returns-clause-found : goal.returns-clause-found
returns-clause-found g c = λ h.
    let log = c.self.inside in
    let known = (OnFalse_at c.if-self.false c.self.invariant).1 h in
    let parts = map (λ s. part_of s.first s.reader) log.segments.items in
    subst (λ v. Gives (slot_at v.first v.slots c.args.number) c.get_record.result) c.self.view_is
    (subst (λ b. Gives (slot_at log.first (log_slots log.first parts b) c.args.number) c.get_record.result) c.bytes.ensures (c.get_record.ensures.found known.1 (bounds g c h)))

pub invariant_of-self : goal.invariant_of-self
invariant_of-self g c =
    let known = OnFalse_at c.if-self.false c.self.invariant in
    rw c.get_record.ensures.parts (both_on_false _ _ _ known.0 (λ h. ((known.1 h).0, c.get_record.ensures.honest (known.1 h).1, (known.1 h).2)))

pub returns-clause-broken : goal.returns-clause-broken
returns-clause-broken g c = (
  λ is. absurd (never IsOfReads Broken (λ of. of) c.get_record.result c.get_record.ensures.kind is),
  λ t. absurd (false≢true (sym c.if-self.false ∙ ap (λ v. v.is_broken) c.self.view_is ∙ t)),
)

pub returns-clause-failed : goal.returns-clause-failed
returns-clause-failed g c = λ h refused.
    let known = (OnFalse_at c.if-self.false c.self.invariant).1 h in
    let here = (goal.at.returns-clause-failed g c).After-get_record in
    subst (λ v. HasRisen v.read_failures (sum_by (λ s. s.reader.file.failures) c.get_record.new.segments.items)) c.self.view_is (c.get_record.ensures.failed known.1 (bounds g here h) refused)

pub returns-clause-sealed : goal.returns-clause-sealed
returns-clause-sealed g c = λ h is.
    let log = c.self.inside in
    let known = (OnFalse_at c.if-self.false c.self.invariant).1 h in
    let same = view_parts (λ s. sealed_of s.first s.reader) (λ s. part_of s.first s.reader) (λ s. refl) log.segments.items in
    subst (λ v. c.args.number < end_from v.first (parts_of v.segments)) c.self.view_is
    (subst (λ l. c.args.number < end_from log.first l) (sym same) (omega (arith, known.0.sealed_is, c.get_record.ensures.below is)))

pub returns-clause-steady : goal.returns-clause-steady
returns-clause-steady g c =
    subst (λ v. IsErrAnd c.get_record.result IsFailure ⊎ (sum_by (λ s. s.reader.file.failures) c.get_record.new.segments.items ≡ v.read_failures)) c.self.view_is c.get_record.ensures.steady
