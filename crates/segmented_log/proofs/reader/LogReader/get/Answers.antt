use Rattle.std.proofs.Common.{◌≡◌, ◌⊎◌, map, sym, subst}
use Rattle.std.specs.List.{sum_by}
use Rattle.std.specs.Result.{IsErrAnd}
use Rattle.segmented_log.specs.Causes.{IsFailure}
use Rattle.segmented_log.specs.Parts.{part_of, log_slots}
use Rattle.segmented_log.specs.Log.{slot_at, Gives}
use Rattle.segmented_log.specs.Bounds.{AreBounds}
use Rattle.segmented_log.proofs.reader.LogReader.get.Goals as goal

pub returns-clause-found : goal.returns-clause-found
returns-clause-found g c = λ h.
    let log = c.self.inside in
    let known = c.self.invariant.1 h in
    let parts = map (λ s. part_of s.first s.reader) log.segments.items in
    let bounds = subst (λ b. AreBounds log.bounds parts b) (sym c.deref.ensures.value) known.1 in
    subst (λ v. Gives (slot_at v.first v.slots c.args.number) c.get_record.result) c.self.view_is
    (subst (λ b. Gives (slot_at log.bounds.first (log_slots log.bounds.first parts b) c.args.number) c.get_record.result) c.deref.ensures.value (c.get_record.ensures.found known.0 bounds))

pub invariant_of-self : goal.invariant_of-self
invariant_of-self g c = (
  c.self.invariant.0,
  λ h.
      let known = c.self.invariant.1 h in (
        c.get_record.ensures.honest known.0,
        subst (λ l. AreBounds c.self.inside.bounds l c.self.inside.tail.items) (sym c.get_record.ensures.parts) known.1,
      ),
)

pub returns-clause-steady : goal.returns-clause-steady
returns-clause-steady g c =
    subst (λ v. IsErrAnd c.get_record.result IsFailure ⊎ (sum_by (λ s. s.reader.file.failures) c.get_record.new.segments.items ≡ v.read_failures)) c.self.view_is c.get_record.ensures.steady
