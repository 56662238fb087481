use Rattle.std.proofs.Common.{rules, map, subst}
use Rattle.std.specs.Prelude.{IsErrOf}
use Rattle.std.specs.Bool.{OnFalse}
use Rattle.segmented_log.specs.Parts.{part_of}
use Rattle.segmented_log.specs.Compacting.{AreNext}
use Rattle.segmented_log.specs.declared.error.LogError.TheVariants.{NoLog}
use Rattle.segmented_log.proofs.reader.LogReader.open.Goals as goal

pub returns-in_err-parts-clause-no_log : goal.returns-in_err-parts-clause-no_log
returns-in_err-parts-clause-no_log g c = λ h is.
    let refused : IsErrOf c.read_parts.result NoLog = search rules in
    c.read_parts.ensures.no_log h refused

pub invariant_of-result : goal.invariant_of-result
invariant_of-result g c =
    let p = c.in_ok-parts.field-0.parts in (
      (p.next, c.in_ok-parts.ensures.settled),
      λ h. (
        c.in_ok-parts.ensures.honest h,
        record {
          parts = c.in_ok-parts.ensures.are;
          sealed_is = c.in_ok-parts.ensures.sealed;
          next = subst (λ l. OnFalse c.may_overlap-may_overlap.result (AreNext p.first (map (λ s. part_of s.first s.reader) l))) c.deref.ensures.value c.may_overlap-may_overlap.ensures;
        },
      ),
    )
