use Rattle.std.proofs.Common.{◌≡◌, take, ◌∙◌, ap, subst, sym, rules}
use Rattle.log_tail.specs.Place.{contents}
use Rattle.log_tail.specs.Tail.{records_of, first_of, IsTail, IsWholeTo}
use Rattle.segmented_log.specs.Opening.{HasDamage}
use Rattle.segmented_log.proofs.TailRepairLemmas.{size, front_whole, front_first, front_records, front_tail, front_contents, front_within}
use Rattle.segmented_log.proofs.tail.whole_tail.Goals.{After-truncate}
use Rattle.segmented_log.proofs.tail.whole_tail.Goals as goal

-- the front that is kept
file_is : (c : After-truncate) → c.truncate.new.self.items ≡ take c.in_ok-found.found.end c.args.bytes.items
file_is c = search rules

whole_is : (c : After-truncate) → IsWholeTo c.in_ok-found.found.end c.args.bytes.items
whole_is c = subst (λ b. IsWholeTo c.in_ok-found.found.end b) c.deref-2.ensures.value c.in_ok-found.ensures.whole

was_tail : (c : After-truncate) → IsTail c.args.bytes.items
was_tail c = subst IsTail c.deref.ensures.value c.in-Some.ensures.some.0

pub returns-clause-tail : goal.returns-clause-tail
returns-clause-tail c =
    let here = (goal.at.returns-clause-tail c).After-truncate in
    let bytes = c.args.bytes.items in
    let file = c.truncate.new.self.items in
    let found = c.in_ok-found.found in
    let known = ap (λ b. contents b found.places.items) (sym c.deref-2.ensures.value) ∙ c.in_ok-found.ensures.records ∙ ap records_of c.deref-2.ensures.value in
    record {
      is_tail = front_tail bytes file found.end (whole_is here) (file_is here) (was_tail here);
      whole = front_whole bytes file found.end (whole_is here) (file_is here);
      first_is = c.in-Some.ensures.some.1 ∙ ap first_of c.deref.ensures.value ∙ sym (front_first bytes file found.end (whole_is here) (file_is here));
      records = front_contents bytes file found.end (whole_is here) (file_is here) found.places.items known c.in_ok-found.ensures.within;
      within = front_within bytes file found.end (whole_is here) (file_is here) found.places.items c.in_ok-found.ensures.within;
    }

pub returns-clause-same : goal.returns-clause-same
returns-clause-same c =
    let here = (goal.at.returns-clause-same c).After-truncate in
    let bytes = c.args.bytes.items in
    let file = c.truncate.new.self.items in
    let end = c.in_ok-found.found.end in (
      was_tail here,
      front_first bytes file end (whole_is here) (file_is here),
      front_records bytes file end (whole_is here) (file_is here),
    )

pub returns-clause-front : goal.returns-clause-front
returns-clause-front c =
    let here = (goal.at.returns-clause-front c).After-truncate in
    file_is here ∙ ap (λ n. take n c.args.bytes.items) (sym (size c.args.bytes.items c.truncate.new.self.items c.in_ok-found.found.end (whole_is here) (file_is here)))

pub returns-clause-damaged : goal.returns-clause-damaged
returns-clause-damaged c = λ is. subst HasDamage c.deref-3.ensures.value (c.is_too_much-is_damaged.ensures.damaged is)
