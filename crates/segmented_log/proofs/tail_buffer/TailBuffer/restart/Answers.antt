use Rattle.std.proofs.Common.{◌≡◌, ◌≤◌, inl, inr, ◌+◌, ◌-◌, length, take, drop, arith, sym, ◌∙◌, ap, subst, length-append, length-drop}
use Rattle.std.proofs.lemmas.List.{length-take-le}
use Rattle.segmented_log.specs.TailBuffer.{ArePlacesIn}
use Rattle.segmented_log.proofs.RestartLemmas.{kept, restarted_bytes, restarted_pending}
use Rattle.segmented_log.proofs.tail_buffer.TailBuffer.restart.Goals.{After-put_front}
use Rattle.segmented_log.proofs.tail_buffer.TailBuffer.restart.Goals as goal

within : (c : After-put_front) → c.self.inside.end ≤ length c.self.inside.bytes.items
within c = grind (arith, c.self.invariant.0)

short : (c : After-put_front) → length c.args.bytes.now ≤ c.self.inside.end
short c = omega (arith, c.requires, ap (λ v. length v.bytes) c.self.view_is, length-take-le c.self.inside.end c.self.inside.bytes.items (within c))

cut_is : (c : After-put_front) → c.truncate.new.self.items ≡ take (length c.args.bytes.now + (c.self.inside.bytes.len - c.self.inside.end)) c.copy_within.new.self.items
cut_is c = c.truncate.ensures.items ∙ ap (λ n. take (length c.args.bytes.now + (n - c.self.inside.end)) c.copy_within.new.self.items) c.len.ensures

pub returns-clause-bytes : goal.returns-clause-bytes
returns-clause-bytes c =
    let here = (goal.at.returns-clause-bytes c).After-put_front in
    restarted_bytes c.args.bytes.now c.self.inside.bytes.items c.copy_within.new.self.items c.truncate.new.self.items c.put_front.new.bytes.items c.self.inside.end c.self.inside.bytes.len
    (omega arith) (within here) (short here) c.copy_within.ensures.items (cut_is here) c.put_front.ensures

pending_is : (c : After-put_front) → drop (length c.args.bytes.now + 50) c.put_front.new.bytes.items ≡ drop (c.self.inside.end + 50) c.self.inside.bytes.items
pending_is c =
    restarted_pending c.args.bytes.now c.self.inside.bytes.items c.copy_within.new.self.items c.truncate.new.self.items c.put_front.new.bytes.items c.self.inside.end c.self.inside.bytes.len
    (omega arith) (within c) (short c) c.copy_within.ensures.items (cut_is c) c.put_front.ensures

pub returns-clause-pending : goal.returns-clause-pending
returns-clause-pending c = pending_is (goal.at.returns-clause-pending c).After-put_front ∙ ap (λ v. v.pending) c.self.view_is

pub invariant_of-self : goal.invariant_of-self
invariant_of-self c =
    let here = (goal.at.invariant_of-self c).After-put_front in
    let bytes = c.args.bytes.now in
    let old = c.self.inside.bytes.items in
    let all = kept bytes old c.copy_within.new.self.items c.truncate.new.self.items c.put_front.new.bytes.items c.self.inside.end c.self.inside.bytes.len
    (omega arith) (within here) (short here) c.copy_within.ensures.items (cut_is here) c.put_front.ensures in
    let size : length c.put_front.new.bytes.items ≡ length bytes + (length old - c.self.inside.end) =
    omega (arith, ap length all, length-append bytes (drop c.self.inside.end old), length-drop c.self.inside.end old) in (
      elim c.self.invariant.0 [
        | inl none ↦ inl (omega (arith, size, none))
        | inr some ↦ inr (omega (arith, size, some))
      ],
      subst (λ b. ArePlacesIn b c.self.inside.places.items) (sym (pending_is here)) c.self.invariant.1,
    )
