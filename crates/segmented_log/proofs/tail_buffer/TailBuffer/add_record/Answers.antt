use Rattle.std.proofs.Common.{◌≡◌, inr, ◌+◌, ◌-◌, ◌++◌, ◌∷◌, [], length, drop, ◌∙◌, ap, arith, length-drop, length-append}
use Rattle.std.proofs.lemmas.List.{drop-append-le}
use Rattle.log_tail.specs.Tail.{framed}
use Rattle.segmented_log.proofs.PlaceLemmas.{one_placed}
use Rattle.segmented_log.proofs.tail_buffer.TailBuffer.add_record.Goals as goal

pub invariant_of-self-2 : goal.invariant_of-self-2
invariant_of-self-2 c =
    let t = c.self.inside in
    let item = c.args.bytes.now in
    let body = drop (t.end + 50) t.bytes.items in
    let begun = c.begin_batch.new.bytes.items in
    let all = c.add_record.new.body.items in
    let room = c.in_ok-begin_batch.ensures.room in
    let kept = c.in_ok-begin_batch.ensures.body in
    let new : drop (t.end + 50) all ≡ body ++ framed item =
    ap (λ l. drop (t.end + 50) l) c.in_ok-add_record.ensures.added ∙ drop-append-le (t.end + 50) begun (framed item) room ∙ ap (λ l. l ++ framed item) kept in
    let start : c.len.result - (t.end + 50) + 4 ≡ length body + 4 = omega (arith, ap length kept, length-drop (t.end + 50) begun) in
    let later = c.in_ok-push.ensures.items ∙ ap
    (λ l. l ++ record { start = c.len.result - (t.end + 50) + 4; end = c.len.result - (t.end + 50) + 4 + length item } ∷ []) c.in_ok-reserve.ensures.items in (
      inr (omega (arith, room, ap length c.in_ok-add_record.ensures.added, length-append begun (framed item))),
      one_placed body item (drop (t.end + 50) all) t.places.items c.push.new.self.items (c.len.result - (t.end + 50) + 4) (omega arith) new start later c.self.invariant.1,
    )
