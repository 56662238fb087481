use Rattle.std.proofs.Common.{◌≡◌, ◌+◌, ◌++◌, length, take, drop, map, sym, subst, arith}
use Rattle.std.specs.Prelude.{All, OnOk}
use Rattle.std.proofs.lemmas.List.{length-take-le}
use Rattle.std.proofs.lemmas.Result.{on_ok_weaker}
use Rattle.log_tail.specs.Place.{EndsBy, AddsRecords}
use Rattle.segmented_log.specs.TailBuffer.{moved}
use Rattle.segmented_log.proofs.PlaceLemmas.{adds_moved, within_moved}
use Rattle.segmented_log.proofs.tail_buffer.TailBuffer.place_batch.Goals.{After-add_moved}
use Rattle.segmented_log.proofs.tail_buffer.TailBuffer.place_batch.Goals as goal

-- where the tail ends
end_is : (c : After-add_moved) → length (take c.self.inside.end c.self.inside.bytes.items) ≡ c.self.inside.end
end_is c = length-take-le c.self.inside.end c.self.inside.bytes.items (grind (arith, c.self.invariant.0))

new_is : (c : After-add_moved) → OnOk c.add_moved.result (c.add_moved.new.places.items ≡ c.args.places.now.items ++ map (moved (c.self.inside.end + 50)) c.self.inside.places.items)
new_is c = subst (λ l. OnOk c.add_moved.result (c.add_moved.new.places.items ≡ c.args.places.now.items ++ map (moved (c.self.inside.end + 50)) l)) c.deref.ensures.value c.add_moved.ensures

pub returns-clause-records : goal.returns-clause-records
returns-clause-records c =
    let here = (goal.at.returns-clause-records c).After-add_moved in
    let old = c.args.places.now.items in
    let new = c.add_moved.new.places.items in
    let t = c.self.inside in
    let body = drop (t.end + 50) t.bytes.items in
    subst (λ v. OnOk c.add_moved.result (AddsRecords v.pending (length v.bytes + 50) old new)) c.self.view_is
    (subst (λ n. OnOk c.add_moved.result (AddsRecords body (n + 50) old new)) (sym (end_is here))
    (on_ok_weaker c.add_moved.result (λ is. adds_moved body (t.end + 50) t.places.items old new c.self.invariant.1 is) (new_is here)))

pub returns-clause-within : goal.returns-clause-within
returns-clause-within c =
    let here = (goal.at.returns-clause-within c).After-add_moved in
    let old = c.args.places.now.items in
    let new = c.add_moved.new.places.items in
    let t = c.self.inside in
    let body = drop (t.end + 50) t.bytes.items in
    subst (λ v. OnOk c.add_moved.result (All (EndsBy (length v.bytes + 50)) old → All (EndsBy (length v.bytes + 50 + length v.pending)) new)) c.self.view_is
    (subst (λ n. OnOk c.add_moved.result (All (EndsBy (n + 50)) old → All (EndsBy (n + 50 + length body)) new)) (sym (end_is here))
    (on_ok_weaker c.add_moved.result (λ is. within_moved body (t.end + 50) t.places.items old new c.self.invariant.1 is) (new_is here)))
