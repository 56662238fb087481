use Rattle.std.proofs.Common.{◌≡◌, ◌≤◌, ◌+◌, ◌-◌, ◌∷◌, ◌∙◌, arith, sym, length, drop, length-drop, length-take}
use Rattle.std.specs.Prelude.{slice_range}
use Rattle.std.proofs.lemmas.Slice.{between_to_end}
use Rattle.log_tail.proofs.Scans.{found_on, records_on, placed_on, ends_later}
use Rattle.log_tail.proofs.HeadLemmas.{rest_on}
use Rattle.log_tail.proofs.batches.find_records.Goals as goal

pub loop-len-preserved : goal.loop-len-preserved
loop-len-preserved c =
    let some = c.in-Some.ensures.some in
    let bytes = c.args.bytes.now in
    let end = c.loop-len.end in
    let n = c.in-Some.len in
    let is : drop end bytes ≡ 1 ∷ some.0 = sym (between_to_end bytes end (length bytes) (omega arith)) ∙ some.1 in
    let before = c.loop-len.invariant in
    let fits : 5 + n ≤ length (drop end bytes) = omega (arith, some.5, length-drop end bytes, length-take (length bytes - end) (drop end bytes)) in
    let body = slice_range bytes (end + 13) (end + 5 + n) in
    let body_long : 8 + length body ≤ n = omega (arith, length-take (end + 5 + n - (end + 13)) (drop (end + 13) bytes)) in
    record {
      read = found_on bytes some.0 end n before.read is some.2 some.3 some.4;
      records = records_on bytes some.0 end n before.read is some.2 some.3 some.4 c.loop-len.places.items c.place_records.new.places.items before.records
          (placed_on bytes some.0 end n before.read is some.2 some.3 some.4 c.loop-len.places.items c.place_records.new.places.items fits c.in_ok-place_records.ensures.records);
      within = ends_later (end + 13 + length body) (end + (5 + n)) c.place_records.new.places.items (omega (arith, body_long))
          (c.in_ok-place_records.ensures.within (ends_later end (end + 13) c.loop-len.places.items (omega arith) before.within));
      rest = rest_on bytes some.0 end n is some.2 some.3 before.rest;
    }
