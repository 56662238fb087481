use Rattle.std.proofs.Common.{◌+◌, length, drop, ap, subst, arith, refl, sym, length-drop}
use Rattle.std.proofs.lemmas.Slice.{between_to_end}
use Rattle.std.specs.Prelude.{All}
use Rattle.log_tail.specs.declared.batches.Place.{Place}
use Rattle.log_tail.specs.Place.{EndsBy}
use Rattle.log_tail.proofs.Scans.{PlacesSoFar, more_places, place_within, places_end}
use Rattle.log_tail.proofs.batches.place_records.Goals as goal

pub loop-len-preserved : goal.loop-len-preserved
loop-len-preserved c =
    let some = c.in-Some.ensures.some in
    let n = c.in-Some.len in
    let at = c.loop-len.at in
    let rest = c.loop-len.rest.now in
    let items = c.in_ok-push.ensures.items in
    let place : Place = record { start = at + 4; end = at + 4 + n } in
    let before = c.loop-len.invariant in
    let left = between_to_end rest (4 + n) (length rest) (omega arith) in
    record {
      begun = omega (arith, before.begun);
      size = omega (arith, before.size, some.2, ap length left, length-drop (4 + n) rest);
      records = λ file here.
          let end = c.args.base + length c.args.body.now in
          let old = c.args.places.now.items in
          subst (λ l. PlacesSoFar c.args.body.now l c.args.base end (at + (4 + n)) old c.push.new.self.items file here) (sym left)
          (subst (λ p. PlacesSoFar c.args.body.now (drop (4 + n) rest) c.args.base end (at + (4 + n)) old p file here) (sym items)
          (more_places c.args.body.now rest c.args.base end at n old c.loop-len.places.items place file here some.0 some.1 some.2 refl refl (before.records file here)));
      within = λ old. subst (λ l. All (EndsBy (at + (4 + n))) l) (sym items) (place_within at n c.loop-len.places.items place refl refl (before.within old));
    }

pub returns-clause-records : goal.returns-clause-records
returns-clause-records c = λ file here.
    let body = c.args.body.now in
    let base = c.args.base in
    let so_far = c.loop-len in
    places_end body so_far.rest.now base (base + length body) so_far.at c.args.places.now.items so_far.places.items file here c.in_default.ensures.none (so_far.invariant.records file here)
