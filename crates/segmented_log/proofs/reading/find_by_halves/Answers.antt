use Rattle.std.proofs.Common.{rules, ◌≡◌, ◌≤◌, ◌<◌, ◌+◌, ◌-◌, ◌/◌, suc, take, All, subst, arith}
use Rattle.segmented_log.specs.Parts.{part_of, end_of}
use Rattle.segmented_log.proofs.StepLemmas.{ends_to}
use Rattle.segmented_log.proofs.reading.find_by_halves.Goals as goal

pub loop-low-preserved : goal.loop-low-preserved
loop-low-preserved g c =
    let middle = c.loop-low.low + (c.loop-low.high - c.loop-low.low) / 2 in
    let segments = c.args.segments.now in
    let x = c.index-segments-middle.result in
    let so_far = c.loop-low.invariant in
    let below : middle < c.loop-low.high = omega (arith, c.loop-low-test.true) in
    let next : suc middle ≡ middle + 1 = omega arith in
    let ends : end_of (part_of x.first x.reader) ≤ c.args.number = search rules in
    record {
      order = omega (arith, below);
      within = so_far.within;
      before = λ n all. subst (λ k. All (λ s. end_of (part_of s.first s.reader) ≤ c.args.number) (take k segments)) next
          (ends_to (λ s. part_of s.first s.reader) c.args.number n middle segments x all (omega (arith, below, so_far.within)) c.index-segments-middle.is ends);
      found = so_far.found;
    }
