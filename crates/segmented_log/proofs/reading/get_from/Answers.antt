use Rattle.std.proofs.Common.{◌≡◌, ◌≤◌, ◌<◌, length, map, take, get_or, sym, subst, arith}
use Rattle.std.specs.Prelude.{All, IsTrue}
use Rattle.std.specs.Bool.{OnFalse}
use Rattle.segmented_log.specs.Parts.{part_of, sealed_of, end_of}
use Rattle.segmented_log.specs.Log.{Gives}
use Rattle.segmented_log.specs.Compacting.{AreNext}
use Rattle.std.proofs.lemmas.List.{take_all}
use Rattle.std.proofs.lemmas.List.Elements.{All-map}
use Rattle.segmented_log.proofs.ReadLemmas.{held_at, same_map, slot_somewhere, risen_of_all}
use Rattle.segmented_log.proofs.reading.get_from.Goals as goal

pub returns-clause-parts : goal.returns-clause-parts
returns-clause-parts g c =
    let within : c.place_of-i.result < length c.args.segments.now.items = omega arith in
    same_map (λ s. part_of s.first s.reader) c.args.segments.now.items c.place_of-i.result c.get_in.new.segment c.index_mut-segment.result.now within c.index_mut-segment.ensures.value
    c.get_in.ensures.part

pub returns-clause-sealed : goal.returns-clause-sealed
returns-clause-sealed g c =
    let within : c.place_of-i.result < length c.args.segments.now.items = omega arith in
    same_map (λ s. sealed_of s.first s.reader) c.args.segments.now.items c.place_of-i.result c.get_in.new.segment c.index_mut-segment.result.now within c.index_mut-segment.ensures.value
    c.get_in.ensures.sealed

pub returns-clause-found : goal.returns-clause-found
returns-clause-found g c = λ n honest line next le below.
    let i = c.place_of-i.result in
    let segments = c.args.segments.now.items in
    let x = c.index_mut-segment.result.now in
    let is : x ≡ get_or segments i x = c.index_mut-segment.ensures.value in
    let before = c.place_of-i.ensures.before n (subst (λ l. OnFalse c.args.may_overlap (AreNext n (map (λ s. part_of s.first s.reader) l))) (sym c.deref.ensures.value) next) in
    let held = held_at (λ s. part_of s.first s.reader) segments _ i c.args.number n x c.deref.ensures.value (omega arith) is before
    (c.place_of-i.ensures.found (omega arith) x) line le in
    let true_file = subst (λ y. IsTrue y.reader.file.honest) (sym is) (honest i x (omega arith)) in
    subst (λ o. Gives o c.get_in.result) (sym held.2) (c.get_in.ensures.found true_file held.1 held.0)

pub returns-then-i-len-clause-failed : goal.returns-then-i-len-clause-failed
returns-then-i-len-clause-failed g c = λ n honest line next le below is.
    let segments = c.args.segments.now.items in
    let number = c.args.number in
    let i = c.place_of-i.result in
    let many : length segments ≤ i = omega arith in
    let before = subst (λ l. All (λ s. end_of (part_of s.first s.reader) ≤ number) (take i l)) c.deref.ensures.value
    (c.place_of-i.ensures.before n (subst (λ l. OnFalse c.args.may_overlap (AreNext n (map (λ s. part_of s.first s.reader) l))) (sym c.deref.ensures.value) next)) in
    let all = subst (λ l. All (λ s. end_of (part_of s.first s.reader) ≤ number) l) (take_all i segments many) before in
    absurd (omega (arith, below, slot_somewhere n (map (λ s. part_of s.first s.reader) segments) number le (All-map (λ p. end_of p ≤ number) (λ s. part_of s.first s.reader) segments all)))

pub returns-clause-failed : goal.returns-clause-failed
returns-clause-failed g c = λ n honest line next le below refused.
    let i = c.place_of-i.result in
    let segments = c.args.segments.now.items in
    let x = c.index_mut-segment.result.now in
    let is : x ≡ get_or segments i x = c.index_mut-segment.ensures.value in
    let before = c.place_of-i.ensures.before n (subst (λ l. OnFalse c.args.may_overlap (AreNext n (map (λ s. part_of s.first s.reader) l))) (sym c.deref.ensures.value) next) in
    let held = held_at (λ s. part_of s.first s.reader) segments _ i c.args.number n x c.deref.ensures.value (omega arith) is before
    (c.place_of-i.ensures.found (omega arith) x) line le in
    let true_file = subst (λ y. IsTrue y.reader.file.honest) (sym is) (honest i x (omega arith)) in
    risen_of_all (λ s. s.reader.file.failures) segments i c.get_in.new.segment x (omega arith) is (c.get_in.ensures.failed true_file held.1 held.0 refused)
