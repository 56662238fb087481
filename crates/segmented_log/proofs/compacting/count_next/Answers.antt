use Rattle.std.proofs.Common.{◌≡◌, ℕ, ◌+◌, ◌<◌, ◌≤◌, ◌++◌, List, ◌∷◌, [], length, map, take, get_or, sym, ◌∙◌, ap, subst, arith}
use Rattle.std.proofs.lemmas.List.{map_more}
use Rattle.std.proofs.lemmas.List.Sums.{sum_by_push}
use Rattle.segmented_log.specs.Parts.{Part, Sealed, part_of, sealed_of, end_of}
use Rattle.segmented_log.specs.Compacting.{slots_in, bytes_in, CanFollow, CanJoin, CanJoinFirst}
use Rattle.segmented_log.proofs.StepLemmas.{next_more, end_more, slots_more}
use Rattle.segmented_log.proofs.compacting.count_next.Goals as goal

-- the first of the others can't be joined
first_joined : {X : Type 0} (f : X → Sealed) (size : ℕ) (a : Sealed) (xs : List X) (i : ℕ) (x : X) → i ≡ 0 → i < length xs → x ≡ get_or xs i x → CanJoinFirst size a (map f xs) → CanJoin size a (f x)
first_joined f size a [] i x none within is can = absurd can
first_joined f size a (y ∷ ys) i x none within is can = subst (λ z. CanJoin size a (f z)) (sym (is ∙ ap (λ (n : ℕ). get_or (y ∷ ys) n x) none)) can

-- none are taken
take_none : {X Y : Type 0} (f : X → Y) (xs : List X) (i : ℕ) → i ≡ 0 → map f (take i xs) ≡ []
take_none {X} {Y} f xs i none = ap (λ (n : ℕ). map f (take n xs)) none

pub returns-in-None-clause-none : goal.returns-in-None-clause-none
returns-in-None-clause-none g c = λ none can.
    let within : c.loop-i.i < length c.args.others.now = omega (arith, c.loop-i-test.true, c.min-most.ensures) in
    let a = sealed_of c.args.segment.now.first c.args.segment.now.reader in
    let x = c.index-others-i.result in
    let run = c.loop-i.run in
    let joins = first_joined (λ s. sealed_of s.first s.reader) c.args.size a c.args.others.now c.loop-i.i x none within c.index-others-i.is can in
    let so_far = c.loop-i.invariant in
    let parts = take_none (λ s. part_of s.first s.reader) c.args.others.now c.loop-i.i none in
    let sealed = take_none (λ s. sealed_of s.first s.reader) c.args.others.now c.loop-i.i none in
    let bytes : run.bytes ≡ a.bytes = omega (arith, so_far.bytes, ap bytes_in sealed) in
    let records : run.records ≡ length a.part.slots = omega (arith, so_far.records, ap (λ (l : List Part). length (slots_in l)) parts) in
    c.in-None.ensures.none
    (subst (λ (n : ℕ). CanFollow c.args.size n run.bytes run.records (sealed_of x.first x.reader)) (sym (so_far.begun none))
    (subst (λ (n : ℕ). CanFollow c.args.size (end_of a.part) n run.records (sealed_of x.first x.reader)) (sym bytes)
    (subst (λ (n : ℕ). CanFollow c.args.size (end_of a.part) a.bytes n (sealed_of x.first x.reader)) (sym records) joins.1)))

pub loop-i-preserved : goal.loop-i-preserved
loop-i-preserved g c =
    let i = c.loop-i.i in
    let others = c.args.others.now in
    let x = c.index-others-i.result in
    let p = part_of x.first x.reader in
    let first = part_of c.args.segment.now.first c.args.segment.now.reader in
    let parts = map (λ s. part_of s.first s.reader) (take i others) in
    let within : i < length others = omega (arith, c.loop-i-test.true, c.min-most.ensures) in
    let bytes_so_far = map (λ s. sealed_of s.first s.reader) (take i others) in
    let sealed_is = map_more (λ s. sealed_of s.first s.reader) others i x within ∙ ap (λ y. bytes_so_far ++ sealed_of y.first y.reader ∷ []) (sym c.index-others-i.is) in
    let more_is = map_more (λ s. part_of s.first s.reader) others i x within ∙ ap (λ y. parts ++ part_of y.first y.reader ∷ []) (sym c.index-others-i.is) in
    let before = c.loop-i.invariant in
    record {
      next = next_more (end_of first) parts _ p more_is before.next (c.in-Some-with_next.ensures.some.next ∙ before.end);
      end = c.in-Some-with_next.ensures.end ∙ sym (end_more (end_of first) parts _ p more_is);
      begun = λ none. absurd (omega (arith, none));
      bytes = omega (arith, c.in-Some-with_next.ensures.bytes, before.bytes, ap bytes_in sealed_is, sum_by_push (λ (s : Sealed). s.bytes) bytes_so_far (sealed_of x.first x.reader));
      small = λ some. omega (arith, c.in-Some-with_next.ensures.bytes, c.in-Some-with_next.ensures.some.small);
      newer = before.newer;
      records = omega (arith, c.in-Some-with_next.ensures.records, before.records, slots_more parts _ p more_is);
      few = λ some. omega (arith, c.in-Some-with_next.ensures.records, c.in-Some-with_next.ensures.some.few);
    }

pub returns-in-None-clause-small : goal.returns-in-None-clause-small
returns-in-None-clause-small g c = λ some. omega (arith, c.loop-i.invariant.bytes, c.loop-i.invariant.small some)

pub returns-clause-small : goal.returns-clause-small
returns-clause-small g c = λ some.
    let at_end : c.loop-i.i ≡ c.min-most.result = omega (arith, c.loop-i.auto.i-end, c.loop-i-test.false) in
    subst (λ n. length c.args.segment.now.reader.file.content + bytes_in (map (λ s. sealed_of s.first s.reader) (take n c.args.others.now)) ≤ c.args.size) at_end
    (omega (arith, c.loop-i.invariant.bytes, c.loop-i.invariant.small (omega (arith, some, at_end))))

pub returns-in-None-clause-few : goal.returns-in-None-clause-few
returns-in-None-clause-few g c = λ some. omega (arith, c.loop-i.invariant.records, c.loop-i.invariant.few some)
