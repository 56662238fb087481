use Rattle.std.proofs.Common.{◌+◌, ◌%◌, ◌<◌, length, arith, ap, refl, ◌∙◌, append_assoc}
use Rattle.std.proofs.lemmas.List.{take_more_set, length-set}
use Rattle.store_base.specs.VIntLemmas.{number_small, number_large, number_some, length-number-le_10}
use Rattle.store_base.proofs.vint.groups.Goals as goal

pub loop-rest-init : goal.loop-rest-init
loop-rest-init c = record { size = refl; groups = refl; room = omega (arith, length-number-le_10 c.args.n (omega arith)) }

pub bounds-bytes-len : goal.bounds-bytes-len
bounds-bytes-len c = omega (arith, number_some c.loop-rest.rest)

pub bounds-bytes-len-2 : goal.bounds-bytes-len-2
bounds-bytes-len-2 c = omega (arith, number_some c.loop-rest.rest)

pub loop-rest-preserved : goal.loop-rest-preserved
loop-rest-preserved c =
    let rest = c.loop-rest.rest in
    let large = number_large rest c.loop-rest-test.true in
    let room : c.loop-rest.len < length c.loop-rest.bytes = omega (arith, number_some rest) in
    record {
      size = length-set c.loop-rest.bytes c.loop-rest.len (rest % 128) ∙ c.loop-rest.invariant.size;
      groups = rw (take_more_set c.loop-rest.bytes c.loop-rest.len (rest % 128) room, append_assoc, ← large) c.loop-rest.invariant.groups;
      room = omega (arith, ap length large);
    }

pub returns-clause-len : goal.returns-clause-len
returns-clause-len c = omega (arith, number_some c.loop-rest.rest)

pub returns-clause-bytes : goal.returns-clause-bytes
returns-clause-bytes c =
    let rest = c.loop-rest.rest in
    let small = number_small rest (omega arith) in
    let room : c.loop-rest.len < length c.loop-rest.bytes = omega (arith, number_some rest) in
    rw (take_more_set c.loop-rest.bytes c.loop-rest.len (rest + 128) room, ← small) c.loop-rest.invariant.groups
