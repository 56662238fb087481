use Rattle.std.proofs.Common.{◌≡◌, ◌^◌, ◌≤◌, arith, ap}
use Rattle.std.proofs.Math.Nat.{pow-le-pow_left}
use Rattle.layered_index.specs.Layers.{digit_count}
use Rattle.layered_index.proofs.IndexLemmas.{digit_count_zero, digit_count_more, digit_count-le}
use Rattle.store_commands.proofs.store_numbers.layers_over.Goals as goal

pub overflow_add-layers : goal.overflow_add-layers
overflow_add-layers c =
    let powers : 2 ^ 64 ≤ c.args.period ^ 64 = pow-le-pow_left c.requires 64 in
    let few = digit_count-le c.args.period 64 c.args.blocks c.requires (omega arith) in
    let more = digit_count_more c.args.period c.loop-entries.entries c.requires (omega arith) in
    omega (arith, c.loop-entries.invariant)

pub loop-entries-preserved : goal.loop-entries-preserved
loop-entries-preserved c =
    let more = digit_count_more c.args.period c.loop-entries.entries c.requires (omega arith) in
    omega (arith, c.loop-entries.invariant)

pub returns : goal.returns
returns c =
    let none = digit_count_zero c.args.period in
    let zero : c.loop-entries.entries ≡ 0 = omega arith in
    omega (arith, c.loop-entries.invariant, ap (digit_count c.args.period) zero)
