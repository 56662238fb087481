use Rattle.std.proofs.Common.{subst, ◌∙◌, arith, rules}
use Rattle.std.proofs.lemmas.List.{length-set}
use Rattle.std.proofs.lemmas.Result.{on_ok_weaker}
use Rattle.layered_index.specs.Building.{TookOne}
use Rattle.layered_index.proofs.InsertionLemmas.{IsAt, takes_top, takes_here, takes_above, top_at, stays_at, flushes_at, back_at}
use Rattle.layered_index.proofs.skip_index_builder.+insert_at.Goals as goal

pub add_layer-requires : goal.add_layer-requires
add_layer-requires t c = takes_top c.args.period c.args.layers.now.items c.args.at c.args.checkpoint (omega arith) c.requires.takes

pub returns-then-at-len-clause-ok : goal.returns-then-at-len-clause-ok
returns-then-at-len-clause-ok t c =
    on_ok_weaker c.add_layer.result (λ e. e ∙ top_at c.args.period c.args.layers.now.items c.args.at c.args.checkpoint (omega arith)) c.add_layer.ensures.ok

pub insert-requires : goal.insert-requires
insert-requires t c =
    let here : IsAt c.args.layers.now.items c.args.at c.index_mut-layer.result.now = record { within = omega arith; is = c.index_mut-layer.ensures.value } in
    takes_here c.args.period c.args.layers.now.items c.args.at c.index_mut-layer.result.now c.args.checkpoint here c.requires.takes

pub returns-in_default-clause-ok : goal.returns-in_default-clause-ok
returns-in_default-clause-ok t c =
    let here : IsAt c.args.layers.now.items c.args.at c.index_mut-layer.result.now = record { within = omega arith; is = c.index_mut-layer.ensures.value } in
    let took = subst (TookOne c.args.period c.index_mut-layer.result.now c.args.checkpoint c.insert.new.self) c.in_default.is c.in_ok-pointer.ensures.ok in
    stays_at c.args.period c.args.layers.now.items c.args.at c.index_mut-layer.result.now c.insert.new.self c.args.checkpoint here took.0 took.1

pub insert_at-above-requires : goal.insert_at-above-requires
insert_at-above-requires t c =
    let here : IsAt c.args.layers.now.items c.args.at c.index_mut-layer.result.now = record { within = omega arith; is = c.index_mut-layer.ensures.value } in
    let took = subst (TookOne c.args.period c.index_mut-layer.result.now c.args.checkpoint c.insert.new.self) c.in-Some.is c.in_ok-pointer.ensures.ok in
    let len = length-set c.args.layers.now.items c.args.at c.insert.new.self in (
      search (rules, arith, len),
      (
        omega (arith, len, here.within),
        takes_above c.args.period c.args.layers.now.items c.args.at c.index_mut-layer.result.now c.insert.new.self c.args.checkpoint
            c.in-Some.pointer here c.requires.takes took.0 took.3 took.2,
      ),
    )

pub returns-in-Ok-clause-ok : goal.returns-in-Ok-clause-ok
returns-in-Ok-clause-ok t c =
    let here : IsAt c.args.layers.now.items c.args.at c.index_mut-layer.result.now = record { within = omega arith; is = c.index_mut-layer.ensures.value } in
    let took = subst (TookOne c.args.period c.index_mut-layer.result.now c.args.checkpoint c.insert.new.self) c.in-Some.is c.in_ok-pointer.ensures.ok in
    let done = flushes_at c.args.period c.args.layers.now.items c.args.at c.index_mut-layer.result.now c.insert.new.self c.index_mut-layer-2.result.now c.clear_block.new.self c.args.checkpoint
    c.in-Some.pointer c.insert_at-above.new.layers.items
    here took.0 took.1 took.2 c.in-Ok.ensures.ok c.index_mut-layer-2.ensures.value c.clear_block.ensures in
    rw c.in-Ok.is done

pub returns-in-Err-clause-err : goal.returns-in-Err-clause-err
returns-in-Err-clause-err t c =
    let here : IsAt c.args.layers.now.items c.args.at c.index_mut-layer.result.now = record { within = omega arith; is = c.index_mut-layer.ensures.value } in
    let took = subst (TookOne c.args.period c.index_mut-layer.result.now c.args.checkpoint c.insert.new.self) c.in-Some.is c.in_ok-pointer.ensures.ok in
    let done = back_at c.args.layers.now.items c.args.at c.len-start.result c.index_mut-layer.result.now c.insert.new.self c.index_mut-layer-2.result.now c.take_back.new.self c.args.checkpoint
    c.insert_at-above.new.layers.items
    here c.len-start.ensures took.1 c.in-Err.ensures.err c.index_mut-layer-2.ensures.value c.take_back.ensures in
    rw c.in-Err.is done
