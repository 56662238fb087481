use Rattle.std.proofs.Common.{◌+◌, ◌^◌, ◌<◌, length, ◌++◌, List, ℕ, Option, take, drop, get_or, set, subst, sym, ◌∙◌, ap, arith}
use Rattle.layered_index.specs.declared.checkpoint.Checkpoint.{Checkpoint}
use Rattle.layered_index.specs.Building.{texts_of, Closes, closed}
use Rattle.layered_index.proofs.InsertionLemmas.{IsAt, got_at}
use Rattle.layered_index.proofs.ClosingLemmas.{closes_here, closes_next, closed_next, closed_all}
use Rattle.layered_index.proofs.skip_index_builder.close_layers.Goals as goal

pub close-requires : goal.close-requires
close-requires c =
    let layer = get_or c.loop-layer.layers c.loop-layer.layer-index c.layer-item.result in
    let here : IsAt c.loop-layer.layers c.loop-layer.layer-index layer = got_at c.loop-layer.layers c.loop-layer.layer-index c.layer-item.result (omega arith) in
    closes_here c.loop-layer.layers c.loop-layer.layer-index layer c.loop-layer.last_pointer here c.loop-layer.invariant.closes

pub loop-layer-preserved : goal.loop-layer-preserved
loop-layer-preserved c =
    let layers = c.loop-layer.layers in
    let at = c.loop-layer.layer-index in
    let below = c.loop-layer.last_pointer in
    let layer = get_or layers at c.layer-item.result in
    let new = c.close.new.self in
    let here : IsAt layers at layer = got_at layers at c.layer-item.result (omega arith) in
    let size = subst (λ (bytes : List ℕ). length bytes < 2 ^ 64) c.in_ok-last_pointer.ensures.ok c.in_ok-last_pointer.ensures.size in
    record {
      closes = subst (Closes (drop (at + 1) (set layers at new))) (sym c.in_ok-last_pointer.ensures.pointer) (closes_next layers at layer new below here c.loop-layer.invariant.closes size);
      texts = ap (λ (p : Option Checkpoint). texts_of (take (at + 1) (set layers at new)) ++ closed (drop (at + 1) (set layers at new)) p) c.in_ok-last_pointer.ensures.pointer
          ∙ closed_next layers at layer new below here c.in_ok-last_pointer.ensures.ok
          ∙ c.loop-layer.invariant.texts;
    }

pub returns-clause-ok : goal.returns-clause-ok
returns-clause-ok c = closed_all c.loop-layer.layers c.loop-layer.layer-index c.loop-layer.last_pointer (omega arith) ∙ c.loop-layer.invariant.texts
