use Rattle.std.proofs.Common.{◌≡◌, ℕ, List, Option, length, sym, ap, subst, arith}
use Rattle.layered_index.specs.Layers.{digit_count}
use Rattle.layered_index.specs.Rows.{LayersBelow, lower_layers}
use Rattle.layered_index.proofs.IndexHeadLemmas.{inside, head_digits}
use Rattle.layered_index.proofs.LowerLemmas.{lower_first}
use Rattle.layered_index.proofs.index_slice.IndexSlice.whole.Goals as goal

pub returns-clause-whole : goal.returns-clause-whole
returns-clause-whole c cs is =
    let s = c.self.inside in
    let index = inside _ _ cs c.self.view_is is in
    let texts = lower_first s.period s.bytes.now s.count s.ends.now s.texts.now cs c.self.invariant (omega arith) index in
    let all : ◌≡◌ {A = LayersBelow} (record { period = s.period; height = s.count; texts = _ }) (lower_layers s.period s.count cs) =
    ap (λ (ts : Option (List (List ℕ))). record { period = s.period; height = s.count; texts = ts }) texts in (
      subst (λ (w : LayersBelow). w ≡ lower_layers w.period w.height cs) (sym c.new.ensures) all,
      subst (λ (w : LayersBelow). w.height ≡ digit_count w.period (length cs)) (sym c.new.ensures)
          (head_digits s.period s.bytes.now s.count s.ends.now s.texts.now cs c.self.invariant index),
    )
