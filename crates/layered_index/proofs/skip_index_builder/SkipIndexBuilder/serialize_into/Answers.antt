use Rattle.std.proofs.Common.{◌≡◌, ℕ, List, ◌++◌, None, reverse, length, subst, sym, ◌∙◌, ap, arith, append_assoc}
use Rattle.std.specs.List.{flat_map, concat}
use Rattle.store_base.specs.VInt.{number}
use Rattle.layered_index.specs.Layers.{Index, ends_from, index_part}
use Rattle.layered_index.specs.Building.{Layer, texts_of, Closes, closed}
use Rattle.layered_index.proofs.ClosingLemmas.{builder_closes, index_part_is, whole_slice}
use Rattle.layered_index.proofs.skip_index_builder.SkipIndexBuilder.serialize_into.Goals as goal

pub close_layers-requires : goal.close_layers-requires
close_layers-requires g c =
    subst (λ (ls : List Layer). Closes ls None) (sym c.deref_mut.ensures.value) (builder_closes c.self.inside.period c.self.inside.layers.items c.self.invariant)

pub returns-clause-ok : goal.returns-clause-ok
returns-clause-ok g c =
    let layers = c.self.inside.layers.items in
    let after = c.close_layers.new.layers in
    let len : length after ≡ length layers = c.close_layers.auto.layers ∙ ap length c.deref_mut.ensures.value in
    let whole : c.as_slice-closed.result.now ≡ after = c.as_slice-closed.ensures.value ∙ whole_slice c.self.inside.layers.len after layers len
    (omega (arith, c.deref_mut.ensures.len, ap length c.deref_mut.ensures.value)) in
    let texts : texts_of c.as_slice-closed.result.now ≡ closed layers None =
    ap texts_of whole ∙ c.in_ok-close_layers.ensures.ok ∙ ap (λ (ls : List Layer). closed ls None) c.deref_mut.ensures.value in
    let count : length c.as_slice-closed.result.now ≡ length layers = ap length whole ∙ len in
    let head : c.deref.result.now ≡ number (length layers) ++ flat_map number (ends_from 0 (reverse (closed layers None))) =
    c.deref.ensures.value ∙ c.in_ok-head.ensures.ok ∙ (λ i. number (count i) ++ flat_map number (ends_from 0 (reverse (texts i)))) in
    let written : g.W.TerminatingWrite.content c.write_layers.new.output ≡ g.W.TerminatingWrite.content c.args.output.now ++ c.deref.result.now
    ++ concat (reverse (texts_of c.as_slice-closed.result.now)) =
    c.in_ok-write_layers.ensures.ok ∙ ap (λ (bytes : List ℕ). bytes ++ concat (reverse (texts_of c.as_slice-closed.result.now))) c.in_ok-write_all.ensures.ok in
    written
    ∙ (λ i. g.W.TerminatingWrite.content c.args.output.now ++ head i ++ concat (reverse (texts i)))
    ∙ append_assoc (g.W.TerminatingWrite.content c.args.output.now) (number (length layers) ++ flat_map number (ends_from 0 (reverse (closed layers None)))) (concat (reverse (closed layers None)))
    ∙ ap (λ (bytes : List ℕ). g.W.TerminatingWrite.content c.args.output.now ++ bytes) (sym (index_part_is c.self.inside.period layers c.self.invariant)
    ∙ ap (λ (v : Index). index_part v.period v.checkpoints) c.self.view_is)
