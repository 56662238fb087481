use Rattle.std.proofs.Common.{◌≡◌, ℕ, Some, refl, sym, ◌∙◌, ap, subst, arith}
use Rattle.layered_index.specs.Checkpoint.{first_past}
use Rattle.layered_index.specs.Rows.{LayersBelow, layer_at}
use Rattle.layered_index.proofs.LineLemmas.{in_line_from}
use Rattle.layered_index.proofs.WalkLemmas.{not_true}
use Rattle.layered_index.proofs.LowerLemmas.{has_rows, none_at, found_has, answer_is}
use Rattle.layered_index.proofs.lower_layers.LowerLayers.seek.Goals as goal

pub returns-in_default-clause-answer : goal.returns-in_default-clause-answer
returns-in_default-clause-answer c cs line is are =
    let s = c.self.inside in
    let v = c.args.self.now in
    let rows = has_rows _ _ s.place s.ends.now s.texts.now cs c.args.rows.now c.self.view_is refl c.self.invariant.0 c.self.invariant.1 (omega arith)
    c.if-is_empty.ensures line is are in
    answer_is _ _ (sym (none_at v.period c.args.target v.height cs rows.least rows.most (in_line_from 0 0 cs line) rows.small
    (sym (c.in_default.ensures.answer (layer_at v.period v.height cs) rows.are rows.line))))

pub returns-then-not-has-clause-answer : goal.returns-then-not-has-clause-answer
returns-then-not-has-clause-answer c cs line is are =
    let s = c.self.inside in
    let layer = layer_at c.args.self.now.period c.args.self.now.height cs in
    let rows = has_rows _ _ s.place s.ends.now s.texts.now cs c.args.rows.now c.self.view_is refl c.self.invariant.0 c.self.invariant.1 (omega arith)
    c.if-is_empty.ensures line is are in
    absurd (not_true ⊥ (sym c.if-not-has.true ∙ c.has.ensures.1 (found_has layer c.args.target c.in-Some.pointer rows.line (sym (c.in-Some.ensures.answer layer rows.are rows.line)))))

pub returns-then-height-eq0-clause-answer : goal.returns-then-height-eq0-clause-answer
returns-then-height-eq0-clause-answer c cs line is are =
    let s = c.self.inside in
    let v = c.args.self.now in
    let rows = has_rows _ _ s.place s.ends.now s.texts.now cs c.args.rows.now c.self.view_is refl c.self.invariant.0 c.self.invariant.1 (omega arith)
    c.if-is_empty.ensures line is are in
    let lowest : v.height ≡ 0 = ap (λ (w : LayersBelow). w.height) (sym c.self.view_is) ∙ c.if-height-eq0.true in
    answer_is _ _ (sym (subst (λ (n : ℕ). first_past (layer_at v.period n cs) c.args.target ≡ Some c.in-Some.pointer) lowest
    (sym (c.in-Some.ensures.answer (layer_at v.period v.height cs) rows.are rows.line))))

pub returns-clause-answer : goal.returns-clause-answer
returns-clause-answer c cs line is are =
    let s = c.self.inside in
    let rows = has_rows _ _ s.place s.ends.now s.texts.now cs c.args.rows.now c.self.view_is refl c.self.invariant.0 c.self.invariant.1 (omega arith)
    c.if-is_empty.ensures line is are in
    answer_is _ _ (c.in_ok-descend-2.ensures.answer cs (in_line_from 0 0 cs line) is (sym (c.in-Some.ensures.answer (layer_at c.args.self.now.period c.args.self.now.height cs) rows.are rows.line)))

pub returns-in_err-descend-2-clause-answer : goal.returns-in_err-descend-2-clause-answer
returns-in_err-descend-2-clause-answer c cs line is are =
    let s = c.self.inside in
    let rows = has_rows _ _ s.place s.ends.now s.texts.now cs c.args.rows.now c.self.view_is refl c.self.invariant.0 c.self.invariant.1 (omega arith)
    c.if-is_empty.ensures line is are in
    absurd (c.in_err-descend-2.ensures.answer cs (in_line_from 0 0 cs line) is (sym (c.in-Some.ensures.answer (layer_at c.args.self.now.period c.args.self.now.height cs) rows.are rows.line)))
