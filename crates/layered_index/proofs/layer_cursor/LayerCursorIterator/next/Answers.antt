use Rattle.std.proofs.Common.{rules, ◌≡◌, ◌∷◌, [], sym, ◌∙◌, ap}
use Rattle.layered_index.specs.LayerReading.{items}
use Rattle.layered_index.proofs.CursorLemmas.{items_next, items_after}
use Rattle.layered_index.proofs.layer_cursor.LayerCursorIterator.next.Goals as goal

pub returns-in_err-checkpoint-clause-steps : goal.returns-in_err-checkpoint-clause-steps
returns-in_err-checkpoint-clause-steps c =
    let s = c.self.inside in
    let none : c.args.self.now ≡ [] = sym c.self.view_is ∙ items_next s.left s.doc s.byte s.rest.now ∙ ap items_after (sym c.in_err-checkpoint.ensures) in
    rw c.from_residual.ensures (none, none)

pub returns-clause-steps : goal.returns-clause-steps
returns-clause-steps c =
    let s = c.self.inside in
    let n = c.in_ok-checkpoint in
    sym c.self.view_is ∙ items_next s.left s.doc s.byte s.rest.now ∙ ap items_after (sym n.ensures)

pub returns-clause-goes : goal.returns-clause-goes
returns-clause-goes c =
    let s = c.self.inside in
    let n = c.in_ok-checkpoint in
    let e : c.args.self.now ≡ n.checkpoint ∷ items n.left n.checkpoint.doc_range.end n.checkpoint.byte_range.end n.rest.now = sym c.self.view_is ∙ items_next s.left s.doc s.byte s.rest.now
    ∙ ap items_after (sym n.ensures) in
    rw e (search rules)
