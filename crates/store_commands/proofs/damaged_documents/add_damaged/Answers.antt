use Rattle.std.proofs.Common.{◌≡◌, ℕ, ◌+◌, ◌-◌, List, [], ◌∷◌, ◌++◌, sym, ap, ◌∙◌, subst, arith}
use Rattle.std.specs.Prelude.{◌||◌}
use Rattle.store_format.specs.Block.{slot}
use Rattle.store_commands.specs.declared.left_out.IdSpan.{IdSpan}
use Rattle.store_commands.specs.Checks.{is_damaged, slots_in}
use Rattle.store_commands.specs.Damaged.{damaged_from}
use Rattle.store_commands.specs.LeftOut.{is_among}
use Rattle.store_commands.proofs.CountLemmas.{told, none_is}
use Rattle.store_commands.proofs.DamagedLemmas.{found_one, found_none, found_rest, filled_push}
use Rattle.store_commands.proofs.damaged_documents.add_damaged.Goals as goal
use Rattle.store_commands.proofs.damaged_documents.add_damaged.Goals.{then-is_none+in_ok-push, else-is_none}

pub loop-position-preserved : goal.loop-position-preserved
loop-position-preserved c =
    let block = c.args.block.now in let first = c.args.first in let place = c.loop-position.position in
    let old = c.args.spans.now.items in let spans = c.loop-position.spans.items in
    let span : IdSpan = record { start = first + place; end = (first + place) + 1 } in
    let is : is_damaged (slot block place) ≡ c.is_none.result =
    told c.block_read_index.result _ _ c.block_read_index.ensures.slot ∙ sym (none_is c.block_read_index.result c.is_none.result c.is_none.ensures) in
    elim c.if-is_none.branch [
      | then-is_none+in_ok-push w ↦ rw (w.spans-is, w.in_ok-push.ensures.items) (record {
        added = found_one block first place old spans c.loop-position.invariant.added (is ∙ w.if-is_none.true);
        filled = filled_push spans span c.loop-position.invariant.filled (omega arith);
      })
      | else-is_none w ↦ rw (w.spans-is) (record {
        added = found_none block first place old spans c.loop-position.invariant.added (is ∙ w.if-is_none.false);
        filled = c.loop-position.invariant.filled;
      })
    ]

pub returns-in_ok-push-2-clause-added : goal.returns-in_ok-push-2-clause-added
returns-in_ok-push-2-clause-added c id =
    let block = c.args.block.now in let first = c.args.first in
    let old = c.args.spans.now.items in let spans = c.loop-position.spans.items in
    let few = c.documents_with_room-with_room.ensures.few in
    let m = c.documents_with_room-with_room.result in let n = c.args.documents - m in
    let at : c.loop-position.position ≡ m = omega (arith, c.loop-position-test.false) in
    let found : (k : ℕ) → is_among spans k ≡ (is_among old k || damaged_from first (slots_in block m) k) =
    subst (λ (j : ℕ). (k : ℕ) → is_among spans k ≡ (is_among old k || damaged_from first (slots_in block j) k)) at c.loop-position.invariant.added in
    let end : (first + m) + n ≡ first + c.args.documents = omega arith in
    let all : m + n ≡ c.args.documents = omega arith in
    ap (λ (xs : List IdSpan). is_among xs id) c.in_ok-push-2.ensures.items
    ∙ ap (λ (e : ℕ). is_among (spans ++ record { start = first + m; end = e } ∷ []) id) (sym end)
    ∙ found_rest block first m n old spans found (λ j le lt. c.documents_with_room-with_room.ensures.others j le (omega arith)) id
    ∙ ap (λ (k : ℕ). is_among old id || damaged_from first (slots_in block k) id) all
