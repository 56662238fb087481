use Rattle.std.proofs.Common.{◌≡◌, ℕ, ◌+◌, ◌-◌, true, min, List, [], ◌∷◌, ◌++◌, sym, ap, ◌∙◌, subst, arith}
use Rattle.std.specs.Prelude.{not}
use Rattle.std.proofs.lemmas.Result.{err_from_is_err_and}
use Rattle.store_format.specs.Block.{Slot, slot}
use Rattle.store_commands.specs.Checks.{slots_in}
use Rattle.store_commands.specs.Documents.{kept_by, numbered_from, TakesSlots}
use Rattle.store_commands.specs.Giving.{RefusesSlot, EndsBlock}
use Rattle.store_commands.specs.LeftOut.{is_among}
use Rattle.store_commands.proofs.GivingLemmas.{numbered_skip, numbered_one}
use Rattle.store_commands.proofs.SpanLemmas.{is_in_true, is_in_parts}
use Rattle.store_commands.proofs.TakingLemmas.{takes_more}
use Rattle.store_commands.proofs.block_walk.give_block.Goals as goal

pub loop-next_id-preserved-in-Some : goal.loop-next_id-preserved-in-Some
loop-next_id-preserved-in-Some g c =
    let first = c.args.block.now.ids.start in let end = c.args.block.now.ids.end in
    let next = c.loop-next_id.next_id in let span = c.in-Some.span in let spans = c.args.left_out.now in
    let bytes = c.as_slice-bytes.result.now in
    let on = c.loop-next_id.invariant.on in let below = c.loop-next_id-test.true in
    let has = is_in_parts span next c.in-Some.ensures.has in
    let start = has.0 in let past = has.1 in
    let m = next - first in let n = (min span.end end - first) - m in
    let old : min next end - first ≡ m = omega arith in
    let new : min span.end end - first ≡ m + n = omega arith in
    let skip : numbered_from first (slots_in bytes (m + n)) (kept_by spans) ≡ numbered_from first (slots_in bytes m) (kept_by spans) =
    numbered_skip first bytes m n (kept_by spans) (λ id le lt. ap not (c.in-Some.ensures.among id (is_in_true span id (omega arith) (omega arith)))) in
    let same = ap (λ (k : ℕ). numbered_from first (slots_in bytes k) (kept_by spans)) new ∙ skip ∙ sym (ap (λ (k : ℕ). numbered_from first (slots_in bytes k) (kept_by spans)) old) in
    record {
      on = omega arith;
      taken = subst (λ (xs : List (ℕ × Slot)). TakesSlots g.T.DocumentTarget.takes xs c.args.target.now c.loop-next_id.target) (sym same) c.loop-next_id.invariant.taken;
      steady = c.loop-next_id.invariant.steady;
    }

pub loop-next_id-preserved : goal.loop-next_id-preserved
loop-next_id-preserved g c =
    let first = c.args.block.now.ids.start in let end = c.args.block.now.ids.end in
    let next = c.loop-next_id.next_id in let spans = c.args.left_out.now in
    let bytes = c.as_slice-bytes.result.now in
    let on = c.loop-next_id.invariant.on in let below = c.loop-next_id-test.true in
    let m = next - first in
    let old : min next end - first ≡ m = omega arith in
    let new : min (next + 1) end - first ≡ m + 1 = omega arith in
    let here : first + m ≡ next = omega arith in
    let kept : not (is_among spans (first + m)) ≡ true = ap (λ (k : ℕ). not (is_among spans k)) here ∙ ap not c.in_default.ensures.has in
    let one = numbered_one first bytes m (kept_by spans) kept in
    let same =
    ap (λ (k : ℕ). numbered_from first (slots_in bytes k) (kept_by spans)) new ∙ one
    ∙ ap (λ (k : ℕ). numbered_from first (slots_in bytes m) (kept_by spans) ++ (k, slot bytes m) ∷ []) here in
    let before : TakesSlots g.T.DocumentTarget.takes (numbered_from first (slots_in bytes m) (kept_by spans)) c.args.target.now c.loop-next_id.target =
    subst (λ (k : ℕ). TakesSlots g.T.DocumentTarget.takes (numbered_from first (slots_in bytes k) (kept_by spans)) c.args.target.now c.loop-next_id.target) old c.loop-next_id.invariant.taken in
    record {
      on = omega arith;
      taken = subst (λ (xs : List (ℕ × Slot)). TakesSlots g.T.DocumentTarget.takes xs c.args.target.now c.give_document.new.target) (sym same)
          (takes_more g.T.DocumentTarget.takes c.args.target.now c.loop-next_id.target c.give_document.new.target _ _ before c.in_ok-give_document.ensures.given);
      steady = c.in_ok-give_document.ensures.steady ∙ c.loop-next_id.invariant.steady;
    }

pub returns-in_err-give_document-clause-ended : goal.returns-in_err-give_document-clause-ended
returns-in_err-give_document-clause-ended g c =
    let first = c.args.block.now.ids.start in let end = c.args.block.now.ids.end in
    let next = c.loop-next_id.next_id in let spans = c.args.left_out.now in
    let bytes = c.as_slice-bytes.result.now in
    let on = c.loop-next_id.invariant.on in let below = c.loop-next_id-test.true in
    let m = next - first in
    let old : min next end - first ≡ m = omega arith in
    let here : first + m ≡ next = omega arith in
    let kept : not (is_among spans (first + m)) ≡ true = ap (λ (k : ℕ). not (is_among spans k)) here ∙ ap not c.in_default.ensures.has in
    let takes = g.T.DocumentTarget.takes in let refuses = g.T.DocumentTarget.refuses in
    let set = kept_by spans in let before = c.args.target.now in let after = c.give_document.new.target in
    let e = c.in_err-give_document.field-0.0 in
    let ended : EndsBlock takes refuses set first bytes (end - first) before after e = record {
      position = m;
      below = omega arith;
      kept = kept;
      before = c.loop-next_id.target;
      given = subst (λ (k : ℕ). TakesSlots takes (numbered_from first (slots_in bytes k) set) before c.loop-next_id.target) old c.loop-next_id.invariant.taken;
      cause = subst (λ (k : ℕ). RefusesSlot refuses k (slot bytes m) c.loop-next_id.target after e) (sym here) c.in_err-give_document.ensures.ended;
    } in
    let given = err_from_is_err_and c.from_residual.result c.from_residual.ensures.1 in
    rw (given.1, given.2) (subst (λ (xs : List ℕ). EndsBlock takes refuses set first xs (end - first) before after e) c.as_slice-bytes.ensures ended)
