use Rattle.std.proofs.Common.{◌≢◌, ◌+◌, ◌∷◌, [], ◌++◌, All, take, length, sym, ap, subst, ◌∙◌, arith, eqb-true, take_all, take-append-drop}
use Rattle.std.proofs.lemmas.List.{take_more}
use Rattle.document_framing.proofs.PieceLemmas.{none_before}
use Rattle.document_framing.proofs.pieces.split_after.Goals as goal

pub returns : goal.returns
returns c =
    let found = c.in_ok-place.ensures in
    let place = c.in_ok-place.place in
    let bytes = c.args.bytes.now in
    record {
      front = take place bytes;
      none = none_before bytes c.args.end place found.0.before (omega (arith, found.0.high));
      closed = c.split_at.ensures.front ∙ take_more bytes place 0 (omega (arith, found.0.high))
          ∙ ap (λ x. take place bytes ++ x ∷ []) (eqb-true _ _ found.1);
      whole = sym (take-append-drop (place + 1) bytes) ∙ cc;
    }

pub returns-in_err-place : goal.returns-in_err-place
returns-in_err-place c =
    let bytes = c.args.bytes.now in
    rw c.from_residual.ensures
    (subst (All (λ x. x ≢ c.args.end)) (take_all (length bytes) bytes (omega arith))
    (none_before bytes c.args.end (length bytes) c.in_err-place.ensures (omega arith)))
