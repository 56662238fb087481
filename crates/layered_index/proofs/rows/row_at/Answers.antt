use Rattle.std.proofs.Common.{◌≡◌, ◌<◌, ◌≤◌, length, slice_index_or, Some, sym, ap, ◌∙◌, arith, rules}
use Rattle.std.proofs.lemmas.Bool.{ltb-true}
use Rattle.layered_index.specs.Checkpoint.{checkpoint}
use Rattle.layered_index.proofs.HalvingLemmas.{none_following}
use Rattle.layered_index.specs.Rows.{end_of}
use Rattle.layered_index.proofs.RowLemmas.{row_tells}
use Rattle.layered_index.proofs.RowSeekLemmas.{size}
use Rattle.layered_index.proofs.rows.row_at.Goals as goal

pub returns-in_err-row : goal.returns-in_err-row
returns-in_err-row c cs is line =
    let past : length c.args.rows.now ≤ c.args.at = search rules in
    c.from_residual.ensures ∙ sym (none_following cs c.args.at (omega (arith, past, size c.args.rows.now cs is 0)))

pub returns : goal.returns
returns c cs is line =
    let at = c.args.at in
    let row = c.in_ok-row.row.now in
    let start = c.start_of-start.result in
    let lookup = c.in_ok-row.ensures.lookup in
    let within : at < length c.args.rows.now = ltb-true _ _ (sym lookup.0) in
    let ends : c.end-end.result ≡ end_of (slice_index_or c.args.rows.now at row) = c.end-end.ensures ∙ ap end_of lookup.1 in
    (λ i. Some (checkpoint start.end_doc (ends i).end_doc start.end_byte (ends i).end_byte))
    ∙ row_tells c.args.rows.now cs at row start is line within c.start_of-start.ensures
