use Rattle.std.proofs.Common.{◌≡◌, refl, sym, ap, ◌∙◌}
use Rattle.layered_index.specs.Checkpoint.{bytes_end}
use Rattle.std.proofs.lemmas.List.{length-map}
use Rattle.docstore.proofs.PendingLemmas.{from_ok}
use Rattle.layered_index.specs.declared.row.RowEnd.{RowEnd}
use Rattle.layered_index.specs.Rows.{end_of, ends_in, start_in}
use Rattle.store_c.proofs.EndLemmas.{last_byte}
use Rattle.store_c.proofs.ending.end_of_file.Goals as goal

pub returns-clause-end : goal.returns-clause-end
returns-clause-end c =
    let index = c.in_ok-index.ensures.index in
    let cs = c.in_ok-index.index.checkpoints in
    let ends = sym index.ends_are in
    let last : c.start_of-last.result.end_byte ≡ bytes_end 0 cs = ap (λ (b : RowEnd). b.end_byte)
    (c.start_of-last.ensures ∙ ap (start_in _ (ends_in c.args.ends.now)) (sym (length-map c.args.ends.now end_of)))
    ∙ last_byte 0 0 cs (ends_in c.args.ends.now) ends in
    let first = from_ok c.serialize_into.result (sym c.if-is_err.ensures.value) c.serialize_into.ensures.ok in
    let second = from_ok c.serialize.result (sym c.if-is_err-2.ensures.value) c.serialize.ensures.ok in
    let f = c.with_period-footer.ensures in
    record {
      checkpoints = cs;
      in_line = index.in_line;
      ends_are = ends;
      is = rw (c.into_bytes.ensures, second, first, c.new-end.ensures.content, f.offset, f.decompressor, f.period, index.period_is, last) refl;
    }
