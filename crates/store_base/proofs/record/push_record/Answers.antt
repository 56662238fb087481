use Rattle.std.proofs.Common.{◌≡◌, ◌++◌, ltb, false, sym, ap, ◌∙◌, append_assoc, length, take, List, ℕ, refl}
use Rattle.std.specs.List.{flat_map}
use Rattle.store_base.specs.VInt.{number}
use Rattle.store_base.specs.Record.{fields_seen, field_bytes, doc_bytes}
use Rattle.store_base.proofs.RecordLoops.{not_writable}
use Rattle.store_base.proofs.Beginnings.{begins_before}
use Rattle.store_base.proofs.record.push_record.Goals as goal

pub returns-then-not-has_field-clause-refused : goal.returns-then-not-has_field-clause-refused
returns-then-not-has_field-clause-refused c refused =
    let fails : ltb c.loop-field-item.result.0 c.args.schema.now ≡ false = sym c.has_field.ensures ∙ c.if-not-has_field.true in
    ap (λ (d : List (ℕ × List ℕ)). doc_bytes d c.args.schema.now) (sym c.fields-fields.ensures)
    ∙ not_writable c.args.schema.now c.fields-fields.result.now c.loop-field.field-index c.loop-field-item.result c.loop-field-test.true c.loop-field-item.is (rw fails refl)

pub returns-in_err-push_field-clause-kept : goal.returns-in_err-push_field-clause-kept
returns-in_err-push_field-clause-kept c =
    let i = c.loop-field.field-index in
    let fields = c.fields-fields.result.now in
    let more = number (length fields) ++ flat_map field_bytes (fields_seen (take i fields)) in
    let written : c.loop-field.out.items ≡ c.args.out.now.items ++ more = c.loop-field.invariant.written
    ∙ append_assoc c.args.out.now.items (number (length fields)) (flat_map field_bytes (fields_seen (take i fields))) in
    begins_before c.args.out.now.items more c.push_field.new.out.items (rw (← written) c.in_err-push_field.ensures.err)
