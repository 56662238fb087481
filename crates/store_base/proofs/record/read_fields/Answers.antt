use Rattle.std.proofs.Common.{◌≡◌, ◌++◌, ◌∷◌, []}
use Rattle.std.proofs.lemmas.Result.{err_from_is_err_and}
use Rattle.std.proofs.lemmas.List.{map_push}
use Rattle.store_base.specs.Record.{field_seen, fields_seen, spelling_of, fields_at}
use Rattle.store_base.proofs.RecordLoops.{goes_on, ends, is_done}
use Rattle.store_base.proofs.record.read_fields.Goals as goal

pub returns-in_err-field : goal.returns-in_err-field
returns-in_err-field c =
    let p = err_from_is_err_and c.from_residual.result c.from_residual.ensures.1 in
    rw (p.1, p.2) (ends (spelling_of c.args.version) c.in_err-field.field-0.0 (fields_seen c.loop.fields.items) c.args.count c.loop.counter c.loop.rest.now
    (fields_at (spelling_of c.args.version) c.args.count c.args.bytes.now) c.loop-test.true c.in_err-field.ensures c.loop.invariant)

pub loop-preserved : goal.loop-preserved
loop-preserved c =
    let f = c.in_ok-field.field in
    let e : fields_seen c.push.new.self.items ≡ fields_seen c.loop.fields.items ++ field_seen f ∷ [] = rw c.in_ok-push.ensures.items (map_push field_seen c.loop.fields.items f) in
    rw e (goes_on (spelling_of c.args.version) (fields_seen c.loop.fields.items) c.args.count c.loop.counter c.loop.rest.now (field_seen f) c.in_ok-field.after.now
    (fields_at (spelling_of c.args.version) c.args.count c.args.bytes.now) c.loop-test.true c.in_ok-field.ensures c.loop.invariant)

pub returns : goal.returns
returns c = is_done (spelling_of c.args.version) (fields_seen c.loop.fields.items) c.args.count c.loop.counter c.loop.rest.now
    (fields_at (spelling_of c.args.version) c.args.count c.args.bytes.now) c.loop-test.false c.loop.invariant
