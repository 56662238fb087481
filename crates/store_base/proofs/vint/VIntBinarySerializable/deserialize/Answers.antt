use Rattle.std.proofs.lemmas.Result.{err_from_is_err_and}
use Rattle.store_base.specs.ReadLemmas.{vint_refused}
use Rattle.store_base.proofs.vint.VIntBinarySerializable.deserialize.Goals as goal

pub returns-in_err-value : goal.returns-in_err-value
returns-in_err-value c =
    let p = err_from_is_err_and c.from_residual.result c.from_residual.ensures.1 in
    rw (p.1, p.2) (vint_refused c.args.bytes.now.now c.in_err-value.field-0.0 c.args.bytes.now.now c.in_err-value.ensures.text)
