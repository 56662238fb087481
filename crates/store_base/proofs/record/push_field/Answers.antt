use Rattle.std.proofs.Common.{◌<◌, length, arith}
use Rattle.std.proofs.lemmas.Bool.{lt-ltb}
use Rattle.store_base.proofs.RecordLoops.{bytes_pass}
use Rattle.store_base.proofs.record.push_field.Goals as goal

pub returns-clause-fit : goal.returns-clause-fit
returns-clause-fit c =
    let id_fits : c.args.field < 4294967296 = omega (arith, c.field_id.type_inv) in
    let len_fits : length c.args.bytes.now < 18446744073709551616 = omega arith in
    rw (lt-ltb _ _ id_fits, lt-ltb _ _ len_fits) (bytes_pass c.args.bytes.now (λ i. omega (arith, c.type_inv.bytes i)))
