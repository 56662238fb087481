use Rattle.std.proofs.Common.{arith}
use Rattle.store_base.proofs.serialize.split_front.Goals as goal

pub returns-in_err-front-clause-octets : goal.returns-in_err-front-clause-octets
returns-in_err-front-clause-octets g c i = omega (arith, c.type_inv.bytes i)

pub returns-clause-octets : goal.returns-clause-octets
returns-clause-octets g c i = omega (arith, c.type_inv.bytes i)
