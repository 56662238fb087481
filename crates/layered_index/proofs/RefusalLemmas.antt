-- Faults and refusals.
use Rattle.std.proofs.Common.{inl, inr, refl}
use Rattle.layered_index.specs.declared.fault.ReadFault.{ReadFault}
use Rattle.layered_index.specs.declared.fault.ReadFault.TheVariants.{Malformed, OutOfMemory}
use Rattle.layered_index.specs.Refusal.{refusal_of, RefusesOnlyUnless, FailsOnlyUnless}

-- A fault is answered by its refusal.
pub refused : (good : Type 0) (fault : ReadFault) → FailsOnlyUnless good fault → RefusesOnlyUnless good (refusal_of fault)
refused good Malformed h = inl (refl, h)
refused good OutOfMemory h = inr refl
