-- The one refusal that nothing rules out.
use Rattle.std.specs.Prelude.{◌≡◌, ◌⊎◌}
use Rattle.store_base.specs.declared.error.Cause.{Cause}
use Rattle.store_base.specs.declared.error.StoreError.{StoreError}
use Rattle.store_base.specs.declared.error.StoreError.TheVariants.{Memory, Failed}

-- Memory ran out, or a growth of the output was refused.
abbrev pub IsWant : StoreError → Type 0
IsWant e = (e ≡ Memory) ⊎ ((cause : Cause) × (e ≡ Failed cause))
