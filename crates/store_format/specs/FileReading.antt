-- What one read of a range of a file brings.
use Rattle.std.specs.Prelude.{◌≡◌, ◌⊎◌, ℕ, ◌-◌, IsTrue, List, length, slice_range, Result, Err, IfOk, IfErr}
use Rattle.store_base.specs.Counts.{HasRisen}
use Rattle.store_base.specs.Files.{Part, ReadsOnce}
use Rattle.store_base.specs.declared.error.StoreError.{StoreError}
use Rattle.store_base.specs.declared.error.StoreError.TheVariants.{Read, Memory}

-- The bytes that came, or why none did. The file counts one read, of these bytes alone, and a failure only for `Read`.
pub record Comes (old : Part) (from to : ℕ) (came : Result (List ℕ) StoreError) (new : Part) : Type 0 where
  pub size : IfOk came (λ bytes. length bytes ≡ to - from)
  pub bytes : IsTrue old.honest → IfOk came (λ bytes. bytes ≡ slice_range old.content from to)
  pub failed : came ≡ Err Read → HasRisen old.failures new.failures
  pub steady : (came ≡ Err Read) ⊎ (new.failures ≡ old.failures)
  pub only : IfErr came (λ e. (e ≡ Read) ⊎ (e ≡ Memory))
  pub once : ReadsOnce (to - from) old new
