-- Counts of failures that stay.
use Rattle.std.proofs.Common.{◌≡◌, ◌⊎◌, inl, inr, ℕ}
use Rattle.std.specs.Prelude.{Result, Ok, Err}

-- a call that returned Ok left the count
pub still : {A E : Type 0} {x : A} {e : E} {m n : ℕ} → (◌≡◌ {A = Result A E} (Ok x) (Err e)) ⊎ (m ≡ n) → m ≡ n
still (inl failed) = absurd cc
still (inr same) = same
