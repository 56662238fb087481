-- What is known of an output.
use Rattle.std.specs.Prelude.{◌≡◌, ℕ, List, Bool, if◌then◌else◌, length, Option, Some, None}
use Rattle.store_base.specs.Counts.{raised}

-- how often an output was asked to end, and how many bytes it had when that was last answered Ok
pub record Termination : Type 0 where
  pub calls : ℕ
  pub at : Option ℕ

abbrev pub never_terminated : Termination
never_terminated = record { calls = 0; at = None }

-- one call more to end an output of this content, and whether it was answered Ok
abbrev pub terminated_once : Bool → List ℕ → Termination → Termination
terminated_once ok content old = record {
  calls = raised old.calls 1;
  at =
      if ok then Some (length content) else old.at;
}

-- It ended, and nothing was written after its end.
abbrev pub IsTerminated : List ℕ → Termination → Type 0
IsTerminated content t = t.at ≡ Some (length content)

-- an output in memory: what was written, its ends, and how often a call failed
pub record Output : Type 0 where
  pub content : List ℕ
  pub termination : Termination
  pub failures : ℕ

-- an output that is counted: itself, and the bytes of its writes that answered Ok
pub record Counted (W : Type 0) : Type 0 where
  pub output : W
  pub written : ℕ
