use Rattle.std.proofs.Common.{◌≡◌, ℕ, length}
use Rattle.std.specs.Prelude.{◌&&◌, false, if◌then◌else◌, nat_lt}
use Rattle.store_base.specs.AliveBitSet.{is_alive_at}
use Rattle.store_commands.specs.LeftOut.{is_in}
use Rattle.store_commands.proofs.left_out.delete_span.Given as goal

-- the ids so far are dead
abbrev pub invariant-loop-doc_id : goal.invariant-loop-doc_id
invariant-loop-doc_id l = record {
  len : length l.set ≡ length l.fn.set;
  each : (k : ℕ) → is_alive_at l.set k ≡ (if is_in l.fn.span k && nat_lt k l.doc_id then false else is_alive_at l.fn.set k);
}
