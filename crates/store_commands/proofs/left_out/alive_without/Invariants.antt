use Rattle.std.proofs.Common.{◌≡◌, ℕ, ◌<◌, length, take}
use Rattle.std.specs.Prelude.{not}
use Rattle.store_base.specs.AliveBitSet.{is_alive_at}
use Rattle.store_commands.specs.LeftOut.{is_among}
use Rattle.store_commands.proofs.left_out.alive_without.Given as goal

-- the documents of the ranges so far are dead
abbrev pub invariant-loop-span : goal.invariant-loop-span
invariant-loop-span l = record {
  len : length l.set ≡ l.num_docs;
  each : (id : ℕ) → id < l.num_docs → is_alive_at l.set id ≡ not (is_among (take l.span-index l.spans) id);
}
