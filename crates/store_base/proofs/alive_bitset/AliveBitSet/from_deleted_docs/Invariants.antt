use Rattle.std.proofs.Common.{◌≡◌, ℕ, ◌<◌, length, take}
use Rattle.std.specs.Prelude.{not, nat_eq}
use Rattle.std.specs.List.{list_any}
use Rattle.store_base.specs.AliveBitSet.{is_alive_at}
use Rattle.store_base.proofs.alive_bitset.AliveBitSet.from_deleted_docs.Given as goal

-- the ids so far are dead
abbrev pub invariant-loop-id : goal.invariant-loop-id
invariant-loop-id l = record {
  len : length l.set ≡ l.max_doc;
  each : (id : ℕ) → id < l.max_doc → is_alive_at l.set id ≡ not (list_any (nat_eq id) (take l.id-index l.deleted));
}
