use Rattle.std.proofs.Common.{◌≡◌, ◌⊎◌, ◌≤◌, ◌<◌, ◌-◌, length}
use Rattle.std.specs.List.{AllByRecursion, Contains}
use Rattle.std.specs.Prelude.{IsTrue, Err}
use Rattle.store_base.specs.Counts.{HasRisen}
use Rattle.store_base.specs.declared.error.StoreError.TheVariants.{Read}
use Rattle.store_reader.specs.CallAnswers.{IsNotPast}
use Rattle.store_reader.specs.CallList.{AreItems}
use Rattle.store_reader.specs.Reading.{IsSameStore, store_of}
use Rattle.store_format.specs.Slots.{slots}
use Rattle.store_reader.specs.Walking.{set_of, set_in, IsWalk}
use Rattle.store_reader.proofs.IterationLookUpLemmas.{IsListedTo}
use Rattle.store_reader.proofs.ItemsSoFarLemmas.{alive_so_far}
use Rattle.store_reader.proofs.SteadyLemmas.{IsSteadySoFar}
use Rattle.store_reader.proofs.call_list.list_items.Given as goal

abbrev pub invariant-loop-iter : goal.invariant-loop-iter
invariant-loop-iter g l = record {
  name : l.iter.reader.ghost_name ≡ l.initial.iter.reader.ghost_name;
  walk : IsWalk l.iter.reader.now l.iter.walk;
  same : IsSameStore l.fn.reader l.iter.reader.now;
  set : set_in l.iter.alive.now ≡ set_of l.alive;
  listed : IsTrue l.fn.reader.file.honest → AreItems (alive_so_far (set_of l.alive) (slots (store_of l.fn.reader)) l.iter.walk.next) l.items.items;
  below : l.iter.walk.next ≤ length (slots (store_of l.fn.reader));
  looks : IsListedTo l.fn.reader (set_of l.alive) (length l.items.items) l.iter.reader.now l.iter.walk;
  past : AllByRecursion IsNotPast l.items.items;
  failed : Contains l.items.items (Err Read) → HasRisen l.fn.reader.file.failures l.iter.reader.now.file.failures;
  steady : (Contains l.items.items (Err Read) → ⊥) → IsSteadySoFar (set_of l.alive) l.fn.reader l.iter.reader.now l.iter.walk;
  begun : (length l.items.items ≡ 0) ⊎ (0 < l.iter.walk.next);
  few : length l.items.items ≤ l.most;
}

abbrev pub decreases-loop-iter : goal.decreases-loop-iter
decreases-loop-iter g l = l.most - length l.items.items
