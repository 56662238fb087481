use Rattle.std.proofs.Common.{◌≡◌, ℕ, take}
use Rattle.std.specs.Prelude.{◌&&◌, ◌||◌, nat_lt}
use Rattle.std.specs.List.{AllByRecursion, list_any}
use Rattle.store_commands.specs.LeftOut.{is_among, part_names, HasId}
use Rattle.store_commands.proofs.left_out.add_spans.Given as goal

-- the ids of the parts so far were added
abbrev pub invariant-loop-part : goal.invariant-loop-part
invariant-loop-part l = record {
  added : (id : ℕ) → is_among l.spans.items id ≡ (is_among l.fn.spans.items id || (list_any (λ part. part_names part.now id) (take l.part-index l.part-items) && nat_lt id l.num_docs));
  filled : AllByRecursion HasId l.spans.items;
}
