use Rattle.std.proofs.Common.{◌≡◌, ℕ, take}
use Rattle.std.specs.Prelude.{◌&&◌, nat_lt}
use Rattle.std.specs.List.{AllByRecursion}
use Rattle.store_commands.specs.LeftOut.{is_among, words_name, HasId}
use Rattle.store_commands.proofs.left_out.spans_of.Given as goal

-- the ids of the words so far were added
abbrev pub invariant-loop-word : goal.invariant-loop-word
invariant-loop-word l = record {
  named : (id : ℕ) → is_among l.spans.items id ≡ (words_name (take l.word-index l.words) id && nat_lt id l.num_docs);
  filled : AllByRecursion HasId l.spans.items;
}
