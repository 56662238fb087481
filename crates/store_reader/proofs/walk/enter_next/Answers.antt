use Rattle.std.proofs.Common.{◌≡◌, ℕ, ◌+◌, ◌-◌, take, sym, ap, ◌∙◌, subst, arith}
use Rattle.layered_index.specs.Checkpoint.{docs_end}
use Rattle.store_reader.specs.Reading.{Reading}
use Rattle.store_reader.specs.Walking.{IsEntered}
use Rattle.store_reader.proofs.SeekLemmas.{docs_at_least}
use Rattle.store_reader.proofs.WalkingLemmas.{IsNextBlock, taken_some, next_is, holds_next, only_next}
use Rattle.store_reader.proofs.walk.enter_next.Goals as goal

pub overflow_add-walk : goal.overflow_add-walk
overflow_add-walk g c =
    let grow = docs_at_least 0 0 c.args.reader.now.checkpoints c.args.walk.now.place c.enter-entered.ensures.covers.in_line c.enter-entered.ensures.covers.filled c.requires.walk.few in
    let end = c.requires.walk.end in let here = c.requires.here in
    omega arith

pub enter-entered-requires : goal.enter-entered-requires
enter-entered-requires g c = let end = c.requires.walk.end in let here = c.requires.here in let more = c.requires.more in omega arith

-- the block is that of the next document
entered : (g : _) (c : goal.Joined-walk-entered g) → IsEntered c.args.reader.now c.args.walk.now.next c.enter-entered.result c.enter-entered.new.self
entered g c = subst (λ (id : ℕ). IsEntered c.args.reader.now id c.enter-entered.result c.enter-entered.new.self) (sym (c.requires.here ∙ c.requires.walk.end)) c.enter-entered.ensures.entered

next : (g : _) (c : goal.Joined-walk-entered g) → IsNextBlock c.args.reader.now.checkpoints c.args.walk.now.place c.args.walk.now.next (entered g c).checkpoint
next g c = next_is _ _ _ _ _ c.enter-entered.ensures.covers (c.requires.here ∙ c.requires.walk.end) c.requires.more (entered g c).looked.looked.seeks

pub returns-clause-walk : goal.returns-clause-walk
returns-clause-walk g c =
    let cs = c.args.reader.now.checkpoints in
    let n = next g c in
    let e = entered g c in
    let same : c.enter-entered.new.self.checkpoints ≡ cs = ap (λ (r : Reading). r.checkpoints) e.looked.looked.stays in
    let more = n.more in let inside = n.inside in let start = n.start in let first = e.first in let end = e.end in
    let place : (c.args.walk.now.place + 1) - 1 ≡ c.args.walk.now.place = omega arith in
    let taken = taken_some (c.args.walk.now.place + 1) c.enter-entered.result.block (omega arith) in
    rw same (record {
      few = omega arith;
      first = e.first ∙ n.start ∙ c.requires.here ∙ c.requires.walk.end ∙ ap (λ k. docs_end 0 (take k cs)) (sym place);
      end = e.end ∙ sym n.end;
      above = omega arith;
      below = omega arith;
      holds = λ honest. rw taken (holds_next c.args.reader.now c.enter-entered.new.self c.args.walk.now.next c.args.walk.now.place
          ((c.args.walk.now.place + 1) - 1) e.checkpoint c.enter-entered.result.block e.looked n.at place honest);
      only = rw taken (only_next c.args.reader.now c.enter-entered.new.self c.args.walk.now.next e.checkpoint c.enter-entered.result.block e.looked);
    })

pub returns-clause-taken : goal.returns-clause-taken
returns-clause-taken g c =
    let n = next g c in
    rw (taken_some (c.args.walk.now.place + 1) c.enter-entered.result.block (omega arith)) ((entered g c).checkpoint, n.at, n.start, (entered g c).looked)

pub returns-clause-inside : goal.returns-clause-inside
returns-clause-inside g c = let n = (next g c).inside in let end = (entered g c).end in omega arith
