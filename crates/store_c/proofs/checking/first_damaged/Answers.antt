use Rattle.std.proofs.Common.{Some, None, sym, ◌∙◌, arith, subst}
use Rattle.store_c.specs.Checking.{AreWholeTo}
use Rattle.store_c.proofs.CheckingLemmas.{HasGoneTo, moves, one_more_whole, all_whole, first_found, none_found}
use Rattle.store_c.proofs.checking.first_damaged.Goals as goal

pub returns-in_default : goal.returns-in_default
returns-in_default c s = absurd (c.in_default.ensures.amid s)

pub loop-document-init : goal.loop-document-init
loop-document-init c = subst (HasGoneTo c.args.store.now) (sym c.into_iter-document-iterator.ensures.into_iter_gives) (record {
  bytes = c.in-Ok.ensures.file;
  amid = c.in-Ok.ensures.amid;
  whole = λ s id below. absurd (omega (arith, below, c.in-Ok.ensures.first));
})

pub returns-then-is_some : goal.returns-then-is_some
returns-then-is_some c s =
    let l = c.loop-document in
    let gives = (moves c.args.store.now l.document-iterator c.next.new.self (Some c.in-Some.document) l.invariant.bytes c.in-Some.ensures.steps.1 s (l.invariant.amid s)).0 in
    first_found c.args.store.now s l.document-iterator.next (l.invariant.whole s) c.in-Some.document gives.1 c.damaged_id-found.result c.damaged_id-found.ensures (sym c.if-is_some.ensures)

pub loop-document-preserved : goal.loop-document-preserved
loop-document-preserved c =
    let l = c.loop-document in
    let on = moves c.args.store.now l.document-iterator c.next.new.self (Some c.in-Some.document) l.invariant.bytes c.in-Some.ensures.steps.1 in
    record {
      bytes = c.in-Some.ensures.steps.0 ∙ l.invariant.bytes;
      amid = λ s. (on s (l.invariant.amid s)).1;
      whole = λ s.
          let gives = (on s (l.invariant.amid s)).0 in
          let whole = l.invariant.whole s in
          let id = l.document-iterator.next in
          subst (AreWholeTo s.blocks) (sym gives.2) (one_more_whole c.args.store.now s id whole
          (none_found c.args.store.now s id whole c.in-Some.document gives.1 c.damaged_id-found.result c.damaged_id-found.ensures (sym c.if-is_some.ensures)));
    }

pub returns : goal.returns
returns c s =
    let l = c.loop-document in
    let gives = (moves c.args.store.now l.document-iterator c.next.new.self None l.invariant.bytes c.in-None.ensures.steps.1 s (l.invariant.amid s)).0 in
    all_whole c.args.store.now s l.document-iterator.next (l.invariant.whole s) gives.0
