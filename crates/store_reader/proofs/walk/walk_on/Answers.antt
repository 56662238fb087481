use Rattle.std.proofs.Common.{◌≡◌, refl, sym, ◌∙◌, subst, arith}
use Rattle.store_reader.specs.Reading.{num_docs}
use Rattle.store_reader.specs.Walking.{WalksTo, set_in}
use Rattle.store_reader.proofs.RecentLemmas.{same_on, same_along}
use Rattle.store_reader.proofs.SteadyLemmas.{steady_to, steady_end}
use Rattle.store_reader.proofs.WalkingLemmas.{walks_past, walks_along, walks_same, docs_of_some, docs_stay, stands_in}
use Rattle.store_reader.proofs.walk.walk_on.Goals as goal

pub step_in-requires-clause-more : goal.step_in-requires-clause-more
step_in-requires-clause-more g c =
    let stay = docs_stay _ _ _ _ _ _ c.loop-doc_id.invariant.on in
    let here = c.loop-doc_id.invariant.here in let count = c.num_docs-doc_id-end.ensures.count in
    omega arith

pub returns-then-is_alive-clause-found : goal.returns-then-is_alive-clause-found
returns-then-is_alive-clause-found g c =
    let on = walks_along _ _ _ _ _ _ c.step_in.new.reader c.step_in.new.walk c.loop-doc_id.invariant.on c.step_in.ensures.later c.step_in.ensures.looks in
    let count = c.num_docs-doc_id-end.ensures.count in
    let above = c.step_in.ensures.walk.above in let next = c.step_in.ensures.next in let here = c.loop-doc_id.invariant.here in (
      walks_same _ _ _ _ _ _ _ on refl refl,
      omega arith,
      sym c.is_alive.ensures ∙ c.if-is_alive.true,
      refl,
      stands_in _ _ _ _ _ _ on c.num_docs-doc_id-end.ensures.covers c.step_in.ensures.walk (next ∙ here) (let inside = c.step_in.ensures.inside in omega arith),
    )

pub loop-doc_id-preserved : goal.loop-doc_id-preserved
loop-doc_id-preserved g c =
    let on = walks_along _ _ _ _ _ _ c.step_in.new.reader c.step_in.new.walk c.loop-doc_id.invariant.on c.step_in.ensures.later c.step_in.ensures.looks in
    let next = c.step_in.ensures.next in let here = c.loop-doc_id.invariant.here in let inside = c.step_in.ensures.inside in
    let w = c.step_in.ensures.walk in
    let above = w.above in
    record {
      walk = record { few = w.few; first = w.first; end = w.end; above = omega arith; below = omega arith; holds = w.holds; only = w.only };
      here = refl;
      on = walks_past _ _ _ _ _ _ _ on (sym c.is_alive.ensures ∙ c.if-is_alive.false) refl refl;
    }

pub returns-clause-found : goal.returns-clause-found
returns-clause-found g c =
    let count = c.num_docs-doc_id-end.ensures.count in let here = c.loop-doc_id.invariant.here in
    let some = docs_of_some 0 0 c.args.reader.now.checkpoints c.args.walk.now.place c.num_docs-doc_id-end.ensures.covers.in_line in
    let below = c.requires.below in let end = c.requires.end in
    let all : c.loop-doc_id.doc_id ≡ num_docs c.args.reader.now = omega (arith, c.loop-doc_id.auto.doc_id-end) in
    (subst (λ n. WalksTo (set_in c.args.alive.now) c.args.reader.now c.args.walk.now n c.loop-doc_id.reader c.loop-doc_id.walk) all c.loop-doc_id.invariant.on, here ∙ all)

pub returns-then-is_alive-clause-same : goal.returns-then-is_alive-clause-same
returns-then-is_alive-clause-same g c = same_on _ _ _ (same_along _ _ _ _ _ c.loop-doc_id.invariant.on.looks) (same_along _ _ _ _ _ c.step_in.ensures.looks)

pub returns-clause-same : goal.returns-clause-same
returns-clause-same g c = same_along _ _ _ _ _ c.loop-doc_id.invariant.on.looks

pub returns-then-is_alive-clause-steady : goal.returns-then-is_alive-clause-steady
returns-then-is_alive-clause-steady g c =
    let on = walks_along _ _ _ _ _ _ c.step_in.new.reader c.step_in.new.walk c.loop-doc_id.invariant.on c.step_in.ensures.later c.step_in.ensures.looks in
    let w = c.step_in.ensures.walk in
    let next = c.step_in.ensures.next in
    steady_to _ _ _ _ _ _ _ c.num_docs-doc_id-end.ensures.covers c.requires on w (omega (arith, w.above, next, c.loop-doc_id.invariant.here))

pub returns-clause-steady : goal.returns-clause-steady
returns-clause-steady g c =
    let count = c.num_docs-doc_id-end.ensures.count in let here = c.loop-doc_id.invariant.here in
    let some = docs_of_some 0 0 c.args.reader.now.checkpoints c.args.walk.now.place c.num_docs-doc_id-end.ensures.covers.in_line in
    let below = c.requires.below in let end = c.requires.end in
    let all : c.loop-doc_id.doc_id ≡ num_docs c.args.reader.now = omega (arith, c.loop-doc_id.auto.doc_id-end) in
    let on : WalksTo (set_in c.args.alive.now) c.args.reader.now c.args.walk.now (num_docs c.args.reader.now) c.loop-doc_id.reader c.loop-doc_id.walk =
    subst (λ n. WalksTo (set_in c.args.alive.now) c.args.reader.now c.args.walk.now n c.loop-doc_id.reader c.loop-doc_id.walk) all c.loop-doc_id.invariant.on in
    steady_end _ _ _ _ _ _ _ c.num_docs-doc_id-end.ensures.covers c.requires on c.loop-doc_id.invariant.walk refl
