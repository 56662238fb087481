use Rattle.std.proofs.Common.{inl, inr, refl, arith}
use Rattle.store_reader.proofs.SteadyLemmas.{failed_item}
use Rattle.store_reader.proofs.WalkingLemmas.{docs_stay, item_is_true, stands_from, taken_place}
use Rattle.store_reader.proofs.iter.ItemsWalkIterator.next.Goals as goal

pub returns-clause-goes : goal.returns-clause-goes
returns-clause-goes g c =
    let found = c.in_ok-doc_id.ensures.found in
    let stay = docs_stay _ _ _ _ _ _ found.0 in let on = found.0.on in let below = found.1 in let next = found.3 in
    record { on = λ finite. (c.walk_on.ensures.walk, tt, omega arith); keeps = c.walk_on.ensures.walk; rests = λ finite. tt }

pub answer_of-requires-clause-above : goal.answer_of-requires-clause-above
answer_of-requires-clause-above g c = (stands_from _ _ _ _ c.in_ok-doc_id.ensures.found.4).1

pub answer_of-requires-clause-block : goal.answer_of-requires-clause-block
answer_of-requires-clause-block g c = taken_place _ _ (stands_from _ _ _ _ c.in_ok-doc_id.ensures.found.4).0

pub returns-clause-steps : goal.returns-clause-steps
returns-clause-steps g c =
    let found = c.in_ok-doc_id.ensures.found in (
      record {
        last = c.in_ok-doc_id.doc_id;
        walks = found.0;
        walk = c.walk_on.ensures.walk;
        same = c.walk_on.ensures.same;
        gives = record {
          below = found.1;
          is_alive = found.2;
          next = found.3;
          above =
              (stands_from _ _ _ _ found.4).1;
          answers = c.answer_of.ensures;
          honest = item_is_true _ _ _ _ _ found.4 c.answer_of.ensures;
        };
        steady = elim c.in_ok-doc_id.ensures.steady [ inl failed ↦ inl (failed_item _ _ _ _ c.answer_of.ensures failed) | inr steady ↦ inr steady ];
      },
      refl,
      refl,
    )
