use Rattle.std.proofs.Common.{inl, inr, Some, refl, subst, arith}
use Rattle.store_reader.specs.Documents.{document_version, ReadsFrom}
use Rattle.store_reader.proofs.SteadyLemmas.{failed_item}
use Rattle.store_reader.proofs.WalkingLemmas.{docs_stay, item_is_true, stands_from, taken_place, read_truly}
use Rattle.store_reader.proofs.iter.ItemsDocWalkIterator.next.Goals as goal

pub returns-clause-goes : goal.returns-clause-goes
returns-clause-goes g c =
    let found = c.in_ok-doc_id.ensures.found in
    let stay = docs_stay _ _ _ _ _ _ found.0 in let on = found.0.on in let below = found.1 in let next = found.3 in
    record { on = λ finite. (c.walk_on.ensures.walk, tt, omega arith); keeps = c.walk_on.ensures.walk; rests = λ finite. tt }

pub answer_of-bytes-requires-clause-above : goal.answer_of-bytes-requires-clause-above
answer_of-bytes-requires-clause-above g c = (stands_from _ _ _ _ c.in_ok-doc_id.ensures.found.4).1

pub answer_of-bytes-requires-clause-block : goal.answer_of-bytes-requires-clause-block
answer_of-bytes-requires-clause-block g c = taken_place _ _ (stands_from _ _ _ _ c.in_ok-doc_id.ensures.found.4).0

pub returns-clause-steps : goal.returns-clause-steps
returns-clause-steps g c =
    let found = c.in_ok-doc_id.ensures.found in
    let truly = item_is_true _ _ _ _ _ found.4 c.answer_of-bytes.ensures in
    let reads = subst (λ v. ReadsFrom (g.D.DocumentDeserialize.reading (document_version v)) c.answer_of-bytes.result c.read_document.result) c.version-version.ensures c.read_document.ensures in (
      record {
        bytes = Some c.answer_of-bytes.result;
        gives = record {
          last = c.in_ok-doc_id.doc_id;
          walks = found.0;
          walk = c.walk_on.ensures.walk;
          same = c.walk_on.ensures.same;
          gives = record { below = found.1; is_alive = found.2; next = found.3; above = (stands_from _ _ _ _ found.4).1; answers = c.answer_of-bytes.ensures; honest = truly };
          steady = elim c.in_ok-doc_id.ensures.steady [ inl failed ↦ inl (failed_item _ _ _ _ c.answer_of-bytes.ensures failed) | inr steady ↦ inr steady ];
        };
        reads = reads;
        honest = λ honest. read_truly _ _ _ c.answer_of-bytes.result c.read_document.result (truly honest) reads;
      },
      refl,
      refl,
    )
