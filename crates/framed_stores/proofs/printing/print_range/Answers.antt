use Rattle.std.proofs.Common.{◌≡◌, List, ℕ, subst, sym, Some}
use Rattle.std.specs.Prelude.{slice_get, IsTrue}
use Rattle.std.specs.Io.KnownBytes.{Appends}
use Rattle.document_framing.specs.Forms.{shown}
use Rattle.store_format.specs.Block.{Slot, doc}
use Rattle.store_format.specs.Slots.{slots}
use Rattle.store_reader.specs.Reading.{store_of}
use Rattle.store_reader.proofs.ItemsSoFarLemmas.{same_slots}
use Rattle.store_reader.proofs.RecentLemmas.{same_on}
use Rattle.framed_stores.specs.Printing.{PrintsSlots, slots_among}
use Rattle.framed_stores.proofs.RangeLemmas.{slots_more, prints_more}
use Rattle.framed_stores.proofs.printing.print_range.Goals as goal

pub loop-doc_id-preserved : goal.loop-doc_id-preserved
loop-doc_id-preserved g c = record {
  same = same_on c.args.reader.now c.loop-doc_id.reader c.get_document_bytes.new.self c.loop-doc_id.invariant.same c.in_ok-document.ensures.same_store;
  printed = λ honest.
      let id = c.loop-doc_id.doc_id in
      let document = c.in_ok-document.document in
      let all = slots (store_of c.args.reader.now) in
      let same = same_slots c.args.reader.now c.loop-doc_id.reader c.loop-doc_id.invariant.same in
      let still : IsTrue c.loop-doc_id.reader.file.honest = subst IsTrue (sym c.loop-doc_id.invariant.same.honest) honest in
      let truly = c.in_ok-document.ensures.honest still in
      let here : slice_get all id ≡ Some (doc document) = subst (λ (l : List Slot). slice_get l id ≡ Some (doc document)) same truly in
      let out = g.W.Write.contents in
      let written : Appends (out c.loop-doc_id.output) (out c.write.new.output) (shown c.args.form id document) =
      subst (λ (n : ℕ). Appends (out c.loop-doc_id.output) (out c.write.new.output) (shown c.args.form n document)) c.from-number.ensures
      (subst (λ (d : List ℕ). Appends (out c.loop-doc_id.output) (out c.write.new.output) (shown c.args.form c.from-number.result d)) c.as_slice.ensures
      c.in_default.ensures) in
      subst (λ ss. PrintsSlots c.args.form ss (out c.args.output.now) (out c.write.new.output))
      (sym (slots_more c.args.ids.start id all (doc document) c.loop-doc_id.auto.doc_id here))
      (prints_more c.args.form (slots_among c.args.ids.start id all) id document _ _ _ (c.loop-doc_id.invariant.printed honest) written);
}
