use Rattle.std.specs.Prelude.{IsTrue}
use Rattle.program_base.proofs.PrintedLemmas.{prints_one}
use Rattle.program_stores.specs.Given.{IsRangeShown, PrintsRange}
use Rattle.document_framing.proofs.FeedLemmas.{on_ok}
use Rattle.program_stores.proofs.GivenLemmas.{on_ok_under}
use Rattle.program_stores.proofs.get.NumberedStoreNumbered.print.Goals as goal

pub returns : goal.returns
returns g c = record {
  printed = rw (← c.deref_mut.ensures.value)
      (let reader = c.deref_mut.result.now in
      let out = g.W.Write.contents in
      on_ok c.print_range_of.result _ _ (λ printed. (c.print_range_of.ensures.same_store, printed))
      (on_ok_under c.print_range_of.result (IsTrue reader.file.honest) _ (λ honest.
      on_ok c.print_range_of.result (PrintsRange c.args.form reader c.args.range (out c.args.output.now) (out c.print_range_of.new.output)) _
      (λ p. prints_one (IsRangeShown c.args.form reader) c.args.range p.bytes _ _ p.shown p.printed)
      (c.print_range_of.ensures.printed honest))));
}
