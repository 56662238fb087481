use Rattle.program_stores.specs.Given.{PrintsOf}
use Rattle.document_framing.proofs.FeedLemmas.{on_ok}
use Rattle.program_stores.proofs.get.print_named.Goals as goal

pub returns : goal.returns
returns g c honest d n at =
    let reader = c.in_ok-reader.reader.value in
    let ranges = c.in_ok-ranges.ranges.items in
    let out = g.W.Write.contents in
    on_ok c.print_ranges.result (PrintsOf c.args.form ranges reader c.print_ranges.new.numbered.reader.value (out c.args.output.now) (out c.print_ranges.new.output)) _
    (λ printed. (
      reader,
      c.in_ok-reader.ensures.store honest d n at,
      record {
        ranges = ranges;
        named = c.in_ok-ranges.ensures.named;
        printed = printed.1 (c.in_ok-reader.ensures.honest honest);
      },
    ))
    (rw (← c.deref.ensures.value) c.print_ranges.ensures)
