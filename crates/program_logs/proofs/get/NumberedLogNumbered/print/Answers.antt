use Rattle.std.proofs.Common.{◌≡◌, ℕ, List, [], ◌∷◌, OnOk, rules, subst}
use Rattle.std.specs.Prelude.{IsTrue}
use Rattle.program_base.specs.PrintedRanges.{PrintsEach}
use Rattle.store_format.specs.Block.{Slot}
use Rattle.document_framing.proofs.FeedLemmas.{on_ok}
use Rattle.program_base.proofs.PrintedLemmas.{prints_one}
use Rattle.program_logs.specs.Given.{IsRangeShown, PrintsRange}
use Rattle.program_logs.proofs.PrintLemmas.{on_ok_of_logs}
use Rattle.segmented_log.specs.Log.{IsLog}
use Rattle.program_logs.proofs.get.NumberedLogNumbered.print.Goals as goal

pub returns : goal.returns
returns g c =
    let printed = c.print_range_of.ensures in
    let before = g.W.Write.contents c.args.output.now in
    let after = g.W.Write.contents c.print_range_of.new.output in
    let seen = g.F.Folder.seen in
    let here = c.deref_mut.result.now in
    let same : here ≡ c.args.self.now.read.value = search rules in
    record {
      printed = subst (λ read. OnOk c.print_range_of.result ((c.print_range_of.new.read.folder ≡ read.folder)
          × (IsTrue g.F.Folder.honest → (first : ℕ) (all : List Slot) → IsLog first all (seen read.folder) → PrintsEach (IsRangeShown c.args.form first all) (c.args.range ∷ []) before after))) same
          (on_ok c.print_range_of.result _ _ (λ all_logs. (printed.folder, all_logs))
          (on_ok_of_logs c.print_range_of.result (IsTrue g.F.Folder.honest) (λ first all. IsLog first all (seen here.folder))
          (λ first all. PrintsRange c.args.form first all c.args.range before after) _
          (λ first all p. prints_one (IsRangeShown c.args.form first all) c.args.range p.bytes before after p.shown p.printed) printed.printed));
    }
