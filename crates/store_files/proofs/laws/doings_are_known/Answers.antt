use Rattle.store_files.proofs.KnowledgeLemmas.{noted, entries_noted}
use Rattle.store_files.proofs.MarkLemmas.{never_failed}
use Rattle.store_files.proofs.laws.doings_are_known.Goals as goal

pub loop-doing-preserved : goal.loop-doing-preserved
loop-doing-preserved c = let h = c.note.ensures in record {
  known = noted _ _ c.args.doings.now c.loop-doing.doing-index _ _ _ _ _ (never_failed c.args.mark.now.kind) c.loop-doing-test.true c.loop-doing.invariant.known c.note.ensures.files;
  entries = entries_noted _ c.args.doings.now c.loop-doing.doing-index _ _ _ c.loop-doing-test.true c.loop-doing.invariant.entries c.note.ensures.entries;
}
