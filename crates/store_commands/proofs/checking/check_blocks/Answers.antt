use Rattle.std.proofs.Common.{ℕ, ◌-◌, refl, ◌∙◌, subst}
use Rattle.std.proofs.lemmas.Result.{err_from_is_err_and}
use Rattle.store_commands.specs.Checks.{Judges}
use Rattle.store_commands.proofs.CheckLemmas.{HasTold, watched_first, watched_more, watched_all, watched_some, checked_all}
use Rattle.store_commands.proofs.EndingLemmas.{steady_of}
use Rattle.store_commands.proofs.WalkLemmas.{seeks_some, bytes_some, none_left, walked_whole, walked_within}
use Rattle.store_commands.proofs.checking.check_blocks.Goals.{After-add}
use Rattle.store_commands.proofs.checking.check_blocks.Goals as goal

pub loop-block-init : goal.loop-block-init
loop-block-init g c = record {
  checked = watched_first g.P.BlockWatch.adds c.args.reader.now c.of_documents-verdict.result c.args.watch.now c.num_docs.ensures.covers
      (c.of_documents-verdict.ensures.documents ∙ c.num_docs.ensures.count) c.of_documents-verdict.ensures.nothing;
  steady = refl;
}

-- one block more was judged and watched
told_more : (g : _) (c : After-add g) → HasTold g.P.BlockWatch.adds c.args.reader.now c.read_block.new.self c.in-Some.block.ids.end c.take.new.self c.args.watch.now c.add.new.self
told_more g c =
    let part = c.in-Some.block in
    watched_more g.P.BlockWatch.adds c.args.reader.now c.loop-block.reader c.read_block.new.self c.loop-block.next_id c.loop-block.verdict c.take.new.self part
    c.args.watch.now c.loop-block.watch c.add.new.self c.loop-block.invariant.checked
    (seeks_some c.in_ok-block.field-0 part _ c.in-Some.is c.in_ok-block.ensures.place)
    (λ honest. bytes_some c.loop-block.reader.file.content c.in_ok-block.field-0 part c.in-Some.is (c.in_ok-block.ensures.bytes honest))
    c.read_block.ensures.no_read c.read_block.ensures.once c.take.ensures.documents
    (record {
      blocks = c.take.ensures.blocks;
      damaged_documents = c.take.ensures.damaged;
      broken = c.take.ensures.broken;
      kept = c.take.ensures.kept;
      sound = c.take.ensures.sound;
      found = c.take.ensures.found;
    })
    (subst (λ (n : ℕ). g.P.BlockWatch.adds c.loop-block.watch (part.ids.end - part.ids.start) n c.add.new.self) c.len.ensures c.add.ensures)

pub loop-block-preserved-in-Some : goal.loop-block-preserved-in-Some
loop-block-preserved-in-Some g c = record {
  checked = told_more g (goal.at.loop-block-preserved-in-Some g c).After-add;
  steady = steady_of c.in_ok-block.field-0 c.in_ok-block.ensures.steady ∙ c.loop-block.invariant.steady;
}

pub loop-block-preserved : goal.loop-block-preserved
loop-block-preserved g c = record {
  checked = told_more g (goal.at.loop-block-preserved g c).After-add;
  steady = steady_of c.in_ok-block.field-0 c.in_ok-block.ensures.steady ∙ c.loop-block.invariant.steady;
}

pub returns-clause-judged : goal.returns-clause-judged
returns-clause-judged g c honest =
    checked_all c.args.reader.now c.loop-block.reader c.loop-block.next_id c.loop-block.verdict c.loop-block.invariant.checked.checked
    (c.in_ok-block.ensures.none.0 (none_left c.in_ok-block.field-0 c.in_default.is)) honest

pub returns-clause-watched : goal.returns-clause-watched
returns-clause-watched g c =
    watched_all g.P.BlockWatch.adds c.args.reader.now c.loop-block.reader c.loop-block.next_id c.loop-block.verdict c.args.watch.now c.loop-block.watch c.loop-block.invariant.checked
    (c.in_ok-block.ensures.none.0 (none_left c.in_ok-block.field-0 c.in_default.is))

pub returns-in_err-block-clause-watched_first : goal.returns-in_err-block-clause-watched_first
returns-in_err-block-clause-watched_first g c =
    let given = err_from_is_err_and c.from_residual.result c.from_residual.ensures.1 in
    rw given.1 (watched_some g.P.BlockWatch.adds c.args.reader.now c.loop-block.reader c.loop-block.next_id c.loop-block.verdict c.args.watch.now c.loop-block.watch c.loop-block.invariant.checked)

pub returns-clause-read : goal.returns-clause-read
returns-clause-read g c =
    walked_whole (λ front. Judges front c.loop-block.verdict) c.args.reader.now c.loop-block.reader c.read_block.new.self c.loop-block.next_id c.loop-block.invariant.checked.checked.walked
    (c.in_ok-block.ensures.none.0 (none_left c.in_ok-block.field-0 c.in_default.is)) c.read_block.ensures.no_read

pub returns-clause-kept : goal.returns-clause-kept
returns-clause-kept g c =
    walked_within (λ front. Judges front c.loop-block.verdict) c.args.reader.now c.loop-block.reader c.read_block.new.self c.loop-block.next_id c.loop-block.invariant.checked.checked.walked
    c.read_block.ensures.no_read c.read_block.ensures.once

pub returns-in_err-block-clause-kept : goal.returns-in_err-block-clause-kept
returns-in_err-block-clause-kept g c =
    walked_within (λ front. Judges front c.loop-block.verdict) c.args.reader.now c.loop-block.reader c.read_block.new.self c.loop-block.next_id c.loop-block.invariant.checked.checked.walked
    c.read_block.ensures.no_read c.read_block.ensures.once
