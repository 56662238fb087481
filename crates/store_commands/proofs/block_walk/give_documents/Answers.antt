use Rattle.std.proofs.Common.{refl, ◌∙◌}
use Rattle.std.proofs.lemmas.Result.{err_from_is_err_and}
use Rattle.store_commands.proofs.EndingLemmas.{steady_of, ends_by_read, ends_in_block}
use Rattle.store_commands.proofs.GivingLemmas.{HasGiven, AreGiven, given_first, given_more, given_all}
use Rattle.store_commands.proofs.WalkLemmas.{seeks_some, bytes_some, none_left, walked_whole, walked_within}
use Rattle.store_commands.specs.Documents.{kept_by}
use Rattle.store_commands.proofs.block_walk.give_documents.Goals.{In_ok-give_block}
use Rattle.store_commands.proofs.block_walk.give_documents.Goals as goal

pub loop-block-init : goal.loop-block-init
loop-block-init g c = record {
  given = given_first g.T.DocumentTarget.takes (kept_by c.args.left_out.now) c.args.reader.now c.args.target.now c.num_docs.ensures.covers;
  steady = refl;
  file = refl;
}

-- the documents of one block more were given
one_more : (g : _) (c : In_ok-give_block g)
    → HasGiven g.T.DocumentTarget.takes (kept_by c.args.left_out.now) c.args.reader.now c.read_block.new.self c.in-Some.block.ids.end c.args.target.now c.give_block.new.target
one_more g c =
    given_more g.T.DocumentTarget.takes (kept_by c.args.left_out.now) c.args.reader.now c.loop-block.reader c.read_block.new.self c.loop-block.next_id c.args.target.now c.loop-block.target
    c.give_block.new.target c.in-Some.block c.loop-block.invariant.given
    (seeks_some c.in_ok-block.field-0 c.in-Some.block _ c.in-Some.is c.in_ok-block.ensures.place)
    (λ honest. bytes_some c.loop-block.reader.file.content c.in_ok-block.field-0 c.in-Some.block c.in-Some.is (c.in_ok-block.ensures.bytes honest))
    c.read_block.ensures.no_read c.read_block.ensures.once c.in_ok-give_block.ensures.given

pub loop-block-preserved-in_ok-give_block : goal.loop-block-preserved-in_ok-give_block
loop-block-preserved-in_ok-give_block g c = record {
  given = one_more g (goal.at.loop-block-preserved-in_ok-give_block g c).In_ok-give_block;
  steady = c.in_ok-give_block.ensures.steady ∙ c.loop-block.invariant.steady;
  file = steady_of c.in_ok-block.field-0 c.in_ok-block.ensures.steady ∙ c.loop-block.invariant.file;
}

pub loop-block-preserved : goal.loop-block-preserved
loop-block-preserved g c = record {
  given = one_more g (goal.at.loop-block-preserved g c).In_ok-give_block;
  steady = c.in_ok-give_block.ensures.steady ∙ c.loop-block.invariant.steady;
  file = steady_of c.in_ok-block.field-0 c.in_ok-block.ensures.steady ∙ c.loop-block.invariant.file;
}

pub returns-in_err-block-clause-ended : goal.returns-in_err-block-clause-ended
returns-in_err-block-clause-ended g c =
    let given = err_from_is_err_and c.from_residual.result c.from_residual.ensures.1 in
    rw (given.1, given.2)
    (ends_by_read g.row.T-Error.Denot g.T.DocumentTarget.takes g.T.DocumentTarget.refuses
    (kept_by c.args.left_out.now) c.args.reader.now c.loop-block.reader c.read_block.new.self c.loop-block.next_id c.args.target.now
    c.loop-block.target c.read_block.result c.in_err-block.field-0.0 c.loop-block.invariant.given c.loop-block.invariant.file c.in_err-block.was
    c.read_block.ensures.causes c.read_block.ensures.failed c.read_block.ensures.steady c.read_block.ensures.none.1)

pub returns-in_err-give_block-clause-ended : goal.returns-in_err-give_block-clause-ended
returns-in_err-give_block-clause-ended g c =
    let given = err_from_is_err_and c.from_residual-in_err-give_block.result c.from_residual-in_err-give_block.ensures.1 in
    rw (given.1, given.2)
    (ends_in_block g.T.DocumentTarget.takes g.T.DocumentTarget.refuses (kept_by c.args.left_out.now) c.args.reader.now c.loop-block.reader c.read_block.new.self c.loop-block.next_id c.args.target.now
    c.loop-block.target c.give_block.new.target c.in-Some.block c.in_err-give_block.field-0.0 c.loop-block.invariant.given
    (seeks_some c.in_ok-block.field-0 c.in-Some.block _ c.in-Some.is c.in_ok-block.ensures.place)
    (λ honest. bytes_some c.loop-block.reader.file.content c.in_ok-block.field-0 c.in-Some.block c.in-Some.is (c.in_ok-block.ensures.bytes honest))
    (steady_of c.in_ok-block.field-0 c.in_ok-block.ensures.steady ∙ c.loop-block.invariant.file)
    c.in_err-give_block.ensures.ended)

pub returns-clause-given : goal.returns-clause-given
returns-clause-given g c honest =
    given_all g.T.DocumentTarget.takes (kept_by c.args.left_out.now) c.args.reader.now c.loop-block.reader c.loop-block.next_id c.args.target.now c.loop-block.target c.loop-block.invariant.given
    (c.in_ok-block.ensures.none.0 (none_left c.in_ok-block.field-0 c.in_default.is)) honest

pub returns-clause-read : goal.returns-clause-read
returns-clause-read g c =
    walked_whole (AreGiven g.T.DocumentTarget.takes
    (kept_by c.args.left_out.now) c.args.target.now c.loop-block.target) c.args.reader.now c.loop-block.reader c.read_block.new.self c.loop-block.next_id
    c.loop-block.invariant.given (c.in_ok-block.ensures.none.0 (none_left c.in_ok-block.field-0 c.in_default.is)) c.read_block.ensures.no_read

pub returns-clause-kept : goal.returns-clause-kept
returns-clause-kept g c =
    walked_within (AreGiven g.T.DocumentTarget.takes
    (kept_by c.args.left_out.now) c.args.target.now c.loop-block.target) c.args.reader.now c.loop-block.reader c.read_block.new.self c.loop-block.next_id
    c.loop-block.invariant.given c.read_block.ensures.no_read c.read_block.ensures.once

pub returns-in_err-block-clause-kept : goal.returns-in_err-block-clause-kept
returns-in_err-block-clause-kept g c =
    walked_within (AreGiven g.T.DocumentTarget.takes
    (kept_by c.args.left_out.now) c.args.target.now c.loop-block.target) c.args.reader.now c.loop-block.reader c.read_block.new.self c.loop-block.next_id
    c.loop-block.invariant.given c.read_block.ensures.no_read c.read_block.ensures.once

pub returns-in_err-give_block-clause-kept : goal.returns-in_err-give_block-clause-kept
returns-in_err-give_block-clause-kept g c =
    walked_within (AreGiven g.T.DocumentTarget.takes
    (kept_by c.args.left_out.now) c.args.target.now c.loop-block.target) c.args.reader.now c.loop-block.reader c.read_block.new.self c.loop-block.next_id
    c.loop-block.invariant.given c.read_block.ensures.no_read c.read_block.ensures.once
