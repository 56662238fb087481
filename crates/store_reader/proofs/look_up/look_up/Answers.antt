use Rattle.std.proofs.Common.{refl, ap, ◌∙◌, true}
use Rattle.std.specs.Prelude.{Ok, Err}
use Rattle.std.proofs.lemmas.Result.{err_from_is_err_and}
use Rattle.store_base.specs.declared.error.StoreError.{StoreError}
use Rattle.store_reader.specs.declared.block_request.BlockRequest.{BlockRequest}
use Rattle.store_reader.specs.declared.block_request.BlockRequest.TheVariants.{Document, Whole}
use Rattle.store_reader.specs.CachedBlocks.{with_block}
use Rattle.store_reader.specs.BlockRequests.{AnswersRequest}
use Rattle.store_reader.proofs.LookUpLemmas.{look_up_by_hit, look_up_by_miss}
use Rattle.store_reader.proofs.look_up.look_up.Goals as goal

-- where no block came, no request gets one
unanswered : (request : BlockRequest) (e : StoreError) → AnswersRequest request (Err e) (Err e)
unanswered (Document doc_id doc_pos) e = refl
unanswered Whole e = refl

pub returns-in-Some : goal.returns-in-Some
returns-in-Some g c =
    let found = look_up_by_hit c.args.checkpoint.now c.args.file.now c.args.cache.now c.look_up.new.self _ c.in-Some.ensures.answer (c.in-Some.ensures.hit refl) (c.in-Some.ensures.step refl true) in
    (Ok found.0, found.1, found.2)

pub returns-in_err-block : goal.returns-in_err-block
returns-in_err-block g c =
    let given = err_from_is_err_and c.from_residual.result c.from_residual.ensures.1 in
    rw (given.1, given.2) (
      Err c.in_err-block.field-0.0,
      look_up_by_miss c.args.checkpoint.now c.args.file.now c.read_block.new.file c.args.cache.now c.look_up.new.self
          (Err c.in_err-block.field-0.0) true c.in_default.ensures.answer c.in_err-block.ensures (c.in_default.ensures.miss refl),
      unanswered c.args.request c.in_err-block.field-0.0,
    )

pub returns : goal.returns
returns g c =
    let block = c.in_ok-block.block in (
      Ok block,
      look_up_by_miss c.args.checkpoint.now c.args.file.now c.read_block.new.file c.args.cache.now c.put.new.self (Ok block) c.put.ensures.0 c.in_default.ensures.answer c.in_ok-block.ensures
          (c.put.ensures.1 ∙ ap (with_block c.args.checkpoint.now.byte_range.start block c.put.ensures.0) (c.in_default.ensures.miss refl)),
      c.answer_request-answer.ensures,
    )
