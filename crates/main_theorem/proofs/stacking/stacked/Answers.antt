use Rattle.std.proofs.Common.{refl, ◌∙◌, arith}
use Rattle.main_theorem.proofs.StackingLemmas.{first_docs, mid_docs, has_two, file_of_two, store_of_two}
use Rattle.main_theorem.proofs.stacking.stacked.Goals as goal

pub returns-in-Ok : goal.returns-in-Ok
returns-in-Ok c = record {
  joined = λ bs cs b d few.
      let is = c.with_period-writer.ensures.writer in
      let first = c.with_period-writer.result in
      let mid = c.stack_file.new.writer in
      let last = c.stack_file-2.new.writer in
      let none = first_docs first c.args.block_size _ is refl in
      let one = c.in_ok-stack_file.ensures.stacked bs b (omega (arith, none, few)) in
      let count = mid_docs first mid c.args.block_size _ bs is refl one in
      let two = c.in_ok-stack_file-2.ensures.stacked cs d (omega (arith, count, few)) in
      let has = has_two first mid last c.args.block_size c.args.period _ bs cs is refl c.new.ensures.content refl one two in
      let file_is = file_of_two last c.args.period bs cs _ has c.in-Ok.ensures.file in
      let written = c.into_bytes.ensures ∙ file_is in
      (written, store_of_two last c.args.period bs cs _ has written c.in-Ok.ensures.store);
}
