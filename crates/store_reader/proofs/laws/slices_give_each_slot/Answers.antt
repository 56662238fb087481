use Rattle.store_reader.proofs.SliceGivenLemmas.{slices_give_each_slot}
use Rattle.store_reader.proofs.laws.slices_give_each_slot.Goals as goal

pub returns : goal.returns
returns c = slices_give_each_slot
