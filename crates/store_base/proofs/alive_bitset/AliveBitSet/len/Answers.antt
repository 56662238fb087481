use Rattle.std.proofs.Common.{length, sym, ◌∙◌, ap}
use Rattle.store_base.proofs.BitsetLemmas.{length-flags}
use Rattle.store_base.proofs.alive_bitset.AliveBitSet.len.Goals as goal

pub returns : goal.returns
returns c = sym (length-flags c.self.inside.max_doc 0 c.self.inside.words.items) ∙ ap length c.self.view_is
