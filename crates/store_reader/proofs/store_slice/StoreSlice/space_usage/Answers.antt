use Rattle.std.proofs.Common.{◌≡◌, ◌-◌, length, ap, ◌∙◌, arith}
use Rattle.layered_index.specs.Layers.{index_part}
use Rattle.store_format.specs.StoreFile.{checkpoints_of}
use Rattle.store_reader.proofs.StoreSliceLemmas.{seen_laid}
use Rattle.store_reader.proofs.RefusedLemmas.{parts_of}
use Rattle.store_reader.proofs.store_slice.StoreSlice.space_usage.Goals as goal

pub returns-clause-store : goal.returns-clause-store
returns-clause-store c s =
    let laid_out = seen_laid _ _ _ _ _ c.self.view_is c.self.invariant in
    let size = (parts_of _ s).size in
    let start = (laid_out s).data_is in
    let rest : length c.self.inside.file.now - 28 - c.self.inside.data_len ≡ length (index_part s.period (checkpoints_of s.blocks)) = omega (arith, size, start, ap length c.self.view_is) in
    c.new.ensures ∙ (λ i. (start i, rest i))
