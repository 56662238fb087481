use Rattle.std.proofs.Common.{◌≡◌, ◌≤◌, ◌^◌, [], ◌∷◌, ◌++◌, length, ap, arith}
use Rattle.std.proofs.lemmas.Grind.{common_steps}
use Rattle.store_format.specs.Block.{block}
use Rattle.docstore.specs.Writer.{Writing}
use Rattle.docstore.proofs.PendingLemmas.{limit}
use Rattle.docstore.proofs.writer.StoreWriter.store_bytes.Goals as goal

pub returns-in_err-push-clause-limit : goal.returns-in_err-push-clause-limit
returns-in_err-push-clause-limit g c = λ is.
    let size : c.self.inside.block_size ≡ c.args.self.now.block_size = ap (λ (w : Writing). w.block_size) c.self.view_is in
    let large : 2 ^ 32 ≤ length (block (c.self.inside.current_block ++ c.args.document.now ∷ [])) = grind (arith, common_steps, is) in
    omega (arith, size, limit c.self.inside.current_block c.args.document.now c.self.inside.block_size c.self.invariant.light large)
