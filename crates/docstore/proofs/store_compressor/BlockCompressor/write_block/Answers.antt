use Rattle.std.proofs.Common.{◌≡◌, ℕ, ◌+◌, List, [], ◌∷◌, ◌++◌, length, Option, None, sym, ◌∙◌, ap, subst, arith}
use Rattle.std.proofs.lemmas.Grind.{common_steps}
use Rattle.std.proofs.lemmas.List.{append-nil}
use Rattle.store_base.specs.Counts.{raised}
use Rattle.store_base.specs.declared.error.Cause.{Cause}
use Rattle.layered_index.specs.Checkpoint.{checkpoint}
use Rattle.layered_index.specs.Layers.{Index}
use Rattle.store_format.specs.StoreFile.{StoreBlock, checkpoints_from}
use Rattle.docstore.specs.BlockOutput.{BlockOutput, IsCompressing, compressing}
use Rattle.docstore.proofs.OutputLemmas.{sound, failed, block_added, seen_added}
use Rattle.docstore.proofs.store_compressor.BlockCompressor.write_block.Given.{Over}
use Rattle.docstore.proofs.store_compressor.BlockCompressor.write_block.Goals as goal

abbrev block_of : ℕ → List ℕ → List StoreBlock
block_of count bytes = record { count = count; bytes = bytes } ∷ []

pub returns-then-is_err-clause-sound : goal.returns-then-is_err-clause-sound
returns-then-is_err-clause-sound g c = sound _ _ _ _ _ _ _ _ _ (failed _ _ _ _ _ _ _ _ _ c.self.invariant)

pub overflow_add-checkpoint : goal.overflow_add-checkpoint
overflow_add-checkpoint g c =
    let a = block_added _ _ _ _ _ _ _ _ _ _ _ _ c.self.view_is c.self.invariant c.requires.works c.requires.some_bytes c.requires.few_bytes c.requires.some_docs c.requires.few_docs in
    omega (arith, a.ids)

pub overflow_add-checkpoint-2 : goal.overflow_add-checkpoint-2
overflow_add-checkpoint-2 g c =
    let a = block_added _ _ _ _ _ _ _ _ _ _ _ _ c.self.view_is c.self.invariant c.requires.works c.requires.some_bytes c.requires.few_bytes c.requires.some_docs c.requires.few_docs in
    omega (arith, a.fits, c.written_bytes-start.ensures)

pub insert-requires-clause-in_line : goal.insert-requires-clause-in_line
insert-requires-clause-in_line g c =
    let a = block_added _ _ _ _ _ _ _ _ _ _ _ _ c.self.view_is c.self.invariant c.requires.works c.requires.some_bytes c.requires.few_bytes c.requires.some_docs c.requires.few_docs in
    rw c.written_bytes-start.ensures a.in_line

pub returns-then-is_err-2-clause-sound : goal.returns-then-is_err-2-clause-sound
returns-then-is_err-2-clause-sound g c =
    let kept : c.insert.new.self ≡ c.self.inside.index = grind (arith, common_steps) in
    rw kept (sound _ _ _ _ _ _ _ _ _ (failed _ _ _ _ _ _ _ _ _ c.self.invariant))

pub overflow_add-self : goal.overflow_add-self
overflow_add-self g c =
    let a = block_added _ _ _ _ _ _ _ _ _ _ _ _ c.self.view_is c.self.invariant c.requires.works c.requires.some_bytes c.requires.few_bytes c.requires.some_docs c.requires.few_docs in
    omega (arith, a.ids)

-- the index and the output after the call
made : (g : Over) (c : goal.After-self-2-1 g)
    → (c.insert.new.self.checkpoints ≡ c.self.inside.index.checkpoints ++ checkpoints_from c.self.inside.first_doc_in_block c.self.inside.writer.written
    (block_of c.args.num_docs_in_block c.args.bytes.now))
    × (c.insert.new.self.period ≡ c.self.inside.index.period)
    × (g.W.TerminatingWrite.content c.write_all.new.self.output ≡ g.W.TerminatingWrite.content c.self.inside.writer.output ++ c.args.bytes.now)
    × (c.write_all.new.self.written ≡ c.self.inside.writer.written + length c.args.bytes.now)
made g c =
    let content = g.W.TerminatingWrite.content c.self.inside.writer.output in
    let written = c.self.inside.writer.written in
    let first = c.self.inside.first_doc_in_block in
    let cs = c.self.inside.index.checkpoints in
    let bytes = c.args.bytes.now in
    let count = c.args.num_docs_in_block in
    let content_is : g.W.TerminatingWrite.content c.write_all.new.self.output ≡ content ++ bytes = grind (arith, common_steps) in
    let raised_is : c.write_all.new.self.written ≡ raised written (length bytes) = grind (arith, common_steps) in
    let index_is : c.insert.new.self ≡ record {
      period = c.self.inside.index.period;
      checkpoints = cs ++ checkpoint first (first + count) c.written_bytes-start.result (c.written_bytes-start.result + length bytes)
          ∷ [];
    } = grind (arith, common_steps) in
    let a = block_added _ _ _ _ _ _ _ _ _ _ _ _ c.self.view_is c.self.invariant c.requires.works c.requires.some_bytes c.requires.few_bytes c.requires.some_docs c.requires.few_docs in
    let sum_is : raised written (length bytes) ≡ written + length bytes = omega (arith, a.fits) in (
      ap (λ (index : Index). index.checkpoints) index_is ∙ ap (λ (n : ℕ). cs ++ checkpoint first (first + count) n (n + length bytes) ∷ []) c.written_bytes-start.ensures,
      ap (λ (index : Index). index.period) index_is,
      content_is,
      raised_is ∙ sum_is,
    )

is_compressing : (g : Over) (c : goal.After-self-2-1 g) → IsCompressing c.insert.new.self.period (c.self.inside.first_doc_in_block + c.args.num_docs_in_block) c.insert.new.self.checkpoints
    (g.W.TerminatingWrite.content c.write_all.new.self.output) c.write_all.new.self.written c.self.inside.failure
is_compressing g c =
    let content = g.W.TerminatingWrite.content c.self.inside.writer.output in
    let written = c.self.inside.writer.written in
    let first = c.self.inside.first_doc_in_block in
    let bytes = c.args.bytes.now in
    let count = c.args.num_docs_in_block in
    let cs = c.self.inside.index.checkpoints ++ checkpoints_from first written (block_of count bytes) in
    let a = block_added _ _ _ _ _ _ _ _ _ _ _ _ c.self.view_is c.self.invariant c.requires.works c.requires.some_bytes c.requires.few_bytes c.requires.some_docs c.requires.few_docs in
    let none : None ≡ c.self.inside.failure = sym (ap (λ (out : BlockOutput). out.failure) c.self.view_is ∙ c.requires.works) in
    let m = made g c in
    rw (m.1, m.0, m.2, m.3) (subst (λ (f : Option Cause). IsCompressing c.self.inside.index.period (first + count) cs (content ++ bytes) (written + length bytes) f) none a.compressing)

pub invariant_of-self-2 : goal.invariant_of-self-2
invariant_of-self-2 g c = is_compressing g c

pub returns-clause-written : goal.returns-clause-written
returns-clause-written g c =
    let bytes = c.args.bytes.now in
    let a = block_added _ _ _ _ _ _ _ _ _ _ _ _ c.self.view_is c.self.invariant c.requires.works c.requires.some_bytes c.requires.few_bytes c.requires.some_docs c.requires.few_docs in
    let m = made g c in
    let risen = g.W.TerminatingWrite.failures c.write_all.new.self.output in
    (λ i. compressing c.self.inside.compressor (m.1 i) (m.0 i) (m.2 i) (m.3 i) (c.write_all.ensures.termination i) risen c.self.inside.failure)
    ∙ seen_added _ _ _ _ _ _ _ _ risen _ _ (block_of c.args.num_docs_in_block bytes) bytes c.args.num_docs_in_block c.self.view_is a (sym (append-nil bytes))

pub returns-clause-sound : goal.returns-clause-sound
returns-clause-sound g c = sound _ _ _ _ _ _ _ _ _ (is_compressing g c)
