use Rattle.std.proofs.Common.{◌≡◌, ℕ, ◌+◌, ◌<◌, List, ◌++◌, length, Option, None, refl, sym, ◌∙◌, ap, subst, arith}
use Rattle.std.proofs.lemmas.Grind.{common_steps}
use Rattle.std.specs.List.{sum_by}
use Rattle.store_base.specs.Counts.{raised}
use Rattle.store_base.specs.declared.error.Cause.{Cause}
use Rattle.layered_index.specs.declared.checkpoint.Checkpoint.{Checkpoint}
use Rattle.layered_index.specs.Checkpoint.{doc_count}
use Rattle.layered_index.specs.Layers.{Index}
use Rattle.store_format.specs.StoreFile.{docs_in, checkpoints_from, blocks_at}
use Rattle.docstore.specs.BlockOutput.{BlockOutput, IsCompressing, compressing}
use Rattle.docstore.specs.Stacking.{laid_from}
use Rattle.docstore.proofs.OutputLemmas.{sound, failed, seen_added}
use Rattle.docstore.proofs.ShiftedCheckpointLemmas.{are_cut}
use Rattle.docstore.proofs.store_compressor.BlockCompressor.write_blocks.Goals.{Else-is_err-2}
use Rattle.docstore.proofs.store_compressor.BlockCompressor.write_blocks.Goals as goal

pub returns-then-is_err-clause-sound : goal.returns-then-is_err-clause-sound
returns-then-is_err-clause-sound g c = sound _ _ _ _ _ _ _ _ _ (failed _ _ _ _ _ _ _ _ _ c.self.invariant)

pub register_all-registered-requires-clause-in_line : goal.register_all-registered-requires-clause-in_line
register_all-registered-requires-clause-in_line g c =
    let a = are_cut _ _ _ _ _ _ _ _ _ _ c.args.checkpoints c.args.bytes.now c.self.view_is c.self.invariant c.requires.works c.requires.cut c.requires.few_docs in
    rw (c.written_bytes-start.ensures, a.places) a.added.runs

pub returns-then-is_err-2-clause-err : goal.returns-then-is_err-2-clause-err
returns-then-is_err-2-clause-err g c =
    let content_is : g.W.TerminatingWrite.content c.write_all.new.self.output ≡ g.W.TerminatingWrite.content c.self.inside.writer.output ++ c.args.bytes.now = grind (arith, common_steps) in
    let some : 0 < length c.args.checkpoints = grind (arith, common_steps) in
    let a = are_cut _ _ _ _ _ _ _ _ _ _ c.args.checkpoints c.args.bytes.now c.self.view_is c.self.invariant c.requires.works c.requires.cut c.requires.few_docs in
    record {
      worked = c.requires.works;
      failure = refl;
      why = record {
        more = c.args.bytes.now;
        some = a.some some;
        parts = content_is ∙ ap (λ (out : BlockOutput). out.content ++ c.args.bytes.now) c.self.view_is;
      };
    }

pub invariant_of-self-then-is_err-2 : goal.invariant_of-self-then-is_err-2
invariant_of-self-then-is_err-2 g c = record {
  least = omega (arith, c.register_all-registered.ensures.period, c.self.invariant.least);
  most = omega (arith, c.register_all-registered.ensures.period, c.self.invariant.most);
  ids = c.register_all-registered.ensures.ids;
  few_ids = c.register_all-registered.ensures.few;
  works = λ none. absurd cc;
}

pub returns-then-is_err-2-clause-sound : goal.returns-then-is_err-2-clause-sound
returns-then-is_err-2-clause-sound g c = sound _ _ _ _ _ _ _ _ _ (invariant_of-self-then-is_err-2 g c)

-- the bytes that there are now, how many they are, and the checkpoints of all blocks
content_is : (g : _) (c : Else-is_err-2 g) → g.W.TerminatingWrite.content c.write_all.new.self.output ≡ g.W.TerminatingWrite.content c.self.inside.writer.output ++ c.args.bytes.now
content_is g c = grind (arith, common_steps)

written_is : (g : _) (c : Else-is_err-2 g) → c.write_all.new.self.written ≡ c.self.inside.writer.written + length c.args.bytes.now
written_is g c =
    let a = are_cut _ _ _ _ _ _ _ _ _ _ c.args.checkpoints c.args.bytes.now c.self.view_is c.self.invariant c.requires.works c.requires.cut c.requires.few_docs in
    let raised_is : c.write_all.new.self.written ≡ raised c.self.inside.writer.written (length c.args.bytes.now) = grind (arith, common_steps) in
    let sum_is : raised c.self.inside.writer.written (length c.args.bytes.now) ≡ c.self.inside.writer.written + length c.args.bytes.now = omega (arith, a.added.fits) in
    raised_is ∙ sum_is

cs_is : (g : _) (c : Else-is_err-2 g) → c.register_all-registered.new.index.checkpoints
    ≡ c.self.inside.index.checkpoints ++ checkpoints_from c.self.inside.first_doc_in_block c.self.inside.writer.written (blocks_at c.args.checkpoints c.args.bytes.now)
cs_is g c =
    let first = c.self.inside.first_doc_in_block in
    let cs = c.self.inside.index.checkpoints in
    let index_is : c.register_all-registered.new.index
    ≡ record { period = c.self.inside.index.period; checkpoints = cs ++ laid_from first c.written_bytes-start.result c.args.checkpoints } = grind (arith, common_steps) in
    ap (λ (index : Index). index.checkpoints) index_is ∙ ap (λ (n : ℕ). cs ++ laid_from first n c.args.checkpoints) c.written_bytes-start.ensures
    ∙ ap (λ (xs : List Checkpoint). cs ++ xs)
    (are_cut _ _ _ _ _ _ _ _ _ _ c.args.checkpoints c.args.bytes.now c.self.view_is c.self.invariant c.requires.works c.requires.cut c.requires.few_docs).places

pub invariant_of-self-else-is_err-2 : goal.invariant_of-self-else-is_err-2
invariant_of-self-else-is_err-2 g c =
    let written = c.self.inside.writer.written in
    let first = c.self.inside.first_doc_in_block in
    let period = c.self.inside.index.period in
    let bytes = c.args.bytes.now in
    let bs = blocks_at c.args.checkpoints bytes in
    let all = c.self.inside.index.checkpoints ++ checkpoints_from first written bs in
    let here = (goal.at.invariant_of-self-else-is_err-2 g c).Else-is_err-2 in
    let a = are_cut _ _ _ _ _ _ _ _ _ _ c.args.checkpoints c.args.bytes.now c.self.view_is c.self.invariant c.requires.works c.requires.cut c.requires.few_docs in
    let next : c.register_all-registered.new.next_id ≡ first + docs_in bs = c.register_all-registered.ensures.ids ∙ ap (λ (xs : List Checkpoint). sum_by doc_count xs) (cs_is g here)
    ∙ sym a.added.compressing.ids in
    let none : None ≡ c.self.inside.failure = sym (ap (λ (out : BlockOutput). out.failure) c.self.view_is ∙ c.requires.works) in
    rw (c.register_all-registered.ensures.period, next, cs_is g here, content_is g here, written_is g here) (subst (λ (f : Option Cause). IsCompressing period (first + docs_in bs) all
    (g.W.TerminatingWrite.content c.self.inside.writer.output ++ bytes) (written + length bytes) f) none a.added.compressing)

pub returns-clause-written : goal.returns-clause-written
returns-clause-written g c =
    let bytes = c.args.bytes.now in
    let bs = blocks_at c.args.checkpoints bytes in
    let here = (goal.at.returns-clause-written g c).Else-is_err-2 in
    let a = are_cut _ _ _ _ _ _ _ _ _ _ c.args.checkpoints c.args.bytes.now c.self.view_is c.self.invariant c.requires.works c.requires.cut c.requires.few_docs in
    let risen = g.W.TerminatingWrite.failures c.write_all.new.self.output in
    (λ i. compressing c.self.inside.compressor (c.register_all-registered.ensures.period i) (cs_is g here i) (content_is g here i) (written_is g here i)
    (c.write_all.ensures.termination i) risen c.self.inside.failure)
    ∙ seen_added _ _ _ _ _ _ _ _ risen _ _ bs bytes (docs_in bs) c.self.view_is a.added a.joined

pub returns-clause-sound : goal.returns-clause-sound
returns-clause-sound g c = sound _ _ _ _ _ _ _ _ _ (invariant_of-self-else-is_err-2 g c)
