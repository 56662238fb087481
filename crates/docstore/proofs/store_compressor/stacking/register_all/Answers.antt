use Rattle.std.proofs.Common.{◌≡◌, ◌+◌, List, [], ◌∷◌, ◌++◌, length, sym, ◌∙◌, ap, subst, arith, append_assoc}
use Rattle.std.specs.List.{sum_by, AllByRecursion}
use Rattle.layered_index.specs.declared.checkpoint.Checkpoint.{Checkpoint}
use Rattle.layered_index.specs.Checkpoint.{checkpoint, doc_count, byte_len, IsFilled}
use Rattle.layered_index.specs.Layers.{Index}
use Rattle.docstore.specs.Stacking.{laid_from}
use Rattle.docstore.proofs.ShiftedCheckpointLemmas.{next_laid}
use Rattle.docstore.proofs.store_compressor.stacking.register_all.Goals as goal

pub overflow_add-end_id : goal.overflow_add-end_id
overflow_add-end_id c =
    let next = next_laid _ _ _ _ _ _ _ c.loop-block.invariant.all c.in-Some.ensures.steps c.requires.in_line in
    omega (arith, next.limits.doc_end)

pub overflow_add-end : goal.overflow_add-end
overflow_add-end c =
    let next = next_laid _ _ _ _ _ _ _ c.loop-block.invariant.all c.in-Some.ensures.steps c.requires.in_line in
    omega (arith, next.limits.byte_end)

pub insert-requires-clause-in_line : goal.insert-requires-clause-in_line
insert-requires-clause-in_line c =
    let next = next_laid _ _ _ _ _ _ _ c.loop-block.invariant.all c.in-Some.ensures.steps c.requires.in_line in
    next.in_line

-- those that are left have documents and bytes
filled : (left more : List Checkpoint) (c : Checkpoint) → left ≡ c ∷ more → AllByRecursion IsFilled left → IsFilled c × AllByRecursion IsFilled more
filled left more c is h = subst (AllByRecursion IsFilled) is h

pub loop-block-preserved : goal.loop-block-preserved
loop-block-preserved c =
    let inv = c.loop-block.invariant in
    let block = c.in-Some.block in
    let id = c.loop-block.next_id in
    let at = c.loop-block.start in
    let index = c.loop-block.index.checkpoints in
    let more = c.next.new.self in
    let next = next_laid _ _ _ _ _ _ _ inv.all c.in-Some.ensures.steps c.requires.in_line in
    let one = checkpoint id (id + doc_count block) at (at + byte_len block) in
    let rest = laid_from (id + doc_count block) (at + byte_len block) more in
    let index_is = c.in_ok-insert.ensures.ok in
    let added : c.insert.new.self.checkpoints ≡ index ++ one ∷ [] = ap (λ (i : Index). i.checkpoints) index_is in
    let left : c.loop-block.block-iterator ≡ block ∷ more = c.in-Some.ensures.steps in
    record {
      all = ap (λ (xs : List Checkpoint). xs ++ rest) added ∙ append_assoc index (one ∷ []) rest ∙ ap (λ (xs : List Checkpoint). index ++ laid_from id at xs) (sym left) ∙ inv.all;
      period = ap (λ (i : Index). i.period) index_is ∙ inv.period;
      few = next.limits.doc_end;
      ids = sym next.ends ∙ ap (λ (xs : List Checkpoint). sum_by doc_count xs) (sym added);
      left = omega (arith, ap length left, inv.left);
      filled = (filled _ _ _ left inv.filled).1;
    }
