use Rattle.std.proofs.Common.{◌≡◌, ℕ, List, length, sym, ◌∙◌, ap, subst, arith}
use Rattle.std.specs.List.{sum_by}
use Rattle.layered_index.specs.declared.checkpoint.Checkpoint.{Checkpoint}
use Rattle.layered_index.specs.Checkpoint.{Covers, doc_count}
use Rattle.store_format.specs.StoreFile.{StoreBlock, checkpoints_of, blocks_at}
use Rattle.store_reader.specs.Reading.{Reading}
use Rattle.docstore.specs.Stacking.{AreRead}
use Rattle.store_reader.proofs.ReaderStoreLemmas.{store_seen}
use Rattle.docstore.proofs.ReadInPartsLemmas.{all_of_range, docs_covered}
use Rattle.docstore.proofs.store_compressor.BlockCompressor.stack_reader.Goals as goal

pub write_blocks-requires-clause-few_docs : goal.write_blocks-requires-clause-few_docs
write_blocks-requires-clause-few_docs g c =
    let all : c.checkpoints_in.result ≡ c.args.reader.now.checkpoints =
    c.checkpoints_in.ensures ∙ all_of_range _ _ c.num_blocks.ensures ∙ ap (λ (r : Reading). r.checkpoints) c.in_ok-data.ensures.once.others in
    omega (arith, c.requires.few_docs, ap (λ (cs : List Checkpoint). sum_by doc_count cs) all, docs_covered _ _ c.in_ok-data.ensures.covers)

pub returns-clause-stacked : goal.returns-clause-stacked
returns-clause-stacked g c =
    let cs = c.args.reader.now.checkpoints in
    let bytes = c.as_slice.result.now in
    let bytes_are : bytes ≡ c.in_ok-data.data = c.as_slice.ensures in
    let covers : Covers cs (length bytes) = subst (λ (x : List ℕ). Covers cs (length x)) (sym bytes_are) c.in_ok-data.ensures.covers in
    let all : c.checkpoints_in.result ≡ cs = c.checkpoints_in.ensures ∙ all_of_range _ _ c.num_blocks.ensures ∙ ap (λ (r : Reading). r.checkpoints) c.in_ok-data.ensures.once.others in
    let seen = store_seen bytes cs covers in
    let cut : blocks_at c.checkpoints_in.result bytes ≡ blocks_at cs bytes = ap (λ (xs : List Checkpoint). blocks_at xs bytes) all in
    let read : AreRead c.args.reader.now (blocks_at c.checkpoints_in.result bytes) = record {
      places = ap (λ (bs : List StoreBlock). checkpoints_of bs) cut ∙ seen.checkpoints_are;
      honest = λ honest. cut ∙ ap (blocks_at cs) (bytes_are ∙ c.in_ok-data.ensures.bytes honest);
    } in
    (blocks_at c.checkpoints_in.result bytes, read, c.in_ok-write_blocks.ensures.written)
