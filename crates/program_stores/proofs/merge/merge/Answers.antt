use Rattle.std.proofs.Common.{ℕ, List, refl, subst}
use Rattle.store_files.specs.Disk.{replay, seen}
use Rattle.store_files.specs.Paths.{IsPath}
use Rattle.program_base.specs.StoresOnDisk.{HasStore, IsReaderOf}
use Rattle.program_stores.specs.Merged.{words_for, IsReaderIn, AreMerged}
use Rattle.store_published.proofs.Results.{on_ok_is}
use Rattle.program_stores.proofs.MergedLemmas.{merged_at, published_as}
use Rattle.program_stores.proofs.merge.merge.Goals as goal

pub returns : goal.returns
returns g c = record {
  merged = λ honest.
      let without = c.args.merging.without.now in
      let inputs = c.in_ok-inputs.field-0.items in
      let disk = λ (d : List ℕ). replay (g.S.SystemFiles.changes c.args.system d) (g.S.SystemFiles.start d) in
      let published = on_ok_is c.publish-outcome.result _ c.in_ok-end_output.ensures (c.publish-outcome.ensures.published honest) in
      published_as _ _ _ _ (λ _. Unit {0}) c.args.shape.period
      (λ all brings.
      subst (λ paths. AreMerged (λ path reader. (d n : List ℕ) → IsPath d n path → IsReaderOf c.args.merging.is_tantivy (seen (disk d) n) reader) (words_for without) paths all)
      c.in_ok-inputs.ensures.paths
      (merged_at (λ input. IsReaderIn input.file.content) (λ input. words_for without input.path.now) (λ input. input.path.now)
      (λ path reader. (d n : List ℕ) → IsPath d n path → IsReaderOf c.args.merging.is_tantivy (seen (disk d) n) reader) (words_for without)
      (λ input. (d n : List ℕ) → IsPath d n input.path.now → HasStore c.args.merging.is_tantivy (seen (disk d) n) input.file.content)
      (λ input. refl) (λ input reader here is d n at. (input.file.content, here d n at, is)) inputs all
      (c.in_ok-inputs.ensures.stores honest) (brings (c.in_ok-inputs.ensures.honest honest))))
      published;
}
