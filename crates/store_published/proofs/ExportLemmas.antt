-- What is known of a store that was exported and published.
use Rattle.std.proofs.Common.{◌≡◌, ℕ, ◌≤◌, List, length, sym, ◌∙◌, ap, arith}
use Rattle.layered_index.specs.declared.checkpoint.Checkpoint.{Checkpoint}
use Rattle.layered_index.proofs.LineLemmas.{few_filled}
use Rattle.layered_index.specs.Checkpoint.{docs_end, Covers}
use Rattle.store_format.proofs.StoreLemmas.{length-checkpoints}
use Rattle.store_reader.specs.Reading.{Reading, num_docs}
use Rattle.docstore.specs.Laws.{StackedSlotsAreCounted}
use Rattle.tantivy_export.specs.Exporting.{IsExportOf}
use Rattle.store_published.specs.declared.publishing.Written.{Written}
use Rattle.store_published.specs.Filling.{AreNumbersOf}

-- an export of a reader's store, and its numbers
abbrev pub HasExport : Reading → List ℕ → Written → Type 0
HasExport reader content written = (export : IsExportOf reader content) × AreNumbersOf content export.blocks written

-- each block has a document
pub few_blocks : (cs : List Checkpoint) (bytes : ℕ) → Covers cs bytes → length cs ≤ docs_end 0 cs
few_blocks cs bytes covers = let all = few_filled 0 0 cs covers.in_line covers.filled in omega (arith, all)

-- the numbers of the reader, which has the store still, are those of the export
pub export_numbers : (reader read : Reading) (content : List ℕ) (written : Written) (export : IsExportOf reader content) → StackedSlotsAreCounted → read.checkpoints ≡ reader.checkpoints
    → written.documents ≡ num_docs read → written.blocks ≡ length read.checkpoints → written.bytes ≡ length content → HasExport reader content written
export_numbers reader read content written export counted same documents blocks bytes = (
  export,
  record {
    documents = documents ∙ ap (docs_end 0) same ∙ sym (counted reader export.blocks export.came);
    count = blocks ∙ ap length same ∙ ap length (sym export.came.places) ∙ length-checkpoints 0 0 export.blocks;
    bytes = bytes;
  },
)
