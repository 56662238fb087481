use Rattle.std.proofs.Common.{List, ℕ, ◌++◌, ◌∙◌, ap}
use Rattle.store_format.specs.StoreFile.{file}
use Rattle.store_reader.specs.Reading.{Reading}
use Rattle.tantivy_export.specs.Exporting.{IsExportOf}
use Rattle.store_published.proofs.ExportLemmas.{export_numbers}
use Rattle.store_published.proofs.exporting.export_beside.Goals as goal

pub returns-in-Ok-finish-clause-exported : goal.returns-in-Ok-finish-clause-exported
returns-in-Ok-finish-clause-exported g c =
    let e = c.in-Ok-export_store.ensures.exported in
    let content = c.export_store.new.output.content in
    let export : IsExportOf c.args.reader.now content = record { blocks = e.0; came = e.1; is_file = e.3 ∙ ap (λ (xs : List ℕ). xs ++ file 8 2 e.0) c.in-Ok.ensures.content; store = e.2 } in
    let same = ap (λ (r : Reading). r.checkpoints) c.in-Ok-export_store.ensures.read.others in (
      content,
      export_numbers c.args.reader.now c.export_store.new.reader content c.numbers_of-written.result export c.stacked_slots_are_counted.ensures same
          c.numbers_of-written.ensures.documents c.numbers_of-written.ensures.blocks (c.numbers_of-written.ensures.bytes ∙ c.num_bytes.ensures),
      c.in-Ok-finish.ensures.file,
    )
