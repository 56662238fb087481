use Rattle.std.proofs.Common.{ℕ, List, ◌++◌, sym, ap, ◌∙◌, subst}
use Rattle.std.specs.Prelude.{IsTrue}
use Rattle.std.specs.List.{AllByRecursion, flat_map}
use Rattle.docstore.specs.Laws.{taken}
use Rattle.store_format.specs.Block.{Slot}
use Rattle.store_merge.specs.Choice.{alive_slots}
use Rattle.store_merge.specs.Merge.{IsHonest}
use Rattle.store_reader.specs.Reading.{Reading}
use Rattle.store_commands.specs.Merging.{KeepsDocuments}
use Rattle.store_merge.proofs.PartLemmas.{merged_in_file}
use Rattle.store_commands.proofs.MergedLemmas.{kept_alone, items_left, reader_alone, read_alone, steady_alone, ends_alone}
use Rattle.store_commands.proofs.merging.merge_store.Goals as goal

pub returns-in-Ok-clause-reader : goal.returns-in-Ok-clause-reader
returns-in-Ok-clause-reader g c =
    let one = c.in_ok-inputs.ensures.one in
    reader_alone c.args.reader one.0 c.deref_mut.result.now c.merge_in_parts-merged.new.inputs c.reader_of-reader.result (c.deref_mut.ensures.value ∙ one.1) one.2 c.merge_in_parts-merged.ensures.kept
    (items_left one.0 c.deref_mut.result.now c.merge_in_parts-merged.new.inputs c.in_ok-inputs.inputs.items c.in_ok-inputs.inputs.len c.reader_of-reader.result (c.deref_mut.ensures.value ∙ one.1)
    c.merge_in_parts-merged.ensures.kept (sym c.deref_mut.ensures.len) c.reader_of-reader.ensures)

pub returns-in-Ok-clause-faults : goal.returns-in-Ok-clause-faults
returns-in-Ok-clause-faults g c =
    let one = c.in_ok-inputs.ensures.one in
    steady_alone c.args.words.now c.args.reader one.0 c.deref_mut.result.now c.merge_in_parts-merged.new.inputs c.reader_of-reader.result (c.deref_mut.ensures.value ∙ one.1) one.2 one.3
    c.merge_in_parts-merged.ensures.kept
    (items_left one.0 c.deref_mut.result.now c.merge_in_parts-merged.new.inputs c.in_ok-inputs.inputs.items c.in_ok-inputs.inputs.len c.reader_of-reader.result (c.deref_mut.ensures.value ∙ one.1)
    c.merge_in_parts-merged.ensures.kept (sym c.deref_mut.ensures.len) c.reader_of-reader.ensures) c.in-Ok.ensures.faults

pub returns-in-Ok-clause-read : goal.returns-in-Ok-clause-read
returns-in-Ok-clause-read g c =
    let one = c.in_ok-inputs.ensures.one in
    read_alone c.args.part_bytes c.args.words.now c.args.reader one.0 c.deref_mut.result.now c.merge_in_parts-merged.new.inputs c.reader_of-reader.result
    (c.deref_mut.ensures.value ∙ one.1) one.2 one.3
    c.merge_in_parts-merged.ensures.kept
    (items_left one.0 c.deref_mut.result.now c.merge_in_parts-merged.new.inputs c.in_ok-inputs.inputs.items c.in_ok-inputs.inputs.len c.reader_of-reader.result (c.deref_mut.ensures.value ∙ one.1)
    c.merge_in_parts-merged.ensures.kept (sym c.deref_mut.ensures.len) c.reader_of-reader.ensures) c.in-Ok.ensures.read

pub returns-in-Err-clause-ended : goal.returns-in-Err-clause-ended
returns-in-Err-clause-ended g c =
    let one = c.in_ok-inputs.ensures.one in
    ends_alone c.args.words.now c.args.reader one.0 c.deref_mut.result.now c.merge_in_parts-merged.new.inputs c.reader_of-reader.result c.args.writer.now c.merge_in_parts-merged.new.writer
    c.merge_in_parts-merged.result c.in-Err.refusal (c.deref_mut.ensures.value ∙ one.1) one.2 one.3 c.merge_in_parts-merged.ensures.kept
    (items_left one.0 c.deref_mut.result.now c.merge_in_parts-merged.new.inputs c.in_ok-inputs.inputs.items c.in_ok-inputs.inputs.len c.reader_of-reader.result (c.deref_mut.ensures.value ∙ one.1)
    c.merge_in_parts-merged.ensures.kept (sym c.deref_mut.ensures.len) c.reader_of-reader.ensures) c.in-Err.is
    c.merge_in_parts-merged.ensures.old_version c.in-Err.ensures.ended c.in-Err.ensures.works

pub returns-in-Ok-clause-grown : goal.returns-in-Ok-clause-grown
returns-in-Ok-clause-grown g c honest =
    let one = c.in_ok-inputs.ensures.one in
    let x = one.0 in
    let all = c.deref_mut.ensures.value ∙ one.1 in
    let same = one.2 in
    let good = subst IsTrue (sym (ap (λ (r : Reading). r.file.honest) same)) honest in
    let kept = subst (λ (n : ℕ). KeepsDocuments c.args.words.now n x.alive) c.inputs_of.ensures.slots one.3 in
    c.in-Ok.ensures.grown (subst (AllByRecursion IsHonest) (sym all) (good, tt))
    ∙ ap (λ (ys : List Slot). taken c.args.writer.now ++ ys) (ap (flat_map alive_slots) all ∙ kept_alone c.args.words.now c.args.reader x same kept)

pub returns-in-Ok-clause-file : goal.returns-in-Ok-clause-file
returns-in-Ok-clause-file g c =
    let m = c.in-Ok.ensures.merged in merged_in_file c.args.writer.now c.merge_in_parts-merged.new.writer m.parts m.after
