use Rattle.std.proofs.Common.{◌∙◌, ap}
use Rattle.store_format.specs.Slots.{slots}
use Rattle.store_reader.specs.Reading.{store_of}
use Rattle.segmented_log.specs.Parts.{part_of, Part}
use Rattle.segmented_log.proofs.StoreLemmas.{same_segment}
use Rattle.segmented_log.proofs.JoinLemmas.{alive_all}
use Rattle.segmented_log.proofs.joining.open_input.Goals as goal

pub returns-in-Ok-clause-slots : goal.returns-in-Ok-clause-slots
returns-in-Ok-clause-slots g c = λ h all has.
    let seen = g.F.Folder.seen c.args.folder.now in
    let s = c.in-Ok.segment in
    alive_all (slots (store_of s.reader))
    ∙ ap (λ (p : Part). p.slots) (same_segment c.stores_are_apart.ensures seen (part_of s.first s.reader) (record { first = c.args.first; slots = all }) c.in-Ok.ensures.first
    (c.in-Ok.ensures.found h) has)
