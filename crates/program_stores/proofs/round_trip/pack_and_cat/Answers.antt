use Rattle.std.proofs.Common.{string_bytes}
use Rattle.store_files.specs.Disk.{replay}
use Rattle.program_stores.proofs.GivenLemmas.{if_ok_given, on_ok_given}
use Rattle.program_stores.proofs.RoundTripLemmas.{printed_published}
use Rattle.program_stores.proofs.round_trip.pack_and_cat.Goals as goal

pub returns : goal.returns
returns g c honest =
    let place = c.in_ok-place.place.value in
    let disk = replay (g.S.SystemFiles.changes place.folder.system place.folder.path) (g.S.SystemFiles.start place.folder.path) in
    let is_path = if_ok_given c.path_at.result c.in_ok-path.path _ c.in_ok-path.ensures c.path_at.ensures.path in
    let printed = on_ok_given c.print-given.result c.in_ok-_damaged._damaged _ c.in_ok-_damaged.ensures
    (c.print-given.ensures honest place.folder.path (string_bytes place.name)
    (rw (c.as_str-2.ensures.value, ← c.into_inner-folder.ensures) (rw c.as_str.ensures.value at is_path))) in
    let same = rw c.into_inner-folder.ensures at c.system.ensures in
    printed_published c.args.options.framing c.args.options.expected _ c.args.shape.period _ _ disk (string_bytes place.name)
    (c.in_ok-place.ensures.packed honest) c.stores_are_apart.ensures (rw (← same) printed)
