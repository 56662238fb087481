-- The calls of a log's operations on its folder, as lists.
use Rattle.std.specs.Prelude.{ℕ, List, [], ◌∷◌}
use Rattle.store_folder.specs.Calls.{Doing}
use Rattle.store_folder.specs.Calls.{appends, syncs, removes, syncs_folder}
use Rattle.segmented_log.specs.Names.{segment_name, tail_name}

-- a batch is put after the tail's bytes, with one sync
abbrev pub appending : List ℕ → List Doing
appending batch = appends tail_name batch ∷ syncs tail_name ∷ []

-- a segment is removed
abbrev pub removing : ℕ → List Doing
removing first = removes (segment_name first) ∷ syncs_folder ∷ []
