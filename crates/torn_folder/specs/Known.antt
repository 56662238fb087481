-- What a folder that may tear knows of its files. The calls are the last of them first.
use Rattle.std.specs.Prelude.{ℕ, Bool, true, false, ◌&&◌, List, [], ◌∷◌, if◌then◌else◌, string_bytes, nat_eq}
use lib.Pointwise.{pointwise}
use Rattle.torn_folder.specs.declared.Event.{Event}
use Rattle.torn_folder.specs.declared.Event.TheVariants.{Created, Appended, Moved, Removed, FileSynced, SyncFailed, FolderSynced}

-- whether no sync of the file that has the name has failed since it was made
abbrev pub trusted_by : List Event → List ℕ → Bool
trusted_by [] n = true
trusted_by (Created name ∷ events) n = if pointwise nat_eq (string_bytes name) n then true else trusted_by events n
trusted_by (Appended name bytes ∷ events) n = trusted_by events n
trusted_by (Moved from to ∷ events) n = if pointwise nat_eq (string_bytes to) n then trusted_by events (string_bytes from) else trusted_by events n
trusted_by (Removed name ∷ events) n = trusted_by events n
trusted_by (FileSynced name ∷ events) n = trusted_by events n
trusted_by (SyncFailed name ∷ events) n = if pointwise nat_eq (string_bytes name) n then false else trusted_by events n
trusted_by (FolderSynced ∷ events) n = trusted_by events n

-- whether the name has a file, as the last call shows that touched the name
abbrev pub is_there_by : List Event → List ℕ → Bool
is_there_by [] n = false
is_there_by (Created name ∷ events) n = if pointwise nat_eq (string_bytes name) n then true else is_there_by events n
is_there_by (Appended name bytes ∷ events) n = if pointwise nat_eq (string_bytes name) n then true else is_there_by events n
is_there_by (Moved from to ∷ events) n =
    if pointwise nat_eq (string_bytes to) n then is_there_by events (string_bytes from) else (if pointwise nat_eq (string_bytes from) n then false else is_there_by events n)
is_there_by (Removed name ∷ events) n = if pointwise nat_eq (string_bytes name) n then false else is_there_by events n
is_there_by (FileSynced name ∷ events) n = is_there_by events n
is_there_by (SyncFailed name ∷ events) n = is_there_by events n
is_there_by (FolderSynced ∷ events) n = is_there_by events n

-- whether the file that has the name was synced since it was last written, and no sync of it has failed
abbrev pub synced_by : List Event → List ℕ → Bool
synced_by [] n = false
synced_by (Created name ∷ events) n = if pointwise nat_eq (string_bytes name) n then false else synced_by events n
synced_by (Appended name bytes ∷ events) n = if pointwise nat_eq (string_bytes name) n then false else synced_by events n
synced_by (Moved from to ∷ events) n =
    if pointwise nat_eq (string_bytes to) n then is_there_by events (string_bytes from) && synced_by events (string_bytes from)
    else (if pointwise nat_eq (string_bytes from) n then false else synced_by events n)
synced_by (Removed name ∷ events) n = if pointwise nat_eq (string_bytes name) n then false else synced_by events n
synced_by (FileSynced name ∷ events) n = if pointwise nat_eq (string_bytes name) n then trusted_by events n else synced_by events n
synced_by (SyncFailed name ∷ events) n = if pointwise nat_eq (string_bytes name) n then false else synced_by events n
synced_by (FolderSynced ∷ events) n = synced_by events n

-- whether the entry of each name is on the disk: since the folder was last synced only files that are there were written
abbrev pub entries_by : List Event → Bool
entries_by [] = true
entries_by (Created name ∷ events) = false
entries_by (Appended name bytes ∷ events) = is_there_by events (string_bytes name) && entries_by events
entries_by (Moved from to ∷ events) = false
entries_by (Removed name ∷ events) = false
entries_by (FileSynced name ∷ events) = entries_by events
entries_by (SyncFailed name ∷ events) = entries_by events
entries_by (FolderSynced ∷ events) = true
