-- Inputs in memory.
use Rattle.std.specs.Prelude.{ℕ, List, Option, nat_eq, find}
use Rattle.std.specs.Option.{option_map}
use Rattle.std.specs.Borrow.{Bor}
use lib.Pointwise.{pointwise}
use Rattle.document_framing.specs.Inputs.{Readable}

-- the bytes of the first file of a path
abbrev pub bytes_at : List (Bor (List ℕ) × Bor (List ℕ)) → List ℕ → Option (List ℕ)
bytes_at files path = option_map (λ file. file.1.now) (find (λ file. pointwise nat_eq file.0.now path) files)

-- what these files and the standard input hold
abbrev pub readable : List (Bor (List ℕ) × Bor (List ℕ)) → List ℕ → Readable
readable files standard = record { file_at = bytes_at files; standard = standard }
