-- What is known of a folder while one file of it is written.
use Rattle.std.specs.Prelude.{◌≡◌, ◌⊎◌, ◌≤◌, ℕ, List, None}
use Rattle.std.specs.IoError.{error_kind}
use Rattle.std.specs.declared.io.Error.{Error}
use Rattle.std.specs.declared.io.ErrorKind.TheVariants.{OutOfMemory}
use Rattle.store_base.specs.Counts.{HasRisen}
use Rattle.store_folder.specs.Moments.{ComesFrom}
use Rattle.store_folder.specs.Folder.{Look, Elsewhere, FilesElsewhere, EntriesStayElsewhere}
use Rattle.store_folder.specs.Publishing.{IsUntouched}

-- all that is known of a folder at one moment
pub record Standing : Type 1 where
  pub seen : Look
  pub may_hold : List ℕ → List ℕ → Type 0
  pub may_leave : Look → Type 0
  pub moment : ℕ
  pub left_since : ℕ → Look → Type 0
  pub entry_kept : List ℕ → Type 0
  pub trusted : List ℕ → Type 0
  pub handle : ℕ
  pub failures : ℕ

abbrev pub standing : {F : Type 0} → (F → Look) → (F → List ℕ → List ℕ → Type 0) → (F → Look → Type 0) → (F → ℕ) → (F → ℕ → Look → Type 0) → (F → List ℕ → Type 0) → (F → List ℕ → Type 0) → (F → ℕ)
    → (F → ℕ) → F → Standing
standing seen may_hold may_leave moment left_since entry_kept trusted handle failures f = record {
  seen = seen f;
  may_hold = may_hold f;
  may_leave = may_leave f;
  moment = moment f;
  left_since = left_since f;
  entry_kept = entry_kept f;
  trusted = trusted f;
  handle = handle f;
  failures = failures f;
}

abbrev pub no_folder : Standing
no_folder = record {
  seen = λ _. None;
  may_hold = λ _ _. Unit {0};
  may_leave = λ _. Unit {0};
  moment = 0;
  left_since = λ _ _. Unit {0};
  entry_kept = λ _. Unit {0};
  trusted = λ _. Unit {0};
  handle = 0;
  failures = 0;
}

-- No file but the one of this name was touched.
pub record TouchesOnly (name : List ℕ) (old new : Standing) : Type 0 where
  pub elsewhere : Elsewhere name old.seen new.seen
  pub files : FilesElsewhere name old.may_hold new.may_hold
  pub entries : EntriesStayElsewhere name old.entry_kept new.entry_kept
  pub trust : EntriesStayElsewhere name old.trusted new.trusted
  pub crash : ComesFrom (Elsewhere name) old.may_leave new.may_leave
  pub later : old.moment ≤ new.moment
  pub each : (c : Look) → new.left_since old.moment c → IsUntouched old.may_leave name c
  pub before : (t : ℕ) (c : Look) → t ≤ old.moment → new.left_since t c → old.left_since t c ⊎ IsUntouched old.may_leave name c

-- It is the same folder still, of which no other file was touched.
pub record Follows (honest : Type 0) (name : List ℕ) (old new : Standing) : Type 0 where
  pub same : new.handle ≡ old.handle
  pub count : old.failures ≤ new.failures
  pub touched : honest → TouchesOnly name old new

-- Why a call failed: there was no memory, or a call of the folder failed.
abbrev pub IsFault : ℕ → ℕ → Error → Type 0
IsFault old new e = (error_kind e ≡ OutOfMemory) ⊎ HasRisen old new
