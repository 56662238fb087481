-- What is known of the folder at each stage of an output.
use Rattle.std.specs.Prelude.{◌≡◌, ℕ, List, length, Option, Some, None}
use Rattle.store_folder.specs.Moments.{LeavesOnly}
use Rattle.store_folder.specs.Folder.{Keeps}
use Rattle.store_folder.specs.Publishing.{IsOldOrWhole}
use Rattle.store_folder.specs.Beside.{Standing, TouchesOnly}
use Rattle.store_folder.specs.declared.publication.Stage.{Stage}
use Rattle.store_folder.specs.declared.publication.Stage.TheVariants.{Open, Ended, Failed}

-- where an output ended: after all that was written, as nothing is written after its end
abbrev pub end_of : Stage → List ℕ → Option ℕ
end_of Ended content = Some (length content)
end_of _ content = None

-- The file beside has what was sent, and no other name was touched.
pub record IsBeside (first now : Standing) (beside sent : List ℕ) : Type 0 where
  pub file : now.seen beside ≡ Some sent
  pub trust : now.trusted beside
  pub touched : TouchesOnly beside first now

-- A crash at any moment leaves under the name what was there, or the whole content.
abbrev pub IsRun : {F : Type 0} → (F → Standing) → F → F → List ℕ → List ℕ → List ℕ → Type 0
IsRun at first now beside name content = LeavesOnly (λ f. (at f).moment) (λ f. (at f).left_since) first now (IsOldOrWhole (at first).may_leave beside name (Some content))

-- what is known of the folder, by the stage
abbrev pub IsSound : {F : Type 0} → (F → Standing) → Stage → F → F → List ℕ → List ℕ → List ℕ → List ℕ → Type 0
IsSound at Open first now beside name sent content = IsBeside (at first) (at now) beside sent
IsSound at Ended first now beside name sent content = Keeps name (Some content) (at now).may_leave × IsRun at first now beside name content
IsSound at Failed first now beside name sent content = IsRun at first now beside name content
