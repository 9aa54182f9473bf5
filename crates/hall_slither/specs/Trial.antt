-- What trials of the values of a side tell.
use Rattle.std.specs.Prelude.{◌≡◌, ℕ, ◌<◌, List, Option, Some, None, All, Contains, slice_index_or}
use Rattle.hall_solve.specs.declared.deduce.Pass.{Pass}
use Rattle.hall_solve.specs.declared.deduce.Pass.TheVariants.{Settled, Advanced, Dead as DeadPass}
use Rattle.hall_solve.specs.declared.rules.Step.{Step}
use Rattle.hall_solve.specs.declared.rules.Step.TheVariants.{Live, Dead}
use Rattle.hall_solve.specs.Question.{Question, Narrows, IsHopeless}
use Rattle.hall_solve.specs.Deduction.{HasAlways}
use Rattle.hall_slither.specs.declared.setting.Setting.{Setting}

-- the partial filling has the setting
abbrev pub IsHeld : List (Option ℕ) → Setting → Type 0
IsHeld p setting = slice_index_or p setting.side None ≡ Some setting.value

-- every solution has the setting
pub record IsKnown (q : Question) (p : List (Option ℕ)) (setting : Setting) : Type 0 where
  pub in_range : setting.value < q.values
  pub always : HasAlways q p setting.side setting.value

-- every solution has these settings
abbrev pub AreKnown : Question → List (Option ℕ) → List Setting → Type 0
AreKnown q p settings = All (IsKnown q p) settings

-- the setting is in both lists
abbrev pub AreIn : List Setting → List Setting → List Setting → Type 0
AreIn first second settings = All (λ setting. Contains first setting × Contains second setting) settings

-- what a pass says of a trial
abbrev pub step_after : Pass → Step
step_after Settled = Live
step_after Advanced = Live
step_after DeadPass = Dead

-- what a trial has made of the partial filling
abbrev pub IsStep : Question → List (Option ℕ) → List (Option ℕ) → Step → Type 0
IsStep q old new Live = Narrows q old new
IsStep q old new Dead = IsHopeless q old

-- what a trial that was undone tells
abbrev pub IsTried : Question → List (Option ℕ) → List Setting → Step → Type 0
IsTried q p settings Live = AreKnown q p settings
IsTried q p settings Dead = IsHopeless q p
