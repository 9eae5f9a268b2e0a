-- The list of steps of a place, kept or only counted.
use Rattle.std.specs.Prelude.{◌≡◌, ℕ, ◌-◌, ◌<◌, ◌^◌, Bool, true, false, List, [], ◌∷◌, ◌++◌, Some, None, length, if◌then◌else◌}
use Rattle.std.specs.declared.option.Option.{Option}
use Rattle.pb_lan.specs.declared.step.Step.{Step}

-- the steps, whether each is kept in memory, and whether space for one more is reserved
pub record StepsView : Type 0 where
  pub steps : List Step
  pub is_kept : Bool
  pub is_reserved : Bool

-- the list with one more step, which uses the reserved space
abbrev pub with_step : StepsView → Step → StepsView
with_step s step = record { steps = s.steps ++ step ∷ []; is_kept = s.is_kept; is_reserved = false }

-- a step that is only counted is returned
abbrev pub given_back : Bool → Step → Option Step
given_back is_kept step = if is_kept then None else Some step

-- if steps are kept, each of them is, and the reserved space is there
pub record AreTold (steps kept : List Step) (capacity : ℕ) (is_kept is_reserved : Bool) : Type 0 where
  pub held : is_kept ≡ true → kept ≡ steps
  pub few : is_reserved ≡ true → length steps < 2 ^ 64 - 1
  pub room : is_reserved ≡ true → is_kept ≡ true → length kept < capacity
