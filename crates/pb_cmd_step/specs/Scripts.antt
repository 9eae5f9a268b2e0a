-- The output of a step script over a plan file.
use Rattle.std.specs.Prelude.{◌≡◌, ◌⊎◌, ℕ, List, [], Option}
use Rattle.std.specs.Io.KnownBytes.{Keeps}
use Rattle.pb_lan.specs.declared.plan.Plan.{Plan}
use Rattle.pb_report.specs.PlanFiles.{IsToldBy}
use Rattle.pb_report.specs.Refusals.{PrintsRefusal}
use Rattle.pb_messages.specs.declared.fault.CommandFault.{CommandFault}
use Rattle.pb_messages.specs.declared.fault.CommandFault.TheVariants.{Memory}
use Rattle.pb_messages.specs.BadLines.{longest_line}
use Rattle.pb_cmd_step.specs.declared.testing.Mode.TheVariants.{Test}
use Rattle.pb_cmd_step.specs.Modes.{PrintsLines, PrintsLinesBeginning}
use Rattle.pb_cmd_step.specs.Steps.{PrintsSteps, PrintsStepsBeginning}
use Rattle.pb_cmd_step.specs.Tests.{Notes, no_notes, test_status}

-- the output of a script and the report, for the plan in the file
pub record PrintsDriven (file : List ℕ) (input before after : Option (List ℕ)) : Type 0 where
  pub plan : Plan
  pub told : IsToldBy file plan
  pub prints : PrintsSteps longest_line plan input before after

-- the output for a file and a script, with the exit status
abbrev pub PrintsScript : List ℕ → ℕ → Option (List ℕ) → Option (List ℕ) → Option (List ℕ) → Type 0
PrintsScript file status input before after = ((status ≡ 0) × PrintsDriven file input before after) ⊎ ((status ≡ 1) × PrintsRefusal file before after)

-- the output of the first lines of a script, and what may follow it after a fault, for the plan in the file
pub record PrintsDrivenBeginning (fault : CommandFault) (file : List ℕ) (input before after : Option (List ℕ)) : Type 0 where
  pub plan : Plan
  pub told : IsToldBy file plan
  pub prints : PrintsStepsBeginning fault longest_line plan input before after

-- the output for a file and a script before a fault: nothing if an allocation failed, or that of the first lines
abbrev pub PrintsScriptBeginning : CommandFault → List ℕ → Option (List ℕ) → Option (List ℕ) → Option (List ℕ) → Type 0
PrintsScriptBeginning fault file input before after = ((fault ≡ Memory) × Keeps before after) ⊎ PrintsDrivenBeginning fault file input before after

-- the output of a test and the report, for the plan in the file
pub record PrintsTested (file : List ℕ) (input : Option (List ℕ)) (new : Notes) (before after : Option (List ℕ)) : Type 0 where
  pub plan : Plan
  pub told : IsToldBy file plan
  pub prints : PrintsLines Test longest_line plan input no_notes new before after

-- the output for a file and a test, with the exit status and the findings
abbrev pub PrintsTest : List ℕ → ℕ → Option (List ℕ) → List ℕ → Option (List ℕ) → Option (List ℕ) → Type 0
PrintsTest file status input findings before after =
    ((status ≡ test_status findings) × ((new : Notes) × (findings ≡ new.findings) × PrintsTested file input new before after))
    ⊎ ((status ≡ 1) × (findings ≡ []) × PrintsRefusal file before after)

-- the output of the first lines of a test, and what may follow it after a fault, for the plan in the file
pub record PrintsTestedBeginning (fault : CommandFault) (file : List ℕ) (input before after : Option (List ℕ)) : Type 0 where
  pub plan : Plan
  pub told : IsToldBy file plan
  pub prints : PrintsLinesBeginning fault Test longest_line plan input no_notes before after

-- the output for a file and a test before a fault: nothing if an allocation failed, or that of the first lines
abbrev pub PrintsTestBeginning : CommandFault → List ℕ → Option (List ℕ) → Option (List ℕ) → Option (List ℕ) → Type 0
PrintsTestBeginning fault file input before after = ((fault ≡ Memory) × Keeps before after) ⊎ PrintsTestedBeginning fault file input before after
