-- The output for a plan file, with the forest after convergence.
use Rattle.std.specs.Prelude.{◌≡◌, ◌⊎◌, ℕ, List, ◌++◌, codes}
use Rattle.pb_converge.specs.Drives.{EndsAs}
use Rattle.pb_converge.specs.Enough.{HasEnoughMemory}
use Rattle.pb_converge.specs.Falls.{fresh}
use Rattle.pb_converge.specs.Convergences.{convergence_line}
use Rattle.pb_converge.specs.declared.convergence.Convergence.{Convergence}
use Rattle.pb_lan.specs.LastShapes.{last_shape}
use Rattle.pb_lan.specs.Shapes.{start_shape}
use Rattle.pb_lan.specs.declared.plan.Plan.{Plan}
use Rattle.pb_net.specs.Answers.{NetView}
use Rattle.pb_report.specs.ForestTexts.{IsForestText}
use Rattle.pb_report.specs.Refusals.{IsRefusalText}
use Rattle.pb_service.specs.PlanFiles.{Tells, IsPlanOf}
use Rattle.pb_service.specs.declared.port_spec.PortSpec.{PortSpec}
use Rattle.pb_cmd_check.specs.Checks.{plan_line}

-- each bridge ticks at most so many times, no allocation fails, and the text says whether the states at the end are a
-- forest
pub record IsConvergedText (plan : Plan) (ticks : ℕ) (text : List ℕ) : Type 0 where
  pub last : NetView
  pub convergence : Convergence
  pub ends : EndsAs ticks 1000000000 convergence (fresh plan) last
  pub enough : HasEnoughMemory last.rec
  pub forest : List ℕ
  pub is_forest : IsForestText plan (last_shape plan last.rec) forest
  pub text_is : text ≡ convergence_line convergence ++ codes "converged " ++ forest

-- the text for a file that is a plan: the lines of `check`, and the forest after convergence
pub record IsConvergedPlanText (file : List ℕ) (ticks : ℕ) (text : List ℕ) : Type 0 where
  pub plan : Plan
  pub specs : List PortSpec
  pub told : Tells file (λ document. IsPlanOf document plan specs)
  pub forest : List ℕ
  pub is_forest : IsForestText plan (start_shape plan) forest
  pub converged : List ℕ
  pub is_converged : IsConvergedText plan ticks converged
  pub text_is : text ≡ plan_line plan ++ forest ++ converged

-- the text for a file, with the exit status
abbrev pub IsConvergedCheckText : List ℕ → ℕ → ℕ → List ℕ → Type 0
IsConvergedCheckText file ticks status text = ((status ≡ 0) × IsConvergedPlanText file ticks text) ⊎ ((status ≡ 1) × IsRefusalText file text)
