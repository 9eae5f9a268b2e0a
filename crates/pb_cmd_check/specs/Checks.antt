-- The output for a plan file.
use Rattle.std.specs.Prelude.{◌≡◌, ◌⊎◌, ℕ, List, [], ◌∷◌, ◌++◌, length, codes}
use Rattle.std.specs.Fmt.{decimal}
use Rattle.pb_lan.specs.Shapes.{start_shape}
use Rattle.pb_lan.specs.declared.plan.Plan.{Plan}
use Rattle.pb_report.specs.ForestTexts.{IsForestText}
use Rattle.pb_report.specs.Refusals.{IsRefusalText}
use Rattle.pb_service.specs.PlanFiles.{Tells, IsPlanOf}
use Rattle.pb_service.specs.declared.port_spec.PortSpec.{PortSpec}

-- the line with the number of bridges, links, services and customer ports
abbrev pub plan_line : Plan → List ℕ
plan_line plan =
    codes "ok bridges " ++ decimal (length plan.bridges) ++ codes " links " ++ decimal (length plan.links)
    ++ codes " services " ++ decimal (length plan.services) ++ codes " ports " ++ decimal (length plan.customers) ++ 10 ∷ []

-- the text for a file that is a plan: the line for the plan, and whether its start is a forest
pub record IsPlanText (file : List ℕ) (text : List ℕ) : Type 0 where
  pub plan : Plan
  pub specs : List PortSpec
  pub told : Tells file (λ document. IsPlanOf document plan specs)
  pub forest : List ℕ
  pub is_forest : IsForestText plan (start_shape plan) forest
  pub text_is : text ≡ plan_line plan ++ forest

-- the text for a file, with the exit status
abbrev pub IsCheckText : List ℕ → ℕ → List ℕ → Type 0
IsCheckText file status text = ((status ≡ 0) × IsPlanText file text) ⊎ ((status ≡ 1) × IsRefusalText file text)
