-- The plan of a plan file.
use Rattle.std.specs.Prelude.{ℕ, List}
use Rattle.pb_lan.specs.declared.plan.Plan.{Plan}
use Rattle.pb_service.specs.PlanFiles.{Tells, IsPlanOf}
use Rattle.pb_service.specs.declared.port_spec.PortSpec.{PortSpec}

-- the file contains the plan, with some kinds of customer ports
pub record IsToldBy (file : List ℕ) (plan : Plan) : Type 0 where
  pub specs : List PortSpec
  pub told : Tells file (λ document. IsPlanOf document plan specs)
