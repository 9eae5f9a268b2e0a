-- Whether the bridges of a network are settled, and whether they have converged, by their steps.
use Rattle.std.specs.Prelude.{◌≡◌, ◌↔◌, Bool, List, Some, None, IsTrue}
use Rattle.std.specs.declared.option.Option.{Option}
use Rattle.pb_lan.specs.Records.{steps_of}
use Rattle.pb_lan.specs.declared.plan.Plan.{Plan}
use Rattle.pb_lan.specs.declared.plan.Spanning.{Spanning}
use Rattle.pb_lan.specs.declared.plan.Spanning.TheVariants.{Fixed, Rstp}
use Rattle.pb_lan.specs.declared.record.Record.{Record}
use Rattle.pb_rstp.specs.Ports.{Machine}
use Rattle.pb_rstp.specs.Tree.{IsSettled, IsConverged, NoneHeld, AreForests, machines_of}

-- the machines of a network's bridges, as their own steps determine them
unfoldable pub machines_in : Plan → Record → List Machine
machines_in plan rec = machines_of plan (steps_of rec.bridges)

-- the result is true if and only if the bridges are settled, and then, if no Root port's cost is held, the links whose
-- two ends are Forwarding form no loop, with the parents beyond the Root ports, and so do those of each service
pub record TellsOf (plan : Plan) (machines : List Machine) (yes : Bool) : Type 0 where
  pub settled : IsTrue yes ↔ IsSettled plan machines
  pub forest : IsTrue yes → NoneHeld machines → AreForests plan machines

-- there is no result if the plan gives the states of the ports
abbrev pub TellsBy : Spanning → Plan → List Machine → Option Bool → Type 0
TellsBy Fixed plan machines answer = answer ≡ None
TellsBy Rstp plan machines answer = (yes : Bool) × (answer ≡ Some yes) × TellsOf plan machines yes

-- the result says whether the bridges of the network are settled
abbrev pub TellsSettled : Plan → Record → Option Bool → Type 0
TellsSettled plan rec answer = TellsBy plan.spanning plan (machines_in plan rec) answer

-- the result is true if and only if the bridges have converged, and then, if no Root port's cost is held, the links
-- whose two ends are Forwarding form no loop, with the parents beyond the Root ports, and so do those of each service
pub record TellsConvergedOf (plan : Plan) (machines : List Machine) (yes : Bool) : Type 0 where
  pub converged : IsTrue yes ↔ IsConverged plan machines
  pub forest : IsTrue yes → NoneHeld machines → AreForests plan machines

-- there is no result if the plan gives the states of the ports
abbrev pub TellsConvergedBy : Spanning → Plan → List Machine → Option Bool → Type 0
TellsConvergedBy Fixed plan machines answer = answer ≡ None
TellsConvergedBy Rstp plan machines answer = (yes : Bool) × (answer ≡ Some yes) × TellsConvergedOf plan machines yes

-- the result says whether the bridges of the network have converged
abbrev pub TellsConverged : Plan → Record → Option Bool → Type 0
TellsConverged plan rec answer = TellsConvergedBy plan.spanning plan (machines_in plan rec) answer
