-- The states of all ports at the end of a record.
use Rattle.std.specs.Prelude.{ℕ, List, map, unwrap_or}
use Rattle.std.specs.declared.option.Option.{Option}
use Rattle.pb_lan.specs.Numbering.{numbers_from}
use Rattle.pb_lan.specs.Ports.{Port, port_at}
use Rattle.pb_lan.specs.Ports.Port.{Customer, Provider, Unused}
use Rattle.pb_lan.specs.Records.{steps_of}
use Rattle.pb_lan.specs.Shapes.{start_by, states_after}
use Rattle.pb_lan.specs.declared.plan.Plan.{Plan}
use Rattle.pb_lan.specs.declared.plan.Spanning.{Spanning}
use Rattle.pb_lan.specs.declared.record.Record.{Record}
use Rattle.pb_lan.specs.declared.shape.PortState.{PortState}
use Rattle.pb_lan.specs.declared.shape.PortState.TheVariants.{Discarding, Forwarding}
use Rattle.pb_lan.specs.declared.shape.Shape.{Shape}
use Rattle.pb_lan.specs.declared.step.Step.{Step}

-- the states of the ports after each bridge's steps
abbrev pub shape_after : Plan → List (List Step) → Shape
shape_after plan bridges = record { states = map (λ bridge. states_after plan bridge (steps_of bridges bridge)) (numbers_from 1 plan.bridges) }

-- the states of the ports at the end of a record
abbrev pub last_shape : Plan → Record → Shape
last_shape plan rec = shape_after plan rec.bridges

-- the state of a port of this kind, given the newest state to which steps set it, if they did
abbrev pub newest_by : Spanning → Port → Option PortState → PortState
newest_by spanning (Customer c) newest = Forwarding
newest_by spanning (Provider e) newest = unwrap_or newest (start_by spanning e.start)
newest_by spanning Unused newest = Discarding

-- the state of a bridge's local port, given the newest state to which steps set it, if they did
abbrev pub newest_state : Plan → ℕ → ℕ → Option PortState → PortState
newest_state plan bridge port newest = newest_by plan.spanning (port_at plan bridge port) newest
