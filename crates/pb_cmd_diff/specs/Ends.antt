-- The ends of links with nothing down, after the bridges have converged.
use Rattle.std.specs.Prelude.{◌≡◌, ℕ, List, [], map, Option, Some, None}
use Rattle.pb_lan.specs.LastShapes.{last_shape}
use Rattle.pb_lan.specs.Records.{IsLawfulRecord, steps_of}
use Rattle.pb_lan.specs.Shapes.{state_in}
use Rattle.pb_lan.specs.declared.plan.End.{End}
use Rattle.pb_lan.specs.declared.plan.LinkPlan.{LinkPlan}
use Rattle.pb_lan.specs.declared.plan.Plan.{Plan}
use Rattle.pb_lan.specs.declared.plan.Spanning.{Spanning}
use Rattle.pb_lan.specs.declared.plan.Spanning.TheVariants.{Fixed, Rstp}
use Rattle.pb_lan.specs.declared.record.Record.{Record}
use Rattle.pb_lan.specs.declared.shape.PortState.TheVariants.{Discarding}
use Rattle.pb_lan.specs.declared.shape.Shape.{Shape}
use Rattle.pb_net.specs.Answers.{NetView}
use Rattle.pb_relay.specs.Protocol.{spanning_tree}
use Rattle.pb_rstp.specs.Ports.{Machine, port_of}
use Rattle.pb_rstp.specs.Profile.{machine_of}
use Rattle.pb_rstp.specs.declared.port.Port.{Port}
use Rattle.pb_converge.specs.Enough.{HasEnoughMemory}
use Rattle.pb_converge.specs.declared.convergence.Convergence.{Convergence}
use Rattle.pb_cmd_survive.specs.Impacts.{IsCalm}
use Rattle.pb_cmd_diff.specs.declared.ends.EndView.{EndView}
use Rattle.pb_cmd_diff.specs.declared.ends.EndView.TheVariants.{Given, Computed}
use Rattle.pb_cmd_diff.specs.declared.ends.LinkEnds.{LinkEnds}

-- role and state of a port of the protocol machine
abbrev pub computed_by : Option Port → EndView
computed_by None = Given Discarding
computed_by (Some p) = Computed p.role p.state

abbrev pub computed_at : Machine → ℕ → EndView
computed_at machine port = computed_by (port_of machine.ports port)

-- an end if the bridges run the rapid spanning tree: as its bridge's own steps determine
abbrev pub protocol_end : Plan → Record → End → EndView
protocol_end plan rec e = computed_at (machine_of plan e.bridge (steps_of rec.bridges e.bridge)) e.port

-- an end if the plan gives the states
abbrev pub given_at : Shape → End → EndView
given_at shape e = Given (state_in shape e.bridge e.port)

-- both ends of a link in a shape
abbrev pub given_link : Shape → LinkPlan → LinkEnds
given_link shape l = record { a = given_at shape l.a; b = given_at shape l.b }

-- both ends if the bridges run the rapid spanning tree
abbrev pub protocol_link : Plan → Record → LinkPlan → LinkEnds
protocol_link plan rec l = record { a = protocol_end plan rec l.a; b = protocol_end plan rec l.b }

-- the ends of each link, by what decides the states of ports
abbrev pub ends_by : Spanning → Plan → Record → List LinkEnds
ends_by Fixed plan rec = map (given_link (last_shape plan rec)) plan.links
ends_by Rstp plan rec = map (protocol_link plan rec) plan.links

-- the ends of each link of the plan, at the end of a lawful record of its network, which converged and in which no
-- allocation failed
pub record AreEnds (plan : Plan) (ticks events : ℕ) (ends : List LinkEnds) : Type 0 where
  pub convergence : Convergence
  pub last : NetView
  pub calm : IsCalm plan [] ticks events convergence last
  pub planned : last.plan ≡ plan
  pub lawful : IsLawfulRecord spanning_tree plan last.rec
  pub enough : HasEnoughMemory last.rec
  pub ends_are : ends ≡ ends_by plan.spanning plan last.rec
