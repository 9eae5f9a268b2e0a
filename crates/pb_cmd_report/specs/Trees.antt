-- The rows of the spanning tree.
use Rattle.std.specs.Prelude.{ℕ, List, [], ◌++◌, Some, None, flat_map}
use Rattle.std.specs.declared.option.Option.{Option}
use Rattle.pb_lan.specs.Numbering.{numbers_from}
use Rattle.pb_lan.specs.Ports.{local_ports}
use Rattle.pb_lan.specs.Records.{steps_of}
use Rattle.pb_lan.specs.Shapes.{state_in}
use Rattle.pb_lan.specs.declared.plan.Plan.{Plan}
use Rattle.pb_lan.specs.declared.plan.LinkPlan.{LinkPlan}
use Rattle.pb_lan.specs.declared.record.Record.{Record}
use Rattle.pb_lan.specs.declared.shape.PortState.{PortState}
use Rattle.pb_lan.specs.declared.shape.Shape.{Shape}
use Rattle.pb_names.specs.Names.{bridge_name, role_word, state_word}
use Rattle.pb_names.specs.Places.{link_at}
use Rattle.pb_rstp.specs.Ports.{Machine}
use Rattle.pb_rstp.specs.Profile.{machine_of}
use Rattle.pb_rstp.specs.declared.port.Port.{Port}
use Rattle.pb_rstp.specs.declared.role.Role.{Role}
use Rattle.pb_cmd_tree.specs.Names.{id_name, link_name_at, path_cost_at}
use Rattle.pb_cmd_tree.specs.TreeTexts.{designated_at}
use Rattle.pb_cmd_report.specs.Html.{cell_of, number_cell, row_of}

-- a port to another bridge: its bridge, its number, its link, its role, its state, its path cost, the Designated bridge
abbrev pub port_cells : Plan → ℕ → ℕ → Role → PortState → ℕ → List ℕ
port_cells plan bridge port role state from =
    cell_of (bridge_name plan bridge) ++ number_cell port ++ cell_of (link_name_at plan bridge port) ++ cell_of (role_word role)
    ++ cell_of (state_word state) ++ number_cell (path_cost_at plan bridge port) ++ cell_of (id_name plan from)

unfoldable pub port_words : Plan → ℕ → ℕ → Role → PortState → ℕ → List ℕ
port_words plan bridge port role state from = row_of [] (port_cells plan bridge port role state from)

-- the row of a port of a bridge's protocol machine
abbrev pub port_row : Plan → ℕ → Machine → Port → List ℕ
port_row plan bridge machine p = port_words plan bridge p.number p.role p.state (designated_at machine p.number p.role)

-- the rows of a bridge's ports
abbrev pub machine_rows : Plan → ℕ → Machine → List ℕ
machine_rows plan bridge machine = flat_map (port_row plan bridge machine) machine.ports

-- those of a bridge whose protocol machine follows from its own steps
abbrev pub own_rows : Plan → Record → ℕ → List ℕ
own_rows plan rec bridge = machine_rows plan bridge (machine_of plan bridge (steps_of rec.bridges bridge))

-- those of all bridges
abbrev pub protocol_rows : Plan → Record → List ℕ
protocol_rows plan rec = flat_map (own_rows plan rec) (numbers_from 1 plan.bridges)

-- a port whose state the plan gives
abbrev pub given_cells : Plan → Shape → ℕ → ℕ → LinkPlan → List ℕ
given_cells plan shape bridge port link =
    cell_of (bridge_name plan bridge) ++ number_cell port ++ cell_of link.name ++ cell_of []
    ++ cell_of (state_word (state_in shape bridge port))

unfoldable pub given_words : Plan → Shape → ℕ → ℕ → LinkPlan → List ℕ
given_words plan shape bridge port link = row_of [] (given_cells plan shape bridge port link)

-- its row, if a link is there
abbrev pub given_row_at : Plan → Shape → ℕ → ℕ → Option LinkPlan → List ℕ
given_row_at plan shape bridge port None = []
given_row_at plan shape bridge port (Some link) = given_words plan shape bridge port link

abbrev pub given_row : Plan → Shape → ℕ → ℕ → List ℕ
given_row plan shape bridge port = given_row_at plan shape bridge port (link_at plan bridge port)

-- the rows of a bridge's ports, and those of all bridges
abbrev pub given_rows : Plan → Shape → ℕ → List ℕ
given_rows plan shape bridge = flat_map (given_row plan shape bridge) local_ports

abbrev pub all_given_rows : Plan → Shape → List ℕ
all_given_rows plan shape = flat_map (given_rows plan shape) (numbers_from 1 plan.bridges)
