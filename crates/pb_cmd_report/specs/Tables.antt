-- The rows of services and sites.
use Rattle.std.specs.Prelude.{ℕ, List, [], ◌++◌}
use Rattle.pb_forest.specs.ServiceVids.{vid_numbered}
use Rattle.pb_lan.specs.declared.plan.Plan.{Plan}
use Rattle.pb_lan.specs.declared.plan.CustomerPlan.{CustomerPlan}
use Rattle.pb_lan.specs.declared.shape.Shape.{Shape}
use Rattle.pb_names.specs.Names.{bridge_name, service_name}
use Rattle.pb_cmd_survive.specs.Reports.{groups_text}
use Rattle.pb_cmd_survive.specs.declared.view.View.{View}
use Rattle.pb_cmd_report.specs.Html.{cell_of, number_cell, row_of}
use Rattle.pb_cmd_report.specs.Words.{health_word, tree_text}

-- a service: its name, its VID, its customer ports in groups that reach each other, the links of its tree, its health
abbrev pub service_cells : Plan → Shape → View → List ℕ
service_cells plan shape v =
    cell_of (service_name plan v.service) ++ number_cell (vid_numbered plan v.service)
    ++ cell_of (groups_text plan v.sites) ++ cell_of (tree_text plan shape v.service) ++ cell_of (health_word v)

unfoldable pub service_row : Plan → Shape → View → List ℕ
service_row plan shape v = row_of [] (service_cells plan shape v)

-- a customer port: its name, its service, its bridge and its local port
abbrev pub site_cells : Plan → CustomerPlan → List ℕ
site_cells plan c =
    cell_of c.name ++ cell_of (service_name plan c.service) ++ cell_of (bridge_name plan c.bridge) ++ number_cell c.port

unfoldable pub site_row : Plan → CustomerPlan → List ℕ
site_row plan c = row_of [] (site_cells plan c)
