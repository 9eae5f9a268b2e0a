-- The rows of failures.
use Rattle.std.specs.Prelude.{ℕ, true, false, List, [], ◌∷◌, ◌++◌, None, codes, flat_map, if◌then◌else◌}
use Rattle.std.specs.List.{zip}
use Rattle.pb_lan.specs.declared.plan.Plan.{Plan}
use Rattle.pb_names.specs.Names.{service_name}
use Rattle.pb_cmd_survive.specs.Reports.{failure_text, groups_text}
use Rattle.pb_cmd_survive.specs.Verdicts.{disconnects_view}
use Rattle.pb_cmd_survive.specs.declared.criteria.Criteria.{Criteria}
use Rattle.pb_cmd_survive.specs.declared.impact.Impact.{Impact}
use Rattle.pb_cmd_survive.specs.declared.view.View.{View}
use Rattle.pb_cmd_report.specs.Html.{cell_of, row_of}
use Rattle.pb_cmd_report.specs.States.{states_data}
use Rattle.pb_cmd_report.specs.Words.{convergence_words}
use Rattle.pb_cmd_report.specs.declared.analysis.Analysis.{Analysis}

-- all customer ports count but those of a failed bridge; every failure is in the report
abbrev pub criteria : Criteria
criteria = record { from = None; own = false; all = true; impaired = false }

-- the services whose active links form a loop, each after a space
abbrev pub loop_text : Plan → View → List ℕ
loop_text plan v = if v.is_forest then [] else 32 ∷ service_name plan v.service

abbrev pub loops_text : Plan → List View → List ℕ
loops_text plan views = flat_map (loop_text plan) views

-- the line of a service that the failure disconnects: its customer ports in groups that reach each other
abbrev pub disconnected_view : Plan → (View × View) → List ℕ
disconnected_view plan v =
    if disconnects_view criteria v then service_name plan v.1.service ++ codes ":" ++ groups_text plan v.1.sites ++ 10 ∷ [] else []

-- the lines of all such services
abbrev pub disconnected_text : Plan → Impact → Impact → List ℕ
disconnected_text plan base o = flat_map (disconnected_view plan) (zip base.views o.views)

-- a failure: what is down, the ticks until the bridges converged, the loops, and the disconnected services
abbrev pub failure_cells : Plan → Impact → Impact → List ℕ
failure_cells plan base o =
    cell_of (failure_text plan o.failure) ++ cell_of (convergence_words o.convergence) ++ cell_of (loops_text plan o.views)
    ++ cell_of (disconnected_text plan base o)

-- its row, with the states of all links then
unfoldable pub failure_row : Plan → Impact → Analysis → List ℕ
failure_row plan base o = row_of (states_data plan o.shape o.impact.failure) (failure_cells plan base o.impact)
