-- The lines of a trace.
use Rattle.std.specs.Prelude.{ℕ, List, [], ◌∷◌, ◌++◌, codes, ◌==◌, if◌then◌else◌}
use Rattle.std.specs.Fmt.{decimal}
use Rattle.pb_lan.specs.declared.plan.Plan.{Plan}
use Rattle.pb_step_script.specs.Answers.{idle_line}
use Rattle.pb_cmd_trace.specs.Tellings.{entry_line, told}
use Rattle.pb_cmd_trace.specs.declared.lines.TraceLine.{TraceLine}
use Rattle.pb_cmd_trace.specs.declared.lines.TraceLine.TheVariants.{Entered, Waits, Went, Others}

-- the number of other events that were due
abbrev pub others_line : ℕ → List ℕ
others_line others = if others == 0 then [] else (codes "other events " ++ decimal others ++ 10 ∷ [])

-- the line of a report
abbrev pub line_text : Plan → TraceLine → List ℕ
line_text plan (Entered port step) = entry_line plan port step
line_text plan Waits = idle_line
line_text plan (Went event step known) = told plan known event step
line_text plan (Others others) = others_line others
