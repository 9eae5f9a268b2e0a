-- The loss report of a run, and the exit status of a strict run.
use Rattle.std.specs.Prelude.{ℕ, zero, Bool, true, false, List, [], ◌∷◌, ◌++◌, Ok, Some, codes}
use Rattle.std.specs.declared.option.Option.{Option}
use Rattle.std.specs.declared.result.Result.{Result}
use Rattle.pb_frame.specs.declared.memory.Memory.{Memory}
use Rattle.pb_lan.specs.declared.plan.Plan.{Plan}
use Rattle.pb_lan.specs.declared.record.Record.{Record}
use Rattle.pb_run_losses.specs.Drops.{drops_text}
use Rattle.pb_run_losses.specs.Losses.{losses_text}
use Rattle.pb_workers.specs.Ports.{Frames}
use Rattle.pb_run.specs.declared.ended.Ended.{Ended}
use Rattle.pb_run.specs.declared.ended.Ended.TheVariants.{Drained}
use Rattle.pb_run_losses.specs.Unwritten.{unwritten_lines}
use Rattle.pb_run_losses.specs.declared.strictness.Strictness.{Strictness}
use Rattle.pb_run_losses.specs.declared.strictness.Strictness.TheVariants.{Strict}

-- the line that the bridges have not converged
abbrev pub unsettled_line : Result (Option Bool) Memory → List ℕ
unsettled_line (Ok (Some false)) = codes "bridges not converged" ++ 10 ∷ []
unsettled_line _ = []

-- the loss report: frames that ports could not write, copies, BPDUs and sources that bridges lost, dropped frames that
-- are lost, and whether the bridges have converged
abbrev pub lost_text : Plan → Record → Result (Option Bool) Memory → List Frames → List ℕ
lost_text plan rec settled waiting =
    unwritten_lines plan.customers waiting rec.customers ++ losses_text plan rec
    ++ drops_text plan rec true ++ unsettled_line settled

-- the run has drained, and its loss report is empty
abbrev pub is_whole : Ended → List ℕ → Bool
is_whole Drained [] = true
is_whole ended lost = false

-- the exit status of a run: 4 in place of 0 if it is strict and was not whole
abbrev pub exit_status : Strictness → Bool → ℕ → ℕ
exit_status Strict false zero = 4
exit_status strictness whole status = status
