use Rattle.std.proofs.Common.{◌≡◌, ◌+◌, ◌++◌, drop, string_bytes}
use Rattle.pb_cmd_report.specs.States.{letters_of}
use Rattle.pb_cmd_report.proofs.states.put_letters.Given as goal

abbrev pub invariant-loop-place : goal.invariant-loop-place
invariant-loop-place l =
    string_bytes l.out ++ letters_of l.plan l.shape l.failure (l.place + 1) (drop l.place l.plan.links)
    ≡ string_bytes l.initial.out ++ letters_of l.plan l.shape l.failure 1 l.plan.links
