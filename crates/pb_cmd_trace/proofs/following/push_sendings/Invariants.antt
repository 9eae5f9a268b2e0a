use Rattle.std.proofs.Common.{◌≡◌, ◌++◌, drop}
use Rattle.pb_cmd_trace.specs.Onwards.{sendings}
use Rattle.pb_cmd_trace.proofs.following.push_sendings.Given as goal

abbrev pub invariant-loop-place : goal.invariant-loop-place
invariant-loop-place l = l.todo.items ≡ l.initial.todo.items ++ sendings l.bridge l.refused (drop l.place l.chosen)
