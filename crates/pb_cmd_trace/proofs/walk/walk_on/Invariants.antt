use Rattle.std.proofs.Common.{◌≡◌, ◌++◌, List}
use Rattle.pb_cmd_trace.specs.Walks.{Walks}
use Rattle.pb_cmd_trace.specs.declared.lines.TraceLine.{TraceLine}
use Rattle.pb_cmd_trace.proofs.walk.walk_on.Given as goal

abbrev pub invariant-loop : goal.invariant-loop
invariant-loop l = record {
  walked : (more : List TraceLine) × (l.lines.items ≡ l.initial.lines.items ++ more)
      × Walks l.counter l.plan l.initial.todo.items l.initial.net l.todo.items l.net more;
  plan : l.net.plan ≡ l.plan;
}
