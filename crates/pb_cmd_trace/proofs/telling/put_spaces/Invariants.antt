use Rattle.std.proofs.Common.{◌≡◌, ◌++◌, string_bytes}
use Rattle.pb_cmd_trace.specs.Tellings.{spaces}
use Rattle.pb_cmd_trace.proofs.telling.put_spaces.Given as goal

abbrev pub invariant-loop : goal.invariant-loop
invariant-loop l = string_bytes l.out ≡ string_bytes l.initial.out ++ spaces l.counter
