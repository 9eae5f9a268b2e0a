use Rattle.std.proofs.Common.{◌≡◌, ◌++◌, drop, string_bytes}
use Rattle.pb_cmd_run.specs.Reports.{fault_lines}
use Rattle.pb_cmd_run.proofs.report.put_port_faults.Given as goal

abbrev pub invariant-loop-index : goal.invariant-loop-index
invariant-loop-index l = string_bytes l.out ++ fault_lines (drop l.index l.customers) (drop l.index l.lasts)
    ≡ string_bytes l.initial.out ++ fault_lines l.customers l.lasts
