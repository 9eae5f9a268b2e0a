use Rattle.std.proofs.Common.{◌≡◌, ◌++◌, drop, flat_map, string_bytes}
use Rattle.pb_cmd_report.specs.Failures.{failure_row}
use Rattle.pb_cmd_report.proofs.failures.put_failure_rows.Given as goal

abbrev pub invariant-loop-analysis : goal.invariant-loop-analysis
invariant-loop-analysis l =
    string_bytes l.out ++ flat_map (failure_row l.plan l.base) (drop l.analysis-index l.analyses) ≡ string_bytes
    l.initial.out
    ++ flat_map (failure_row l.plan l.base) l.analyses
