use Rattle.std.proofs.Common.{◌≡◌, ◌++◌, drop, flat_map, string_bytes}
use Rattle.pb_cmd_trace.specs.Lines.{line_text}
use Rattle.pb_cmd_trace.proofs.telling.put_lines.Given as goal

abbrev pub invariant-loop-line : goal.invariant-loop-line
invariant-loop-line l =
    string_bytes l.out ++ flat_map (line_text l.plan) (drop l.line-index l.lines) ≡ string_bytes l.initial.out
    ++ flat_map (line_text l.plan) l.lines
