use Rattle.std.proofs.Common.{◌≡◌, ◌++◌, flat_map, drop, string_bytes}
use Rattle.pb_warning_lines.specs.Texts.{printed}
use Rattle.pb_warning_lines.proofs.lines.put_lines.Given as goal

-- what was appended and what remains is what is to be appended
abbrev pub invariant-loop-warning : goal.invariant-loop-warning
invariant-loop-warning l =
    string_bytes l.out ++ flat_map (printed l.path l.file l.plan) (drop l.warning-index l.warnings)
    ≡ string_bytes l.initial.out ++ flat_map (printed l.path l.file l.plan) l.warnings
