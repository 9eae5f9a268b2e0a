use Rattle.std.proofs.Common.{◌≡◌, ◌++◌, map, drop, true, string_bytes}
use Rattle.pb_cmd_control.specs.Commands.{lines_of_arguments}
use Rattle.pb_cmd_control.proofs.commands.command_lines.Given as goal

abbrev pub invariant-loop-argument : goal.invariant-loop-argument
invariant-loop-argument l =
    lines_of_arguments true (map string_bytes l.arguments)
    ≡ l.lines.items ++ lines_of_arguments l.begins (map string_bytes (drop l.argument-index l.arguments))
