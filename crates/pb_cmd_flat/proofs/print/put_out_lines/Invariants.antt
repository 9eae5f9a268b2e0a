use Rattle.std.proofs.Common.{◌≡◌, ◌++◌, drop}
use Rattle.pb_cmd_flat.specs.Texts.{out_lines}
use Rattle.pb_cmd_flat.proofs.print.put_out_lines.Given as goal

abbrev pub invariant-loop-port : goal.invariant-loop-port
invariant-loop-port l = l.out.items ++ out_lines l.hex (drop l.port-index l.ports) ≡ l.initial.out.items
    ++ out_lines l.hex l.ports
