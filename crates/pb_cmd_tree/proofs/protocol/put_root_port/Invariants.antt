use Rattle.std.proofs.Common.{◌≡◌, drop, string_bytes}
use Rattle.pb_frame.specs.Lists.{first}
use Rattle.pb_rstp.specs.Ports.{is_root}
use Rattle.pb_cmd_tree.proofs.protocol.put_root_port.Given as goal

abbrev pub invariant-loop-port : goal.invariant-loop-port
invariant-loop-port l =
    (first (λ p. is_root p.1) (drop l.port-index l.roles) ≡ first (λ p. is_root p.1) l.roles)
    × (string_bytes l.out ≡ string_bytes l.initial.out)
