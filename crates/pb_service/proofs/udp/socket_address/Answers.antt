use Rattle.std.proofs.Common.{rules}
use Rattle.pb_service.proofs.Addresses.{no_other_port}
use Rattle.pb_service.proofs.udp.socket_address.Goals as goal

pub returns-then-port-eq0-clause-none : goal.returns-then-port-eq0-clause-none
returns-then-port-eq0-clause-none c =
    no_other_port c.args.text.now c.in-Ok.address c.in-Ok.ensures (search rules)

pub returns-then-port-eq0-clause-some : goal.returns-then-port-eq0-clause-some
returns-then-port-eq0-clause-some c =
    λ has. absurd (no_other_port c.args.text.now c.in-Ok.address c.in-Ok.ensures (search rules) has)
