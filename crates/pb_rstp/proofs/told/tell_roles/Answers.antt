use Rattle.std.proofs.Common.{ℕ, arith}
use Rattle.pb_rstp.specs.Readings.{roles_of}
use Rattle.pb_rstp.specs.Settling.{nows}
use Rattle.pb_rstp.specs.declared.port.Port.{Port}
use Rattle.pb_rstp.specs.declared.role.Role.{Role}
use Rattle.pb_rstp.proofs.InPlace.{read-now, write_more, write_all, length-now}
use Rattle.pb_rstp.proofs.told.tell_roles.Goals as goal

pub loop-i-preserved : goal.loop-i-preserved
loop-i-preserved c =
    let ports = c.args.ports.now in
    let read : Port → ℕ × Role = λ p. (p.number, p.role) in
    let long = length-now read ports in
    write_more c.loop-i.roles (roles_of (nows ports)) c.loop-i.i _ (omega arith) (omega (arith, long))
    (read-now read ports c.loop-i.i _ (omega arith)) c.loop-i.invariant

pub returns : goal.returns
returns c =
    let ports = c.args.ports.now in
    let read : Port → ℕ × Role = λ p. (p.number, p.role) in
    let long = length-now read ports in
    write_all c.loop-i.roles (roles_of (nows ports)) c.loop-i.i (omega arith) (omega (arith, long)) c.loop-i.invariant
