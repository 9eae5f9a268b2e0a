use Rattle.std.proofs.Common.{◌≡◌, drop}
use Rattle.std.specs.List.{flat_map}
use Rattle.pb_rstp.specs.Roles.{best, offers, root_vector}
use Rattle.pb_rstp.specs.Settling.{nows}
use Rattle.pb_rstp.proofs.roles.root_vector.Given as goal

abbrev pub invariant-loop-p : goal.invariant-loop-p
invariant-loop-p l =
    best l.root (flat_map (offers l.id) (nows (drop l.p-index l.ports))) ≡ root_vector l.id (nows l.ports)
