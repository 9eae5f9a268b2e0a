use Rattle.std.proofs.Common.{subst}
use Rattle.pb_rstp.specs.Ports.{Machine}
use Rattle.pb_rstp.specs.Roles.{IsRootVector, root_vector}
use Rattle.pb_rstp.specs.Settling.{nows}
use Rattle.pb_rstp.proofs.RootLaws.{root_vector-is}
use Rattle.pb_rstp.proofs.rstp.Rstp.root.Goals as goal

pub returns-clause-least : goal.returns-clause-least
returns-clause-least c =
    rw (c.root_vector.ensures, c.deref.ensures.value)
    (subst (λ (m : Machine). IsRootVector m.id m.ports (root_vector c.self.inside.id (nows c.self.inside.ports.items)))
    c.self.view_is
    (root_vector-is c.self.inside.id (nows c.self.inside.ports.items)))
