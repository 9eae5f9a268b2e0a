use Rattle.std.proofs.Common.{subst}
use Rattle.pb_frame.specs.Lists.{Rises}
use Rattle.pb_svlan.specs.ServiceTables.{ServiceTable, is_member_as, ports_of}
use Rattle.pb_svlan.proofs.ServiceLemmas.{ascending-some}
use Rattle.pb_svlan.proofs.services.Services.ports_of.Goals as goal

pub returns-clause-ascending : goal.returns-clause-ascending
returns-clause-ascending c =
    let old : ServiceTable = record { services = c.self.inside.services.entries; ports = c.self.inside.ports.items } in
    rw c.in_ok-members.ensures
    (subst (λ t. Rises (ports_of t c.args.vid)) c.self.view_is
    (ascending-some (λ a. is_member_as old c.args.vid a.kind) c.self.inside.ports.items c.self.invariant.1))
