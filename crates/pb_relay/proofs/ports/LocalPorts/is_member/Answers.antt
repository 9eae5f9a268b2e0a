use Rattle.std.proofs.Common.{List, get_or, ap, ◌∙◌}
use Rattle.pb_relay.specs.Loads.{is_member_of}
use Rattle.pb_relay.specs.PortKinds.{LocalPort}
use Rattle.pb_relay.specs.PortKinds.LocalPort.{ToNobody}
use Rattle.pb_relay.proofs.PortKindLemmas.{member_here}
use Rattle.pb_relay.proofs.ports.LocalPorts.is_member.Goals as goal

pub returns : goal.returns
returns c =
    c.is_member.ensures ∙ member_here c.self.inside.services c.self.inside.starts c.args.place c.args.vid c.requires
    ∙ ap (λ (ps : List LocalPort). is_member_of (get_or ps c.args.place ToNobody) c.args.vid) c.self.view_is
