use Rattle.std.proofs.Common.{is_some, ap, ◌∙◌}
use Rattle.pb_control_socket.proofs.PlaceLemmas.{copied_there, provider_there}
use Rattle.pb_control_socket.proofs.places.leads_on.Goals as goal

pub returns-in-None : goal.returns-in-None
returns-in-None c =
    c.is_some.ensures ∙ copied_there c.link_at.result ∙ ap is_some c.link_at.ensures
    ∙ provider_there c.args.plan.now c.args.bridge c.args.port c.in-None.ensures
