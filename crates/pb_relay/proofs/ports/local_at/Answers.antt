use Rattle.std.proofs.Common.{◌∙◌, get_or}
use Rattle.pb_lan.specs.declared.shape.PortState.TheVariants.{Discarding}
use Rattle.pb_relay.proofs.PortKindLemmas.{told_here, told_kind}
use Rattle.pb_relay.proofs.ports.local_at.Goals as goal

pub returns-in-None : goal.returns-in-None
returns-in-None c = told_here c.args.services.now c.args.starts.now c.args.place _ c.requires c.in-None.ensures

pub returns-in-Some : goal.returns-in-Some
returns-in-Some c =
    c.told_as.ensures ∙ told_kind c.args.services.now (get_or c.args.starts.now c.args.place Discarding)
    c.in-Some.kind.now
    ∙ told_here c.args.services.now c.args.starts.now c.args.place _ c.requires c.in-Some.ensures
