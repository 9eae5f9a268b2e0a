use Rattle.std.proofs.Common.{◌∙◌, ap, sym}
use Rattle.pb_draw_layout.specs.Keys.{is_used}
use Rattle.pb_draw_layout.proofs.keys.is_used.Goals as goal

pub returns-in-Root : goal.returns-in-Root
returns-in-Root c =
    let used = is_used c.args.bridges.now c.args.links.now c.args.ports.now in
    c.has_root.ensures ∙ ap used (sym c.in-Root.is)

pub returns-in-FailedBridge : goal.returns-in-FailedBridge
returns-in-FailedBridge c =
    let used = is_used c.args.bridges.now c.args.links.now c.args.ports.now in
    c.has_failed_bridge.ensures ∙ ap used (sym c.in-FailedBridge.is)

pub returns-in-ActiveLink : goal.returns-in-ActiveLink
returns-in-ActiveLink c =
    let used = is_used c.args.bridges.now c.args.links.now c.args.ports.now in
    c.has_active_link.ensures ∙ ap used (sym c.in-ActiveLink.is)

pub returns-in-StandbyLink : goal.returns-in-StandbyLink
returns-in-StandbyLink c =
    let used = is_used c.args.bridges.now c.args.links.now c.args.ports.now in
    c.has_standby_link.ensures ∙ ap used (sym c.in-StandbyLink.is)

pub returns-in-FailedLink : goal.returns-in-FailedLink
returns-in-FailedLink c =
    let used = is_used c.args.bridges.now c.args.links.now c.args.ports.now in
    c.has_failed_link.ensures ∙ ap used (sym c.in-FailedLink.is)

pub returns-in-DiscardingPort : goal.returns-in-DiscardingPort
returns-in-DiscardingPort c =
    let used = is_used c.args.bridges.now c.args.links.now c.args.ports.now in
    c.has_discarding_port.ensures ∙ ap used (sym c.in-DiscardingPort.is)

pub returns-in-LearningPort : goal.returns-in-LearningPort
returns-in-LearningPort c =
    let used = is_used c.args.bridges.now c.args.links.now c.args.ports.now in
    c.has_learning_port.ensures ∙ ap used (sym c.in-LearningPort.is)

pub returns-in-CutOff : goal.returns-in-CutOff
returns-in-CutOff c =
    let used = is_used c.args.bridges.now c.args.links.now c.args.ports.now in
    c.has_cut_off.ensures ∙ ap used (sym c.in-CutOff.is)
