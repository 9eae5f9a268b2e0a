use Rattle.std.proofs.Common.{string_bytes}
use Rattle.pb_lan.specs.declared.shape.PortState.TheVariants.{Discarding}
use Rattle.pb_rstp.specs.declared.role.Role.TheVariants.{Disabled}
use Rattle.pb_cmd_tree.proofs.TextLemmas.{port_is_there}
use Rattle.pb_cmd_report.proofs.TreeLemmas.{ports_more}
use Rattle.pb_cmd_report.proofs.trees.put_ports.Goals as goal

pub designated_at-requires : goal.designated_at-requires
designated_at-requires c = port_is_there c.args.machine.now.ports c.roles-roles.result.now c.loop-place.place
    (0, Disabled) c.roles-roles.ensures.roles c.loop-place-test.true

pub loop-place-preserved : goal.loop-place-preserved
loop-place-preserved c =
    ports_more c.args.plan.now c.args.bridge c.args.machine.now c.roles-roles.result.now c.states-states.result.now
    c.loop-place.place c.designated_at.result (0, Disabled) (0, Discarding)
    (string_bytes c.loop-place.out) (string_bytes c.put_port.new.out) _ c.roles-roles.ensures.roles
    c.states-states.ensures.states c.loop-place-test.true c.designated_at.ensures c.in_ok-put_port.ensures
    c.loop-place.invariant
