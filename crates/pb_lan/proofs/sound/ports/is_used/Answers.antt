use Rattle.std.proofs.Common.{sym, ◌∙◌}
use Rattle.pb_lan.proofs.UsedPorts.{list_any-ports_in}
use Rattle.pb_lan.proofs.sound.ports.is_used.Goals as goal
use Rattle.pb_lan.specs.Plans.{is_same_port}

pub returns-then-is_link_port : goal.returns-then-is_link_port
returns-then-is_link_port c =
    let found = sym c.is_link_port.ensures ∙ c.if-is_link_port.true in
    let e = rw found at (list_any-ports_in (is_same_port c.args.port) c.args.links.now c.args.customers.now) in
    c.if-is_link_port.true ∙ sym e

pub returns-else-is_link_port : goal.returns-else-is_link_port
returns-else-is_link_port c =
    let found = sym c.is_link_port.ensures ∙ c.if-is_link_port.false in
    let e = rw found at (list_any-ports_in (is_same_port c.args.port) c.args.links.now c.args.customers.now) in
    c.is_customer_port.ensures ∙ sym e
