use Rattle.std.proofs.Common.{slice_index_or, arith}
use Rattle.std.proofs.lemmas.Bool.Decides.{nat_tests}
use Rattle.pb_lan.specs.declared.shape.PortState.TheVariants.{Discarding}
use Rattle.pb_rstp.specs.declared.role.Role.{Role}
use Rattle.pb_cmd_diff.proofs.EndLemmas.{place_of, place_is, place_passed}
use Rattle.pb_cmd_diff.proofs.ends.computed_at.Goals as goal

pub returns-then-number-port : goal.returns-then-number-port
returns-then-number-port c =
    let ports = c.args.machine.now.ports in
    let roles = c.roles-roles.result.now in
    let states = c.states-states.result.now in
    let k = c.loop-place.place in
    let at = place_of ports roles states k (0, Role.Disabled) (0, Discarding) c.roles-roles.ensures.roles
    c.states-states.ensures.states c.loop-place-test.true in
    place_is ports c.args.port k (slice_index_or roles k (0, Role.Disabled)) (slice_index_or states k (0, Discarding))
    at
    c.loop-place.invariant (let t = c.if-number-port.true in grind (arith, nat_tests, t))

pub loop-place-preserved : goal.loop-place-preserved
loop-place-preserved c =
    let ports = c.args.machine.now.ports in
    let roles = c.roles-roles.result.now in
    let states = c.states-states.result.now in
    let k = c.loop-place.place in
    let at = place_of ports roles states k (0, Role.Disabled) (0, Discarding) c.roles-roles.ensures.roles
    c.states-states.ensures.states c.loop-place-test.true in
    place_passed ports c.args.port k (slice_index_or roles k (0, Role.Disabled))
    (slice_index_or states k (0, Discarding)) at
    c.loop-place.invariant (let t = c.if-number-port.false in grind (arith, nat_tests, t))
