use Rattle.std.proofs.Common.{◌≡◌, length, subst, arith}
use Rattle.pb_net.specs.Answers.{NetView}
use Rattle.pb_lan.specs.Ports.{port_at}
use Rattle.pb_lan.specs.Ports.Port.{Unused}
use Rattle.pb_net.proofs.SpotLemmas.{out_of_range, port_out_of_range}
use Rattle.pb_net.proofs.net.Net.bridge_spot.Goals as goal

pub returns-in_err-place-clause-none : goal.returns-in_err-place-clause-none
returns-in_err-place-clause-none c =
    let s = c.self.inside in
    let count : c.len.result ≡ length s.plan.bridges = omega (arith, c.self.invariant.1.bridge_count) in
    let out = rw count at c.in_err-place.ensures.none in
    rw c.from_residual.ensures (subst (λ (v : NetView). port_at v.plan c.args.bridge c.args.port ≡ Unused)
    c.self.view_is
    (out_of_range s.plan c.self.invariant.0.sound c.args.bridge c.args.port out))

pub returns-in_err-column-clause-none : goal.returns-in_err-column-clause-none
returns-in_err-column-clause-none c =
    let s = c.self.inside in
    rw c.from_residual-in_err-column.ensures
    (subst (λ (v : NetView). port_at v.plan c.args.bridge c.args.port ≡ Unused) c.self.view_is
    (port_out_of_range s.plan c.self.invariant.0.sound c.args.bridge c.args.port c.in_err-column.ensures.none))
