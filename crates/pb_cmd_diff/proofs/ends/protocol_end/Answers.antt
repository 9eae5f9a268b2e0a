use Rattle.std.proofs.Common.{◌≡◌, ap, ◌∙◌}
use Rattle.pb_frame.proofs.Lists.{Some-injective}
use Rattle.pb_lan.specs.Records.{steps_of}
use Rattle.pb_relay.proofs.CauseLemmas.{a_machine}
use Rattle.pb_rstp.specs.Profile.{machine_of}
use Rattle.pb_cmd_diff.specs.Ends.{computed_at}
use Rattle.pb_cmd_diff.proofs.ends.protocol_end.Goals as goal

pub unreachable-requires : goal.unreachable-requires
unreachable-requires c =
    let net = c.args.net.now in
    let n = c.args.end.now.bridge in
    let rstp = ap (λ p. p.spanning) c.requires.plan ∙ c.requires.protocol in
    let e = c.in_default.ensures ∙ a_machine net.plan n (steps_of net.rec.bridges n) rstp in
    cc

pub returns : goal.returns
returns c =
    let net = c.args.net.now in
    let n = c.args.end.now.bridge in
    let steps = steps_of net.rec.bridges n in
    let rstp = ap (λ p. p.spanning) c.requires.plan ∙ c.requires.protocol in
    let machine : c.in-Some.machine.now ≡ machine_of c.args.plan.now n steps =
    Some-injective (c.in-Some.ensures ∙ a_machine net.plan n steps rstp)
    ∙ ap (λ p. machine_of p n steps) c.requires.plan in
    c.computed_at.ensures ∙ ap (λ m. computed_at m c.args.end.now.port) machine
