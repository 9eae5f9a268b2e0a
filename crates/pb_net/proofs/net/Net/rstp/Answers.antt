use Rattle.std.proofs.Common.{◌≡◌, ◌<◌, ◌+◌, ◌-◌, true, length, sym, subst, ◌∙◌, arith}
use Rattle.std.specs.Option.{option_copied}
use Rattle.pb_net.specs.Answers.{NetView}
use Rattle.pb_lan.specs.Events.{has_place}
use Rattle.pb_lan.specs.Records.{steps_of}
use Rattle.pb_lan.specs.declared.step.Place.TheVariants.{Bridge}
use Rattle.pb_relay.specs.Machines.{machine_in}
use Rattle.pb_net.proofs.Records.{known_number}
use Rattle.pb_net.proofs.SettledLemmas.{machine_at}
use Rattle.pb_net.proofs.net.Net.rstp.Goals as goal

pub returns : goal.returns
returns c =
    let s = c.self.inside in
    let n = c.args.bridge in
    let there = subst (λ (v : NetView). has_place v.plan (Bridge n) ≡ true) (sym c.self.view_is) c.requires in
    let known = known_number s.plan.bridges n there in
    let number : n - 1 + 1 ≡ n = omega (arith, known.0) in
    let within : n - 1 < length s.bridges.items = omega (arith, known.0, known.1, c.self.invariant.1.bridge_count) in
    subst (λ (v : NetView). option_copied c.rstp.result ≡ machine_in v.plan n (steps_of v.rec.bridges n))
    c.self.view_is
    (c.rstp.ensures ∙ machine_at s (n - 1) n c.index.result.now c.self.invariant number within
    (rw c.index_of.ensures at c.index.ensures))
