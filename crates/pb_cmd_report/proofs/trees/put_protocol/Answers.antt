use Rattle.std.proofs.Common.{◌≡◌, ◌<◌, ◌+◌, ◌++◌, string_bytes, ap, subst, ◌∙◌}
use Rattle.pb_relay.proofs.CauseLemmas.{a_machine}
use Rattle.pb_lan.specs.Records.{steps_of}
use Rattle.pb_rstp.specs.Profile.{machine_of}
use Rattle.pb_cmd_report.specs.Trees.{machine_rows, own_rows}
use Rattle.pb_names.proofs.TextLemmas.{numbers_more}
use Rattle.pb_cmd_tree.proofs.TextLemmas.{machine_is}
use Rattle.pb_cmd_report.proofs.trees.put_protocol.Goals as goal

pub unreachable-requires : goal.unreachable-requires
unreachable-requires c =
    let net = c.args.net.now in
    let n = c.loop-place.place + 1 in
    let rstp = ap (λ p. p.spanning) c.requires.plan ∙ c.requires.protocol in
    let e = c.in_default.ensures ∙ a_machine net.plan n (steps_of net.rec.bridges n) rstp in
    cc

pub loop-place-preserved : goal.loop-place-preserved
loop-place-preserved c =
    let net = c.args.net.now in
    let plan = c.args.plan.now in
    let n = c.loop-place.place + 1 in
    let rstp = ap (λ p. p.spanning) c.requires.plan ∙ c.requires.protocol in
    let m_is = machine_is net.plan n (steps_of net.rec.bridges n) c.in-Some.machine.now rstp c.in-Some.ensures
    ∙ ap (λ p. machine_of p n (steps_of net.rec.bridges n)) c.requires.plan in
    let grown : string_bytes c.put_ports.new.out ≡ string_bytes c.loop-place.out ++ own_rows plan net.rec n =
    c.in_ok-put_ports.ensures ∙ ap (λ m. string_bytes c.loop-place.out ++ machine_rows plan n m) m_is in
    numbers_more (own_rows plan net.rec) plan.bridges c.loop-place.place (string_bytes c.loop-place.out)
    (string_bytes c.put_ports.new.out) _
    (subst (λ k. c.loop-place.place < k) c.len-place-end.ensures c.loop-place-test.true) grown c.loop-place.invariant
