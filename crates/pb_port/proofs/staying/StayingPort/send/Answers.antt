use Rattle.std.proofs.Common.{◌≡◌, ◌-◌, ◌∙◌, true, false, length, sym, ap, arith, rules, inr, refl}
use Rattle.std.proofs.Common.{length-drop}
use Rattle.pb_port.specs.Ports.{PumpedBy}
use Rattle.pb_port.specs.Sending.{SentBy}
use Rattle.pb_port.proofs.StayingLemmas.{sent_some, pumped_fails, leaves_same}
use Rattle.pb_port.proofs.staying.StayingPort.send.Goals as goal

pub returns-then-has_failed-clause-octets : goal.returns-then-has_failed-clause-octets
returns-then-has_failed-clause-octets g c =
    let p = c.args.self.now in
    let us = p.sender.unsent.items in
    let w = c.pump-pumped.new.self in
    let line = c.pump-pumped.new.device in
    let failed : w.failed ≡ true = sym c.has_failed.ensures ∙ c.if-has_failed.true in
    let pumped : PumpedBy c.pump-pumped.result us w.unsent.items false true (g.S.Device.failed p.line)
    (g.S.Device.failed line) = rw (p.unfailed, failed) at c.pump-pumped.ensures.pumped in
    let sends : SentBy c.pump-pumped.result c.args.now p.sender w (g.S.Device.written p.line)
    (g.S.Device.written line) = rw c.from.ensures at c.pump-pumped.ensures.octets in
    let found = sent_some c.pump-pumped.result c.args.now p.sender w (g.S.Device.written p.line)
    (g.S.Device.written line) sends in
    let n = found.0 in
    let adds = found.1.2 in
    let waiting : c.len-waiting.result ≡ length us = search rules in
    let rest : c.len-rest.result ≡ length us - n =
    (let left : c.len-rest.result ≡ length w.unsent.items = search rules in
    left ∙ ap length adds.left ∙ length-drop n us) in
    let sent : c.len-waiting.result - c.len-rest.result ≡ n = omega (arith, adds.within) in
    inr (record {
      n = n;
      line = line;
      sender = w;
      sent = found.1;
      fails = pumped_fails c.pump-pumped.result us w.unsent.items (g.S.Device.failed p.line)
          (g.S.Device.failed line) pumped;
      leaves = leaves_same g.S.Line.renews _ n _ (length us - n) line _ p c.leave.new.self sent rest refl refl refl refl
          c.leave.ensures.leaves;
    })
