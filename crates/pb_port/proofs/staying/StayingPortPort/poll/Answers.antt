use Rattle.std.proofs.Common.{◌≡◌, Some, sym, subst, rules}
use Rattle.pb_port.specs.Ports.{EndedBy}
use Rattle.pb_port.specs.declared.answers.Polled.{Polled}
use Rattle.pb_port.specs.Polling.{CountsFrom}
use Rattle.pb_port.proofs.StayingLemmas.{heard_left}
use Rattle.pb_port.proofs.staying.StayingPortPort.poll.Goals as goal

pub returns-in-Some-clause-counts : goal.returns-in-Some-clause-counts
returns-in-Some-clause-counts g c =
    let r = c.args.self.now.frames in
    let r' = c.poll-answer.new.self in
    let left : r'.ended ≡ Some c.in-Some.field-0 = search rules in
    let same = heard_left c.poll-answer.result r.ended r'.ended c.in-Some.field-0 left c.poll-answer.ensures.ended in
    let P : Polled → Type 0 = λ z.
    CountsFrom z r (g.S.Device.failed c.args.self.now.line) (g.S.Device.failed c.poll-answer.new.device) in
    subst P (sym same) c.poll-answer.ensures.counts

pub returns-in-Some-clause-ended : goal.returns-in-Some-clause-ended
returns-in-Some-clause-ended g c =
    let r = c.args.self.now.frames in
    let r' = c.poll-answer.new.self in
    let left : r'.ended ≡ Some c.in-Some.field-0 = search rules in
    let same = heard_left c.poll-answer.result r.ended r'.ended c.in-Some.field-0 left c.poll-answer.ensures.ended in
    let P : Polled → Type 0 = λ z. EndedBy z r.ended r'.ended in
    subst P (sym same) c.poll-answer.ensures.ended
