use Rattle.std.proofs.Common.{◌≡◌, ◌-◌, ◌<◌, ◌++◌, length, take, drop, sym, ◌∙◌, arith, length-drop}
use Rattle.pb_port.specs.Spelling.{spelled, first_of, stream_behind}
use Rattle.pb_port.specs.Sending.{begun}
use Rattle.pb_port.proofs.PuttingLemmas.{staged, first_at}
use Rattle.pb_port.proofs.SendingLemmas.{begun_all, head_and_frame, spelled_len}
use Rattle.pb_port.proofs.sender.Sender.stage.Goals as goal

pub loop-i-init : goal.loop-i-init
loop-i-init c =
    let w = c.args.self.now in
    let us = w.unsent.items in record {
      within = omega arith;
      done = omega (arith, w.within, spelled_len w.framing w.fresh w.stamp c.stamp-stamp.result (first_of us));
      next = rw c.stamp-stamp.ensures (begun_all w.framing w.fresh c.args.now w.stamp w.done us w.within w.empty);
    }

pub returns-then-at-run-clause-next : goal.returns-then-at-run-clause-next
returns-then-at-run-clause-next c =
    let w = c.args.self.now in
    let v = c.loop-i in
    let us = w.unsent.items in
    let f = first_of (drop v.i us) in
    let h = c.make_head-head.result in
    let frame = c.as_slice-octets.result.now in
    let same : f ≡ frame = first_at us v.i c.index.result.now (omega arith) c.index.ensures
    ∙ sym c.as_slice-octets.ensures in
    let spells = head_and_frame w.framing v.fresh v.stamp h.start h.octets frame f c.make_head-head.ensures.octets
    same in
    let some : 0 < length (drop v.i us) = omega (arith, length-drop v.i us) in (
      drop (length v.run - v.at) (drop v.done (spelled w.framing v.fresh v.stamp f))
          ++ stream_behind w.framing c.args.now (drop 1 (drop v.i us)),
      staged w.framing v.fresh v.stamp c.args.now v.done (length v.run - v.at) (drop v.i us) (begun w)
          (take v.at v.run) (take c.put_part-at.result c.put_part-at.new.run) _ _
          spells (omega (arith, v.invariant.done)) some c.put_part-at.ensures.octets v.invariant.next,
    )
