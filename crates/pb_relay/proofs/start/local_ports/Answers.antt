use Rattle.std.proofs.Common.{List, sym, subst, arith}
use Rattle.pb_relay.specs.PortKinds.{LocalPort}
use Rattle.pb_relay.specs.Starts.{KeepsPorts}
use Rattle.pb_relay.proofs.AttachLemmas.{attached_more, attached_all}
use Rattle.pb_relay.proofs.start.local_ports.Goals as goal

pub loop-r-preserved : goal.loop-r-preserved
loop-r-preserved c =
    attached_more c.args.plan.now c.args.number c.loop-r.services c.attach.new.services c.loop-r.starts c.loop-r.r _
    c.loop-r-test.true c.loop-r.invariant
    c.in_ok-starts.ensures.services c.in_ok-starts.ensures.others c.in_ok-starts.ensures.kept

pub returns : goal.returns
returns c =
    subst (λ (ps : List LocalPort). KeepsPorts c.args.plan.now c.args.number ps 16) (sym c.of.ensures)
    (attached_all c.args.plan.now c.args.number c.loop-r.services c.loop-r.starts c.loop-r.r (omega arith)
    c.loop-r.invariant)
