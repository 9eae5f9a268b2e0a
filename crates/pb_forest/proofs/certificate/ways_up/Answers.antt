use Rattle.std.proofs.Common.{None}
use Rattle.std.proofs.lemmas.Option.{slice_get-get_or}
use Rattle.pb_forest.proofs.CertificateLemmas.{marked_next, marked_twice, marked_all, marked_none}
use Rattle.pb_forest.proofs.certificate.ways_up.Goals as goal

pub loop-up-init : goal.loop-up-init
loop-up-init c = marked_none c.args.ups.now

pub loop-up-preserved : goal.loop-up-preserved
loop-up-preserved c =
    marked_next c.args.ups.now c.loop-up.up-index _ c.loop-up.marks c.mark.new.marks c.mark.result
    (slice_get-get_or c.args.ups.now c.loop-up.up-index None c.loop-up-test.true) c.mark.ensures
    c.if-not-mark.false c.loop-up.invariant

pub returns-then-not-mark : goal.returns-then-not-mark
returns-then-not-mark c =
    marked_twice c.args.ups.now c.loop-up.up-index _ c.loop-up.marks c.mark.new.marks c.mark.result
    (slice_get-get_or c.args.ups.now c.loop-up.up-index None c.loop-up-test.true) c.mark.ensures
    c.if-not-mark.true c.loop-up.invariant

pub returns : goal.returns
returns c = marked_all c.args.ups.now c.loop-up.up-index c.loop-up.marks c.loop-up-test.false c.loop-up.invariant
