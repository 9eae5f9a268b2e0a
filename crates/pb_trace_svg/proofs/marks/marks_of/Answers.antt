use Rattle.std.proofs.Common.{◌≡◌, ◌+◌, length, arith}
use Rattle.pb_trace_svg.proofs.MarkLemmas.{marks-more}
use Rattle.pb_trace_svg.specs.declared.hops.Hop.TheVariants.{Entered}
use Rattle.pb_trace_svg.proofs.marks.marks_of.Goals as goal

pub loop-hop-preserved : goal.loop-hop-preserved
loop-hop-preserved c =
    let marks = c.loop-hop.marks in
    let number_is : c.mark_of.result.number ≡ length marks.items + 1 =
    omega (arith, c.mark_of.ensures.number, c.len-number.ensures, marks.ok.0) in
    marks-more c.args.hops.now c.loop-hop.hop-index (Entered 0) marks.items c.push.new.self.items c.mark_of.result
    c.loop-hop-test.true c.loop-hop.invariant c.in_ok-push.ensures.items c.mark_of.ensures.hop number_is
