use Rattle.std.proofs.Common.{arith, subst, sym}
use Rattle.pb_draw_layout.specs.Paths.{AreLit}
use Rattle.pb_draw_layout.proofs.PathLemmas.{LitFirst, lit_none, lit_more, lit_all}
use Rattle.pb_draw_layout.proofs.findings.lit_links.Goals as goal

pub loop-place-init : goal.loop-place-init
loop-place-init c =
    subst (LitFirst c.args.plan.now c.args.shape.now c.args.service 0) (sym c.new-lit.ensures.items)
    (lit_none c.args.plan.now c.args.shape.now c.args.service)

pub loop-place-preserved : goal.loop-place-preserved
loop-place-preserved c =
    lit_more c.args.plan.now c.args.shape.now c.args.service c.loop-place.place c.loop-place.lit.items
    c.keep.new.numbers.items c.is_on_path-is_lit.result c.loop-place.invariant c.is_on_path-is_lit.ensures
    c.in_ok-keep.ensures

pub returns : goal.returns
returns c =
    subst (AreLit c.args.plan.now c.args.shape.now c.args.service) (sym c.from_vec.ensures)
    (lit_all c.args.plan.now c.args.shape.now c.args.service c.loop-place.place c.loop-place.lit.items
    (omega (arith, c.loop-place-test.false, c.len-place-end.ensures)) c.loop-place.invariant)
