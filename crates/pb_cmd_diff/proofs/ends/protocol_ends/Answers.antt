use Rattle.std.proofs.Common.{length, flat_map, sym, subst}
use Rattle.std.specs.List.{AllByRecursion}
use Rattle.pb_lan.specs.Plans.{IsNumber, IsSoundEnd}
use Rattle.pb_lan.specs.Ports.{ends_of}
use Rattle.pb_lan.specs.declared.plan.LinkPlan.{LinkPlan}
use Rattle.pb_cmd_diff.proofs.EndLemmas.{both_ends}
use Rattle.pb_cmd_diff.proofs.ends.protocol_ends.Goals as goal

pub protocol_end-requires-clause-there : goal.protocol_end-requires-clause-there
protocol_end-requires-clause-there c =
    let plan = c.args.plan.now in
    let items = c.as_slice-link-items.result.now in
    let ends : AllByRecursion (IsSoundEnd plan) (flat_map ends_of items) =
    subst (λ ls. AllByRecursion (IsSoundEnd plan) (flat_map ends_of ls)) (sym c.as_slice-link-items.ensures)
    c.requires.sound.ends in
    let both = both_ends (IsSoundEnd plan) items c.loop-link.link-index c.link-item.result ends c.loop-link-test.true in
    subst (λ (l : LinkPlan). IsNumber l.a.bridge (length plan.bridges)) (sym c.link-item.is) both.0.bridge

pub protocol_end-requires-in-loop-link-clause-there : goal.protocol_end-requires-in-loop-link-clause-there
protocol_end-requires-in-loop-link-clause-there c =
    let plan = c.args.plan.now in
    let items = c.as_slice-link-items.result.now in
    let ends : AllByRecursion (IsSoundEnd plan) (flat_map ends_of items) =
    subst (λ ls. AllByRecursion (IsSoundEnd plan) (flat_map ends_of ls)) (sym c.as_slice-link-items.ensures)
    c.requires.sound.ends in
    let both = both_ends (IsSoundEnd plan) items c.loop-link.link-index c.link-item.result ends c.loop-link-test.true in
    subst (λ (l : LinkPlan). IsNumber l.b.bridge (length plan.bridges)) (sym c.link-item.is) both.1.bridge
