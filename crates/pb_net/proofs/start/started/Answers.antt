use Rattle.std.proofs.Common.{Bool, ap, refl, subst, ◌*◌, ℕ}
use Rattle.pb_lan.specs.declared.plan.Plan.{Plan}
use Rattle.pb_lan.specs.declared.record.Record.{Record}
use Rattle.pb_net.specs.Answers.{NetView}
use Rattle.pb_net.specs.Starts.{AreFreshCustomers, AreEmptyBoxes}
use Rattle.pb_net.proofs.StartLemmas.{fresh_placed, fresh_kept, fresh_record}
use Rattle.pb_net.proofs.start.started.Goals as goal

abbrev net_of : Plan → Record → Bool → NetView
net_of plan rec is_kept = record { plan = plan; rec = rec; is_kept = is_kept }

pub invariant_of-result : goal.invariant_of-result
invariant_of-result c =
    let bridges = c.in_ok-fresh_bridges.field-0.items in
    let lanes = c.in_ok-fresh_lanes.field-0.items in
    let customers = c.in_ok-fresh_customers.field-0.items in
    let ins = c.in_ok-empty_boxes.field-0.items in
    let outs = c.in_ok-empty_boxes-2.field-0.items in
    let cs = subst (λ (n : ℕ). AreFreshCustomers c.args.is_kept n customers) c.len.ensures
    c.in_ok-fresh_customers.ensures in
    let is = subst (λ (n : ℕ). AreEmptyBoxes (16 * n) ins) c.len-slots.ensures c.in_ok-empty_boxes.ensures in
    let os = subst (λ (n : ℕ). AreEmptyBoxes (16 * n) outs) c.len-slots.ensures c.in_ok-empty_boxes-2.ensures in (
      record { sound = c.requires },
      fresh_placed c.args.plan c.args.is_kept bridges lanes customers c.in_ok-fresh_bridges.ensures
          c.in_ok-fresh_lanes.ensures cs,
      fresh_kept c.args.plan c.args.is_kept bridges lanes customers ins outs c.in_ok-fresh_bridges.ensures
          c.in_ok-fresh_lanes.ensures cs is os,
      c.in_ok-slots_of.ensures,
      record { steps = refl; places = c.from.ensures },
      c.in_ok-empty_lists.ensures,
    )

pub returns : goal.returns
returns c =
    let bridges = c.in_ok-fresh_bridges.field-0.items in
    let lanes = c.in_ok-fresh_lanes.field-0.items in
    let customers = c.in_ok-fresh_customers.field-0.items in
    let cs = subst (λ (n : ℕ). AreFreshCustomers c.args.is_kept n customers) c.len.ensures
    c.in_ok-fresh_customers.ensures in
    ap (λ (rec : Record). net_of c.args.plan rec c.args.is_kept)
    (fresh_record c.args.plan c.args.is_kept bridges lanes customers c.in_ok-fresh_bridges.ensures
    c.in_ok-fresh_lanes.ensures cs)
