use Rattle.std.proofs.Common.{◌≡◌, ◌*◌, ℕ, length, ap, subst, ◌∙◌}
use Rattle.pb_net.specs.Lists.{AreEmpty}
use Rattle.pb_net.proofs.CopyLemmas.{tables_over}
use Rattle.pb_net.proofs.copying.NetClone.clone.Goals as goal

pub invariant_of-result : goal.invariant_of-result
invariant_of-result c =
    let old = c.self.inside in
    let kept = c.self.invariant in
    let copies = c.in_ok-bridges.ensures in
    let tables = c.in_ok-slots.ensures.cases in
    let bridges : c.len.result ≡ length old.plan.bridges =
    c.len.ensures ∙ c.in_ok-bridges.bridges.ok.0 ∙ ap length copies.bridges ∙ kept.1.bridge_count in
    let lanes : c.len-2.result ≡ 2 * length old.plan.links =
    c.len-2.ensures ∙ c.in_ok-bridges.lanes.ok.0 ∙ ap length copies.lanes ∙ kept.1.lane_count in
    let customers : c.len-3.result ≡ length old.plan.customers =
    c.len-3.ensures ∙ c.in_ok-bridges.customers.ok.0 ∙ ap length copies.customers ∙ kept.1.customer_count in
    let empty = subst (λ (n : ℕ). AreEmpty n (2 * length old.plan.links) (length old.plan.customers)
    c.in_ok-lists.lists)
    bridges (subst (λ (n : ℕ). AreEmpty c.len.result n (length old.plan.customers) c.in_ok-lists.lists) lanes
    (subst (λ (n : ℕ). AreEmpty c.len.result c.len-2.result n c.in_ok-lists.lists) customers c.in_ok-lists.ensures)) in
    rw (
      c.in_ok-clone.ensures.cases,
      copies.bridges,
      copies.lanes,
      copies.customers,
      c.in_ok-inboxes.ensures,
      c.in_ok-outboxes.ensures,
    ) (
      kept.0,
      kept.1,
      kept.2,
      tables_over old.plan old.slots c.in_ok-slots.slots tables.0 tables.1 tables.2 kept.3,
      kept.4,
      empty,
    )
