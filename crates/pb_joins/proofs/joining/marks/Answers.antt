use Rattle.std.proofs.Common.{◌≡◌, ◌<◌, ◌+◌, ◌-◌, ℕ, Bool, List, true, false, Some, refl, sym, ap, subst, ◌∙◌, slice_get}
use Rattle.std.proofs.Common.{slice_index, length, arith}
use Rattle.std.proofs.lemmas.Fn.{says_at}
use Rattle.std.specs.Fn.{FnReturnsAt}
use Rattle.pb_lan.specs.declared.plan.LinkPlan.{LinkPlan}
use Rattle.pb_joins.proofs.JoinLemmas.{own_marks_join, own_marks_below, joins_after, closes_after, closes_past}
use Rattle.pb_joins.proofs.JoinLemmas.{below_after, joined_by, end_number, link_there, tells_joined, MarkJoined}
use Rattle.pb_joins.proofs.JoinLemmas.{CloseFirst, replaced_in}
use Rattle.pb_joins.specs.Joins.{Computes, mark_at}
use Rattle.pb_joins.proofs.joining.marks.Goals as goal
use Rattle.pb_joins.proofs.joining.marks.Goals.{then-open, else-open}

-- marks at equal indexes are replaced alike
replaced_alike : (marks : List ℕ) (i j a b : ℕ) → i ≡ a - 1 → j ≡ b - 1
    → replaced_in marks (slice_index marks j) (slice_index marks i)
    ≡ replaced_in marks (mark_at marks b) (mark_at marks a)
replaced_alike marks i j a b e f = ap (λ k. replaced_in marks (slice_index marks j) (slice_index marks k)) e
    ∙ ap (λ k. replaced_in marks (slice_index marks k) (mark_at marks a)) f

pub loop-link-init : goal.loop-link-init
loop-link-init g c = record {
  sound = λ test t. own_marks_join c.args.plan.now test;
  closed = λ test t. record { close = λ k link h. absurd (omega (arith, h)) };
  below = own_marks_below;
  many = refl;
}

pub index_of-into-requires : goal.index_of-into-requires
index_of-into-requires g c =
    let i = c.loop-link.link-index in
    let here : slice_get c.args.plan.now.links i ≡ Some c.link-item.result = link_there c.args.plan.now.links
    c.as_slice-link-items.result.now i c.link-item.result c.as_slice-link-items.ensures c.loop-link-test.true
    c.link-item.is in
    let few = (end_number c.args.plan.now c.requires.sound i c.link-item.result here).0 in
    let low = few.0 in omega (arith, low)

pub index_of-from-requires : goal.index_of-from-requires
index_of-from-requires g c =
    let i = c.loop-link.link-index in
    let here : slice_get c.args.plan.now.links i ≡ Some c.link-item.result = link_there c.args.plan.now.links
    c.as_slice-link-items.result.now i c.link-item.result c.as_slice-link-items.ensures c.loop-link-test.true
    c.link-item.is in
    let few = (end_number c.args.plan.now c.requires.sound i c.link-item.result here).1 in
    let low = few.0 in omega (arith, low)

pub join-requires-clause-into : goal.join-requires-clause-into
join-requires-clause-into g c =
    let i = c.loop-link.link-index in
    let here : slice_get c.args.plan.now.links i ≡ Some c.link-item.result = link_there c.args.plan.now.links
    c.as_slice-link-items.result.now i c.link-item.result c.as_slice-link-items.ensures c.loop-link-test.true
    c.link-item.is in
    let few = (end_number c.args.plan.now c.requires.sound i c.link-item.result here).0 in
    let low = few.0 in let high = few.1 in omega (arith, low, high, c.index_of-into.ensures)

pub join-requires-clause-from : goal.join-requires-clause-from
join-requires-clause-from g c =
    let i = c.loop-link.link-index in
    let here : slice_get c.args.plan.now.links i ≡ Some c.link-item.result = link_there c.args.plan.now.links
    c.as_slice-link-items.result.now i c.link-item.result c.as_slice-link-items.ensures c.loop-link-test.true
    c.link-item.is in
    let few = (end_number c.args.plan.now c.requires.sound i c.link-item.result here).1 in
    let low = few.0 in let high = few.1 in omega (arith, low, high, c.index_of-from.ensures)

pub loop-link-preserved : goal.loop-link-preserved
loop-link-preserved g c =
    let plan = c.args.plan.now in
    let i = c.loop-link.link-index in
    let link = c.link-item.result in
    let marks = c.loop-link.marks in
    let here : slice_get plan.links i ≡ Some link = link_there plan.links c.as_slice-link-items.result.now i link
    c.as_slice-link-items.ensures c.loop-link-test.true c.link-item.is in
    let many : length marks ≡ 32 = c.loop-link.invariant.many in
    let told : FnReturnsAt g.F.Fn c.args.open.now link c.open.result = says_at g.F.Fn c.open.ensures refl in
    elim c.if-open.branch [
      | then-open w ↦
          let few = end_number plan c.requires.sound i link here in
          let is = w.marks-is ∙ w.join.ensures
          ∙ replaced_alike marks _ _ link.a.bridge link.b.bridge w.index_of-into.ensures w.index_of-from.ensures in
          record {
            sound = λ test t.
                let active : test link ≡ true = sym (t link c.open.result told) ∙ w.if-open.true in
                subst (MarkJoined plan test) (sym is)
                (joins_after plan test marks link.a.bridge link.b.bridge many few.0 few.1
                (joined_by plan test i link here active) (c.loop-link.invariant.sound test t));
            closed = λ test t. subst (CloseFirst plan test (i + 1)) (sym is)
                (closes_after plan test i marks link c.requires.sound many here (c.loop-link.invariant.closed test t));
            below = λ a. subst (λ z. mark_at z a < 32) (sym is)
                (below_after marks (mark_at marks link.b.bridge) link.a.bridge c.loop-link.invariant.below a);
            many = ap length w.marks-is ∙ w.join.array_long;
          }
      | else-open w ↦
          record {
            sound = λ test t. subst (MarkJoined plan test) (sym w.marks-is) (c.loop-link.invariant.sound test t);
            closed = λ test t.
                let shut : test link ≡ false = sym (t link c.open.result told) ∙ w.if-open.false in
                subst (CloseFirst plan test (i + 1)) (sym w.marks-is)
                (closes_past plan test i marks link here shut (c.loop-link.invariant.closed test t));
            below = λ a. subst (λ z. mark_at z a < 32) (sym w.marks-is) (c.loop-link.invariant.below a);
            many = ap length w.marks-is ∙ many;
          }
    ]

pub returns-clause-joined : goal.returns-clause-joined
returns-clause-joined g c = λ test t.
    let plan = c.args.plan.now in
    let marks = c.loop-link.marks in
    let all : CloseFirst plan test (length plan.links) marks = record {
      close = λ k link h. (c.loop-link.invariant.closed test t).close k link
          (omega (arith, h, ap length c.as_slice-link-items.ensures, c.loop-link-test.false));
    } in
    tells_joined plan test marks all (c.loop-link.invariant.sound test t)
