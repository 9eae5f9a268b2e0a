use Rattle.std.proofs.Common.{◌≡◌, ◌<◌, ℕ, Bool, length}
use Rattle.std.specs.Fn.{FnReturnsAt}
use Rattle.pb_lan.specs.declared.plan.LinkPlan.{LinkPlan}
use Rattle.pb_joins.proofs.JoinLemmas.{CloseFirst, MarkJoined}
use Rattle.pb_joins.specs.Joins.{Computes, mark_at}
use Rattle.pb_joins.proofs.joining.marks.Given as goal

-- bridges with one mark are joined, and the open links so far have one mark at both ends
abbrev pub invariant-loop-link : goal.invariant-loop-link
invariant-loop-link g l = record {
  sound : (test : LinkPlan → Bool) → Computes (FnReturnsAt g.F.Fn l.open) test → MarkJoined l.plan test l.marks;
  closed : (test : LinkPlan → Bool) → Computes (FnReturnsAt g.F.Fn l.open) test
      → CloseFirst l.plan test l.link-index l.marks;
  below : (a : ℕ) → mark_at l.marks a < 32;
  many : length l.marks ≡ 32;
}
