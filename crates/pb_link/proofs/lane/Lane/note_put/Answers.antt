use Rattle.std.proofs.Common.{◌≡◌, Some, sym, subst}
use Rattle.pb_lan.specs.declared.step.Step.TheVariants.{Put}
use Rattle.pb_link.specs.Lanes.{LaneView, IsLaneKept, in_hand}
use Rattle.pb_link.specs.declared.holding.Holding.TheVariants.{Nothing}
use Rattle.pb_link.proofs.HandLemmas.{unreserved}
use Rattle.pb_link.proofs.LaneLemmas.{after_put}
use Rattle.pb_link.proofs.lane.Lane.note_put.Goals as goal

kept : (c : goal.After-append)
    → IsLaneKept c.self.inside.losses.numbers c.append.new.steps.steps c.append.new.steps.is_kept Nothing
    c.self.inside.losses.taken
kept c =
    let s = c.self.inside in
    let held = subst (λ (v : LaneView). in_hand v.steps ≡ Some c.args.item) (sym c.self.view_is) c.requires.held in
    rw c.append.ensures (after_put s.losses.numbers s.steps.steps s.steps.is_kept s.hand s.losses.taken c.args.item
    c.self.invariant.0 held)

pub invariant_of-self : goal.invariant_of-self
invariant_of-self c = (kept c, unreserved c.self.inside.steps c.append.new.steps (Put c.args.item) c.append.ensures)

pub returns-clause-lawful : goal.returns-clause-lawful
returns-clause-lawful c = (kept c).lawful
