use Rattle.std.proofs.Common.{◌≡◌, sym, arith, subst, true}
use Rattle.pb_lan.specs.declared.step.Step.TheVariants.{Take}
use Rattle.pb_link.specs.Lanes.{LaneView, is_hand_empty}
use Rattle.pb_link.proofs.HandLemmas.{unreserved}
use Rattle.pb_link.proofs.LaneLemmas.{after_coming, length-taken}
use Rattle.pb_link.proofs.lane.Lane.accept.Goals as goal

pub take-lost-requires : goal.take-lost-requires
take-lost-requires c =
    let s = c.self.inside in
    let room = c.self.invariant.1 (subst (λ (v : LaneView). v.is_reserved ≡ true) (sym c.self.view_is)
    c.requires.reserved) in
    omega (arith, room, c.self.invariant.0.counted, length-taken s.steps.steps)

pub invariant_of-self : goal.invariant_of-self
invariant_of-self c =
    let s = c.self.inside in
    let empty = subst (λ (v : LaneView). is_hand_empty v.steps ≡ true) (sym c.self.view_is) c.requires.empty in (
      rw (
        c.append-back.ensures.steps,
        c.take-lost.ensures.taken,
        c.hand_of.ensures,
        c.append-back.ensures.back,
        c.len-place.ensures,
        c.number-number.ensures,
      )
          (after_coming s.losses.numbers s.steps s.hand s.losses.taken c.args.item c.take-lost.result
          c.self.invariant.0 empty c.take-lost.ensures.lost),
      unreserved s.steps c.append-back.new.self (Take c.number-number.result c.args.item c.take-lost.result)
          c.append-back.ensures.steps,
    )

pub returns-clause-lawful : goal.returns-clause-lawful
returns-clause-lawful c =
    let s = c.self.inside in
    let empty = subst (λ (v : LaneView). is_hand_empty v.steps ≡ true) (sym c.self.view_is) c.requires.empty in
    rw (c.append-back.ensures.steps, c.take-lost.ensures.taken, c.number-number.ensures)
    (after_coming s.losses.numbers s.steps s.hand s.losses.taken c.args.item c.take-lost.result c.self.invariant.0
    empty c.take-lost.ensures.lost).lawful
