use Rattle.std.proofs.Common.{rules, ◌≡◌, ◌<◌, ◌+◌, ◌^◌, sym, arith, subst, true}
use Rattle.pb_lan.specs.Events.{is_hand_empty}
use Rattle.pb_lan.specs.declared.step.Step.TheVariants.{Poll}
use Rattle.pb_link.specs.Hands.{PlaceView}
use Rattle.pb_link.proofs.HandLemmas.{unreserved}
use Rattle.pb_link.proofs.PlaceLemmas.{after_arrival, length-polled, frame_of}
use Rattle.pb_link.proofs.customer.CustomerPlace.poll.Goals as goal

pub overflow_add-self : goal.overflow_add-self
overflow_add-self c =
    let s = c.self.inside in
    let room = c.self.invariant.1 (subst (λ (v : PlaceView). v.is_reserved ≡ true) (sym c.self.view_is)
    c.requires.reserved) in
    let small : s.polls + 1 < 2 ^ 64 = omega (arith, room, c.self.invariant.0.count, length-polled s.steps.steps) in
    search rules

pub invariant_of-self : goal.invariant_of-self
invariant_of-self c =
    let s = c.self.inside in
    let empty = subst (λ (v : PlaceView). is_hand_empty v.steps ≡ true) (sym c.self.view_is) c.requires.empty in (
      rw (c.append-back.ensures.steps, c.of.ensures, c.append-back.ensures.back, c.len-place.ensures)
          (after_arrival s.number s.steps s.hand s.polls c.new.result c.args.frame c.self.invariant.0 empty
          c.new.ensures),
      unreserved s.steps c.append-back.new.self (Poll (frame_of s.number c.new.result c.args.frame))
          c.append-back.ensures.steps,
    )

pub returns-clause-lawful : goal.returns-clause-lawful
returns-clause-lawful c =
    let s = c.self.inside in
    let empty = subst (λ (v : PlaceView). is_hand_empty v.steps ≡ true) (sym c.self.view_is) c.requires.empty in
    rw c.append-back.ensures.steps (after_arrival s.number s.steps s.hand s.polls c.new.result c.args.frame
    c.self.invariant.0 empty c.new.ensures).lawful
