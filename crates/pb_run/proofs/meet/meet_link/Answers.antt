use Rattle.std.proofs.Common.{◌≡◌, ◌+◌, ◌*◌, Some, get_or, slice_get, refl, sym, ap, ◌∙◌, arith}
use Rattle.pb_frame.proofs.Lists.{Some-injective}
use Rattle.pb_frame.proofs.Things.{here_is}
use Rattle.pb_lan.specs.LaneLists.{taken, put}
use Rattle.pb_lan.specs.Plans.{IsSoundEnd}
use Rattle.pb_lan.specs.Records.{received, transmitted}
use Rattle.pb_run.proofs.Gifts.{link_ends}
use Rattle.pb_run.proofs.Meeting.{as_before, link_meets}
use Rattle.pb_run.proofs.meet.meet_link.Given.{Over}
use Rattle.pb_run.proofs.meet.meet_link.Goals.{After-index-as_slice-place}
use Rattle.pb_run.proofs.meet.meet_link.Goals as goal

-- the link is the plan's, and its ends are these
planned-link : (g : Over) (c : After-index-as_slice-place g)
    → slice_get c.args.plan.now.links c.args.place ≡ Some c.index-as_slice-place.result
planned-link g c = here_is c.args.plan.now.links c.args.place c.index-as_slice-place.result c.requires.place
    (c.index-as_slice-place.is ∙ ap (λ xs. get_or xs c.args.place c.index-as_slice-place.result) c.as_slice.ensures)

planned-ends : (g : Over) (c : After-index-as_slice-place g)
    → IsSoundEnd c.args.plan.now c.index-as_slice-place.result.a
    × IsSoundEnd c.args.plan.now c.index-as_slice-place.result.b
planned-ends g c =
    link_ends c.args.plan.now c.args.place c.index-as_slice-place.result c.requires.sound (planned-link g c)

pub meet_away-requires-clause-end : goal.meet_away-requires-clause-end
meet_away-requires-clause-end g c =
    (planned-ends g (goal.at.meet_away-requires-clause-end g c).After-index-as_slice-place).0

pub meet_here-requires-clause-end : goal.meet_here-requires-clause-end
meet_here-requires-clause-end g c =
    (planned-ends g (goal.at.meet_here-requires-clause-end g c).After-index-as_slice-place).1

pub meet_away-requires-2-clause-end : goal.meet_away-requires-2-clause-end
meet_away-requires-2-clause-end g c =
    (planned-ends g (goal.at.meet_away-requires-2-clause-end g c).After-index-as_slice-place).1

pub meet_here-requires-2-clause-end : goal.meet_here-requires-2-clause-end
meet_here-requires-2-clause-end g c =
    (planned-ends g (goal.at.meet_here-requires-2-clause-end g c).After-index-as_slice-place).0

pub meet_away-requires-clause-lane : goal.meet_away-requires-clause-lane
meet_away-requires-clause-lane g c =
    let at = planned-link g (goal.at.meet_away-requires-clause-lane g c).After-index-as_slice-place in
    (_, _, _, c.requires.lanes.ab c.args.place c.index-as_slice-place.result c.requires.place at)

pub meet_here-requires-clause-lane : goal.meet_here-requires-clause-lane
meet_here-requires-clause-lane g c =
    let at = planned-link g (goal.at.meet_here-requires-clause-lane g c).After-index-as_slice-place in (
      _,
      _,
      _,
      ap (λ xs. slice_get xs (2 * c.args.place)) c.meet_away.ensures.lanes.0
          ∙ c.requires.lanes.ab c.args.place c.index-as_slice-place.result c.requires.place at,
    )

pub meet_away-requires-2-clause-lane : goal.meet_away-requires-2-clause-lane
meet_away-requires-2-clause-lane g c =
    let at = planned-link g (goal.at.meet_away-requires-2-clause-lane g c).After-index-as_slice-place in (
      _,
      _,
      _,
      ap (λ xs. slice_get xs (2 * c.args.place + 1)) (c.meet_here.ensures.lanes.0 ∙ c.meet_away.ensures.lanes.0)
          ∙ c.requires.lanes.ba c.args.place c.index-as_slice-place.result c.requires.place at,
    )

pub meet_here-requires-2-clause-lane : goal.meet_here-requires-2-clause-lane
meet_here-requires-2-clause-lane g c =
    let at = planned-link g (goal.at.meet_here-requires-2-clause-lane g c).After-index-as_slice-place in (
      _,
      _,
      _,
      ap (λ xs. slice_get xs (2 * c.args.place + 1)) (c.meet_away-2.ensures.lanes.0
          ∙ c.meet_here.ensures.lanes.0 ∙ c.meet_away.ensures.lanes.0)
          ∙ c.requires.lanes.ba c.args.place c.index-as_slice-place.result c.requires.place at,
    )

pub returns-clause-meets : goal.returns-clause-meets
returns-clause-meets g c = λ planned there.
    let link = c.index-as_slice-place.result in
    let at = planned-link g (goal.at.returns-clause-meets g c).After-index-as_slice-place in
    let one = c.meet_away.ensures in
    let two = c.meet_here.ensures in
    let three = c.meet_away-2.ensures in
    let four = c.meet_here-2.ensures in
    let next : 2 * c.args.place + 1 + 1 ≡ 2 * c.args.place + 2 = omega arith in
    link_meets _ _ _ link planned (Some-injective (sym at ∙ there)) (
      record {
        onto = one.onto;
        off = as_before (received link.b.port) put _ _ _ _ _ _ _ _ one.bridges.1 one.lanes.1
            refl refl two.off;
      },
      record {
        onto = as_before taken (transmitted link.b.port) _ _ _ _ _ _ _ _ (two.lanes.1 ∙ one.lanes.1)
            (two.bridges.1 ∙ one.bridges.1) next refl three.onto;
        off = as_before (received link.a.port) put _ _ _ _ _ _ _ _ (three.bridges.1 ∙ two.bridges.1 ∙ one.bridges.1)
            (three.lanes.1 ∙ two.lanes.1 ∙ one.lanes.1) refl next four.off;
      },
    )
