-- A network after a step of a lane.
use Rattle.std.proofs.Common.{◌≡◌, ℕ, suc, ◌*◌, ◌<◌, Bool, List, [], ◌∷◌, ◌++◌, Some, map, length, slice_get, refl}
use Rattle.std.proofs.Common.{sym}
use Rattle.std.proofs.Common.{ap, ◌∙◌, arith, length-set}
use Rattle.std.proofs.Math.ListN.{set}
use Rattle.std.proofs.lemmas.List.{map-append}
use Rattle.pb_frame.proofs.Things.{flat_map-none, flat_map-more}
use Rattle.pb_lan.specs.Events.{with_step, sent_to, fetched_from, begins_at, ends_at, lane_to, lane_from}
use Rattle.pb_lan.specs.LaneLists.{taken, put, taken_by, put_by, all_taken, Taken, IsLawfulLane}
use Rattle.pb_lan.specs.Numbering.{numbered}
use Rattle.pb_lan.specs.Plans.{IsSound}
use Rattle.pb_lan.specs.Records.{steps_of}
use Rattle.pb_lan.specs.declared.plan.End.{End}
use Rattle.pb_lan.specs.declared.plan.LinkPlan.{LinkPlan}
use Rattle.pb_lan.specs.declared.plan.Plan.{Plan}
use Rattle.pb_lan.specs.declared.record.Record.{Record}
use Rattle.pb_lan.specs.declared.step.Item.{Item}
use Rattle.pb_lan.specs.declared.step.Place.TheVariants.{Lane}
use Rattle.pb_lan.specs.declared.step.Step.{Step}
use Rattle.pb_lan.specs.declared.step.Step.TheVariants.{Take, Put}
use Rattle.pb_net.specs.Nets.{IsKept}
use Rattle.pb_net.specs.Slots.{IsSlot, link_of, losses_of}
use Rattle.pb_net.proofs.Keeping.{after_lane}
use Rattle.pb_net.proofs.Lanes.{lane_to-back, lane_from-back}
use Rattle.pb_net.proofs.Meetings.{sent_to-lane, fetched_from-lane, sent_to-same, fetched_from-same}
use Rattle.pb_net.proofs.OneMore.{one_more-kept, steps_of-set_same, steps_of-set_other}
use Rattle.pb_net.proofs.PortMoves.{sends-nothing, fetches-nothing, sends-one, fetches-one}

abbrev items_in : List Taken → List Item
items_in ts = map (λ t. t.item) ts

-- the network's invariant after a Take step
pub after_take : (plan : Plan) (rec : Record) (ins outs : List (List Item)) (r s number : ℕ) (item : Item)
    (lost : Bool) (link : LinkPlan) (outbox : List Item)
    → IsSound plan → IsKept plan rec ins outs → r < 2 * length plan.links
    → numbered plan.links (link_of (suc r)) ≡ Some link
    → IsSlot plan (begins_at (suc r) link).bridge (begins_at (suc r) link).port s
    → slice_get outs s ≡ Some (item ∷ outbox)
    → IsLawfulLane (losses_of plan (suc r)) (steps_of rec.lanes (suc r) ++ Take number item lost ∷ [])
    → IsKept plan (with_step rec (Lane (suc r)) (Take number item lost)) ins (set outs s outbox)
after_take plan rec ins outs r s number item lost link outbox sound kept within planned at box lawful =
    let room : r < length rec.lanes = omega (arith, kept.lane_count) in
    let from : End = begins_at (suc r) link in
    let step : Step = Take number item lost in
    let steps : List Step = steps_of rec.lanes (suc r) in
    let rec' : Record = with_step rec (Lane (suc r)) step in
    let grown : fetched_from plan rec' from.bridge from.port ≡ fetched_from plan rec from.bridge from.port
    ++ item ∷ [] =
    fetched_from-lane plan sound rec' (suc r) link planned
    ∙ ap taken (steps_of-set_same rec.lanes r (steps ++ step ∷ []) room)
    ∙ ap items_in (flat_map-more taken_by steps step)
    ∙ map-append (λ (t : Taken). t.item) (all_taken steps) (taken_by step)
    ∙ ap (λ z. z ++ item ∷ []) (sym (fetched_from-lane plan sound rec (suc r) link planned)) in
    after_lane plan rec ins outs ins (set outs s outbox) r step kept within lawful refl (length-set outs s outbox)
    (sends-nothing plan rec rec' ins (λ m. refl)
    (λ m. one_more-kept put step (flat_map-none put_by step refl) rec.lanes r m room))
    (fetches-one plan rec rec' outs s from.bridge from.port item outbox at box grown
    (λ b q ne. fetched_from-same plan rec rec' b q refl
    (λ e h. ap taken (steps_of-set_other rec.lanes r (lane_from plan b q) (steps ++ step ∷ [])
    (λ leads. ne (lane_from-back plan sound b q (suc r) e link h leads planned))))))

-- the network's invariant after a Put step
pub after_put : (plan : Plan) (rec : Record) (ins outs : List (List Item)) (r s : ℕ) (item : Item) (link : LinkPlan)
    (inbox : List Item)
    → IsSound plan → IsKept plan rec ins outs → r < 2 * length plan.links
    → numbered plan.links (link_of (suc r)) ≡ Some link
    → IsSlot plan (ends_at (suc r) link).bridge (ends_at (suc r) link).port s → slice_get ins s ≡ Some inbox
    → IsLawfulLane (losses_of plan (suc r)) (steps_of rec.lanes (suc r) ++ Put item ∷ [])
    → IsKept plan (with_step rec (Lane (suc r)) (Put item)) (set ins s (inbox ++ item ∷ [])) outs
after_put plan rec ins outs r s item link inbox sound kept within planned at box lawful =
    let room : r < length rec.lanes = omega (arith, kept.lane_count) in
    let to : End = ends_at (suc r) link in
    let step : Step = Put item in
    let steps : List Step = steps_of rec.lanes (suc r) in
    let rec' : Record = with_step rec (Lane (suc r)) step in
    let grown : sent_to plan rec' to.bridge to.port ≡ sent_to plan rec to.bridge to.port ++ item ∷ [] =
    sent_to-lane plan sound rec' (suc r) link planned
    ∙ ap put (steps_of-set_same rec.lanes r (steps ++ step ∷ []) room) ∙ flat_map-more put_by steps step
    ∙ ap (λ z. z ++ item ∷ []) (sym (sent_to-lane plan sound rec (suc r) link planned)) in
    after_lane plan rec ins outs (set ins s (inbox ++ item ∷ [])) outs r step kept within lawful
    (length-set ins s (inbox ++ item ∷ [])) refl
    (sends-one plan rec rec' ins s to.bridge to.port item inbox at box grown
    (λ b q ne. sent_to-same plan rec rec' b q refl
    (λ e h. ap put (steps_of-set_other rec.lanes r (lane_to plan b q) (steps ++ step ∷ [])
    (λ leads. ne (lane_to-back plan sound b q (suc r) e link h leads planned))))))
    (fetches-nothing plan rec rec' outs (λ m. refl)
    (λ m. one_more-kept taken step (λ ms. ap items_in (flat_map-none taken_by step refl ms)) rec.lanes r m room))
