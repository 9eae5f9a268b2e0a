use Rattle.std.proofs.Common.{subst}
use Rattle.pb_link.specs.Hands.{PlaceView}
use Rattle.pb_link.specs.Lanes.{LaneView}
use Rattle.pb_relay.specs.Standing.{BridgeView}
use Rattle.pb_net.specs.Answers.{NetView}
use Rattle.pb_lan.specs.Records.{IsLawfulRecord}
use Rattle.pb_relay.specs.Protocol.{spanning_tree}
use Rattle.pb_lan.specs.Headline.{IsFaithful}
use Rattle.pb_lan.proofs.Headline.{faithful}
use Rattle.pb_net.proofs.KnownSpots.{rec_in}
use Rattle.pb_net.proofs.Records.{all_kept, kept_lawful}
use Rattle.pb_net.proofs.net.Net.finish.Goals as goal

pub bridge_steps-requires-clause-kept : goal.bridge_steps-requires-clause-kept
bridge_steps-requires-clause-kept c =
    let s = c.self.inside in
    all_kept (λ (b : BridgeView). b.is_kept) s.bridges.items s c.self.view_is c.requires c.self.invariant.1.kept_bridges

pub lane_steps-requires-clause-kept : goal.lane_steps-requires-clause-kept
lane_steps-requires-clause-kept c =
    let s = c.self.inside in
    all_kept (λ (l : LaneView). l.is_kept) s.lanes.items s c.self.view_is c.requires c.self.invariant.1.kept_lanes

pub customer_steps-requires-clause-kept : goal.customer_steps-requires-clause-kept
customer_steps-requires-clause-kept c =
    let s = c.self.inside in
    all_kept (λ (p : PlaceView). p.is_kept) s.customers.items s c.self.view_is c.requires
    c.self.invariant.1.kept_customers

pub returns-clause-lawful : goal.returns-clause-lawful
returns-clause-lawful c =
    let s = c.self.inside in
    rw (c.bridge_steps.ensures, c.lane_steps.ensures, c.customer_steps.ensures)
    (subst (λ (v : NetView). IsLawfulRecord spanning_tree v.plan (rec_in s)) c.self.view_is
    (kept_lawful s.plan (rec_in s) _ _ c.self.invariant.0 c.self.invariant.2))

pub returns-clause-headline : goal.returns-clause-headline
returns-clause-headline c =
    let s = c.self.inside in
    rw (c.bridge_steps.ensures, c.lane_steps.ensures, c.customer_steps.ensures)
    (subst (λ (v : NetView). IsFaithful v.plan (rec_in s)) c.self.view_is
    (faithful spanning_tree s.plan (rec_in s) c.self.invariant.0.sound
    (kept_lawful s.plan (rec_in s) _ _ c.self.invariant.0 c.self.invariant.2)))
