use Rattle.std.proofs.Common.{subst}
use Rattle.pb_net.specs.Answers.{NetView}
use Rattle.pb_lan.specs.Records.{IsLawfulRecord}
use Rattle.pb_relay.specs.Protocol.{spanning_tree}
use Rattle.pb_lan.specs.Headline.{IsFaithful}
use Rattle.pb_lan.proofs.Headline.{faithful}
use Rattle.pb_net.proofs.KnownSpots.{rec_in}
use Rattle.pb_net.proofs.Records.{kept_lawful}
use Rattle.pb_net.proofs.net.Net.tallies.Goals as goal

pub returns-clause-lawful : goal.returns-clause-lawful
returns-clause-lawful c =
    let s = c.self.inside in
    rw (c.new.ensures, c.in_ok-bridges.ensures, c.in_ok-lanes.ensures, c.in_ok-customers.ensures)
    (subst (λ (v : NetView). IsLawfulRecord spanning_tree v.plan (rec_in s)) c.self.view_is
    (kept_lawful s.plan (rec_in s) _ _ c.self.invariant.0 c.self.invariant.2))

pub returns-clause-headline : goal.returns-clause-headline
returns-clause-headline c =
    let s = c.self.inside in
    rw (c.new.ensures, c.in_ok-bridges.ensures, c.in_ok-lanes.ensures, c.in_ok-customers.ensures)
    (subst (λ (v : NetView). IsFaithful v.plan (rec_in s)) c.self.view_is
    (faithful spanning_tree s.plan (rec_in s) c.self.invariant.0.sound
    (kept_lawful s.plan (rec_in s) _ _ c.self.invariant.0 c.self.invariant.2)))
