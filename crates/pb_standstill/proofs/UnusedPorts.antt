-- Nothing waits at a local port that the plan does not use.
use Rattle.std.proofs.Common.{◌≡◌, ℕ, true, List, [], ◌∷◌, ◌++◌, refl, subst}
use Rattle.pb_frame.proofs.Lists.{All-append}
use Rattle.pb_lan.proofs.Carriage.{queued-all, Spreads}
use Rattle.pb_lan.proofs.Rulings.{chosen-there}
use Rattle.pb_lan.proofs.SentWasQueued.{AllQueued, AllWaiting, after_replacing-All, after_sending-All}
use Rattle.pb_lan.specs.Ports.{Port, port_at, is_member, is_provider, is_used}
use Rattle.pb_lan.specs.Ports.Port.{Customer, Provider, Unused}
use Rattle.pb_lan.specs.Queues.{Waiting, after_replacing, after_sending, queued_by, waiting_from}
use Rattle.pb_lan.specs.Records.{steps_of, IsLawfulRecord}
use Rattle.pb_lan.specs.Rules.{Rules}
use Rattle.pb_lan.specs.declared.plan.Plan.{Plan}
use Rattle.pb_lan.specs.declared.record.Record.{Record}
use Rattle.pb_lan.specs.declared.step.Item.{Item}
use Rattle.pb_lan.specs.declared.step.Step.{Step}
use Rattle.pb_standstill.specs.Waits.{queue_at}

-- a port that is a member of a service is used
pub member_used : (plan : Plan) (vid : ℕ) (port : Port) → is_member plan vid port ≡ true → is_used port ≡ true
member_used plan vid (Customer c) h = refl
member_used plan vid (Provider e) h = refl
member_used plan vid Unused h = cc

provider_used : (port : Port) → is_provider port ≡ true → is_used port ≡ true
provider_used (Customer c) h = refl
provider_used (Provider e) h = refl
provider_used Unused h = cc

-- a property of what waited, and of what was queued, holds of what waits
waits_as_queued : (P : Item → Type 0) (plan : Plan) (b r : ℕ) (ws : List Waiting) (steps : List Step)
    → AllWaiting P ws → AllQueued P plan b r steps → AllWaiting P (waiting_from plan b r ws steps)
waits_as_queued P plan b r ws [] a q = a
waits_as_queued P plan b r ws (step ∷ steps) a q =
    waits_as_queued P plan b r (after_sending r step (after_replacing plan r step ws ++ queued_by plan b r step)) steps
    (after_sending-All (λ w. P w.item) r step (after_replacing plan r step ws ++ queued_by plan b r step)
    (All-append (λ w. P w.item) (after_replacing plan r step ws) (queued_by plan b r step)
    (after_replacing-All (λ w. P w.item) plan r step ws a) q.0)) q.1

-- a port at which an item is queued is used
used_spreads : (rules : Rules) (plan : Plan) (rec : Record)
    → Spreads rules plan rec (λ b q item. Unit {0}) (λ b q item. is_used (port_at plan b q) ≡ true)
used_spreads rules plan rec = record {
  enters = λ k c at item e. tt;
  crosses = λ k link near far at ends item h. tt;
  unused = λ b q h item. tt;
  own = λ b q item h. provider_used (port_at plan b q) h.3;
  relays = λ b r earlier later q item learnt chosen refused moved at follows here known.
      let there = chosen-there rules plan b r earlier q item learnt chosen refused moved follows here in
      member_used plan _ (port_at plan b r) there.member;
}

-- the queue of a port that the plan does not use is empty
pub unused_empty : (rules : Rules) (plan : Plan) (rec : Record) → IsLawfulRecord rules plan rec → (b q : ℕ)
    → port_at plan b q ≡ Unused → queue_at plan rec b q ≡ []
unused_empty rules plan rec lawful b q h =
    by (queue_at plan rec b q)
    (waits_as_queued (λ item. is_used (port_at plan b q) ≡ true) plan b q [] (steps_of rec.bridges b) tt
    (queued-all rules plan rec (λ b q item. Unit {0}) (λ b q item. is_used (port_at plan b q) ≡ true)
    (used_spreads rules plan rec) lawful b q))
  where
    by : (ws : List Waiting) → AllWaiting (λ item. is_used (port_at plan b q) ≡ true) ws → ws ≡ []
    by [] a = refl
    by (w ∷ ws) a = let u : is_used Unused ≡ true = subst (λ p. is_used p ≡ true) h a.0 in cc
