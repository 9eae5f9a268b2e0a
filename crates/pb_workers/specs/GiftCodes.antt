-- What workers are given has codes: that of the tuple of its parts.
use Rattle.std.specs.Prelude.{ℕ, List, refl}
use Rattle.std.specs.Coded.{Coded, code_by, coded×, coded_list, coded_ℕ}
use Rattle.pb_workers.specs.declared.was.Was.{Was}
use Rattle.pb_lan.specs.declared.plan.Plan.{Plan}
use Rattle.pb_threads.proofs.Codes.{coded_plan}
use Rattle.pb_workers.specs.declared.gift.BridgeGift.{BridgeGift}
use Rattle.pb_workers.specs.declared.gift.CustomerGift.{CustomerGift}
use Rattle.pb_workers.specs.declared.gift.LaneGift.{LaneGift}

abbrev numbers : Coded (List ℕ)
numbers = coded_list coded_ℕ

abbrev bridge_of : ℕ × (ℕ × (Plan × (List ℕ × List ℕ))) → BridgeGift
bridge_of (worker, (bridge, (plan, (ins, outs)))) = record { worker = worker; bridge = bridge; plan = plan; ins = ins; outs = outs }

abbrev pub bridge_gift : Coded BridgeGift
bridge_gift =
    code_by
    (ℕ × (ℕ × (Plan × (List ℕ × List ℕ))))
    (coded× coded_ℕ (coded× coded_ℕ (coded× coded_plan (coded× numbers numbers))))
    (λ g. (g.worker, (g.bridge, (g.plan, (g.ins, g.outs)))))
    bridge_of
    (λ _. refl)

abbrev lane_of : ℕ × (ℕ × (ℕ × List ℕ)) → LaneGift
lane_of (number, (from, (to, losses))) = record { number = number; from = from; to = to; losses = losses }

abbrev pub lane_gift : Coded LaneGift
lane_gift =
    code_by
    (ℕ × (ℕ × (ℕ × List ℕ)))
    (coded× coded_ℕ (coded× coded_ℕ (coded× coded_ℕ numbers)))
    (λ g. (g.number, (g.from, (g.to, g.losses))))
    lane_of
    (λ _. refl)

abbrev was_of : {P : Type 0} → P → Was P
was_of port = record { of = record {}; value = port }

abbrev customer_of : {P : Type 0} → P × (ℕ × (ℕ × (ℕ × ℕ))) → CustomerGift P
customer_of (was, (book, (place, (feed, drain)))) =
    record {
      was = was_of was;
      book = book;
      access = record { place = place; feed = feed; drain = drain };
    }

abbrev pub customer_gift : {P : Type 0} → Coded P → Coded (CustomerGift P)
customer_gift {P} port =
    code_by
    (P × (ℕ × (ℕ × (ℕ × ℕ))))
    (coded× port (coded× coded_ℕ (coded× coded_ℕ (coded× coded_ℕ coded_ℕ))))
    (λ g. (g.was.value, (g.book, (g.access.place, (g.access.feed, g.access.drain)))))
    customer_of
    (λ _. refl)
