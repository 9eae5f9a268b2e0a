-- A lawful record of the two bridges of the worked examples.
use Rattle.std.proofs.Common.{◌≡◌, ℕ, subst, zero, suc, [], ◌∷◌, refl, false, Some, None, inr}
use Rattle.pb_frame.proofs.Lists.{Some-injective}
use Rattle.pb_lan.proofs.Rows.{no_bpdus, plan, into_1, over, out_2}
use Rattle.pb_lan.specs.BridgeLists.{IsLawfulBridge}
use Rattle.pb_lan.specs.Numbering.{numbered}
use Rattle.pb_lan.specs.PortLists.{IsLawfulPort}
use Rattle.pb_lan.specs.Records.{IsLawfulRecord, IsLawfulLink, MeetsCustomer, steps_of}
use Rattle.pb_lan.specs.declared.plan.LinkPlan.{LinkPlan}
use Rattle.pb_lan.specs.declared.plan.CustomerPlan.{CustomerPlan}
use Rattle.pb_lan.specs.declared.record.Record.{Record}
use Rattle.pb_lan.specs.declared.step.Outcome.TheVariants.{Relayed}
use Rattle.pb_lan.specs.declared.step.Step.TheVariants.{Poll, Feed, Deliver, Receive, Transmit, Take, Put}
use Rattle.pb_frame.specs.declared.learnt.Learnt.TheVariants.{New}

-- a broadcast that enters at customer port 1 leaves by customer port 2
abbrev pub rec : Record
rec = record {
  bridges = (Receive 2 into_1 (Some New) (Relayed (1 ∷ []) []) None ∷ Transmit 1 over ∷ [])
      ∷ (Receive 1 over (Some New) (Relayed (2 ∷ []) []) None ∷ Transmit 2 out_2 ∷ []) ∷ [];
  lanes = (Take 0 over false ∷ Put over ∷ []) ∷ [] ∷ [];
  customers = (Poll into_1 ∷ Feed into_1 ∷ []) ∷ (Deliver out_2 false ∷ []) ∷ [] ∷ [];
}

bridges_lawful : (number : ℕ) → IsLawfulBridge no_bpdus plan number (steps_of rec.bridges number)
bridges_lawful (suc zero) = (inr ((New, refl, (refl, refl, refl)), (refl, (refl, (refl, tt))), refl), (refl, tt))
bridges_lawful (suc (suc zero)) = (inr ((New, refl, (refl, refl, refl)), (refl, (refl, (refl, tt))), refl), (refl, tt))
bridges_lawful _ = tt

link_lawful : (number : ℕ) (link : LinkPlan) → numbered plan.links number ≡ Some link → IsLawfulLink rec number link
link_lawful zero link h = cc
link_lawful (suc zero) link h = subst (λ l. IsLawfulLink rec 1 l) (Some-injective h) (record {
  ab = record { kinds = (tt, (tt, tt)); counted = (refl, refl, tt); held = (None, refl) };
  ba = record { kinds = tt; counted = tt; held = (None, refl) };
  meets_ab = record { onto = ([], refl); off = ([], refl) };
  meets_ba = record { onto = ([], refl); off = ([], refl) };
})
link_lawful (suc (suc n)) link h = cc

ports_lawful : (number : ℕ) → IsLawfulPort number (steps_of rec.customers number)
ports_lawful (suc zero) = record { kinds = (tt, (tt, tt)); marked = (refl, refl, tt); held = (None, refl) }
ports_lawful (suc (suc zero)) = record { kinds = (tt, tt); marked = tt; held = (None, refl) }
ports_lawful (suc (suc (suc zero))) = record { kinds = tt; marked = tt; held = (None, refl) }
ports_lawful _ = record { kinds = tt; marked = tt; held = (None, refl) }

customers_lawful : (number : ℕ) (c : CustomerPlan) → numbered plan.customers number ≡ Some c
    → MeetsCustomer rec number c
customers_lawful (suc zero) c h = subst (λ d. MeetsCustomer rec 1 d) (Some-injective h)
    (record { into = ([], refl); out = ([], refl) })
customers_lawful (suc (suc zero)) c h = subst (λ d. MeetsCustomer rec 2 d) (Some-injective h)
    (record { into = ([], refl); out = ([], refl) })
customers_lawful (suc (suc (suc zero))) c h = subst (λ d. MeetsCustomer rec 3 d) (Some-injective h)
    (record { into = ([], refl); out = ([], refl) })
customers_lawful _ c h = cc

pub record_lawful : IsLawfulRecord no_bpdus plan rec
record_lawful = record {
  bridge_count = refl;
  lane_count = refl;
  customer_count = refl;
  bridges = bridges_lawful;
  links = link_lawful;
  ports = ports_lawful;
  customers = customers_lawful;
}
