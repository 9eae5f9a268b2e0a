use Rattle.std.proofs.Common.{List, map, sym, subst, rules}
use Rattle.std.specs.Prelude.{nat_eq}
use Rattle.std.specs.List.{IsDistinct}
use Rattle.toml.specs.View.{table_view}
use Rattle.pb_frame.specs.Admission.{same}
use Rattle.pb_lan.specs.declared.plan.BridgePlan.{BridgePlan}
use Rattle.pb_lan.specs.declared.plan.ServicePlan.{ServicePlan}
use Rattle.pb_service.proofs.Soundness.{plan_sound}
use Rattle.pb_service.proofs.document.file_of.Goals as goal

pub returns-clause-sound : goal.returns-clause-sound
returns-clause-sound c = plan_sound (table_view c.args.document.now) _ c.in_ok-customers.specs.items (search rules)
    (record {
      bridge_names = c.in_ok-bridges.ensures.names;
      link_names = c.in_ok-links.ensures.names;
      service_names = c.in_ok-services.ensures.names;
      port_names = c.in_ok-customers.ensures.names;
      addresses = subst (λ (bs : List BridgePlan). IsDistinct same (map (λ b. b.address.0) bs)) (sym c.from_vec.ensures)
          c.in_ok-bridges.ensures.addresses;
      vids = subst (λ (ss : List ServicePlan). IsDistinct nat_eq (map (λ s. s.vid) ss)) (sym c.from_vec-3.ensures)
          c.in_ok-services.ensures.vids;
      ports = c.in_ok-customers.ensures.once;
    })
