-- The plan of a network with one bridge.
use Rattle.std.specs.Prelude.{ℕ, zero, suc, ◌+◌, false, List, [], ◌∷◌, ◌++◌}
use Rattle.pb_frame.specs.declared.mac.Mac.{Mac}
use Rattle.pb_lan.specs.Plans.{default_ageing}
use Rattle.pb_lan.specs.declared.plan.Plan.{Plan}
use Rattle.pb_lan.specs.declared.plan.BridgePlan.{BridgePlan}
use Rattle.pb_lan.specs.declared.plan.CustomerPlan.{CustomerPlan}
use Rattle.pb_lan.specs.declared.plan.ServicePlan.{ServicePlan}
use Rattle.pb_lan.specs.declared.plan.Queues.TheVariants.{PerPort}
use Rattle.pb_lan.specs.declared.plan.Spanning.TheVariants.{Fixed}

-- a locally administered address: 02-00-00-00-00-01
abbrev pub flat_address : Mac
flat_address = record { 0 = 2 ∷ 0 ∷ 0 ∷ 0 ∷ 0 ∷ 1 ∷ [] }

abbrev pub flat_bridge : BridgePlan
flat_bridge = record { name = 98 ∷ []; address = flat_address; priority = 32768; queue = 64 }

abbrev pub flat_service : ServicePlan
flat_service = record { name = 115 ∷ []; vid = 100 }

-- the customer port with this number, at the local port with the same number, with a letter as its name
abbrev pub flat_customer : ℕ → CustomerPlan
flat_customer number = record { name = (96 + number) ∷ []; bridge = 1; port = number; service = 1; pcp = 0; queue = 64 }

abbrev pub flat_customers : ℕ → List CustomerPlan
flat_customers zero = []
flat_customers (suc n) = flat_customers n ++ flat_customer (suc n) ∷ []

-- the plan of one bridge with so many customer ports, all of one service with VID 100, and the default limits
abbrev pub flat_plan : ℕ → Plan
flat_plan ports = record {
  bridges = flat_bridge ∷ [];
  links = [];
  services = flat_service ∷ [];
  customers = flat_customers ports;
  spanning = Fixed;
  prompt = false;
  queues = PerPort;
  ageing = default_ageing;
  ring = 64;
  steps = 18446744073709551615;
}
