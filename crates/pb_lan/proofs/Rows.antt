-- Worked examples of the definitions. Two bridges have a link from port 1 to port 1. Service red (VID 100) has customer
-- port 1 (bridge 1, port 2) and 2 (bridge 2, port 2), and service blue (VID 200) has 3 (bridge 2, port 3).
use Rattle.std.proofs.Common.{◌≡◌, ℕ, ◌+◌, List, [], ◌∷◌, ◌++◌, refl, true, false, Some, None, replicate, inr, ap}
use Rattle.std.proofs.Common.{arith, slice_index, inl}
use Rattle.pb_lan.proofs.ForestEdges.{Edge, trees_of}
use Rattle.pb_lan.proofs.UniqueWalks.{Walk, walk-unique}
use Rattle.pb_frame.specs.Admission.{block}
use Rattle.pb_lan.specs.BridgeLists.{ruling, replaced_by, IsLawfulBridge, Fits}
use Rattle.pb_lan.specs.Choice.{chosen_ports, found}
use Rattle.pb_lan.specs.Forests.{IsForest}
use Rattle.pb_lan.specs.Ports.{port_at}
use Rattle.pb_frame.specs.Tags.{tagged}
use Rattle.pb_lan.specs.Queues.{copy_of, is_full, own_class, waiting}
use Rattle.pb_lan.specs.Rules.{Rules, nothing}
use Rattle.pb_lan.specs.Shapes.{start_shape, is_active}
use Rattle.pb_lan.specs.BridgeLists.Ruling.{Refuses, Carries}
use Rattle.pb_lan.specs.declared.plan.Plan.{Plan}
use Rattle.pb_lan.specs.declared.plan.End.{End}
use Rattle.pb_lan.specs.declared.plan.BridgePlan.{BridgePlan}
use Rattle.pb_lan.specs.declared.plan.LinkPlan.{LinkPlan}
use Rattle.pb_lan.specs.declared.plan.CustomerPlan.{CustomerPlan}
use Rattle.pb_lan.specs.declared.plan.Queues.TheVariants.{PerPort, PerClass}
use Rattle.pb_lan.specs.declared.plan.Spanning.TheVariants.{Fixed}
use Rattle.pb_lan.specs.declared.shape.PortState.TheVariants.{Discarding, Forwarding}
use Rattle.pb_lan.specs.declared.step.Item.{Item}
use Rattle.pb_lan.specs.declared.step.NoRoom.TheVariants.{Full}
use Rattle.pb_lan.specs.declared.step.Outcome.TheVariants.{Relayed}
use Rattle.pb_frame.specs.declared.reason.Reason.TheVariants.{NotForwarding, Reserved, Malformed, STagged, Long}
use Rattle.pb_lan.specs.declared.step.Step.{Step}
use Rattle.pb_lan.specs.declared.step.Step.TheVariants.{Receive, Transmit, Tick, Admin}
use Rattle.pb_frame.specs.declared.learnt.Learnt.TheVariants.{New, Kept}

abbrev pub no_bpdus : Rules
no_bpdus = record { is_readable = λ x. false; change = λ plan bridge earlier cause. nothing }

abbrev pub an_end : ℕ → ℕ → End
an_end bridge port = record {
  bridge = bridge;
  port = port;
  cost = 20000;
  priority = 128;
  start = Forwarding;
  services = None;
}

abbrev pub bridge_of : ℕ → ℕ → BridgePlan
bridge_of n queue = record {
  name = 66 ∷ (48 + n) ∷ [];
  address = record { 0 = 2 ∷ 0 ∷ 0 ∷ 0 ∷ 0 ∷ n ∷ [] };
  priority = 32768;
  queue = queue;
}

abbrev pub customer_of : ℕ → ℕ → ℕ → ℕ → CustomerPlan
customer_of n bridge port service =
    record { name = 67 ∷ (48 + n) ∷ []; bridge = bridge; port = port; service = service; pcp = 0; queue = 64 }

abbrev pub link_of : ℕ → ℕ → ℕ → LinkPlan
link_of n a b = record { name = 76 ∷ (48 + n) ∷ []; a = an_end 1 a; b = an_end 2 b; lost_ab = []; lost_ba = [] }

abbrev pub plan_with : List LinkPlan → Plan
plan_with links = record {
  bridges = bridge_of 1 64 ∷ bridge_of 2 64 ∷ [];
  links = links;
  services = record { name = 114 ∷ []; vid = 100 } ∷ record { name = 98 ∷ []; vid = 200 } ∷ [];
  customers = customer_of 1 1 2 1 ∷ customer_of 2 2 2 1 ∷ customer_of 3 2 3 2 ∷ [];
  spanning = Fixed;
  prompt = false;
  queues = PerPort;
  ageing = 300;
  ring = 64;
  steps = 1000000;
}

abbrev pub plan : Plan
plan = plan_with (link_of 1 1 1 ∷ [])

abbrev pub addresses : List ℕ
addresses = 255 ∷ 255 ∷ 255 ∷ 255 ∷ 255 ∷ 255 ∷ 2 ∷ 0 ∷ 0 ∷ 0 ∷ 1 ∷ 1 ∷ []

abbrev pub broadcast : List ℕ
broadcast = addresses ++ 8 ∷ 0 ∷ 65 ∷ 66 ∷ []

abbrev pub item_of : ℕ → ℕ → List ℕ → Item
item_of number hops wire = record { mark = Some (record { port = 1; number = number }); hops = hops; wire = wire }

abbrev pub to : List ℕ → Item
to address = item_of 0 0 (address ++ 2 ∷ 0 ∷ 0 ∷ 0 ∷ 1 ∷ 1 ∷ 0 ∷ 7 ∷ 66 ∷ 66 ∷ 3 ∷ 0 ∷ 0 ∷ 0 ∷ 128 ∷ [])

-- the rulings on frames at customer port 1
carried : ruling no_bpdus plan 1 [] 2 (to (block 0)) ≡ Carries 100
carried = refl

reserved : (ruling no_bpdus plan 1 [] 2 (to (block 8)) ≡ Refuses (Reserved 8))
    × (ruling no_bpdus plan 1 [] 2 (to (block 1)) ≡ Refuses (Reserved 1))
    × (ruling no_bpdus plan 1 [] 2 (to (block 14)) ≡ Refuses (Reserved 14))
    × (ruling no_bpdus plan 1 [] 2 (to (block 11)) ≡ Carries 100)
    × (ruling no_bpdus plan 1 [] 2 (to (block 15)) ≡ Carries 100)
reserved = (refl, refl, refl, refl, refl)

abbrev pub of_length : ℕ → Item
of_length n = item_of 0 0 (addresses ++ replicate n 7)

lengths : (ruling no_bpdus plan 1 [] 2 (of_length 1) ≡ Refuses Malformed)
    × (ruling no_bpdus plan 1 [] 2 (of_length 2) ≡ Carries 100)
    × (ruling no_bpdus plan 1 [] 2 (of_length 1980) ≡ Carries 100)
    × (ruling no_bpdus plan 1 [] 2 (of_length 1981) ≡ Refuses Long)
lengths = (refl, refl, refl, refl)

service_tagged : ruling no_bpdus plan 1 [] 2 (item_of 0 0 (addresses ++ 136 ∷ 168 ∷ 0 ∷ 100 ∷ 8 ∷ 0 ∷ [])) ≡ Refuses
    STagged
service_tagged = refl

-- a C-tag is part of the data
on_link : (copy_of plan (port_at plan 1 2) (port_at plan 1 1)
    (item_of 0 0 (addresses ++ 129 ∷ 0 ∷ 32 ∷ 5 ∷ 8 ∷ 0 ∷ 65 ∷ 66 ∷ []))).wire
    ≡ addresses ++ 136 ∷ 168 ∷ 0 ∷ 100 ∷ 129 ∷ 0 ∷ 32 ∷ 5 ∷ 8 ∷ 0 ∷ 65 ∷ 66 ∷ []
on_link = refl

-- a broadcast as it enters at customer port 1, on the link, and as it leaves by customer port 2
abbrev pub into_1 : Item
into_1 = item_of 0 0 broadcast

abbrev pub over : Item
over = item_of 0 1 (addresses ++ 136 ∷ 168 ∷ 0 ∷ 100 ∷ 8 ∷ 0 ∷ 65 ∷ 66 ∷ [])

abbrev pub out_2 : Item
out_2 = item_of 0 2 broadcast

-- a station of blue is unknown in red, and a frame to it is flooded
abbrev pub station : List ℕ
station = 2 ∷ 0 ∷ 0 ∷ 0 ∷ 3 ∷ 3 ∷ []

abbrev pub from_3 : List Step
from_3 = Receive 1 (record {
  mark = None;
  hops = 1;
  wire = (255 ∷ 255 ∷ 255 ∷ 255 ∷ 255 ∷ 255 ∷ []) ++ station ++ 136 ∷ 168 ∷ 0 ∷ 200 ∷ 8 ∷ 0 ∷ [];
}) (Some New) (Relayed [] []) None ∷ []

apart : (found plan 1 from_3 200 station ≡ Some 1) × (found plan 1 from_3 100 station ≡ None)
    × (chosen_ports plan 1 from_3 2 100 (station ++ addresses) ≡ 1 ∷ [])
apart = (refl, refl, refl)

-- with a second link the shape is no forest
abbrev pub doubled : Plan
doubled = plan_with (link_of 1 1 1 ∷ link_of 2 3 4 ∷ [])

both : (chosen_ports doubled 1 [] 2 100 broadcast ≡ 1 ∷ 3 ∷ [])
    × (chosen_ports doubled 2 [] 1 100 broadcast ≡ 2 ∷ 4 ∷ [])
    × (is_active doubled (start_shape doubled) 100 (link_of 1 1 1) ≡ true)
    × (is_active doubled (start_shape doubled) 100 (link_of 2 3 4) ≡ true)
both = (refl, refl, refl, refl)

no_forest : IsForest doubled (start_shape doubled) 100 → ⊥
no_forest (rooted, shows) =
    let edge : ℕ → ℕ → ℕ → Type 0 = Edge doubled (start_shape doubled) 100 in
    let one : Walk edge 1 (1 ∷ []) 2 = (
      1,
      (
        an_end 1 1,
        an_end 2 1,
        record {
          link = link_of 1 1 1;
          numbered_so = refl;
          active = refl;
          ends = inl (refl, refl);
        },
        refl,
        refl,
      ),
      tt,
      refl,
    ) in
    let other : Walk edge 1 (2 ∷ []) 2 = (
      1,
      (
        an_end 1 3,
        an_end 2 4,
        record {
          link = link_of 2 3 4;
          numbered_so = refl;
          active = refl;
          ends = inl (refl, refl);
        },
        refl,
        refl,
      ),
      tt,
      refl,
    ) in
    let by_one : List ℕ = 1 ∷ [] in
    let by_two : List ℕ = 2 ∷ [] in
    let same_walk : by_one ≡ by_two = walk-unique (trees_of doubled (start_shape doubled) 100 rooted shows) 1 by_one
    by_two 2 one other in
    let same_link : slice_index by_one 0 ≡ slice_index by_two 0 = ap (λ xs. slice_index xs 0) same_walk in
    omega (arith, same_link)

-- if the plan gives the states, a disabled port is Discarding and flushed
abbrev pub down : Step
down = Admin 1 false (record {
  states = (1, Discarding) ∷ [];
  flushed = 1 ∷ [];
  queued = [];
  replaced = [];
  dropped =
      [];
})

down_fits : Fits no_bpdus plan 1 [] down
down_fits = (
  refl,
  record {
    states = refl;
    flushed = refl;
    queued = refl;
    replaced = refl;
    dropped = (refl, tt);
    own = tt;
  },
)

after_down : (chosen_ports plan 1 (down ∷ []) 2 100 broadcast ≡ [])
    × (ruling no_bpdus plan 1 (down ∷ []) 1 over ≡ Refuses NotForwarding)
after_down = (refl, refl)

-- one bridge with three customer ports of a service and queues of one item
abbrev pub small : Plan
small = record {
  bridges = bridge_of 1 1 ∷ [];
  links = [];
  services = record { name = 114 ∷ []; vid = 100 } ∷ [];
  customers = customer_of 1 1 1 1 ∷ customer_of 2 1 2 1 ∷ customer_of 3 1 3 1 ∷ [];
  spanning = Fixed;
  prompt = false;
  queues = PerPort;
  ageing = 300;
  ring = 64;
  steps = 1000000;
}

abbrev pub full : List Step
full = Receive 1 (item_of 0 0 broadcast) (Some New) (Relayed (2 ∷ 3 ∷ []) []) None
    ∷ Transmit 3 (item_of 0 1 broadcast)
    ∷ Receive 1 (item_of 1 0 broadcast) (Some Kept) (Relayed (2 ∷ 3 ∷ []) ((2, Full) ∷ [])) None
    ∷ []

full_fits : IsLawfulBridge no_bpdus small 1 full
full_fits = (
  inr ((New, refl, (refl, refl, refl)), (refl, (refl, (refl, (refl, tt)))), refl),
  (
    refl,
    (inr ((Kept, refl, (refl, refl)), (refl, (refl, (refl, (refl, tt)))), refl), tt),
  ),
)

-- the same bridge with a queue for each class: a frame of priority 7 finds its own queue empty, and the second one of
-- priority 0 finds its queue full
abbrev pub by_class : Plan
by_class = record small { queues = PerClass }

abbrev pub urgent : List ℕ
urgent = tagged broadcast 7 0 0

abbrev pub classes : List Step
classes = Receive 1 (item_of 0 0 broadcast) (Some New) (Relayed (2 ∷ 3 ∷ []) []) None
    ∷ Receive 1 (item_of 1 0 urgent) (Some Kept) (Relayed (2 ∷ 3 ∷ []) []) None
    ∷ Transmit 3 (item_of 1 1 broadcast)
    ∷ Receive 1 (item_of 2 0 broadcast) (Some Kept) (Relayed (2 ∷ 3 ∷ []) ((2, Full) ∷ (3, Full) ∷ [])) None
    ∷ []

-- a bridge's own BPDU leaves before all frames, and a newer one takes its place
abbrev pub bpdu_of : ℕ → Item
bpdu_of n = record { mark = None; hops = 0; wire = n ∷ [] }

abbrev pub queues_bpdu : ℕ → List (ℕ × Item) → Step
queues_bpdu n replaced =
    Tick n (record { states = []; flushed = []; queued = (2, bpdu_of n) ∷ []; replaced = replaced; dropped = [] })

bpdus_wait : waiting by_class 1 2 (classes ++ queues_bpdu 1 [] ∷ queues_bpdu 2 ((2, bpdu_of 1) ∷ []) ∷ [])
    ≡ record { class = 1; item = item_of 0 1 broadcast } ∷ record { class = 7; item = item_of 1 1 broadcast }
    ∷ record { class = 8; item = bpdu_of 2 } ∷ []
bpdus_wait = refl

bpdu_replaced : replaced_by by_class 1 (classes ++ queues_bpdu 1 [] ∷ []) ((2, bpdu_of 2) ∷ []) ≡ (2, bpdu_of 1) ∷ []
bpdu_replaced = refl

never_full : is_full by_class 1 (classes ++ queues_bpdu 1 [] ∷ []) (own_class PerClass) 2 ≡ false
never_full = refl

classes_fit : IsLawfulBridge no_bpdus by_class 1 classes
classes_fit = (
  inr ((New, refl, (refl, refl, refl)), (refl, (refl, (refl, (refl, tt)))), refl),
  (
    inr ((Kept, refl, (refl, refl)), (refl, (refl, (refl, (refl, tt)))), refl),
    (refl, (inr ((Kept, refl, (refl, refl)), (refl, (refl, (refl, (refl, tt)))), refl), tt)),
  ),
)
