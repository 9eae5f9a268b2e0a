-- What a bridge does with a received frame, as its code has it.
use Rattle.std.specs.Prelude.{Bool, true, false}
use Rattle.pb_frame.specs.Tags.{vid_of}
use Rattle.pb_lan.specs.BridgeLists.{Ruling, first_case, customer_cases, bridge_cases, ruling_in}
use Rattle.pb_lan.specs.BridgeLists.Ruling.{Refuses, Listens, LearnsOnly, Carries, Closed}
use Rattle.pb_lan.specs.declared.shape.PortState.{PortState}
use Rattle.pb_lan.specs.declared.step.Item.{Item}
use Rattle.pb_relay.specs.Protocol.{spanning_tree}
use Rattle.pb_relay.specs.PortKinds.{LocalPort, serves_of}
use Rattle.pb_relay.specs.PortKinds.LocalPort.{ToCustomer, ToBridge, ToNobody}
use Rattle.pb_relay.specs.declared.verdict.Verdict.{Verdict}
use Rattle.pb_relay.specs.declared.verdict.Verdict.TheVariants.{Refuse, Hear, Learn, Carry}

-- the ruling that a verdict means
abbrev pub as_ruling : Verdict → Ruling
as_ruling (Refuse reason) = Refuses reason
as_ruling Hear = Listens
as_ruling (Learn vid) = LearnsOnly vid
as_ruling (Carry vid) = Carries vid

-- the port is used
abbrev pub is_to_somebody : LocalPort → Bool
is_to_somebody (ToCustomer vid pcp) = true
is_to_somebody (ToBridge start vids) = true
is_to_somebody ToNobody = false

-- the ruling on an item, by the configuration and the state of its port
abbrev pub local_ruling : LocalPort → PortState → Item → Ruling
local_ruling (ToCustomer vid pcp) state item = first_case (customer_cases item) (Carries vid)
local_ruling (ToBridge start vids) state item = first_case (bridge_cases spanning_tree.is_readable (serves_of vids) item) (ruling_in state (vid_of item.wire))
local_ruling ToNobody state item = Closed
