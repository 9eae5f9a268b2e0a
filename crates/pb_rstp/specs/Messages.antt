-- The BPDUs that a bridge sends, and what it stores of received ones.
use Rattle.std.specs.Prelude.{ℕ, ◌+◌, ◌*◌, ◌/◌, ◌<◌, Bool, true, List, [], ◌∷◌, Some, None, min, max, nat_lt, nat_le, ◌==◌, ◌&&◌, ◌||◌, not}
use Rattle.std.specs.declared.option.Option.{Option}
use Rattle.std.proofs.Common.{lit<}
use Rattle.pb_bpdu.specs.declared.bpdu.Bpdu.{Bpdu}
use Rattle.pb_rstp.specs.Vectors.{is_before}
use Rattle.pb_rstp.specs.Ports.{id_of, is_designated, is_discarding, root_info}
use Rattle.pb_lan.specs.Shapes.{is_forwarding}
use Rattle.pb_rstp.specs.declared.port.Info.{Info}
use Rattle.pb_rstp.specs.declared.port.Port.{Port}
use Rattle.pb_rstp.specs.Roles.{root_vector}
use Rattle.pb_rstp.specs.declared.message.Times.{Times}
use Rattle.pb_rstp.specs.declared.vector.Vector.{Vector}
use Rattle.pb_rstp.specs.declared.role.Role.{Role}
use Rattle.pb_rstp.specs.declared.role.Role.TheVariants.{Disabled, Root, Designated, Alternate, Backup}

-- the Port Role in the flags of a BPDU (clause 9.3.3)
abbrev pub role_code : Role → ℕ
role_code Disabled = 0
role_code Alternate = 1
role_code Backup = 1
role_code Root = 2
role_code Designated = 3

-- a Port Role fits two bits
pub role_code-fits : (role : Role) → role_code role < 4
role_code-fits Disabled = lit< tt
role_code-fits Alternate = lit< tt
role_code-fits Backup = lit< tt
role_code-fits Root = lit< tt
role_code-fits Designated = lit< tt

-- the times of a bridge's BPDUs: the root's own, or the stored ones with a Message Age that is one second higher
-- (clause 17.21.25)
abbrev pub times_by : Option Info → Times
times_by None = record { message_age = 0; max_age = 5120; hello_time = 512; forward_delay = 3840 }
times_by (Some info) = record {
  message_age = min (info.message_age + 256) 65535;
  max_age = info.max_age;
  hello_time = info.hello_time;
  forward_delay = info.forward_delay;
}

-- all four times are equal
abbrev pub is_same_times : Times → Times → Bool
is_same_times s t =
    s.message_age == t.message_age && s.max_age == t.max_age && s.hello_time == t.hello_time
    && s.forward_delay == t.forward_delay

-- the BPDU of a port, by the bridge's identifier, its root priority vector and its times (clause 17.21.20)
abbrev pub message : ℕ → Vector → Times → Port → Bpdu
message id root times p = record {
  change = nat_lt 0 p.tc_while;
  proposal = is_designated p.role && not (is_forwarding p.state);
  role = role_code p.role;
  learning = not (is_discarding p.state);
  forwarding = is_forwarding p.state;
  agreement = p.agree;
  root = root.root;
  cost = root.cost;
  bridge = id;
  port = id_of p;
  age = times.message_age;
  max_age = times.max_age;
  hello = times.hello_time;
  delay = times.forward_delay;
  role_fits = role_code-fits p.role;
}

-- the BPDU of a port, by the ports of its bridge (clause 17.21.20)
abbrev pub message_of : ℕ → List Port → Port → Bpdu
message_of id ports p = message id (root_vector id ports) (times_by (root_info ports)) p

-- the BPDU comes from a Designated port
abbrev pub is_from_designated : Bpdu → Bool
is_from_designated m = m.role == 3

-- the BPDU comes from a Root, Alternate or Backup port and has the agreement flag (clause 17.21.9)
abbrev pub is_agreement : Bpdu → Bool
is_agreement m = (m.role == 1 || m.role == 2) && m.agreement

-- the message priority vector of a BPDU, without the receiving port (clause 17.6)
abbrev pub told : Bpdu → List ℕ
told m = m.root ∷ m.cost ∷ m.bridge ∷ m.port ∷ []

-- the same four components of what a port stores
abbrev pub known : Info → List ℕ
known info = info.root ∷ info.cost ∷ info.bridge ∷ info.port ∷ []

-- the BPDU is better than what the port stores, or comes from the port that sent that (clause 17.21.8)
abbrev pub is_superior : Bpdu → Option Info → Bool
is_superior m None = true
is_superior m (Some info) = is_before (told m) (known info) || (m.bridge == info.bridge && m.port == info.port)

-- the Message Age of the BPDU, one second higher, is at most its Max Age (clause 17.21.23)
abbrev pub is_young : Bpdu → Bool
is_young m = nat_le (m.age + 256) m.max_age

-- what a port stores of a BPDU, and for how long: three times its Hello Time (clause 17.21.23)
abbrev pub info_of : Bpdu → Info
info_of m = record {
  root = m.root;
  cost = m.cost;
  bridge = m.bridge;
  port = m.port;
  message_age = m.age;
  max_age = m.max_age;
  hello_time = m.hello;
  forward_delay = m.delay;
  rcvd_info_while = 3 * max 1 (m.hello / 256);
}
