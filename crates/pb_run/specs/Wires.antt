-- The rings of a run: one into each local port of each bridge, and one out of it.
use Rattle.std.specs.Prelude.{◌≡◌, ℕ, ◌+◌, ◌-◌, ◌*◌, ◌≤◌, List, [], Some, slice_get, vec_len, length}
use Rattle.std.specs.declared.option.Option.{Option}
use Rattle.std.specs.declared.vec.Vec.{Vec}
use Rattle.rtrb.specs.Ring.{sent, received, IsPair}
use Rattle.rtrb.specs.declared.producer.Producer.{Producer}
use Rattle.rtrb.specs.declared.consumer.Consumer.{Consumer}
use Rattle.pb_lan.specs.Plans.{IsNumber}
use Rattle.pb_lan.specs.declared.plan.Plan.{Plan}
use Rattle.pb_ring.specs.Rings.{RingName, writer_name, reader_name}

-- the number of the ring from which a bridge receives at a local port
abbrev pub ring_into : ℕ → ℕ → ℕ
ring_into bridge port = 32 * (bridge - 1) + 2 * (port - 1)

-- the number of the ring onto which a bridge sends at a local port
abbrev pub ring_out : ℕ → ℕ → ℕ
ring_out bridge port = 32 * (bridge - 1) + 2 * (port - 1) + 1

-- both ends of each ring are a pair, and nothing has passed them
abbrev pub AreNew : {T A P : Type 0} → List (Producer T A P × Consumer T A P) → Type 0
AreNew {T} {A} {P} rings =
    (n : ℕ) (ring : Producer T A P × Consumer T A P) → slice_get rings n ≡ Some ring
    → IsPair ring.0 ring.1 × (sent ring.0 ≡ []) × (received ring.1 ≡ [])

-- the rings have these names, in order
abbrev pub AreNamed : {T A P : Type 0} → List (RingName A) → List (Producer T A P × Consumer T A P) → Type 0
AreNamed {T} {A} {P} names rings =
    (n : ℕ) (ring : Producer T A P × Consumer T A P) → slice_get rings n ≡ Some ring
    → (slice_get names n ≡ Some (writer_name ring.0)) × (slice_get names n ≡ Some (reader_name ring.1))

-- the rings of a plan: 32 for each bridge, which nothing has passed, with these names
pub record AreRingsOf {T A P Z : Type 0} (plan : Plan) (names : List (RingName A)) (rings : Vec (Producer T A P × Consumer T A P) Z) : Type 0 where
  pub new : AreNew rings.items
  pub named : AreNamed names rings.items
  pub count : vec_len rings ≡ 32 * length plan.bridges

-- no place has the end of this number yet
abbrev pub IsThere : {X : Type 0} → List (Option X) → ℕ → Type 0
IsThere {X} ends n = (x : X) × (slice_get ends n ≡ Some (Some x))

-- no place has the bridge's two ends at a local port yet
pub record HasInner {X Y : Type 0} (outlets : List (Option X)) (inlets : List (Option Y)) (at : ℕ × ℕ) : Type 0 where
  pub bridge : 1 ≤ at.0
  pub port : IsNumber at.1 16
  pub receiving : IsThere inlets (ring_into at.0 at.1)
  pub sending : IsThere outlets (ring_out at.0 at.1)

-- no place has the neighbour's two ends at a bridge's local port yet
pub record HasOuter {X Y : Type 0} (outlets : List (Option X)) (inlets : List (Option Y)) (at : ℕ × ℕ) : Type 0 where
  pub bridge : 1 ≤ at.0
  pub port : IsNumber at.1 16
  pub sending : IsThere outlets (ring_into at.0 at.1)
  pub receiving : IsThere inlets (ring_out at.0 at.1)
