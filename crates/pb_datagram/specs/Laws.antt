-- Laws of the datagrams that ports send and receive.
use Rattle.std.specs.Prelude.{◌≡◌, ◌≤◌, ℕ, List, length}
use Rattle.pb_datagram.specs.declared.encapsulation.Encapsulation.{Encapsulation}
use Rattle.pb_datagram.specs.declared.tunnel.Tunnel.{Tunnel}
use Rattle.pb_datagram.specs.declared.refusal.Refusal.{Refusal}
use Rattle.pb_datagram.specs.Datagrams.{datagram_of, Carries, IsRefused}

-- the datagram that is sent of a frame carries this frame, if the frame has an Ethernet header
abbrev pub WrittenIsRead : Type 0
WrittenIsRead =
    (encapsulation : Encapsulation) (frame : List ℕ) → 14 ≤ length frame
    → Carries encapsulation (datagram_of encapsulation frame) frame

-- a datagram carries one frame at most
abbrev pub HasOneFrame : Type 0
HasOneFrame =
    (encapsulation : Encapsulation) (octets f g : List ℕ) → Carries encapsulation octets f
    → Carries encapsulation octets g → f ≡ g

-- no datagram from the peer is refused that carries a frame
abbrev pub IsRefusedOrCarried : Type 0
IsRefusedOrCarried =
    (tunnel : Tunnel) (octets frame : List ℕ) (reason : Refusal) → IsRefused tunnel tunnel.peer octets reason
    → Carries tunnel.encapsulation octets frame → ⊥
