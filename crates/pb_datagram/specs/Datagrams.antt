-- The datagrams that carry frames, and those that are refused.
use Rattle.std.specs.Prelude.{◌≡◌, ◌≢◌, ◌<◌, ◌≤◌, ℕ, List, ◌++◌, length, drop}
use Rattle.std.specs.Net.Socket.{socket_ip}
use Rattle.std.specs.declared.net.SocketAddr.{SocketAddr}
use Rattle.pb_datagram.specs.declared.encapsulation.Encapsulation.{Encapsulation}
use Rattle.pb_datagram.specs.declared.encapsulation.Encapsulation.TheVariants.{Vxlan, Plain}
use Rattle.pb_datagram.specs.declared.tunnel.Tunnel.{Tunnel}
use Rattle.pb_datagram.specs.declared.refusal.Refusal.{Refusal}
use Rattle.pb_datagram.specs.declared.refusal.Refusal.TheVariants.{OtherSender, OtherNetwork, ShortFrame}
use Rattle.pb_datagram.specs.Vxlan.{header_of, HasHeader, HasNoHeader}

-- the datagram that carries a frame
abbrev pub datagram_of : Encapsulation → List ℕ → List ℕ
datagram_of (Vxlan vni) frame = header_of vni.number ++ frame
datagram_of Plain frame = frame

-- the octets of a datagram carry this frame
abbrev pub Carries : Encapsulation → List ℕ → List ℕ → Type 0
Carries (Vxlan vni) octets frame = HasHeader vni.number octets × (frame ≡ drop 8 octets)
Carries Plain octets frame = (14 ≤ length octets) × (frame ≡ octets)

-- the octets of a datagram carry no frame, for this reason
abbrev pub CarriesNone : Encapsulation → List ℕ → Refusal → Type 0
CarriesNone (Vxlan vni) octets OtherNetwork = (other : ℕ) × (other ≢ vni.number) × HasHeader other octets
CarriesNone (Vxlan vni) octets reason = HasNoHeader reason octets
CarriesNone Plain octets ShortFrame = length octets < 14
CarriesNone Plain octets reason = ⊥

-- The peer sends from this address: a plain datagram from its address and port, and a VXLAN datagram from any port of
-- its address, since the port is a hash of the frame (RFC 7348 section 5).
abbrev pub IsFrom : Encapsulation → SocketAddr → SocketAddr → Type 0
IsFrom (Vxlan vni) peer sender = socket_ip sender ≡ socket_ip peer
IsFrom Plain peer sender = sender ≡ peer

-- the peer of a tunnel sends from this address
abbrev pub IsOfPeer : Tunnel → SocketAddr → Type 0
IsOfPeer tunnel sender = IsFrom tunnel.encapsulation tunnel.peer sender

-- a datagram from this sender is refused, for this reason: the first that applies
abbrev pub IsRefused : Tunnel → SocketAddr → List ℕ → Refusal → Type 0
IsRefused tunnel sender octets OtherSender = IsOfPeer tunnel sender → ⊥
IsRefused tunnel sender octets reason = IsOfPeer tunnel sender × CarriesNone tunnel.encapsulation octets reason
