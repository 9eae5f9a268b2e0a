-- Headers that are written and read, for the functions of `laws`.
use Rattle.std.proofs.Common.{◌≡◌, ℕ, ◌<◌, ◌≤◌, ◌^◌, List, ◌∷◌, ◌++◌, length, refl, sym, ◌∙◌, arith}
use Rattle.std.proofs.Common.{length-append}
use Rattle.std.specs.Int.Bits.{and_self}
use Rattle.std.specs.declared.net.SocketAddr.{SocketAddr}
use Rattle.byteorder.specs.Numbers.{big_number-reads_back}
use Rattle.pb_datagram.specs.declared.encapsulation.Encapsulation.{Encapsulation}
use Rattle.pb_datagram.specs.declared.encapsulation.Encapsulation.TheVariants.{Vxlan, Plain}
use Rattle.pb_datagram.specs.declared.refusal.Refusal.{Refusal}
use Rattle.pb_datagram.specs.declared.refusal.Refusal.TheVariants.{OtherSender, ShortHeader, UnsetFlag, OtherNetwork}
use Rattle.pb_datagram.specs.declared.refusal.Refusal.TheVariants.{ShortFrame}
use Rattle.pb_datagram.specs.declared.tunnel.Tunnel.{Tunnel}
use Rattle.pb_datagram.specs.Vxlan.{header_of, HasHeader}
use Rattle.pb_datagram.specs.Datagrams.{datagram_of, Carries, CarriesNone, IsFrom, IsRefused}

-- the header that is written of a network names this network, whatever follows
pub header_read : (vni : ℕ) (rest : List ℕ) → vni < 2 ^ 24 → HasHeader vni (header_of vni ++ rest)
header_read vni rest fits = record {
  long = omega (arith, length-append (header_of vni) rest);
  flag = λ e. omega (arith, sym (and_self 8) ∙ e);
  network = big_number-reads_back 3 vni (0 ∷ rest) (omega arith);
}

-- a datagram carries the frame of which it was made, if that has an Ethernet header
pub written_read : (e : Encapsulation) (frame : List ℕ) → 14 ≤ length frame → Carries e (datagram_of e frame) frame
written_read (Vxlan vni) frame long = (header_read vni.number frame vni.in_range, refl)
written_read Plain frame long = (long, refl)

pub one_frame : (e : Encapsulation) (octets f g : List ℕ) → Carries e octets f → Carries e octets g → f ≡ g
one_frame (Vxlan vni) octets f g first second = first.1 ∙ sym second.1
one_frame Plain octets f g first second = first.1 ∙ sym second.1

-- octets with a frame are refused for no reason
pub none_and_some : (e : Encapsulation) (octets frame : List ℕ) (reason : Refusal) → CarriesNone e octets reason
    → Carries e octets frame → ⊥
none_and_some (Vxlan vni) octets frame OtherSender none some = none
none_and_some (Vxlan vni) octets frame ShortHeader none some = omega (arith, some.0.long)
none_and_some (Vxlan vni) octets frame UnsetFlag none some = none.1 some.0.flag
none_and_some (Vxlan vni) octets frame OtherNetwork none some = none.1 (sym none.2.network ∙ some.0.network)
none_and_some (Vxlan vni) octets frame ShortFrame none some = none
none_and_some Plain octets frame OtherSender none some = none
none_and_some Plain octets frame ShortHeader none some = none
none_and_some Plain octets frame UnsetFlag none some = none
none_and_some Plain octets frame OtherNetwork none some = none
none_and_some Plain octets frame ShortFrame none some = omega (arith, some.0)

-- the peer sends from its own address
from_itself : (e : Encapsulation) (peer : SocketAddr) → IsFrom e peer peer
from_itself (Vxlan vni) peer = refl
from_itself Plain peer = refl

pub refused_or_carried : (t : Tunnel) (octets frame : List ℕ) (reason : Refusal)
    → IsRefused t t.peer octets reason → Carries t.encapsulation octets frame → ⊥
refused_or_carried t octets frame OtherSender refused some = refused (from_itself t.encapsulation t.peer)
refused_or_carried t octets frame ShortHeader refused some =
    none_and_some t.encapsulation octets frame ShortHeader refused.1 some
refused_or_carried t octets frame UnsetFlag refused some =
    none_and_some t.encapsulation octets frame UnsetFlag refused.1 some
refused_or_carried t octets frame OtherNetwork refused some =
    none_and_some t.encapsulation octets frame OtherNetwork refused.1 some
refused_or_carried t octets frame ShortFrame refused some =
    none_and_some t.encapsulation octets frame ShortFrame refused.1 some
