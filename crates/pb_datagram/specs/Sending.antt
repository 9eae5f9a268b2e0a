-- The effect of pumps on the datagrams of a device.
use Rattle.std.specs.Prelude.{◌≡◌, ℕ, suc, ◌≤◌, ◌⊎◌, Bool, true, false, List, [], ◌∷◌, length, take, drop, Option}
use Rattle.pb_port.specs.Ports.{Frames}
use Rattle.pb_datagram.specs.declared.tunnel.Tunnel.{Tunnel}
use Rattle.pb_datagram.specs.Datagrams.{datagram_of}
use Rattle.pb_datagram.specs.Devices.{Datagram, Grows}

-- each of these frames was sent whole in a datagram, in order, but so many that the system did not take
abbrev pub AreSent : Tunnel → Frames → List Datagram → ℕ → Type 0
AreSent tunnel [] sent failed = (sent ≡ []) × (failed ≡ 0)
AreSent tunnel (f ∷ fs) sent failed =
    ((rest : List Datagram) × (sent ≡ (tunnel.peer, datagram_of tunnel.encapsulation f) ∷ rest) × AreSent tunnel fs rest failed)
    ⊎ ((fewer : ℕ) × (failed ≡ suc fewer) × AreSent tunnel fs sent fewer)

-- the frame was sent, or the system did not take its datagram; or the device waits, and nothing was sent
abbrev pub HandsOver : Bool → Tunnel → Frames → Option (List Datagram) → Option (List Datagram) → ℕ → Type 0
HandsOver true tunnel frames sent sent' failed =
    (datagrams : List Datagram) × Grows sent sent' datagrams × AreSent tunnel frames datagrams failed
HandsOver false tunnel frames sent sent' failed = Grows sent sent' [] × (failed ≡ 0)

-- the first n of the frames that waited have left
pub record Departs (tunnel : Tunnel) (n : ℕ) (waiting waiting' : Frames) (sent sent' : Option (List Datagram)) (failed : ℕ)
    : Type 0 where
  pub within : n ≤ length waiting
  pub left : waiting' ≡ drop n waiting
  pub datagrams : List Datagram
  pub grows : Grows sent sent' datagrams
  pub passed : AreSent tunnel (take n waiting) datagrams failed
