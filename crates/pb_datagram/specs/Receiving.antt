-- The effect of polls on the datagrams of a device.
use Rattle.std.specs.Prelude.{◌≡◌, ℕ, List, [], ◌∷◌, ◌++◌, Option, Some, None, IsSome, slice_range, if◌then◌else◌}
use Rattle.std.specs.declared.net.SocketAddr.{SocketAddr}
use Rattle.pb_port.specs.declared.answers.Polled.{Polled}
use Rattle.pb_port.specs.declared.answers.Polled.TheVariants.{Frame, Nothing, Fault}
use Rattle.pb_port.specs.declared.fault.PortFault.TheVariants.{Memory}
use Rattle.pb_datagram.specs.declared.tunnel.Tunnel.{Tunnel}
use Rattle.pb_datagram.specs.declared.inbox.Inbox.{Inbox}
use Rattle.pb_datagram.specs.declared.drops.Refusals.{Refusals}
use Rattle.pb_datagram.specs.declared.refusal.Refusal.{Refusal}
use Rattle.pb_datagram.specs.Counts.{counted}
use Rattle.pb_datagram.specs.Datagrams.{Carries, IsOfPeer, IsRefused}
use Rattle.pb_datagram.specs.Devices.{Datagram, Grows}

-- the frame that was received and that no poll returned yet
abbrev pub pending : Inbox → Option (List ℕ)
pending i = if i.is_held then Some (slice_range i.buffer.items i.start i.end) else None

-- each of these datagrams is refused, and counted by its reason
abbrev pub AreRefused : Tunnel → List Datagram → Refusals → Refusals → Type 0
AreRefused tunnel [] counts counts' = counts' ≡ counts
AreRefused tunnel (d ∷ ds) counts counts' =
    (reason : Refusal) × IsRefused tunnel d.0 d.1 reason × AreRefused tunnel ds (counted reason counts) counts'

-- of datagrams that came one after the other, the last one carries the frame and is the first that is not refused; or
-- there is no frame, and all are refused
abbrev pub Finds : Tunnel → List Datagram → Refusals → Refusals → Option (List ℕ) → Type 0
Finds tunnel ds counts counts' None = AreRefused tunnel ds counts counts'
Finds tunnel ds counts counts' (Some frame) =
    (before : List Datagram) × (sender : SocketAddr) × (octets : List ℕ) × (ds ≡ before ++ (sender, octets) ∷ [])
    × AreRefused tunnel before counts counts' × IsOfPeer tunnel sender × Carries tunnel.encapsulation octets frame

-- so it is with the datagrams that a device received
abbrev pub Receives : Tunnel → Option (List Datagram) → Option (List Datagram) → Refusals → Refusals → Option (List ℕ) → Type 0
Receives tunnel received received' counts counts' found =
    (ds : List Datagram) × Grows received received' ds × Finds tunnel ds counts counts' found

-- the next frame is the one that is pending, for which nothing is received; otherwise it is found among the datagrams
-- that are received
abbrev pub FindsNext : Tunnel → Option (List ℕ) → Option (List Datagram) → Option (List Datagram) → Refusals → Refusals → Option (List ℕ) → Type 0
FindsNext tunnel (Some frame) received received' counts counts' found =
    (found ≡ Some frame) × (received' ≡ received) × (counts' ≡ counts)
FindsNext tunnel None received received' counts counts' found = Receives tunnel received received' counts counts' found

-- a poll returns the frame that was found, and after a failed allocation this frame is pending
abbrev pub Gives : Polled → Option (List ℕ) → Option (List ℕ) → Type 0
Gives (Frame frame) found pending' = (found ≡ Some frame) × (pending' ≡ None)
Gives Nothing found pending' = (found ≡ None) × (pending' ≡ None)
Gives (Fault Memory) found pending' = IsSome found × (pending' ≡ found)
Gives other found pending' = ⊥

-- a poll returns the next frame
abbrev pub PollsNext : Polled → Tunnel → Option (List ℕ) → Option (List ℕ) → Option (List Datagram) → Option (List Datagram) → Refusals → Refusals → Type 0
PollsNext polled tunnel before after received received' counts counts' =
    (found : Option (List ℕ)) × FindsNext tunnel before received received' counts counts' found × Gives polled found after
