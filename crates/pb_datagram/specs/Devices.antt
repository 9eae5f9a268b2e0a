-- The results of a datagram device, and its datagrams.
use Rattle.std.specs.Prelude.{◌≡◌, ◌≤◌, ℕ, ◌+◌, ◌-◌, List, [], ◌∷◌, ◌++◌, take, Option, Some, None, ⊤}
use Rattle.std.specs.declared.net.SocketAddr.{SocketAddr}
use Rattle.pb_port.specs.Reading.{held_sum}
use Rattle.pb_datagram.specs.declared.device.Received.{Received}
use Rattle.pb_datagram.specs.declared.device.Received.TheVariants.{Moved, Failed}
use Rattle.pb_datagram.specs.declared.device.Sent.{Sent}
use Rattle.pb_datagram.specs.declared.device.Sent.TheVariants.{Moved as moved_out, Failed as failed_out}

-- the address from which a datagram came, or to which it was sent, and its octets
abbrev pub Datagram : Type 0
Datagram = SocketAddr × List ℕ

-- these datagrams were appended to a list, if it is known
abbrev pub Grows : Option (List Datagram) → Option (List Datagram) → List Datagram → Type 0
Grows None new more = ⊤
Grows (Some old) None more = ⊥
Grows (Some old) (Some new) more = new ≡ old ++ more

-- a datagram that was received is within the buffer
abbrev pub FitsIn : Received → ℕ → Type 0
FitsIn (Moved n sender) space = n ≤ space
FitsIn other space = ⊤

-- a receive appended its datagram to those that were received
abbrev pub ReceivedBy : Received → List ℕ → Option (List Datagram) → Option (List Datagram) → Type 0
ReceivedBy (Moved n sender) buf old new = Grows old new ((sender, take n buf) ∷ [])
ReceivedBy other buf old new = Grows old new []

-- a send appended its datagram to those that were sent, if the system took it
abbrev pub SentBy : Sent → SocketAddr → List ℕ → Option (List Datagram) → Option (List Datagram) → Type 0
SentBy moved_out to octets old new = Grows old new ((to, octets) ∷ [])
SentBy other to octets old new = Grows old new []

-- a receive that failed is counted, and no other receive is
abbrev pub CountsReceive : Received → ℕ → ℕ → Type 0
CountsReceive (Failed error) old new = new ≡ old + 1
CountsReceive other old new = new ≡ old

-- a send that failed is counted, and no other send is
abbrev pub CountsSend : Sent → ℕ → ℕ → Type 0
CountsSend (failed_out error) old new = new ≡ old + 1
CountsSend other old new = new ≡ old

-- as many more were counted as calls of a device failed, up to the greatest u64
abbrev pub CountsFailed : ℕ → ℕ → ℕ → ℕ → Type 0
CountsFailed count count' failed failed' = (failed ≤ failed') × (count' ≡ held_sum count (failed' - failed))
