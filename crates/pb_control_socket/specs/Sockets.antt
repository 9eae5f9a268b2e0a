-- What contracts see of the control socket.
use Rattle.std.specs.Prelude.{◌≡◌, ℕ, ◌+◌, ◌<◌, List, Option, Some, None, string_bytes}
use Rattle.pb_control_socket.specs.declared.control.Control.{Control}

-- the path at which the socket was opened, and whose file is removed at the end
abbrev pub path_of : Control → List ℕ
path_of control = string_bytes control.path

-- the second at which the clock was first read after the peer connected or sent octets, if it was read since
abbrev pub silent_since : Control → Option ℕ
silent_since control = control.silent_since

-- a silence since this second has lasted for 60 seconds, by a clock that shows whole seconds: it shows one more
abbrev pub IsLong : Option ℕ → ℕ → Type 0
IsLong None now = ⊥
IsLong (Some since) now = since + 60 < now

-- the peer is the same as before, with all that it has sent and is to get
abbrev pub KeepsPeer : Control → Control → Type 0
KeepsPeer old new = new.peer ≡ old.peer
