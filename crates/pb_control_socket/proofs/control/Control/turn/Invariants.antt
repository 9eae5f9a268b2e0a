use Rattle.std.proofs.Common.{◌≡◌, ◌⊎◌, None}
use Rattle.pb_control_socket.specs.Sockets.{path_of, silent_since}
use Rattle.pb_control_socket.proofs.control.Control.turn.Given as goal

abbrev pub invariant-loop : goal.invariant-loop
invariant-loop g l =
    (path_of l.self ≡ path_of l.initial.self)
    × ((silent_since l.self ≡ None) ⊎ (silent_since l.self ≡ silent_since l.initial.self))
