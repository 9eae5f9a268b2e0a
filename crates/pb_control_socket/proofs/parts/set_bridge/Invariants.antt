use Rattle.std.proofs.Common.{take, flat_map}
use Rattle.std.specs.List.{AllByRecursion}
use Rattle.pb_control_socket.specs.Parts.{ends_at}
use Rattle.pb_control_socket.specs.Requests.{set_end}
use Rattle.pb_control_socket.proofs.parts.set_bridge.Given as goal

abbrev pub invariant-loop-link : goal.invariant-loop-link
invariant-loop-link g l =
    AllByRecursion (λ e. g.B.Board.was_asked l.board (set_end l.up e))
    (flat_map (ends_at l.number) (take l.link-index l.plan.links))
