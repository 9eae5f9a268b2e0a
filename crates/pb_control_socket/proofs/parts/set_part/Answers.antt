use Rattle.pb_control_socket.proofs.PartLemmas.{of_ends, of_changes}
use Rattle.pb_control_socket.specs.Parts.{ends_of_part}
use Rattle.pb_control_socket.specs.declared.request.Part.TheVariants.{Bridge}
use Rattle.pb_control_socket.proofs.parts.set_part.Goals as goal

pub set_bridge-requires : goal.set_bridge-requires
set_bridge-requires g c =
    of_ends (g.B.Board.allows c.args.board.now) c.args.up (ends_of_part c.args.plan.now (Bridge c.in-Bridge.number))
    (rw c.in-Bridge.is at c.requires)

pub returns-in-Bridge : goal.returns-in-Bridge
returns-in-Bridge g c =
    rw c.in-Bridge.is
    (of_changes (g.B.Board.was_asked c.args.board.now) c.args.up
    (ends_of_part c.args.plan.now (Bridge c.in-Bridge.number)) c.set_bridge.ensures)
