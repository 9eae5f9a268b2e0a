use Rattle.pb_control_socket.proofs.PartLemmas.{parts_here}
use Rattle.pb_control_socket.specs.Parts.{ends_at}
use Rattle.pb_control_socket.specs.Requests.{set_end}
use Rattle.pb_control_socket.proofs.parts.set_bridge.Goals as goal

pub set_ends_at-requires : goal.set_ends_at-requires
set_ends_at-requires g c =
    parts_here (λ e. g.B.Board.allows c.args.board.now (set_end c.args.up e)) (ends_at c.args.number)
    c.as_slice-link-items.result.now c.args.plan.now.links c.loop-link.link-index c.link-item.result
    c.as_slice-link-items.ensures c.loop-link-test.true c.link-item.is c.requires
