use Rattle.std.proofs.Common.{arith}
use Rattle.pb_service.proofs.Items.{hex_at, frames_end}
use Rattle.pb_service.proofs.port.frames_of.Goals as goal

pub returns-clause-ok : goal.returns-clause-ok
returns-clause-ok c = frames_end c.args.items.now c.loop-item.item-index _ (omega arith) c.loop-item.invariant

pub frame_of-requires : goal.frame_of-requires
frame_of-requires c = hex_at c.args.items.now c.loop-item.item-index _ _ _ c.requires c.loop-item-test.true
    c.item-item.is c.text_in.ensures
