use Rattle.pb_workers.proofs.RoomLemmas.{received_on}
use Rattle.pb_workers.proofs.room.take_in.Goals as goal

pub returns-clause-whole : goal.returns-clause-whole
returns-clause-whole c = λ room whole. received_on c.args.bridge.now c.receive.new.self c.args.port c.args.item
    c.in-Ok.outcome c.in-Ok.ensures.ok room whole
