use Rattle.indexmap.specs.IndexMap.{keys}
use Rattle.pb_fdb.proofs.SlotLemmas.{found-station}
use Rattle.pb_fdb.proofs.journal.find_slot.Goals as goal

pub returns-clause-station : goal.returns-clause-station
returns-clause-station c = found-station (keys c.args.index.now) c.args.station.now c.get_index_of.result
    c.get_index_of.ensures.index
