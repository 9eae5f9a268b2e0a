use Rattle.indexmap.proofs.CallerLemmas.{index_map_len-with_value_at}
use Rattle.pb_fdb.proofs.SlotLemmas.{noted-at}
use Rattle.pb_fdb.proofs.journal.note.Goals as goal

pub returns-clause-noted : goal.returns-clause-noted
returns-clause-noted c s is = noted-at c.args.index.now c.args.slot s _ _ c.args.seen c.pair_mut-last.ensures.unique
    c.pair_mut-last.ensures.value is

pub returns-clause-len : goal.returns-clause-len
returns-clause-len c = index_map_len-with_value_at c.args.index.now c.args.slot c.args.seen
