use Rattle.std.proofs.Common.{Some, length, ap, arith}
use Rattle.indexmap.specs.IndexMap.{get}
use Rattle.pb_fdb.specs.Journals.{is_same, entries_from, stations, stays}
use Rattle.pb_fdb.proofs.EntryLemmas.{filter-shorter}
use Rattle.pb_fdb.proofs.journal.Journal.flush.Goals as goal

pub invariant_of-self : goal.invariant_of-self
invariant_of-self c =
    let fewer = filter-shorter (stays (Some c.args.port))
    (entries_from (get is_same c.self.inside.index) c.self.inside.first (stations c.self.inside.log.items)) in
    record {
      each = c.rotate.ensures.each;
      counted = c.rotate.ensures.count;
      roomy = omega (
        arith,
        fewer,
        c.rotate.ensures.count,
        ap length c.rotate.ensures.entries,
        c.self.invariant.counted,
        c.self.invariant.roomy,
        c.rotate.ensures.capacity,
      );
    }
