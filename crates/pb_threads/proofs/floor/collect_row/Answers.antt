use Rattle.std.proofs.Common.{rules}
use Rattle.pb_threads.proofs.Alls.{all_more, begun_on}
use Rattle.pb_threads.specs.Wishes.{HasFulfilledGiven}
use Rattle.pb_threads.proofs.floor.collect_row.Goals as goal

pub loop-slot-preserved : goal.loop-slot-preserved
loop-slot-preserved g c =
    let h = c.loop-slot.invariant in
    record {
      given = begun_on g.T.Work.given c.loop-slot.places.items _ c.take-place.result _ _ _ c.len.result h.given
          c.push_reserved.ensures.items (search rules) (search rules) c.take-place.ensures.kept.1;
      fits = all_more g.T.Work.fits _ _ _ c.push_reserved.ensures.items h.fits c.take-place.ensures.kept.0;
      wishes = all_more (HasFulfilledGiven g.K.Roster.gives g.T.Work.named g.T.Work.given g.T.Work.fulfilled) _ _ _
          c.push_reserved.ensures.items h.wishes c.take-place.ensures.wishes;
      count = search rules;
      room = search rules;
    }
