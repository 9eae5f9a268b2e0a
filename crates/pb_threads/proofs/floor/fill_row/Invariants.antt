use Rattle.std.proofs.Common.{◌≡◌, ◌+◌, All, length}
use Rattle.std.specs.Vec.Iter.{into_iter_items, into_iter_len}
use Rattle.pb_threads.specs.Slots.{HasDone}
use Rattle.pb_threads.specs.Wishes.{HasFulfilledNone}
use Rattle.pb_threads.proofs.floor.fill_row.Given as goal

abbrev pub invariant-loop-place : goal.invariant-loop-place
invariant-loop-place g l = record {
  at : HasDone g.K.Roster.places l.index (into_iter_items l.place-iterator);
  fits : All g.T.Work.fits (into_iter_items l.place-iterator);
  fresh : All (HasFulfilledNone g.T.Work.fulfilled) (into_iter_items l.place-iterator);
  count : l.index + into_iter_len l.place-iterator ≡ length l.slots;
}
