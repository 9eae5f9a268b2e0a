use Rattle.std.proofs.Common.{◌≡◌, ◌≤◌, ◌+◌, map, vec_len, All, length, take}
use Rattle.std.specs.Vec.{vec_capacity}
use Rattle.std.specs.Vec.Iter.{into_iter_len}
use Rattle.pb_threads.specs.Wishes.{HasFulfilledGiven}
use Rattle.pb_threads.proofs.floor.collect_row.Given as goal

abbrev pub invariant-loop-slot : goal.invariant-loop-slot
invariant-loop-slot g l = record {
  given : map g.T.Work.given l.places.items ≡ take (vec_len l.places) (map g.T.Work.given g.K.Roster.places);
  fits : All g.T.Work.fits l.places.items;
  wishes : All (HasFulfilledGiven g.K.Roster.gives g.T.Work.named g.T.Work.given g.T.Work.fulfilled) l.places.items;
  count : vec_len l.places + into_iter_len l.slot-iterator ≡ length g.K.Roster.places;
  room : vec_len l.places + into_iter_len l.slot-iterator ≤ vec_capacity l.places;
}
