use Rattle.std.proofs.Common.{◌∙◌, List, All, sym, subst, rules, arith}
use Rattle.pb_lan.specs.LaneLists.{IsLawfulLane}
use Rattle.pb_workers.specs.Recording.{AreRecorded}
use Rattle.pb_workers.specs.declared.lane.LaneWorker.{LaneWorker}
use Rattle.pb_run.proofs.Lists.{all_front, counted_more, mapped_more, zip_more}
use Rattle.pb_run.proofs.record.lane_lists.Goals as goal

pub loop-worker-preserved : goal.loop-worker-preserved
loop-worker-preserved g c =
    let X : Type 0 = LaneWorker g.row.W.Denot g.row.P.Denot g.W.Wiring in
    let i = c.loop-worker.invariant in
    let lists = c.push.ensures.lists in
    record {
      steps = mapped_more _ c.loop-worker.yielded c.in-Some.worker c.loop-worker.room.tallies.items
          c.push.new.self.tallies.items c.into_steps.result.steps i.steps c.push.ensures.tallies
          c.into_steps.ensures.steps;
      lawful = λ rest. i.lawful (all_front (λ (x : X). IsLawfulLane x.lane.losses x.lane.steps) c.in-Some.worker _ _
          c.in-Some.ensures.steps.0 c.into_steps.ensures.lawful rest);
      kept = λ keeps. mapped_more _ c.loop-worker.yielded c.in-Some.worker c.loop-worker.room.lists.items
          c.push.new.self.lists.items lists.0 (i.kept keeps) lists.1
          (lists.2 (c.into_steps.ensures.kept ∙ c.in-Some.worker.kept keeps) ∙ c.into_steps.ensures.steps);
      count = counted_more c.loop-worker.yielded c.in-Some.worker c.loop-worker.room.lists.items _ lists.0 lists.1
          i.count;
      lists_room = search rules;
      room = search rules;
      taps = zip_more (λ t steps. AreRecorded t.items steps) c.loop-worker.taps_room.items
          c.loop-worker.room.tallies.items _ _ c.in-Some.worker.taps c.into_steps.result.steps
          c.push_reserved.ensures.items c.push.ensures.tallies i.taps
          (subst (AreRecorded c.in-Some.worker.taps.items) (sym c.into_steps.ensures.steps) c.in-Some.worker.recorded);
      taps_count = counted_more c.loop-worker.yielded c.in-Some.worker c.loop-worker.taps_room.items _
          c.in-Some.worker.taps c.push_reserved.ensures.items i.taps_count;
      taps_capacity = search rules;
    }

pub loop-worker-init : goal.loop-worker-init
loop-worker-init g c = record {
  steps = search rules;
  lawful = λ all. all;
  kept = λ keeps. search rules;
  count = search rules;
  lists_room = search rules;
  room = search rules;
  taps = search rules;
  taps_count = search rules;
  taps_capacity = search rules;
}

pub returns-clause-lawful : goal.returns-clause-lawful
returns-clause-lawful g c =
    let X : Type 0 = LaneWorker g.row.W.Denot g.row.P.Denot g.W.Wiring in
    let came = c.into_iter-worker-iterator.ensures.into_iter_gives.0 in
    subst (λ (xs : List X). All (λ (x : X). IsLawfulLane x.lane.losses x.lane.steps) xs) came
    (c.loop-worker.invariant.lawful
    (λ k d less. absurd (omega (arith, less, c.in-None.ensures.steps.0, c.loop-worker.worker-iterator.rest.ok))))
