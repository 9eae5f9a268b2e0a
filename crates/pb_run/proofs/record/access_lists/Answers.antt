use Rattle.std.proofs.Common.{◌∙◌, List, All, subst, rules, arith}
use Rattle.pb_lan.specs.PortLists.{IsLawfulPort}
use Rattle.pb_workers.specs.declared.access.Access.{Access}
use Rattle.pb_run.proofs.Lists.{all_front, counted_more, mapped_more}
use Rattle.pb_run.proofs.record.access_lists.Goals as goal

pub loop-access-preserved : goal.loop-access-preserved
loop-access-preserved g c =
    let X : Type 0 = Access g.row.W.Denot g.W.Wiring in
    let i = c.loop-access.invariant in
    let lists = c.push.ensures.lists in
    record {
      steps = mapped_more _ c.loop-access.yielded c.in-Some.access c.loop-access.room.tallies.items
          c.push.new.self.tallies.items c.access_steps.result.steps i.steps c.push.ensures.tallies
          c.access_steps.ensures.steps;
      lawful = λ rest. i.lawful (all_front (λ (x : X). IsLawfulPort x.place.number x.place.steps) c.in-Some.access _ _
          c.in-Some.ensures.steps.0 c.access_steps.ensures.lawful rest);
      kept = λ keeps. mapped_more _ c.loop-access.yielded c.in-Some.access c.loop-access.room.lists.items
          c.push.new.self.lists.items lists.0 (i.kept keeps) lists.1
          (lists.2 (c.access_steps.ensures.kept keeps) ∙ c.access_steps.ensures.steps);
      count = counted_more c.loop-access.yielded c.in-Some.access c.loop-access.room.lists.items _ lists.0 lists.1
          i.count;
      lists_room = search rules;
      room = search rules;
    }

pub loop-access-init : goal.loop-access-init
loop-access-init g c = record {
  steps = search rules;
  lawful = λ all. all;
  kept = λ keeps. search rules;
  count = search rules;
  lists_room = search rules;
  room = search rules;
}

pub returns-clause-lawful : goal.returns-clause-lawful
returns-clause-lawful g c =
    let X : Type 0 = Access g.row.W.Denot g.W.Wiring in
    let came = c.into_iter-access-iterator.ensures.into_iter_gives.0 in
    subst (λ (xs : List X). All (λ (x : X). IsLawfulPort x.place.number x.place.steps) xs) came
    (c.loop-access.invariant.lawful
    (λ k d less. absurd (omega (arith, less, c.in-None.ensures.steps.0, c.loop-access.access-iterator.rest.ok))))
