use Rattle.std.proofs.Common.{◌∙◌, List, ap, rules}
use Rattle.std.specs.List.{list_any}
use Rattle.pb_lan.specs.Laws.{is_setting}
use Rattle.pb_lan.specs.declared.step.Step.{Step}
use Rattle.pb_lan.specs.BridgeLists.{IsLawfulBridge}
use Rattle.pb_relay.specs.Protocol.{spanning_tree}
use Rattle.pb_workers.specs.declared.bridge.BridgeWorker.{BridgeWorker}
use Rattle.std.proofs.lemmas.List.Elements.{All-push}
use Rattle.pb_run.proofs.Lists.{mapped_more, counted_more, none_more}
use Rattle.pb_workers.specs.Lossless.{refuses_when_full}
use Rattle.pb_run.proofs.record.bridge_lists.Goals as goal

pub loop-worker-preserved : goal.loop-worker-preserved
loop-worker-preserved g c =
    let X : Type 0 = BridgeWorker g.row.W.Denot g.W.Wiring in
    let i = c.loop-worker.invariant in
    let lists = c.push.ensures.lists in
    record {
      steps = mapped_more _ c.loop-worker.yielded c.in-Some.worker c.loop-worker.room.tallies.items
          c.push.new.self.tallies.items c.into_steps.result.steps i.steps c.push.ensures.tallies
          c.into_steps.ensures.steps;
      lawful = All-push (λ (x : X). IsLawfulBridge spanning_tree x.bridge.plan x.bridge.number x.bridge.steps)
          c.loop-worker.yielded c.in-Some.worker i.lawful
          c.into_steps.ensures.lawful;
      unset = λ still. none_more is_setting c.loop-worker.room.tallies.items c.push.new.self.tallies.items
          c.into_steps.result.steps (i.unset still) c.push.ensures.tallies
          (ap (λ (steps : List Step). list_any is_setting steps) c.into_steps.ensures.steps ∙ c.in-Some.worker.unset
          still);
      whole = λ waits. none_more refuses_when_full c.loop-worker.room.tallies.items c.push.new.self.tallies.items
          c.into_steps.result.steps (i.whole waits) c.push.ensures.tallies
          (ap (λ (steps : List Step). list_any refuses_when_full steps) c.into_steps.ensures.steps
          ∙ c.in-Some.worker.whole waits);
      kept = λ keeps. mapped_more _ c.loop-worker.yielded c.in-Some.worker c.loop-worker.room.lists.items
          c.push.new.self.lists.items lists.0 (i.kept keeps) lists.1
          (lists.2 (c.into_steps.ensures.kept ∙ c.in-Some.worker.kept keeps) ∙ c.into_steps.ensures.steps);
      count = counted_more c.loop-worker.yielded c.in-Some.worker c.loop-worker.room.lists.items _ lists.0 lists.1
          i.count;
      lists_room = search rules;
      room = search rules;
    }
