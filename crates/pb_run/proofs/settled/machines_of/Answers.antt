use Rattle.std.proofs.Common.{◌+◌, List, map, ◌∙◌, arith, rules}
use Rattle.std.proofs.lemmas.List.{length-map}
use Rattle.pb_frame.proofs.Lists.{Some-injective}
use Rattle.pb_lan.specs.Records.{steps_of}
use Rattle.pb_lan.specs.declared.step.Step.{Step}
use Rattle.pb_rstp.specs.Profile.{machine_of}
use Rattle.pb_workers.specs.declared.bridge.BridgeWorker.{BridgeWorker}
use Rattle.pb_run.proofs.SettledLemmas.{machine_there, one_more_known, machines_all}
use Rattle.pb_run.proofs.settled.machines_of.Goals as goal

pub unreachable-requires : goal.unreachable-requires
unreachable-requires g c =
    let W : Type 0 = BridgeWorker g.row.W.Denot g.W.Wiring in
    let steps : W → List Step = λ w. w.bridge.steps in
    let there = machine_there _ steps c.args.plan.now c.args.workers.now c.loop-worker.worker-index
    c.worker-item.result c.requires.rstp c.requires.bridges c.loop-worker-test.true c.worker-item.is in
    let none = c.in_default.ensures in
    cc

pub loop-worker-preserved : goal.loop-worker-preserved
loop-worker-preserved g c =
    let W : Type 0 = BridgeWorker g.row.W.Denot g.W.Wiring in
    let steps : W → List Step = λ w. w.bridge.steps in
    let there = machine_there _ steps c.args.plan.now c.args.workers.now c.loop-worker.worker-index
    c.worker-item.result c.requires.rstp c.requires.bridges c.loop-worker-test.true c.worker-item.is in
    record {
      counted = search rules;
      each = one_more_known (λ x. x.now)
          (λ q. machine_of c.args.plan.now (q + 1) (steps_of (map steps c.args.workers.now) (q + 1)))
          c.loop-worker.machines.items c.push.new.self.items c.in-Some.machine
          c.loop-worker.worker-index (omega (arith, c.loop-worker.invariant.counted, c.loop-worker.machines.ok))
          c.in_ok-push.ensures.items c.loop-worker.invariant.each (Some-injective (c.in-Some.ensures ∙ there));
    }

pub returns : goal.returns
returns g c = λ rec lists.
    let W : Type 0 = BridgeWorker g.row.W.Denot g.W.Wiring in
    let steps : W → List Step = λ w. w.bridge.steps in
    machines_all _ steps c.args.plan.now rec c.args.workers.now (map (λ m. m.now) c.loop-worker.machines.items)
    c.requires.bridges lists
    (omega (
      arith,
      length-map c.loop-worker.machines.items (λ m. m.now),
      c.loop-worker.invariant.counted,
      c.loop-worker.machines.ok,
      c.loop-worker-test.false,
      c.loop-worker.auto.worker-index-end,
    ))
    c.loop-worker.invariant.each
