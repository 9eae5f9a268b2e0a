use Rattle.std.proofs.Common.{◌≡◌, ◌+◌, [], arith, rules}
use Rattle.pb_threads.proofs.Alls.{all_more}
use Rattle.pb_workers.specs.declared.bridge.BridgeWorker.{BridgeWorker}
use Rattle.pb_run.proofs.Gifts.{no_bridges, bridge_pushed}
use Rattle.pb_run.proofs.build.bridge_workers.Goals as goal

pub loop-place-init : goal.loop-place-init
loop-place-init g c = record {
  gifts = no_bridges _ c.args.plan.now c.in_ok-workers.workers.items c.in_ok-workers.ensures.items;
  unset = search rules;
  there = λ at above within port. c.requires.there at (omega arith, within) port;
  outer = λ at h. h;
}

pub bridge_worker-requires-clause-there : goal.bridge_worker-requires-clause-there
bridge_worker-requires-clause-there g c = λ port number. c.loop-place.invariant.there (c.loop-place.place + 1, port)
    (omega arith) (omega arith) number

pub loop-place-preserved : goal.loop-place-preserved
loop-place-preserved g c = record {
  gifts = bridge_pushed _ c.args.plan.now c.loop-place.place _ _ c.in_ok-bridge_worker.field-0
      c.in_ok-push.ensures.items c.loop-place.invariant.gifts c.in_ok-bridge_worker.ensures.gift;
  unset = all_more (λ (b : BridgeWorker g.row.W.Denot g.W.Wiring). b.bridge.steps ≡ []) c.in_ok-bridge_worker.field-0
      c.loop-place.workers.items _ c.in_ok-push.ensures.items c.loop-place.invariant.unset
      c.in_ok-bridge_worker.ensures.unset;
  there = λ at above within port. c.in_ok-bridge_worker.ensures.inner at (λ same. omega (arith, same, above))
      (c.loop-place.invariant.there at (omega arith) within port);
  outer = λ at h. c.in_ok-bridge_worker.ensures.outer at (c.loop-place.invariant.outer at h);
}
