use Rattle.std.proofs.Common.{List, ◌∙◌, ap, length, map, refl, subst, sym, arith}
use Rattle.pb_lan.specs.Records.{steps_of}
use Rattle.pb_lan.specs.declared.step.Place.TheVariants.{Bridge}
use Rattle.pb_lan.specs.declared.step.Step.{Step}
use Rattle.pb_run.proofs.Kept.{as_many, accesses_back, run_kept}
use Rattle.pb_run.proofs.Lawful.{all_wished, tells_ended}
use Rattle.pb_run.proofs.Values.{on_value}
use Rattle.pb_run.specs.Gifts.{given_bridge}
use Rattle.pb_threads.specs.Wishes.{AreGiven}
use Rattle.pb_workers.specs.Settings.{settings}
use Rattle.pb_workers.specs.declared.bridge.BridgeWorker.{BridgeWorker}
use Rattle.pb_run.proofs.running.run_built.Goals as goal

pub run_all-places-requires-clause-fresh : goal.run_all-places-requires-clause-fresh
run_all-places-requires-clause-fresh g c lifetimes alive = (
  λ k d less. refl,
  λ k d less. refl,
  λ k d less. ap settings (c.requires.built.unset k d less),
)

pub apart-ports-requires-clause-room : goal.apart-ports-requires-clause-room
apart-ports-requires-clause-room g c =
    let many = as_many _ _ _ _ _ c.run_all-places.ensures.customers.0 c.attended-customers.ensures.ports in
    let rooms = c.requires.rooms.parts in (
      omega (arith, many, c.requires.plan.1, rooms.ports.1),
      omega (arith, many, c.requires.plan.1, rooms.accesses.1),
      omega (arith, many, c.requires.plan.1, rooms.lasts.1),
    )

pub whether_settled-settled-requires-clause-bridges : goal.whether_settled-settled-requires-clause-bridges
whether_settled-settled-requires-clause-bridges g c =
    rw (c.as_slice.ensures.value, c.run_all-places.ensures.bridges.0) c.requires.built.bridges

pub told_of-counts-requires-clause-back : goal.told_of-counts-requires-clause-back
told_of-counts-requires-clause-back g c = record {
  accesses = accesses_back _ _ _ _ _ _ _ c.args.plan.now (length c.args.plan.now.customers)
      c.run_all-places.ensures.customers.0 c.apart-ports.ensures.accesses c.attended-customers.ensures.gifts
      (λ t. t.access) (λ w. refl) c.requires.built.accesses;
  lanes = rw c.run_all-places.ensures.lanes.0 c.requires.built.lanes;
  bridges = rw c.run_all-places.ensures.bridges.0 c.requires.built.bridges;
}

pub returns-clause-run : goal.returns-clause-run
returns-clause-run g c =
    let told = c.told_of-counts.ensures in record {
      steps = told.steps;
      ports = run_kept _ _ _ _ _ _ _ _ _ _ _ _ _ _ c.run_all-places.ensures.customers.0
          c.attended-customers.ensures.ports c.apart-ports.ensures.ports
          c.apart-ports.ensures.accesses told.customers c.apart-ports.ensures.lasts (λ t. t.was.value) (λ w. refl)
          c.run_all-places.ensures.customers.1;
      ended = tells_ended c.args.plan.now c.told_of-counts.result.counts c.apart-ports.result.lasts.items
          c.as_slice-2.result.now c.has_drained.result
          c.ended_by-ended.result c.ended_by-ended.ensures c.has_drained.ensures c.as_slice-2.ensures.value
          c.requires.plan.0 told.steps.lawful;
      settled = on_value c.whether_settled-settled.result c.whether_settled-settled.ensures
          (λ answer tells. tells c.told_of-counts.result.counts
          (told.bridges ∙ ap (map (λ b. b.bridge.steps)) (sym c.as_slice.ensures.value)));
      count = c.requires.plan.1;
    }

pub returns-clause-wishes : goal.returns-clause-wishes
returns-clause-wishes g c =
    let W : Type 0 = BridgeWorker g.row.W.Denot g.W.Wiring in
    let gives = g.G.Gate.gives c.args.gate.now in
    let steps : W → List Step = λ b. b.bridge.steps in
    let plan = c.args.plan.now in
    let bridges = c.run_all-places.ensures.bridges.0 in
    λ number. subst (λ (lists : List (List Step)). AreGiven (gives (Bridge number)) (settings (steps_of lists number)))
    (sym c.told_of-counts.ensures.bridges)
    (all_wished gives given_bridge steps plan c.run_all-places.result.places.bridges.items
    (rw bridges c.requires.built.bridges) c.run_all-places.ensures.wishes.2 number)
