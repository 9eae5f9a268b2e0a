use Rattle.std.proofs.Common.{subst, refl}
use Rattle.std.proofs.lemmas.List.{take_all}
use Rattle.pb_history.specs.Newest.{HaveSet}
use Rattle.pb_history.proofs.StepLemmas.{set_more, set_none}
use Rattle.pb_history.proofs.newest.set_all.Goals as goal
use Rattle.pb_history.proofs.newest.set_all.Goals.{then-place-lt-PLACES, else-place-lt-PLACES}

pub loop-change-init : goal.loop-change-init
loop-change-init c = record { set = λ port within start. refl; places = c.told-states }

pub loop-change-preserved : goal.loop-change-preserved
loop-change-preserved c =
    let i = c.loop-change.invariant in
    elim c.if-place-lt-PLACES.branch [
      | then-place-lt-PLACES w ↦ record {
        set = rw w.states-is (set_more c.args.states.now c.loop-change.states c.args.changes.now
            c.loop-change.change-index _ c.from-place.result c.loop-change-test.true c.from-place.ensures i.places
            i.set);
        places = c.if-place-lt-PLACES.array_long;
      }
      | else-place-lt-PLACES w ↦ record {
        set = rw w.states-is (set_none c.args.states.now c.loop-change.states c.args.changes.now
            c.loop-change.change-index _ c.from-place.result c.loop-change-test.true c.from-place.ensures
            w.if-place-lt-PLACES.false i.set);
        places = c.if-place-lt-PLACES.array_long;
      }
    ]

pub returns : goal.returns
returns c =
    subst (λ changes. HaveSet c.args.states.now c.loop-change.states changes)
    (take_all c.loop-change.change-index c.args.changes.now c.loop-change-test.false) c.loop-change.invariant.set
