use Rattle.std.proofs.Common.{◌∙◌, arith}
use Rattle.std.proofs.Math.ListN.{length-set}
use Rattle.std.proofs.lemmas.List.Elements.{AllWithin-more_set}
use Rattle.pb_tap.specs.Taps.{IsPrepared}
use Rattle.pb_workers.proofs.Recorded.{own_kept}
use Rattle.pb_workers.proofs.recording.prepare_all.Goals as goal

pub returns-in_err-prepare-clause-own : goal.returns-in_err-prepare-clause-own
returns-in_err-prepare-clause-own g c =
    own_kept c.loop-index.taps.items c.loop-index.index c.prepare.new.self c.index_mut.result.now
    c.index_mut.ensures.value c.prepare.ensures.own ∙ c.loop-index.invariant.own

pub returns-then-not-branch-clause-own : goal.returns-then-not-branch-clause-own
returns-then-not-branch-clause-own g c =
    own_kept c.loop-index.taps.items c.loop-index.index c.prepare.new.self c.index_mut.result.now
    c.index_mut.ensures.value c.prepare.ensures.own ∙ c.loop-index.invariant.own

pub loop-index-preserved : goal.loop-index-preserved
loop-index-preserved g c =
    let i = c.loop-index.invariant in
    record {
      own = own_kept c.loop-index.taps.items c.loop-index.index c.prepare.new.self c.index_mut.result.now
          c.index_mut.ensures.value c.prepare.ensures.own ∙ i.own;
      ready = AllWithin-more_set c.loop-index.taps.items c.loop-index.index c.prepare.new.self
          (omega (arith, c.loop-index-test.true, i.count)) (IsPrepared c.args.wire.now) i.ready
          (c.in_ok-prepare.ensures.ready c.if-not-branch.false);
      count = simp length-set i.count;
    }
