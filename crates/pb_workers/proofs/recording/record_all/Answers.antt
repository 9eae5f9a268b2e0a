use Rattle.std.proofs.Common.{◌∙◌}
use Rattle.pb_workers.proofs.Recorded.{own_kept}
use Rattle.std.proofs.Math.ListN.{length-set}
use Rattle.pb_workers.proofs.recording.record_all.Goals as goal

pub returns-in_err-moves : goal.returns-in_err-moves
returns-in_err-moves g c =
    own_kept c.loop-index.taps.items c.loop-index.index c.record.new.self c.index_mut.result.now
    c.index_mut.ensures.value
    c.record.ensures ∙ c.loop-index.invariant.own

pub loop-index-preserved : goal.loop-index-preserved
loop-index-preserved g c = record {
  own = own_kept c.loop-index.taps.items c.loop-index.index c.record.new.self c.index_mut.result.now
      c.index_mut.ensures.value c.record.ensures ∙ c.loop-index.invariant.own;
  count = simp length-set c.loop-index.invariant.count;
}
