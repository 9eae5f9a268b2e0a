use Rattle.std.proofs.Common.{arith, add-one}
use Rattle.pb_workers.proofs.Recorded.{one_more, room_at}
use Rattle.std.proofs.Math.ListN.{length-set}
use Rattle.pb_tap.specs.Taps.{own_of}
use Rattle.pb_workers.specs.Recording.{with_ready}
use Rattle.pb_workers.proofs.recording.commit_all.Goals as goal

pub commit-requires : goal.commit-requires
commit-requires g c =
    room_at c.args.taps.now.items c.loop-index.taps.items c.loop-index.index c.index_mut.result.now
    c.loop-index.invariant.rest
    (omega (arith, c.loop-index-test.true, c.loop-index.invariant.count)) c.index_mut.ensures.value c.requires

pub loop-index-preserved : goal.loop-index-preserved
loop-index-preserved g c =
    let i = c.loop-index.invariant in
    let more = one_more with_ready (λ t. own_of t.recorder) c.args.taps.now.items c.loop-index.taps.items
    c.loop-index.index
    c.index_mut.result.now c.commit.new.self i.own i.rest
    (omega (arith, c.loop-index-test.true, i.count)) c.index_mut.ensures.value c.commit.ensures in
    rw add-one (record {
      own = more.0;
      rest = more.1;
      count = simp length-set i.count;
    })
