use Rattle.std.proofs.Common.{rules, sym, []}
use Rattle.std.proofs.lemmas.List.Elements.{All-head, All-rest, All-same}
use Rattle.pb_threads.proofs.Alls.{done_at, done_on}
use Rattle.pb_threads.specs.Wishes.{HasFulfilledNone}
use Rattle.pb_threads.proofs.floor.fill_row.Goals as goal

pub loop-place-init : goal.loop-place-init
loop-place-init g c = record {
  at = record { before = []; parts = search rules; count = search rules };
  fits = All-same g.T.Work.fits _ _ (search rules) c.requires.fits;
  fresh = All-same (HasFulfilledNone g.T.Work.fulfilled) _ _ (search rules) c.requires.fresh;
  count = search rules;
}

pub put-requires-clause-kept : goal.put-requires-clause-kept
put-requires-clause-kept g c = (
  All-head g.T.Work.fits _ _ (All-same g.T.Work.fits _ _ (sym c.in-Some.ensures.steps.0) c.loop-place.invariant.fits),
  done_at g.T.Work.given _ _ _ _ c.in-Some.place c.loop-place.invariant.at c.in-Some.ensures.steps.0,
)

pub put-requires-clause-fresh : goal.put-requires-clause-fresh
put-requires-clause-fresh g c =
    let Fresh = HasFulfilledNone g.T.Work.fulfilled in
    All-head Fresh _ _ (All-same Fresh _ _ (sym c.in-Some.ensures.steps.0) c.loop-place.invariant.fresh)

pub loop-place-preserved : goal.loop-place-preserved
loop-place-preserved g c = record {
  at = done_on _ _ _ _ c.in-Some.place c.loop-place.invariant.at c.in-Some.ensures.steps.0;
  fits = All-rest g.T.Work.fits _ _ _ c.in-Some.ensures.steps.0 c.loop-place.invariant.fits;
  fresh = All-rest (HasFulfilledNone g.T.Work.fulfilled) _ _ _ c.in-Some.ensures.steps.0
      c.loop-place.invariant.fresh;
  count = search rules;
}
