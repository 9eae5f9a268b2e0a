use Rattle.std.proofs.Common.{◌≡◌, slice_set, sym, subst, arith}
use Rattle.std.proofs.lemmas.List.{length-set}
use Rattle.pb_warnings.specs.Hops.{AreHops}
use Rattle.pb_warnings.proofs.HopLemmas.{AreLeast, never, least_after, least_start, right_start, tells_within}
use Rattle.pb_warnings.proofs.hops.hops.Goals as goal

pub loop-round-init : goal.loop-round-init
loop-round-init c =
    let plan = c.args.plan.now in
    let root = c.args.root in
    record {
      right = subst (λ i. AreHops plan root (slice_set never i 0)) (sym c.index_of.ensures)
          (right_start plan root c.requires.root);
      least = subst (λ i. AreLeast plan root 0 (slice_set never i 0)) (sym c.index_of.ensures)
          (least_start plan root c.requires.root);
      many = length-set never c.index_of.result 0;
    }

pub loop-round-preserved : goal.loop-round-preserved
loop-round-preserved c =
    let plan = c.args.plan.now in
    record {
      right = c.relax_all.ensures.right c.args.root c.loop-round.invariant.right;
      least = least_after plan c.args.root c.loop-round._round c.loop-round.hops c.relax_all.new.hops
          c.relax_all.ensures c.loop-round.invariant.least;
      many = c.relax_all.array_long;
    }

pub returns : goal.returns
returns c =
    let plan = c.args.plan.now in
    let all : c.loop-round._round ≡ 20 = omega arith in
    tells_within plan c.args.root c.loop-round.hops c.loop-round.invariant.right
    (subst (λ n. AreLeast plan c.args.root n c.loop-round.hops) all c.loop-round.invariant.least)
