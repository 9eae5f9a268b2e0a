use Rattle.std.proofs.Common.{ℕ, ◌+◌, List, get_or, drop, subst}
use Rattle.std.proofs.lemmas.List.{drop_more}
use Rattle.pb_cmd_flat.specs.Quiet.{AreUsed, IsDraining}
use Rattle.pb_cmd_flat.proofs.DrainLaws.{draining_next, draining_first, used_kept}
use Rattle.pb_cmd_flat.proofs.switch.drain.Goals as goal

pub loop-exit-init : goal.loop-exit-init
loop-exit-init c = (c.requires, λ ports waiting. draining_first ports c.args.exits.now c.args.bridge.now waiting)

pub drain_at-requires : goal.drain_at-requires
drain_at-requires c =
    let l = c.loop-exit in
    record {
      used = (subst (AreUsed l.bridge) (drop_more c.args.exits.now l.exit-index 0 c.loop-exit-test.true)
          l.invariant.0).0;
    }

pub loop-exit-preserved : goal.loop-exit-preserved
loop-exit-preserved c =
    let l = c.loop-exit in
    let next = drop_more c.args.exits.now l.exit-index 0 c.loop-exit-test.true in
    let rest = drop (l.exit-index + 1) c.args.exits.now in
    let exit = get_or c.args.exits.now l.exit-index 0 in
    let sent = c.in_ok-drain_at.ensures.ok in (
      used_kept exit rest l.bridge c.drain_at.new.bridge sent (subst (AreUsed l.bridge) next l.invariant.0).1,
      λ ports waiting. draining_next ports exit rest c.args.bridge.now l.bridge c.drain_at.new.bridge
          (subst (λ (es : List ℕ). IsDraining ports es c.args.bridge.now l.bridge) next
          (l.invariant.1 ports waiting)) sent,
    )
