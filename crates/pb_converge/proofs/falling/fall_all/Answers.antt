use Rattle.std.proofs.Common.{◌≡◌, map, subst, sym, ◌∙◌}
use Rattle.std.proofs.lemmas.Result.{err_from_is_err_and}
use Rattle.pb_converge.proofs.DriveLemmas.{done-kept}
use Rattle.pb_converge.proofs.FallLemmas.{name_broken, names_broken, refused_at, fallen_more}
use Rattle.pb_converge.specs.Drives.{HasBroken, HaveDone}
use Rattle.pb_converge.specs.Falls.{IsClear, all_down, downs, fresh_by, set_down}
use Rattle.pb_converge.specs.declared.fault.DriveFault.TheVariants.{Memory}
use Rattle.pb_converge.proofs.falling.fall_all.Goals as goal

pub returns-in-Some-clause-falls : goal.returns-in-Some-clause-falls
returns-in-Some-clause-falls c =
    refused_at c.args.plan.now c.args.names.now c.loop-index.index c.index-names-index.result c.as_str.result.now
    c.in-Some.fault c.loop-index-test.true c.index-names-index.is c.as_str.ensures.value
    (rw c.in-Some.is at c.in_ok-fault.ensures)

pub returns-in_err-fault-clause-falls : goal.returns-in_err-fault-clause-falls
returns-in_err-fault-clause-falls c =
    let p = err_from_is_err_and c.from_residual.result c.from_residual.ensures.1 in
    let plan = c.args.plan.now in
    let names = c.args.names.now in
    let mid = c.loop-index.net in
    let start = subst (λ k. c.args.net.now ≡ fresh_by k plan) (sym c.loop-index.invariant.2) c.requires.fresh in
    let b = names_broken plan names c.loop-index.index (fresh_by mid.is_kept plan) mid c.loop-index.invariant.1.done in
    let same = subst (λ net. HasBroken (downs plan names) Memory net mid) (sym start) b in
    rw p.1 (subst (λ e. HasBroken (downs plan names) e c.args.net.now mid) (sym p.2) same)

pub loop-index-preserved : goal.loop-index-preserved
loop-index-preserved c =
    let plan = c.args.plan.now in
    let mid = c.loop-index.net in
    let new = c.fall_named.new.net in
    let clear = subst (λ t. IsClear plan t) c.as_str.ensures.value (rw c.in-None.is at c.in_ok-fault.ensures) in
    let one = subst (λ t. HaveDone mid (map set_down (all_down plan t)) new) c.as_str-in-None.ensures.value
    c.in_ok-fall_named-in-None.ensures.done in (
      c.in_ok-fall_named-in-None.ensures.plan,
      fallen_more plan c.args.names.now c.loop-index.index c.index-names-index.result mid new
          c.loop-index-test.true c.index-names-index.is c.loop-index.invariant.1 clear one,
      done-kept mid new _ one ∙ c.loop-index.invariant.2,
    )

pub returns-in_err-fall_named-in-None-clause-falls : goal.returns-in_err-fall_named-in-None-clause-falls
returns-in_err-fall_named-in-None-clause-falls c =
    let p = err_from_is_err_and c.from_residual-in_err-fall_named-in-None.result
    c.from_residual-in_err-fall_named-in-None.ensures.1 in
    let plan = c.args.plan.now in
    let new = c.fall_named.new.net in
    let fault = c.in_err-fall_named-in-None.field-0.0 in
    let mid = c.loop-index.net in
    let start = subst (λ k. c.args.net.now ≡ fresh_by k plan) (sym c.loop-index.invariant.2) c.requires.fresh in
    let one = subst (λ t. HasBroken (map set_down (all_down plan t)) fault mid new) c.as_str-in-None.ensures.value
    c.in_err-fall_named-in-None.ensures.err in
    let b = name_broken plan c.args.names.now c.loop-index.index c.index-names-index.result fault
    (fresh_by mid.is_kept plan) mid new c.loop-index-test.true c.index-names-index.is c.loop-index.invariant.1.done one in
    let same = subst (λ net. HasBroken (downs plan c.args.names.now) fault net new) (sym start) b in
    rw p.1 (subst (λ e. HasBroken (downs plan c.args.names.now) e c.args.net.now new) (sym p.2) same)
