use Rattle.std.proofs.Common.{subst, sym}
use Rattle.std.proofs.lemmas.Result.{err_from_is_err_and}
use Rattle.pb_converge.proofs.LimitLemmas.{caused-failed}
use Rattle.pb_converge.specs.Drives.{IsCaused}
use Rattle.pb_converge.specs.Enough.{HasEnoughMemory}
use Rattle.pb_lan.specs.LastShapes.{last_shape}
use Rattle.pb_lan.specs.Records.{IsLawfulRecord}
use Rattle.pb_relay.specs.Protocol.{spanning_tree}
use Rattle.pb_cmd_draw.specs.Draws.{chosen_of, IsPictureOf}
use Rattle.pb_cmd_draw.proofs.draw.put_converged.Goals as goal

pub returns-in_err-convergence-clause-err : goal.returns-in_err-convergence-clause-err
returns-in_err-convergence-clause-err c =
    let p = err_from_is_err_and c.from_residual.result c.from_residual.ensures.1 in
    let net = c.args.net in
    let ticks = c.args.asked.now.ticks in
    let caused = caused-failed ticks 1000000000 c.in_err-convergence.field-0.0 net c.converge.new.net
    c.in_err-convergence.ensures.enough c.in_err-convergence.ensures.err in
    rw p.1 (subst (λ e. IsCaused ticks 0 0 1000000000 e net) (sym p.2) caused)

pub returns-clause-ok : goal.returns-clause-ok
returns-clause-ok c =
    let plan = c.args.plan.now in
    let lists = c.args.asked.now.lists in
    let form = c.args.asked.now.format in
    let t = c.in_ok-put_last.ensures.picture in
    let failed = c.in_ok-failed.failed in
    let last = subst (λ rec. IsPictureOf plan (last_shape plan rec) c.chosen_of-chosen.result failed lists form t.0)
    c.in_ok-tallies.ensures.record t.2 in
    let lit = subst (λ chosen. IsPictureOf plan (last_shape plan c.converge.new.net.rec) chosen failed lists form t.0)
    c.chosen_of-chosen.ensures last in
    let picture = subst
    (λ down. IsPictureOf plan (last_shape plan c.converge.new.net.rec) (chosen_of plan c.args.asked.now.service) down
    lists form t.0)
    c.in_ok-failed.ensures lit in
    let planned = c.converge.ensures.plan in
    let lawful = subst (λ rec. IsLawfulRecord spanning_tree plan rec) c.in_ok-tallies.ensures.record
    (subst (λ p. IsLawfulRecord spanning_tree p c.in_ok-tallies.tallies) planned c.in_ok-tallies.ensures.lawful) in (
      t.0,
      t.1,
      record {
        last = c.converge.new.net;
        ends = c.in_ok-convergence.ensures.ok;
        planned = planned;
        lawful = lawful;
        enough = subst HasEnoughMemory c.in_ok-tallies.ensures.record c.in_ok-put_last.ensures.enough;
        picture = picture;
      },
    )
