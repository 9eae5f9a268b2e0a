use Rattle.std.proofs.Common.{◌≤◌, ◌+◌, true, Some, arith, ap, refl, subst, sym, ◌∙◌}
use Rattle.std.proofs.lemmas.Result.{err_from_is_err_and}
use Rattle.pb_relay.specs.Settled.{TellsConverged}
use Rattle.pb_converge.proofs.LookLemmas.{looked-twice, not_both, not_converged-more}
use Rattle.pb_converge.proofs.RecurrenceLemmas.{watched-end, watched-more}
use Rattle.pb_converge.proofs.TickLemmas.{failed-first, failed-later, failed-look, rounds-more}
use Rattle.pb_converge.proofs.TreeLemmas.{form_tree}
use Rattle.pb_converge.specs.Drives.{FormTree, HasFailed}
use Rattle.pb_converge.proofs.converging.rounds.Goals as goal

pub returns-in_err-watch-clause-err : goal.returns-in_err-watch-clause-err
returns-in_err-watch-clause-err c =
    let p = err_from_is_err_and c.from_residual.result c.from_residual.ensures.1 in
    rw p.1 (subst (λ e. HasFailed c.args.most c.args.events e c.args.net.now c.args.net.now) (sym p.2)
    (failed-first c.args.most c.args.events c.args.net.now))

pub returns-in_err-done-clause-err : goal.returns-in_err-done-clause-err
returns-in_err-done-clause-err c =
    let p = err_from_is_err_and c.from_residual-in_err-done.result c.from_residual-in_err-done.ensures.1 in
    let before = c.loop-ticks.invariant in
    let new = c.round.new.net in
    let f = failed-later c.loop-ticks.ticks c.args.most c.args.events c.loop-ticks.done c.in_err-done.field-0.0 c.args.net.now
    c.loop-ticks.net new (omega (arith, c.loop-ticks-test.true)) before.rounds before.within c.in_err-done.ensures.err in
    rw p.1 (subst (λ e. HasFailed c.args.most c.args.events e c.args.net.now new) (sym p.2) f)

pub returns-in_err-has_converged-clause-err : goal.returns-in_err-has_converged-clause-err
returns-in_err-has_converged-clause-err c =
    let p = err_from_is_err_and c.from_residual-in_err-has_converged.result c.from_residual-in_err-has_converged.ensures.1 in
    let before = c.loop-ticks.invariant in
    let new = c.round.new.net in
    let f = failed-look c.loop-ticks.ticks c.args.most c.args.events c.loop-ticks.done c.in_ok-done.field-0 c.args.net.now
    c.loop-ticks.net new (omega (arith, c.loop-ticks-test.true)) before.rounds c.in_ok-done.ensures.ok in
    rw p.1 (subst (λ e. HasFailed c.args.most c.args.events e c.args.net.now new) (sym (p.2 ∙ c.in_err-has_converged.ensures.err)) f)

pub returns-then-has_converged-clause-ok : goal.returns-then-has_converged-clause-ok
returns-then-has_converged-clause-ok c =
    let before = c.loop-ticks.invariant in
    let seen : 1 ≤ c.loop-ticks.ticks = before.seen c.if-had_converged.true in
    let new = c.round.new.net in
    let at = c.in_ok-done.ensures.plan in
    let told : TellsConverged new.plan new.rec (Some true) =
    subst (λ yes. TellsConverged new.plan new.rec (Some yes)) c.if-has_converged.true c.in_ok-has_converged.ensures.ok in
    let tree = form_tree c.args.plan.now new.rec c.requires.sound c.read_addresses.ensures c.requires.protocol
    (subst (λ p. TellsConverged p new.rec (Some true)) at told) in (
      ap (λ p. p.spanning) c.requires.plan ∙ c.requires.protocol,
      omega (arith, seen),
      omega (arith, c.loop-ticks-test.true),
      record {
        count = c.loop-ticks.done + c.in_ok-done.field-0;
        rounds = rounds-more c.loop-ticks.ticks c.loop-ticks.done c.in_ok-done.field-0 c.args.net.now c.loop-ticks.net
            c.round.new.net before.rounds c.in_ok-done.ensures.ok;
        within = omega (arith, before.within, c.in_ok-done.ensures.within);
      },
      told,
      looked-twice c.loop-ticks.ticks c.loop-ticks.done c.in_ok-done.field-0 c.loop-ticks.had_converged
          c.in_ok-has_converged.has_converged c.args.net.now c.loop-ticks.net c.round.new.net before.rounds
          c.in_ok-done.ensures.ok (before.told seen) c.in_ok-has_converged.ensures.ok c.if-had_converged.true
          c.if-has_converged.true,
      subst (λ p. FormTree p new.rec) (sym at) tree,
    )

pub returns-in_err-note-clause-err : goal.returns-in_err-note-clause-err
returns-in_err-note-clause-err c =
    let p = err_from_is_err_and c.from_residual-in_err-note.result c.from_residual-in_err-note.ensures.1 in
    let new = c.round.new.net in
    let f = failed-look c.loop-ticks.ticks c.args.most c.args.events c.loop-ticks.done c.in_ok-done.field-0 c.args.net.now
    c.loop-ticks.net new (omega (arith, c.loop-ticks-test.true)) c.loop-ticks.invariant.rounds c.in_ok-done.ensures.ok in
    rw p.1 (subst (λ e. HasFailed c.args.most c.args.events e c.args.net.now new) (sym (p.2 ∙ c.in_err-note.ensures.err)) f)

pub returns-then-ticks-watch-clause-ok : goal.returns-then-ticks-watch-clause-ok
returns-then-ticks-watch-clause-ok c =
    let before = c.loop-ticks.invariant in (
      ap (λ p. p.spanning) c.requires.plan ∙ c.requires.protocol,
      refl,
      c.loop-ticks.ticks,
      record { count = c.loop-ticks.done; rounds = before.rounds; within = before.within },
      watched-end c.args.most c.loop-ticks.ticks c.loop-ticks.watch c.args.net.now c.loop-ticks.net before.watched
          c.if-ticks-watch.true,
      before.not_converged,
    )

pub loop-ticks-preserved : goal.loop-ticks-preserved
loop-ticks-preserved c =
    let before = c.loop-ticks.invariant in
    record {
      rounds = rounds-more c.loop-ticks.ticks c.loop-ticks.done c.in_ok-done.field-0 c.args.net.now c.loop-ticks.net
          c.round.new.net before.rounds c.in_ok-done.ensures.ok;
      within = omega (arith, before.within, c.in_ok-done.ensures.within);
      plan = c.in_ok-done.ensures.plan;
      seen = λ is. omega arith;
      told = λ one. c.in_ok-has_converged.ensures.ok;
      watched = watched-more c.args.most c.loop-ticks.ticks c.loop-ticks.watch c.note.new.self c.args.net.now
          c.loop-ticks.net c.round.new.net c.in_ok-done.field-0 (omega (arith, c.loop-ticks-test.true))
          (c.loop-ticks.done, before.rounds) before.watched c.in_ok-done.ensures.ok c.in_ok-note.ensures.ok;
      not_converged = λ two.
          let one : 1 ≤ c.loop-ticks.ticks = omega (arith, two) in
          not_converged-more c.loop-ticks.ticks c.loop-ticks.done c.in_ok-done.field-0 c.loop-ticks.had_converged
          c.in_ok-has_converged.has_converged c.args.net.now c.loop-ticks.net c.round.new.net before.rounds
          c.in_ok-done.ensures.ok (before.told one) c.in_ok-has_converged.ensures.ok
          (not_both c.loop-ticks.had_converged c.in_ok-has_converged.has_converged c.else-had_converged.either);
    }
