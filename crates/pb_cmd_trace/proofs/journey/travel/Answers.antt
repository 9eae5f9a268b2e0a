use Rattle.std.proofs.Common.{◌≤◌, ◌+◌, ◌++◌, arith, length, take, ap, subst, sym, ◌∙◌, append_assoc}
use Rattle.std.proofs.lemmas.List.{length-take-le}
use Rattle.std.proofs.lemmas.Result.{err_from_is_err_and}
use Rattle.pb_converge.proofs.LimitLemmas.{caused-later, caused-lower}
use Rattle.pb_converge.specs.Drives.{IsCaused}
use Rattle.pb_frame.proofs.Things.{here_is}
use Rattle.pb_names.specs.Numbers.{port_named}
use Rattle.pb_cmd_trace.proofs.DoneLemmas.{stories-run}
use Rattle.pb_cmd_trace.proofs.StoryLemmas.{stories-more, round_told, entry_lacks_port, entry_is_none}
use Rattle.pb_converge.proofs.DriveLemmas.{done-kept}
use Rattle.pb_cmd_trace.proofs.journey.travel.Goals as goal

pub returns-in-GoesRound-clause-ok : goal.returns-in-GoesRound-clause-ok
returns-in-GoesRound-clause-ok c =
    let plan = c.args.plan.now in
    let entry = c.index-entries-index.result in
    let before = c.loop-index.invariant.told in
    let f = rw c.in-GoesRound.is at c.in_ok-trace_entry.ensures.ok in
    round_told plan c.args.entries.now c.loop-index.index entry
    (record { port = c.port_named-port.result; number = c.in-GoesRound.number }) c.args.net.now c.loop-index.net
    c.trace_entry.new.net
    c.args.lines.now.items before.0 f.0 c.loop-index.lines.items c.trace_entry.new.lines.items
    c.loop-index-test.true c.index-entries-index.is before.1 before.2 f.1 f.2
    (c.port_named-port.ensures ∙ ap (λ t. port_named plan t) c.as_str.ensures.value)

pub returns-in-NoPort-clause-ok : goal.returns-in-NoPort-clause-ok
returns-in-NoPort-clause-ok c =
    let entry = c.index-entries-index.result in
    let before = c.loop-index.invariant.told in
    let f = rw c.in-NoPort.is at c.in_ok-trace_entry.ensures.ok in (
      before.0 ++ f.0,
      f.1 ∙ ap (λ z. z ++ f.0) before.1 ∙ append_assoc c.args.lines.now.items before.0 f.0,
      (
        entry,
        here_is c.args.entries.now c.loop-index.index entry c.loop-index-test.true c.index-entries-index.is,
        entry_lacks_port c.args.plan.now entry c.loop-index.net c.trace_entry.new.net f.0 c.loop-index.invariant.plan
            f.2,
      ),
    )

pub returns-in-NoFrame-clause-ok : goal.returns-in-NoFrame-clause-ok
returns-in-NoFrame-clause-ok c =
    let entry = c.index-entries-index.result in
    let before = c.loop-index.invariant.told in
    let f = rw c.in-NoFrame.is at c.in_ok-trace_entry.ensures.ok in (
      before.0 ++ f.0,
      f.1 ∙ ap (λ z. z ++ f.0) before.1 ∙ append_assoc c.args.lines.now.items before.0 f.0,
      (
        entry,
        here_is c.args.entries.now c.loop-index.index entry c.loop-index-test.true c.index-entries-index.is,
        entry_is_none c.args.plan.now entry c.loop-index.net c.trace_entry.new.net f.0 f.2,
      ),
    )

pub loop-index-preserved : goal.loop-index-preserved
loop-index-preserved c =
    let entry = c.index-entries-index.result in
    let before = c.loop-index.invariant.told in
    let f = rw c.in-Ended.is at c.in_ok-trace_entry.ensures.ok in
    record {
      told = stories-more c.args.plan.now c.args.entries.now c.loop-index.index entry c.args.net.now c.loop-index.net
          c.trace_entry.new.net
          c.args.lines.now.items before.0 f.0 c.loop-index.lines.items
          c.trace_entry.new.lines.items c.loop-index-test.true c.index-entries-index.is before.1 before.2
          f.1 f.2;
      plan = c.in_ok-trace_entry.ensures.plan;
    }

pub returns-in_err-trace_entry-clause-err : goal.returns-in_err-trace_entry-clause-err
returns-in_err-trace_entry-clause-err c =
    let p = err_from_is_err_and c.from_residual.result c.from_residual.ensures.1 in
    let old = c.args.net.now in
    let mid = c.loop-index.net in
    let before = c.loop-index.invariant.told in
    let run = stories-run c.args.plan.now (take c.loop-index.index c.args.entries.now) old mid before.0 before.2 in
    let fault = c.in_err-trace_entry.field-0.0 in
    let polls = length c.args.entries.now in
    let later = caused-later 0 1 0 1000000 fault run.0 old mid run.2 run.1 c.in_err-trace_entry.ensures.err in
    let first = length (take c.loop-index.index c.args.entries.now) in
    let number = length-take-le c.loop-index.index c.args.entries.now (omega (arith, c.loop-index-test.true)) in
    let fits : first + 1 ≤ polls = omega (arith, number, c.loop-index-test.true) in
    let caused : IsCaused 0 polls 0 1000000 fault old =
    caused-lower 0 (first + 1) 0 0 polls 0 1000000 1000000 fault old (omega arith) fits (omega arith) (omega arith)
    later in
    rw p.1 (subst (λ e. IsCaused 0 polls 0 1000000 e old) (sym p.2) caused)

pub trace_entry-requires-clause-kept : goal.trace_entry-requires-clause-kept
trace_entry-requires-clause-kept c =
    let old = c.args.net.now in
    let mid = c.loop-index.net in
    let before = c.loop-index.invariant.told in
    let run = stories-run c.args.plan.now (take c.loop-index.index c.args.entries.now) old mid before.0 before.2 in
    done-kept old mid run.0 run.1 ∙ c.requires.kept
