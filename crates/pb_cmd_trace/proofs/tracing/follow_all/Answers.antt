use Rattle.std.proofs.Common.{◌+◌, ◌++◌, arith, length, unwrap_or, ap, subst, sym, ◌∙◌}
use Rattle.std.proofs.lemmas.Result.{err_from_is_err_and}
use Rattle.pb_converge.proofs.DriveLemmas.{done-kept}
use Rattle.pb_converge.proofs.LimitLemmas.{caused-later, caused-lower}
use Rattle.pb_converge.specs.Drives.{IsCaused}
use Rattle.pb_converge.specs.Enough.{HasEnoughMemory}
use Rattle.pb_lan.specs.Records.{IsLawfulRecord}
use Rattle.pb_relay.specs.Protocol.{spanning_tree}
use Rattle.pb_cmd_trace.proofs.DoneLemmas.{begun-run, journey-done}
use Rattle.pb_cmd_trace.proofs.StartLemmas.{start_lawful}
use Rattle.pb_cmd_trace.specs.Stories.{HasJourneyed}
use Rattle.pb_cmd_trace.specs.declared.journey.Journey.TheVariants.{Told}
use Rattle.pb_cmd_trace.proofs.tracing.follow_all.Goals as goal

pub returns-in_ok-record-in-Told-clause-ok : goal.returns-in_ok-record-in-Told-clause-ok
returns-in_ok-record-in-Told-clause-ok c =
    let plan = c.args.plan.now in
    let entries = c.args.asked.now.entries.now in
    let t = rw c.in-Told.is at c.in_ok-round.ensures.ok in
    let ready = c.begin.new.net in
    let planned = c.begin.ensures.plan in
    let last = c.travel.new.net in
    let rec_is = c.in_ok-record-in-Told.ensures.record in
    let lawful = subst (IsLawfulRecord spanning_tree last.plan) rec_is c.in_ok-record-in-Told.ensures.lawful in
    let counted = subst (λ p. IsLawfulRecord spanning_tree p last.rec) c.travel.ensures.plan lawful in
    let lines_are = c.from_vec.ensures ∙ t.1 ∙ ap (λ z. z ++ t.0) c.new-lines.ensures.items in
    record {
      ready = ready;
      begun = c.in_ok-convergence.ensures.ok;
      planned = planned;
      lawful = start_lawful plan entries c.in-Told.round ready last t.0 planned c.steps_are_lawful.ensures counted t.2;
      shape = c.in_ok-shape.ensures;
      last = last;
      stories = subst (HasJourneyed plan entries (Told c.in-Told.round) ready last) (sym lines_are) t.2;
      counted = counted;
      enough = subst HasEnoughMemory rec_is c.in_ok-record-in-Told.ensures.enough;
      record_is = rec_is;
    }

pub returns-in_err-round-clause-err : goal.returns-in_err-round-clause-err
returns-in_err-round-clause-err c =
    let p = err_from_is_err_and c.from_residual-in_err-round.result c.from_residual-in_err-round.ensures.1 in
    let old = c.args.net in
    let mid = c.begin.new.net in
    let run = begun-run c.args.asked.now.settle old mid c.in_ok-convergence.convergence
    c.in_ok-convergence.ensures.ok in
    let fault = c.in_err-round.field-0.0 in
    let ticks = unwrap_or c.args.asked.now.settle 0 in
    let polls = length c.args.asked.now.entries.now in
    let later = caused-later 0 polls 0 1000000 fault run.0 old mid run.2 run.1 c.in_err-round.ensures.err in
    let caused : IsCaused ticks polls 0 1000000 fault old =
    caused-lower (ticks + 0) (0 + polls) 0 ticks polls 0 1000000 1000000 fault old (omega arith) (omega arith)
    (omega arith) (omega arith) later in
    rw p.1 (subst (λ e. IsCaused ticks polls 0 1000000 e old) (sym p.2) caused)

pub steps_are_lawful-requires : goal.steps_are_lawful-requires
steps_are_lawful-requires c =
    let run = begun-run c.args.asked.now.settle c.args.net c.begin.new.net c.in_ok-convergence.convergence
    c.in_ok-convergence.ensures.ok in
    done-kept c.args.net c.begin.new.net run.0 run.1 ∙ c.requires.kept

pub travel-requires-clause-kept : goal.travel-requires-clause-kept
travel-requires-clause-kept c =
    let run = begun-run c.args.asked.now.settle c.args.net c.begin.new.net c.in_ok-convergence.convergence
    c.in_ok-convergence.ensures.ok in
    done-kept c.args.net c.begin.new.net run.0 run.1 ∙ c.requires.kept

pub record_of-requires : goal.record_of-requires
record_of-requires c =
    let t = rw c.in-Told.is at c.in_ok-round.ensures.ok in
    let first = begun-run c.args.asked.now.settle c.args.net c.begin.new.net c.in_ok-convergence.convergence
    c.in_ok-convergence.ensures.ok in
    let run = journey-done c.args.plan.now c.args.asked.now.entries.now c.in-Told.round c.begin.new.net c.travel.new.net
    t.0 t.2 in
    done-kept c.begin.new.net c.travel.new.net run.0 run.1 ∙ done-kept c.args.net c.begin.new.net first.0 first.1
    ∙ c.requires.kept
