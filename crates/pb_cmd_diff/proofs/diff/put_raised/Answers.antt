use Rattle.std.proofs.Common.{◌≡◌, map, sym, subst, ◌∙◌}
use Rattle.std.proofs.lemmas.Result.{IfOk-weaker}
use Rattle.pb_cmd_survive.specs.Survivals.{most_events}
use Rattle.pb_cmd_diff.proofs.SideLemmas.{moved}
use Rattle.pb_cmd_diff.specs.Compared.{service_in, old_services}
use Rattle.pb_cmd_diff.specs.Diffs.{IsReportWith}
use Rattle.pb_cmd_diff.proofs.diff.put_raised.Goals as goal

pub put_looks-requires-clause-sides : goal.put_looks-requires-clause-sides
put_looks-requires-clause-sides g c = λ κs lives.
    let old = c.in_ok-old_up.ensures in
    let new = c.in_ok-new_up.ensures in
    let olds = c.as_slice-4.result.now in
    let news = c.as_slice-5.result.now in
    let numbers : news ≡ map (service_in c.args.old.now c.args.new.now) c.as_slice.result.now =
    c.as_slice-5.ensures.value ∙ c.in_ok-news.ensures in
    let same : c.as_slice.result.now ≡ olds = c.as_slice.ensures.value ∙ sym c.as_slice-4.ensures.value in
    record {
      old_up = old.3;
      old_whole = old.1;
      new_up = new.3;
      new_whole = new.1;
      limits = new.2 ∙ sym old.2;
      numbers = subst (λ p. news ≡ map (service_in p c.in_ok-new_up.new_up.plan.now) olds) (sym old.0)
          (subst (λ p. news ≡ map (service_in c.args.old.now p) olds) (sym new.0)
          (subst (λ ns. news ≡ map (service_in c.args.old.now c.args.new.now) ns) same numbers));
    }

pub returns : goal.returns
returns g c =
    let asked = c.args.asked.now in
    let one = c.in_ok-old_up.old_up in
    let other = c.in_ok-new_up.new_up in
    let old = c.in_ok-old_up.ensures in
    let new = c.in_ok-new_up.ensures in
    let services = old_services c.args.old.now c.args.new.now asked.compared in
    IfOk-weaker c.put_looks.result _ _
    (λ end h. (
      h.0,
      h.1,
      record {
        found = c.requires.found;
        report = moved one.plan.now other.plan.now c.args.old.now c.args.new.now c.as_slice-4.result.now services
            one.patience (record { ticks = asked.ticks; events = most_events }) old.0 new.0
            (c.as_slice-4.ensures.value ∙ c.in_ok-olds.ensures) old.2
            (λ a b ns t e. IsReportWith a b ns t e asked end h.0) h.2;
      },
    ))
    c.put_looks.ensures
