use Rattle.std.proofs.Common.{map, ap, ◌&&◌, ◌∙◌}
use Rattle.std.proofs.lemmas.List.{length-map}
use Rattle.pb_run_losses.specs.Strict.{lost_text}
use Rattle.pb_cmd_run.proofs.NetworkLemmas.{exits}
use Rattle.pb_cmd_run.proofs.outcome.tell.Goals as goal

pub returns-clause-ok : goal.returns-clause-ok
returns-clause-ok g c =
    let ran = c.args.ran.now in
    record {
      told = c.in_ok-told.told;
      text = c.in_ok-told.ensures.ok.0;
      written = c.in_ok-told.ensures.ok.1;
      is_report = c.in_ok-told.ensures.ok.2;
      unsent_count = length-map ran.ports.items (λ rest. rest.unsent.items) ∙ c.requires.ports.0;
      unsent_is = c.requires.unsent;
      files_whole = c.args.are_files_whole;
      status_is = exits _ _ _ _ _ _ _ _ c.exit_status.ensures
          (c.is_intact-is_intact.ensures ∙ ap (λ w. w && c.args.are_files_whole) c.is_whole-is_whole.ensures)
          (λ e. c.as_str-2.ensures.value ∙ c.in_ok-lost.ensures.ok e
          ∙ ap (λ ports. lost_text c.args.plan.now ran.counts ran.settled (map (λ rest. rest.unsent.items) ports))
          c.as_slice-ports.ensures.value);
    }
