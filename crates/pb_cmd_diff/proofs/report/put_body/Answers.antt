use Rattle.std.proofs.Common.{◌++◌, flat_map, string_bytes, ap, ◌∙◌}
use Rattle.pb_lan.specs.Numbering.{numbers_from}
use Rattle.pb_plan_diff.specs.Differences.{plan_lines}
use Rattle.pb_cmd_diff.specs.Reports.{service_lines, ends_line, convergence_line, ticks_line}
use Rattle.pb_cmd_diff.specs.Reports.{old_convergence, new_convergence}
use Rattle.pb_cmd_diff.proofs.ItemLemmas.{rejoin_body}
use Rattle.pb_cmd_diff.proofs.report.put_body.Goals as goal

pub returns : goal.returns
returns c =
    let old = c.args.old.now in
    let new = c.args.new.now in
    let base = c.args.base.now in
    let effects = c.args.effects.now in
    let services = flat_map (service_lines old new base effects) (numbers_from 1 base.services) in
    let links = flat_map (ends_line old new c.args.olds.now c.args.news.now) (numbers_from 1 old.links) in
    let first = convergence_line old new base in
    let later = flat_map (convergence_line old new) effects in
    let ticks = ticks_line (flat_map old_convergence effects) (flat_map new_convergence effects) in
    c.in_ok-put_ticks.ensures
    ∙ ap (λ z. z ++ ticks) c.in_ok-put_convergences.ensures
    ∙ ap (λ z. (z ++ (first ++ later)) ++ ticks) c.in_ok-put_links.ensures
    ∙ ap (λ z. ((z ++ links) ++ (first ++ later)) ++ ticks) c.in_ok-put_services.ensures
    ∙ ap (λ z. (((z ++ services) ++ links) ++ (first ++ later)) ++ ticks) c.in_ok-put_plan_diff.ensures
    ∙ rejoin_body (string_bytes c.args.out.now) (plan_lines old new) services links first later ticks
