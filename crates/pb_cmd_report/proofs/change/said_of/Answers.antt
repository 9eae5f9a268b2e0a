use Rattle.std.proofs.Common.{◌≡◌, ◌++◌, sym, ap, subst, ◌∙◌}
use Rattle.pb_cmd_diff.specs.Diffs.{IsDiffText}
use Rattle.pb_cmd_report.specs.Changes.{comparing}
use Rattle.pb_cmd_report.proofs.change.said_of.Goals as goal

pub returns-then-has_compared-clause-ok : goal.returns-then-has_compared-clause-ok
returns-then-has_compared-clause-ok g c =
    let h = c.in-Ok.ensures.ok in
    let said = c.run_diff.new.writer.items in
    let only : said ≡ h.0 = h.1 ∙ ap (λ z. z ++ h.0) c.new-said.ensures.items in
    let asked = subst (λ o. IsDiffText c.args.old_file.now c.args.file.now o c.in-Ok.end h.0)
    c.comparing-options.ensures h.2 in
    record {
      end = c.in-Ok.end;
      compared = sym c.has_compared.ensures ∙ c.if-has_compared.true;
      diff = subst (λ t. IsDiffText c.args.old_file.now c.args.file.now (comparing c.args.asked.now) c.in-Ok.end t)
          (sym only) asked;
    }
