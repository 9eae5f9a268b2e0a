use Rattle.std.proofs.Common.{◌++◌, ap, ◌∙◌}
use Rattle.pb_cmd_report.specs.Changes.{change_text}
use Rattle.pb_cmd_report.proofs.change.text_of.Goals as goal

pub returns : goal.returns
returns c =
    let told = c.in_ok-put_change.ensures in
    let text = change_text c.args.title.now c.args.said.now told.0 in
    record {
      base = c.in_ok-base.base;
      is_base = c.in_ok-base.ensures;
      picture = told.0;
      is_picture = told.2;
      text_is = told.1 ∙ ap (λ z. z ++ text) c.new-text.ensures.bytes;
    }
