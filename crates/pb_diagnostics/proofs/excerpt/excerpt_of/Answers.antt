use Rattle.std.proofs.Common.{◌≡◌, ◌∙◌, ap, sym, subst, rules}
use Rattle.std.specs.Str.{IsUtf8}
use Rattle.pb_diagnostics.specs.Excerpts.{line_at, start_in}
use Rattle.pb_diagnostics.proofs.excerpt.excerpt_of.Goals as goal

pub returns : goal.returns
returns c =
    let file = c.args.file.now in
    let e : c.line_at.result.now ≡ line_at file (start_in file c.args.mark.now) =
    c.line_at.ensures ∙ ap (line_at file) c.start_in-from.ensures.value in
    record {
      line = search rules;
      column = search rules;
      width = c.width_of.ensures;
      text = λ u. c.in_ok-from_str.ensures.ok ∙ (c.text_of.ensures (subst IsUtf8 (sym e) u) ∙ e);
    }
