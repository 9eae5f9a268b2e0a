use Rattle.std.proofs.Common.{◌++◌, flat_map, string_bytes, sym, ap, ◌∙◌, map-id}
use Rattle.std.proofs.lemmas.Iterator.{YieldsList-from_chars}
use Rattle.std.proofs.lemmas.Iterator.Consumers.{YieldsList-end}
use Rattle.pb_cmd_report.specs.Html.{shown, escaped}
use Rattle.pb_cmd_report.proofs.html.put_escaped.Goals as goal

pub returns : goal.returns
unfolding escaped
returns c =
    let all = YieldsList-from_chars c.args.text.now c.utf8.text cc in
    let end = YieldsList-end all c.loop-c.yielded _ c.loop-c.yielded_by _ _ c.in-None.is c.next.ensures.steps in
    let same = sym (map-id c.loop-c.yielded) ∙ end.0 in
    c.loop-c.invariant ∙ ap (λ cs. string_bytes c.args.out.now ++ flat_map shown cs) same
