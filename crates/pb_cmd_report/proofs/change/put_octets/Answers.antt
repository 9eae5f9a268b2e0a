use Rattle.std.proofs.Common.{◌≡◌, ◌++◌, OnOk, string_bytes, subst}
use Rattle.pb_cmd_report.specs.Html.{escaped}
use Rattle.pb_cmd_report.proofs.change.put_octets.Goals as goal

pub returns-in-Ok : goal.returns-in-Ok
returns-in-Ok c =
    subst (λ t. OnOk c.put_escaped.result
    (string_bytes c.put_escaped.new.out ≡ string_bytes c.args.out.now ++ escaped t))
    c.in-Ok.ensures.cases.0 c.put_escaped.ensures
