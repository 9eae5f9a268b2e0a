use Rattle.std.proofs.Common.{◌++◌, [], ◌∷◌, string_bytes, sym, ap, ◌∙◌}
use Rattle.std.specs.Prelude.{codes}
use Rattle.std.specs.Fmt.{decimal}
use Rattle.pb_cmd_survive.proofs.ListLemmas.{regroup_six}
use Rattle.pb_cmd_survive.proofs.totals.put_some.Goals as goal

pub returns : goal.returns
returns c =
    c.in_ok-writeln.ensures.bytes
    ∙ ap (λ z. string_bytes c.args.out.now ++ z)
    (sym (regroup_six (decimal c.args.count) (codes " of ") (decimal c.args.all)
    (codes " failures ") c.args.what.now (10 ∷ [])))
