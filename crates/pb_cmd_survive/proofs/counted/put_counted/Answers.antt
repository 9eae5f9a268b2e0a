use Rattle.std.proofs.Common.{◌++◌, string_bytes, sym, ap, ◌∙◌}
use Rattle.std.specs.Prelude.{codes}
use Rattle.std.specs.Fmt.{decimal}
use Rattle.pb_cmd_survive.specs.Reports.{plural}
use Rattle.pb_cmd_survive.proofs.ListLemmas.{regroup_four}
use Rattle.pb_cmd_survive.proofs.counted.put_counted.Goals as goal

pub returns : goal.returns
returns c =
    let number = decimal c.args.number in
    let noun = c.args.noun.now in
    c.in_ok-write.ensures.bytes
    ∙ ap (λ e. string_bytes c.args.out.now ++ (number ++ (codes " " ++ (noun ++ e)))) c.plural-ending.ensures
    ∙ ap (λ z. string_bytes c.args.out.now ++ z) (sym (regroup_four number (codes " ") noun (plural c.args.number)))
