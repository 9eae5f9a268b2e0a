use Rattle.std.proofs.Common.{◌++◌, string_bytes, ap, ◌∙◌}
use Rattle.std.specs.Prelude.{codes}
use Rattle.pb_names.specs.Names.{service_name}
use Rattle.pb_cmd_survive.specs.AcceptedTexts.{failure_key}
use Rattle.pb_cmd_survive.proofs.ListLemmas.{rejoin_five}
use Rattle.pb_cmd_survive.proofs.tables.put_table.Goals as goal

pub returns : goal.returns
returns c =
    let key = failure_key c.args.plan.now c.args.failure in
    let front = codes "service = \"" in
    let name = service_name c.args.plan.now c.args.service in
    let end = codes "\"\n\n" in
    c.in_ok-push_str-4.ensures.bytes
    ∙ ap (λ z. z ++ end) c.in_ok-push_str-3.ensures.bytes
    ∙ ap (λ n. (string_bytes c.push_str-2.new.self ++ n) ++ end) c.service_name.ensures
    ∙ ap (λ z. (z ++ name) ++ end) c.in_ok-push_str-2.ensures.bytes
    ∙ ap (λ z. ((z ++ front) ++ name) ++ end) c.in_ok-put_failure_key.ensures
    ∙ ap (λ z. (((z ++ key) ++ front) ++ name) ++ end) c.in_ok-push_str.ensures.bytes
    ∙ rejoin_five (string_bytes c.args.out.now) (codes "[[accept]]\n") key front name end
