use Rattle.std.proofs.Common.{◌++◌, [], ◌∷◌, string_bytes, ap, ◌∙◌}
use Rattle.std.specs.Prelude.{codes}
use Rattle.pb_cmd_survive.specs.Reports.{tried_text, but_words}
use Rattle.pb_cmd_survive.proofs.ListLemmas.{rejoin_four}
use Rattle.pb_cmd_survive.proofs.surviving.put_surviving.Goals as goal

pub returns : goal.returns
returns c =
    let front = codes "survives the failure of " in
    let tried = tried_text c.args.impacts.now in
    let but = but_words c.args.accepted in
    c.in_ok-push_str-4.ensures.bytes
    ∙ ap (λ z. z ++ 10 ∷ []) c.in_ok-push_str-3.ensures.bytes
    ∙ ap (λ b. (string_bytes c.push_str-2.new.self ++ b) ++ 10 ∷ []) c.but_words.ensures
    ∙ ap (λ z. (z ++ but) ++ 10 ∷ []) c.in_ok-push_str-2.ensures.bytes
    ∙ ap (λ t. ((string_bytes c.push_str.new.self ++ t) ++ but) ++ 10 ∷ []) c.tried_text.ensures
    ∙ ap (λ z. ((z ++ tried) ++ but) ++ 10 ∷ []) c.in_ok-push_str.ensures.bytes
    ∙ rejoin_four (string_bytes c.args.out.now) front tried but (10 ∷ [])
