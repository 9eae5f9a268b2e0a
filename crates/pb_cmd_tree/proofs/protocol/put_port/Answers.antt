use Rattle.std.proofs.Common.{◌≡◌, ◌∷◌, [], ◌++◌, string_bytes, ap, ◌∙◌, append_assoc}
use Rattle.pb_cmd_tree.specs.Names.{id_name}
use Rattle.pb_names.proofs.TextLemmas.{join_three}
use Rattle.pb_cmd_tree.proofs.TextLemmas.{shown_words, shown_same}
use Rattle.pb_cmd_tree.proofs.protocol.put_port.Goals as goal

pub returns : goal.returns
returns c =
    let old = string_bytes c.args.out.now in
    let port = c.args.shown.now.port in
    let shown = shown_words c.bridge_name-name.result.now port c.link_name_at-link.result.now
    c.role_word-role.result.now c.state_word-state.result.now c.path_cost_at-cost.result in
    let told : string_bytes c.write.new.self ≡ old ++ shown = c.in_ok-write.ensures.bytes ∙ simp append_assoc in
    let named = told ∙ ap (λ z. old ++ z)
    (shown_same _ _ port _ _ _ _ _ _ _ _ c.bridge_name-name.ensures c.link_name_at-link.ensures
    c.role_word-role.ensures c.state_word-state.ensures c.path_cost_at-cost.ensures) in
    join_three old _ (id_name c.args.plan.now c.args.shown.now.from) (10 ∷ []) (string_bytes c.write.new.self)
    (string_bytes c.put_id.new.out) (string_bytes c.writeln.new.self) named c.in_ok-put_id.ensures
    c.in_ok-writeln.ensures.bytes
