use Rattle.std.proofs.Common.{◌∷◌, ◌++◌, [], map, ap, sym, ◌∙◌}
use Rattle.std.specs.Option.{option_to_list}
use Rattle.std.specs.declared.option.Option.{Option}
use Rattle.pb_lan.specs.declared.step.Item.{Item}
use Rattle.pb_relay.specs.Classes.{first_out}
use Rattle.pb_relay.proofs.OwnLemmas.{first_own}
use Rattle.pb_relay.proofs.queues.PortQueues.first.Goals as goal

pub returns-in-Some : goal.returns-in-Some
returns-in-Some c =
    let qs = map (λ q. q.items) c.self.inside.classes.items in
    sym (first_own qs c.in-Some.item [])
    ∙ ap (λ (o : Option Item). first_out (qs ++ option_to_list o ∷ [])) (sym c.in-Some.is)
    ∙ ap first_out c.self.view_is
