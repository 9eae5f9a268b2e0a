use Rattle.std.proofs.Common.{◌≡◌, Some, option_copied, false, is_some, ap, sym, ◌∙◌}
use Rattle.pb_svlan.specs.ServiceTables.{ServiceTable, is_taken, kind_in, attached, carried}
use Rattle.pb_svlan.specs.declared.port.PortKind.TheVariants.{Trunk}
use Rattle.pb_svlan.proofs.ServiceLemmas.{ascending-attached}
use Rattle.pb_svlan.proofs.services.Services.trunk.Goals as goal
use Rattle.pb_svlan.proofs.services.Services.trunk.Goals.{in-None, in-Some+in_ok-vids_of-in-Some}

pub invariant_of-self-2 : goal.invariant_of-self-2
invariant_of-self-2 c =
    let free : is_some (kind_in c.self.inside.ports.items c.args.port) ≡ false = ap (λ t. is_taken t c.args.port)
    c.self.view_is ∙ sym c.is_taken.ensures ∙ c.if-is_taken.false in (
      c.self.invariant.0,
      ascending-attached c.self.inside.ports.items c.attach.new.ports.items _ c.self.invariant.1
          free c.in_ok-attach.ensures.ok,
    )

pub returns-clause-ok : goal.returns-clause-ok
returns-clause-ok c =
    let old : ServiceTable = record { services = c.self.inside.services.entries; ports = c.self.inside.ports.items } in
    let told = elim c.match-services.branch as
    (λ _. c.match-services.vids ≡ carried c.args.self.now (option_copied c.args.services)) [
      | in-None w ↦ w.vids-is ∙ ap (λ o. carried c.args.self.now (option_copied o)) (sym w.in-None.is)
      | in-Some+in_ok-vids_of-in-Some w ↦ w.vids-is ∙ ap (λ v. Some v) w.in_ok-vids_of-in-Some.ensures
          ∙ ap (λ o. carried c.args.self.now (option_copied o)) (sym w.in-Some.is)
    ] in
    ap (λ ps. record old { ports = ps }) c.in_ok-attach.ensures.ok
    ∙ ap (λ t. attached t c.args.port (Trunk c.match-services.vids)) c.self.view_is
    ∙ ap (λ v. attached c.args.self.now c.args.port (Trunk v)) told
