use Rattle.std.proofs.Common.{◌≡◌, Some, false, is_some, ap, sym, ◌∙◌}
use Rattle.pb_svlan.specs.ServiceTables.{ServiceTable, is_taken, kind_in, attached}
use Rattle.pb_svlan.specs.declared.port.PortKind.TheVariants.{Customer}
use Rattle.pb_svlan.proofs.ServiceLemmas.{ascending-attached}
use Rattle.pb_svlan.proofs.services.Services.join.Goals as goal

pub invariant_of-self-2 : goal.invariant_of-self-2
invariant_of-self-2 c =
    let free : is_some (kind_in c.self.inside.ports.items c.args.port) ≡ false = ap (λ t. is_taken t c.args.port)
    c.self.view_is ∙ sym c.is_taken.ensures ∙ c.if-is_taken.false in (
      c.self.invariant.0,
      ascending-attached c.self.inside.ports.items c.attach.new.ports.items _ c.self.invariant.1
          free c.in_ok-attach.ensures.ok,
    )

pub returns-clause-ok : goal.returns-clause-ok
returns-clause-ok c =
    let old : ServiceTable = record { services = c.self.inside.services.entries; ports = c.self.inside.ports.items }
    in (
      c.customer-join.result,
      sym c.in-Some.ensures ∙ ap (λ v. Some v) (sym c.customer-join.ensures.vid),
      c.customer-join.ensures.pcp,
      ap (λ ps. record old { ports = ps }) c.in_ok-attach.ensures.ok
          ∙ ap (λ t. attached t c.args.port (Customer c.customer-join.result)) c.self.view_is,
    )
