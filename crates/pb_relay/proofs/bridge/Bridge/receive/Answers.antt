use Rattle.std.proofs.Common.{is_some, ap, sym, subst, ◌∙◌}
use Rattle.pb_frame.proofs.Lists.{Some-injective}
use Rattle.pb_lan.specs.declared.step.Outcome.{Outcome}
use Rattle.pb_relay.proofs.ReceptionLemmas.{told_outcome}
use Rattle.pb_relay.specs.Standing.{HasReceived}
use Rattle.pb_relay.proofs.bridge.Bridge.receive.Goals as goal

pub newest_outcome-outcome-requires : goal.newest_outcome-outcome-requires
newest_outcome-outcome-requires c =
    ap is_some (told_outcome c.args.self.now c.admit.new.self _ _ _ _ _ c.in_ok-given.ensures.ok c.self.view_is
    c.as_slice.ensures.kept)

pub returns-clause-ok : goal.returns-clause-ok
returns-clause-ok c =
    let h = c.in_ok-given.ensures.ok in
    let told = told_outcome c.args.self.now c.admit.new.self _ _ _ _ _ h c.self.view_is c.as_slice.ensures.kept in
    subst (λ (o : Outcome). HasReceived c.args.self.now c.args.port c.args.item o c.admit.new.self)
    (Some-injective (sym told ∙ c.newest_outcome-outcome.ensures)) (h.0, h.2, h.3, h.4)
