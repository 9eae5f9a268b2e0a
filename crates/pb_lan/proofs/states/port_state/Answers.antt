use Rattle.std.proofs.Common.{◌≡◌, sym, ap, ◌∙◌, true, false, Some, None, unwrap_or}
use Rattle.std.specs.List.{list_any}
use Rattle.pb_frame.specs.Lists.{first}
use Rattle.pb_lan.specs.Ports.{is_customer_at, is_end_at, all_ends}
use Rattle.pb_lan.specs.declared.shape.PortState.{PortState}
use Rattle.pb_lan.proofs.StateLemmas.{newest-customer, newest-other}
use Rattle.pb_lan.proofs.states.port_state.Goals as goal

pub returns-then-is_customer_there : goal.returns-then-is_customer_there
returns-then-is_customer_there c =
    let there : list_any (is_customer_at c.args.bridge c.args.port) c.args.plan.now.customers ≡ true = cc in
    sym (newest-customer c.args.plan.now c.args.bridge c.args.port c.args.newest there)

pub returns-in-Some : goal.returns-in-Some
returns-in-Some c =
    let none : list_any (is_customer_at c.args.bridge c.args.port) c.args.plan.now.customers ≡ false = cc in
    let found : Some c.in-Some.end.now ≡ first (is_end_at c.args.bridge c.args.port) (all_ends c.args.plan.now) =
    cc c.in-Some.ensures in
    c.unwrap_or.ensures ∙ ap (λ (s : PortState). unwrap_or c.args.newest s) c.start_by.ensures
    ∙ sym (newest-other c.args.plan.now c.args.bridge c.args.port c.args.newest (Some c.in-Some.end.now) none found)

pub returns-in-None : goal.returns-in-None
returns-in-None c =
    let none : list_any (is_customer_at c.args.bridge c.args.port) c.args.plan.now.customers ≡ false = cc in
    let found : None ≡ first (is_end_at c.args.bridge c.args.port) (all_ends c.args.plan.now) = cc c.in-None.ensures in
    sym (newest-other c.args.plan.now c.args.bridge c.args.port c.args.newest None none found)
