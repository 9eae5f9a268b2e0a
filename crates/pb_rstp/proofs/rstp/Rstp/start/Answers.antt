use Rattle.std.proofs.Common.{List, ap, ap₂, sym, subst, ◌∙◌, map, ℕ}
use Rattle.pb_rstp.specs.Laws.{IsInLine}
use Rattle.pb_rstp.specs.Machine.{moving}
use Rattle.pb_rstp.specs.Ports.{Machine, fresh}
use Rattle.pb_rstp.specs.Readings.{roles_of, states_of}
use Rattle.pb_rstp.specs.Settling.{nows}
use Rattle.pb_rstp.specs.declared.port.Port.{Port}
use Rattle.pb_rstp.specs.Rising.{AreRising}
use Rattle.pb_rstp.proofs.LineLaws.{start_is_in_line, above_zero, fresh_now, fresh_rising}
use Rattle.pb_rstp.proofs.rstp.Rstp.start.Goals as goal

pub invariant_of-result : goal.invariant_of-result
invariant_of-result c =
    let ports = ap nows (c.in_ok-ports.ensures
    ∙ ap (λ ps. map (λ p. moving (λ q. q) (fresh p)) ps) c.as_slice.ensures) ∙ fresh_now c.args.config.ports in
    record {
      roles = c.in_ok-roles.ensures ∙ ap (λ ms. roles_of (nows ms)) c.deref.ensures.value;
      states = c.in_ok-states.ensures ∙ ap (λ ms. states_of (nows ms)) c.deref-2.ensures.value;
      by_number = subst (λ (ports : List Port). AreRising 0 (map (λ p. p.number) ports)) (sym ports)
          (fresh_rising 0 c.args.config.ports c.requires);
      in_line = subst
          (λ (ports : List Port). let machine : Machine = record {
            id = c.bridge_id-id.result;
            prompt = c.args.prompt;
            ports = ports;
            hello_when = 2;
          } in IsInLine machine) (sym ports)
          (start_is_in_line c.args.prompt c.bridge_id-id.result c.args.config.ports
          (above_zero 0 c.args.config.ports c.requires));
    }

pub returns : goal.returns
returns c =
    let ports = ap nows (c.in_ok-ports.ensures
    ∙ ap (λ ps. map (λ p. moving (λ q. q) (fresh p)) ps) c.as_slice.ensures) ∙ fresh_now c.args.config.ports in
    ap₂ (λ (id : ℕ) (ports : List Port). let machine : Machine =
    record { id = id; prompt = c.args.prompt; ports = ports; hello_when = 2 } in machine) c.bridge_id-id.ensures ports
