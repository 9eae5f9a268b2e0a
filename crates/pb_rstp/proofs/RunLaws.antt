-- What holds of a bridge's fields after a call.
use Rattle.std.proofs.Common.{◌≡◌, ℕ, List, sym, subst, ap, ◌∙◌, Bool, map, length}
use Rattle.std.specs.declared.option.Option.{Option}
use Rattle.std.proofs.Common.{Vec}
use Rattle.std.specs.Vec.{with_items}
use Rattle.std.proofs.lemmas.List.{with_items_is}
use Rattle.pb_lan.specs.declared.shape.PortState.{PortState}
use Rattle.pb_rstp.specs.Laws.{IsInLine}
use Rattle.pb_rstp.specs.Machine.{moved_by, own_change}
use Rattle.pb_rstp.specs.Ports.{Machine}
use Rattle.pb_rstp.specs.Readings.{IsTold, roles_of, states_of}
use Rattle.pb_rstp.specs.Rising.{AreRising}
use Rattle.pb_rstp.specs.Settling.{nows, settled, with_sent}
use Rattle.pb_rstp.specs.declared.moving.Heard.{Heard}
use Rattle.pb_rstp.specs.declared.moving.Moving.{Moving}
use Rattle.pb_rstp.specs.declared.own_change.OwnChange.{OwnChange}
use Rattle.pb_rstp.specs.declared.port.Port.{Port}
use Rattle.pb_rstp.specs.declared.role.Role.{Role}
use Rattle.pb_rstp.proofs.LineLaws.{settled_in_line}
use Rattle.pb_rstp.proofs.MovingLaws.{moving_by, same_own, settle_rising}

-- the ports of a vector after it was run over in place
pub ports_after : {Z : Type 0} (v : Vec Moving Z) (new seen : List Moving) (run : List Port → List Moving)
    → length new ≡ v.len → new ≡ run (nows seen) → seen ≡ v.items
    → nows (with_items v new).items ≡ nows (run (nows v.items))
ports_after v new seen run long is here =
    ap nows (with_items_is v new long) ∙ ap nows is ∙ ap (λ ms. nows (run (nows ms))) here

-- after a call the roles and states that callers read are the bridge's
pub told_after : (prompt : Bool) (id hello_when : ℕ) (heard : Option Heard) (own : OwnChange) (before after : List Port)
    (roles : List (ℕ × Role)) (states : List (ℕ × PortState)) → AreRising 0 (map (λ p. p.number) before)
    → after ≡ nows (with_sent (settled prompt id heard (moved_by (own_change own) before)))
    → roles ≡ roles_of after → states ≡ states_of after
    → IsTold (record { id = id; prompt = prompt; ports = after; hello_when = hello_when }) roles states
told_after prompt id hello_when heard own before after roles states rising is told_roles told_states =
    let moving = moving_by (own_change own) (same_own own) before in
    record {
      roles = told_roles;
      states = told_states;
      by_number = subst (λ (ports : List Port). AreRising 0 (map (λ p. p.number) ports)) (sym is)
          (settle_rising prompt id heard before (moved_by (own_change own) before) moving rising);
      in_line = subst
          (λ (ports : List Port). let machine : Machine =
          record { id = id; prompt = prompt; ports = ports; hello_when = hello_when } in IsInLine machine)
          (sym is) (settled_in_line prompt id hello_when heard (moved_by (own_change own) before));
    }
