-- The rows of a protocol machine's ports.
use Rattle.std.proofs.Common.{◌≡◌, ◌<◌, ◌+◌, ℕ, List, ◌++◌, drop, flat_map, length, get_or, sym, ap, ◌∙◌}
use Rattle.std.proofs.Common.{append_assoc}
use Rattle.pb_frame.proofs.Things.{thing_within, from_here}
use Rattle.pb_lan.specs.declared.shape.PortState.{PortState}
use Rattle.pb_lan.specs.declared.plan.Plan.{Plan}
use Rattle.pb_rstp.specs.Ports.{Machine}
use Rattle.pb_rstp.specs.Readings.{roles_of, states_of}
use Rattle.pb_rstp.specs.declared.role.Role.{Role}
use Rattle.pb_cmd_tree.proofs.TextLemmas.{role_at, state_at, role_count}
use Rattle.pb_cmd_tree.specs.TreeTexts.{designated_at}
use Rattle.pb_cmd_report.specs.Trees.{port_words, port_row}

-- one more port: the text so far and the line of port k are the text that put_ports needs for its next turn
pub ports_more : (plan : Plan) (bridge : ℕ) (machine : Machine) (roles : List (ℕ × Role))
    (states : List (ℕ × PortState)) (k from : ℕ) (d : ℕ × Role) (s : ℕ × PortState) (out more all : List ℕ)
    → roles ≡ roles_of machine.ports → states ≡ states_of machine.ports → k < length roles
    → from ≡ designated_at machine (get_or roles k d).0 (get_or roles k d).1
    → more ≡ out ++ port_words plan bridge (get_or roles k d).0 (get_or roles k d).1 (get_or states k s).1 from
    → out ++ flat_map (port_row plan bridge machine) (drop k machine.ports) ≡ all
    → more ++ flat_map (port_row plan bridge machine) (drop (k + 1) machine.ports) ≡ all
ports_more plan bridge machine roles states k from d s out more all are_roles are_states within from_is grown so_far =
    let at = thing_within machine.ports k (role_count machine.ports roles k are_roles within) in
    let p = at.0 in
    let r_is : get_or roles k d ≡ (p.number, p.role) = ap (λ xs. get_or xs k d) are_roles
    ∙ role_at machine.ports k p d at.1 in
    let s_is : get_or states k s ≡ (p.number, p.state) = ap (λ xs. get_or xs k s) are_states
    ∙ state_at machine.ports k p s at.1 in
    let f_is : from ≡ designated_at machine p.number p.role = from_is ∙ ap (λ r. designated_at machine r.0 r.1) r_is in
    let line : port_words plan bridge (get_or roles k d).0 (get_or roles k d).1 (get_or states k s).1 from ≡ port_row
    plan bridge machine p =
    ap (λ r. port_words plan bridge r.0 r.1 (get_or states k s).1 from) r_is
    ∙ ap (λ z. port_words plan bridge p.number p.role z.1 from) s_is
    ∙ ap (port_words plan bridge p.number p.role p.state) f_is in
    let rest = flat_map (port_row plan bridge machine) (drop (k + 1) machine.ports) in
    ap (λ z. z ++ rest) (grown ∙ ap (λ w. out ++ w) line) ∙ append_assoc out (port_row plan bridge machine p) rest
    ∙ sym (ap (λ ps. out ++ flat_map (port_row plan bridge machine) ps) (from_here machine.ports k p at.1)) ∙ so_far
