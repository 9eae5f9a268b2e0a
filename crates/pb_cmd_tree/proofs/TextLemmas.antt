-- Texts of several parts, one after the other.
use Rattle.std.proofs.Common.{◌≡◌, ◌≤◌, ◌<◌, ◌+◌, ◌==◌, ℕ, zero, suc, List, [], ◌∷◌, ◌++◌, drop, flat_map, length}
use Rattle.std.proofs.Common.{slice_get, get_or, codes, Some, IsSome, refl, sym, ap, subst, ◌∙◌, rules}
use Rattle.std.proofs.Common.{append_assoc, append-nil}
use Rattle.std.proofs.lemmas.List.{drop_all, length-map}
use Rattle.std.specs.Fmt.{decimal}
use Rattle.pb_frame.proofs.Lists.{Some-injective, first-finds, eqb-refl}
use Rattle.pb_frame.proofs.Things.{thing_within, from_here}
use Rattle.pb_converge.specs.Convergences.{IsConvergenceIn}
use Rattle.pb_lan.specs.LastShapes.{last_shape}
use Rattle.pb_lan.specs.Records.{IsLawfulRecord}
use Rattle.pb_lan.specs.declared.plan.Plan.{Plan}
use Rattle.pb_lan.specs.declared.plan.Spanning.{Spanning}
use Rattle.pb_lan.specs.declared.plan.Spanning.TheVariants.{Fixed, Rstp}
use Rattle.pb_lan.specs.declared.record.Record.{Record}
use Rattle.pb_lan.specs.declared.shape.PortState.{PortState}
use Rattle.pb_lan.specs.declared.shape.Shape.{Shape}
use Rattle.pb_lan.specs.declared.step.Step.{Step}
use Rattle.pb_net.specs.Answers.{NetView}
use Rattle.pb_relay.specs.Machines.{machine_in}
use Rattle.pb_relay.specs.Protocol.{spanning_tree}
use Rattle.pb_relay.proofs.CauseLemmas.{a_machine}
use Rattle.pb_rstp.specs.Ports.{Machine, port_of}
use Rattle.pb_rstp.specs.Profile.{machine_of}
use Rattle.pb_rstp.specs.Readings.{roles_of, states_of}
use Rattle.pb_rstp.specs.declared.port.Port.{Port}
use Rattle.pb_rstp.specs.declared.role.Role.{Role}
use Rattle.pb_cmd_tree.specs.TreeTexts.{designated_at, port_words, port_line, IsServiceTextAt, AreServiceTexts}
use Rattle.pb_cmd_tree.specs.TreeTexts.{IsGivenText, IsProtocolText, IsTreeText}
use Rattle.pb_converge.specs.declared.convergence.Convergence.{Convergence}
use Rattle.pb_converge.specs.declared.convergence.Convergence.TheVariants.{Given, Converged, NotConverged}

-- the machine of a bridge's steps is the one that the network holds, if the bridges run the protocol
pub machine_is : (plan : Plan) (n : ℕ) (steps : List Step) (machine : Machine) → plan.spanning ≡ Rstp
    → Some machine ≡ machine_in plan n steps → machine ≡ machine_of plan n steps
machine_is plan n steps machine e h = Some-injective (h ∙ a_machine plan n steps e)

pub role_at : (ports : List Port) (k : ℕ) (p : Port) (other : ℕ × Role) → slice_get ports k ≡ Some p
    → get_or (roles_of ports) k other ≡ (p.number, p.role)
role_at [] k p other h = cc
role_at (q ∷ ports) zero p other h = let e : q ≡ p = Some-injective h in ap (λ z. (z.number, z.role)) e
role_at (q ∷ ports) (suc k) p other h = role_at ports k p other h

pub state_at : (ports : List Port) (k : ℕ) (p : Port) (other : ℕ × PortState) → slice_get ports k ≡ Some p
    → get_or (states_of ports) k other ≡ (p.number, p.state)
state_at [] k p other h = cc
state_at (q ∷ ports) zero p other h = let e : q ≡ p = Some-injective h in ap (λ z. (z.number, z.state)) e
state_at (q ∷ ports) (suc k) p other h = state_at ports k p other h

pub role_count : (ports : List Port) (roles : List (ℕ × Role)) (k : ℕ) → roles ≡ roles_of ports → k < length roles
    → k < length ports
role_count ports roles k e within =
    let pair : Port → ℕ × Role = λ p. (p.number, p.role) in
    subst (λ n. k < n) (ap length e ∙ length-map ports pair) within

-- one more port: the text so far and the line of port k are the text that put_ports needs for its next turn
pub ports_more : (plan : Plan) (bridge : ℕ) (machine : Machine) (roles : List (ℕ × Role))
    (states : List (ℕ × PortState)) (k from : ℕ) (d : ℕ × Role) (s : ℕ × PortState) (out more all : List ℕ)
    → roles ≡ roles_of machine.ports → states ≡ states_of machine.ports → k < length roles
    → from ≡ designated_at machine (get_or roles k d).0 (get_or roles k d).1
    → more ≡ out ++ port_words plan bridge (get_or roles k d).0 (get_or roles k d).1 (get_or states k s).1 from
    → out ++ flat_map (port_line plan bridge machine) (drop k machine.ports) ≡ all
    → more ++ flat_map (port_line plan bridge machine) (drop (k + 1) machine.ports) ≡ all
ports_more plan bridge machine roles states k from d s out more all are_roles are_states within from_is grown so_far =
    let at = thing_within machine.ports k (role_count machine.ports roles k are_roles within) in
    let p = at.0 in
    let r_is : get_or roles k d ≡ (p.number, p.role) = ap (λ xs. get_or xs k d) are_roles
    ∙ role_at machine.ports k p d at.1 in
    let s_is : get_or states k s ≡ (p.number, p.state) = ap (λ xs. get_or xs k s) are_states
    ∙ state_at machine.ports k p s at.1 in
    let f_is : from ≡ designated_at machine p.number p.role = from_is ∙ ap (λ r. designated_at machine r.0 r.1) r_is in
    let line : port_words plan bridge (get_or roles k d).0 (get_or roles k d).1 (get_or states k s).1 from ≡ port_line
    plan bridge machine p =
    ap (λ r. port_words plan bridge r.0 r.1 (get_or states k s).1 from) r_is
    ∙ ap (λ z. port_words plan bridge p.number p.role z.1 from) s_is
    ∙ ap (port_words plan bridge p.number p.role p.state) f_is in
    let rest = flat_map (port_line plan bridge machine) (drop (k + 1) machine.ports) in
    ap (λ z. z ++ rest) (grown ∙ ap (λ w. out ++ w) line) ∙ append_assoc out (port_line plan bridge machine p) rest
    ∙ sym (ap (λ ps. out ++ flat_map (port_line plan bridge machine) ps) (from_here machine.ports k p at.1)) ∙ so_far

-- each role belongs to a port, as designated_at requires
pub port_is_there : (ports : List Port) (roles : List (ℕ × Role)) (k : ℕ) (d : ℕ × Role) → roles ≡ roles_of ports
    → k < length roles → IsSome (port_of ports (get_or roles k d).0)
port_is_there ports roles k d are_roles within =
    let at = thing_within ports k (role_count ports roles k are_roles within) in
    let p = at.0 in
    let r_is : get_or roles k d ≡ (p.number, p.role) = ap (λ xs. get_or xs k d) are_roles ∙ role_at ports k p d at.1 in
    let found = first-finds (λ (q : Port). q.number == p.number) ports k p at.1 (eqb-refl p.number) in
    subst (λ (r : ℕ × Role). IsSome (port_of ports r.0)) (sym r_is) (subst (λ o. IsSome o) (sym found.1) (search rules))

-- one more service: the text of service k completes the text so far, for the next turn of put_services
pub services_more : (plan : Plan) (shape : Shape) (k : ℕ) (done text rest : List ℕ) → IsServiceTextAt plan shape k text
    → ((others : List ℕ) → AreServiceTexts plan shape (drop k plan.services) others → AreServiceTexts plan shape
    plan.services (done ++ others))
    → AreServiceTexts plan shape (drop (k + 1) plan.services) rest
    → AreServiceTexts plan shape plan.services ((done ++ text) ++ rest)
services_more plan shape k done text rest (service, there, is) complete are =
    let here : AreServiceTexts plan shape (drop k plan.services) (text ++ rest) =
    subst (λ ss. AreServiceTexts plan shape ss (text ++ rest)) (sym (from_here plan.services k service there))
    (text, rest, refl, is, are) in
    subst (λ t. AreServiceTexts plan shape plan.services t) (sym (append_assoc done text rest))
    (complete (text ++ rest) here)

pub services_end : (plan : Plan) (shape : Shape) (k : ℕ) (done : List ℕ) → length plan.services ≤ k
    → ((others : List ℕ) → AreServiceTexts plan shape (drop k plan.services) others → AreServiceTexts plan shape
    plan.services (done ++ others))
    → AreServiceTexts plan shape plan.services done
services_end plan shape k done past complete =
    subst (λ t. AreServiceTexts plan shape plan.services t) (append-nil done)
    (complete [] (subst (λ ss. AreServiceTexts plan shape ss []) (sym (drop_all k plan.services past)) refl))

-- the line of a port up to the Designated bridge
abbrev pub shown_words : List ℕ → ℕ → List ℕ → List ℕ → List ℕ → ℕ → List ℕ
shown_words name port link role state cost =
    codes "port " ++ name ++ codes " " ++ decimal port ++ codes " link " ++ link ++ codes " " ++ role ++ codes " "
    ++ state ++ codes " cost " ++ decimal cost ++ codes " from "

pub shown_same : (name name' : List ℕ) (port : ℕ) (link link' role role' state state' : List ℕ) (cost cost' : ℕ)
    → name ≡ name' → link ≡ link' → role ≡ role' → state ≡ state' → cost ≡ cost'
    → shown_words name port link role state cost ≡ shown_words name' port link' role' state' cost'
shown_same name name' port link link' role role' state state' cost cost' n l r s k =
    ap (λ z. shown_words z port link role state cost) n ∙ ap (λ z. shown_words name' port z role state cost) l
    ∙ ap (λ z. shown_words name' port link' z state cost) r
    ∙ ap (λ z. shown_words name' port link' role' z cost) s ∙ ap (λ z. shown_words name' port link' role' state' z) k

-- the element at an index is what get_or returns there
pub item_is : {X : Type 0} (xs : List X) (k : ℕ) (x : X) → slice_get xs k ≡ Some x → x ≡ get_or xs k x
item_is [] k x h = cc
item_is (y ∷ xs) zero x h = sym (Some-injective h)
item_is (y ∷ xs) (suc k) x h = item_is xs k x h

pub protocol_tree : (plan : Plan) (rec : Record) (spanning : Spanning) (convergence : Convergence) (text : List ℕ)
    → IsConvergenceIn spanning convergence → spanning ≡ Rstp → IsProtocolText plan rec convergence text
    → IsTreeText plan rec convergence text
protocol_tree plan rec Rstp Given text fits e t = absurd fits
protocol_tree plan rec Rstp (Converged ticks) text fits e t = t
protocol_tree plan rec Rstp (NotConverged ticks) text fits e t = t
protocol_tree plan rec Fixed convergence text fits e t = cc

pub given_tree : (plan : Plan) (rec : Record) (spanning : Spanning) (convergence : Convergence) (text : List ℕ)
    → IsConvergenceIn spanning convergence → spanning ≡ Fixed → IsGivenText plan (last_shape plan rec) text
    → IsTreeText plan rec convergence text
given_tree plan rec Fixed Given text fits e t = t
given_tree plan rec Fixed (Converged ticks) text fits e t = absurd fits
given_tree plan rec Fixed (NotConverged ticks) text fits e t = absurd fits
given_tree plan rec Rstp convergence text fits e t = cc

-- the record at the end is lawful for the plan of the network
pub lawful_end : (plan : Plan) (end : NetView) (rec : Record) → end.plan ≡ plan → rec ≡ end.rec
    → IsLawfulRecord spanning_tree end.plan rec → IsLawfulRecord spanning_tree plan end.rec
lawful_end plan end rec planned is h =
    subst (λ r. IsLawfulRecord spanning_tree plan r) is (subst (λ p. IsLawfulRecord spanning_tree p rec) planned h)
