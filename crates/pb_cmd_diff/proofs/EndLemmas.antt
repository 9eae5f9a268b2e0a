-- The role and the state of a port, by its place among the ports, and the ends of the links of a sound plan.
use Rattle.std.proofs.Common.{◌≡◌, ℕ, zero, suc, ◌+◌, ◌<◌, Bool, true, false, cond, ◌==◌, List, [], ◌∷◌, Some}
use Rattle.std.proofs.Common.{length, drop, get_or, flat_map, refl, sym, ap, ◌∙◌, subst, arith}
use Rattle.std.specs.List.{AllByRecursion}
use Rattle.pb_frame.specs.Lists.{first}
use Rattle.pb_lan.specs.Ports.{ends_of}
use Rattle.pb_lan.specs.declared.plan.End.{End}
use Rattle.pb_lan.specs.declared.plan.LinkPlan.{LinkPlan}
use Rattle.pb_lan.specs.declared.shape.PortState.{PortState}
use Rattle.pb_rstp.specs.Ports.{port_of}
use Rattle.pb_rstp.specs.Readings.{roles_of, states_of}
use Rattle.pb_rstp.specs.declared.port.Port.{Port}
use Rattle.pb_rstp.specs.declared.role.Role.{Role}
use Rattle.pb_cmd_diff.specs.Ends.{computed_by}
use Rattle.pb_cmd_diff.specs.declared.ends.EndView.TheVariants.{Computed}

-- the port at a place, with its role and its state
pub record IsPlace (ports : List Port) (k : ℕ) (r : ℕ × Role) (s : ℕ × PortState) : Type 0 where
  pub p : Port
  pub here : drop k ports ≡ p ∷ drop (k + 1) ports
  pub role : r ≡ (p.number, p.role)
  pub state : s ≡ (p.number, p.state)

place_in : (ports : List Port) (k : ℕ) (r : ℕ × Role) (s : ℕ × PortState) → k < length (roles_of ports)
    → IsPlace ports k (get_or (roles_of ports) k r) (get_or (states_of ports) k s)
place_in [] k r s h = absurd (omega (arith, h))
place_in (p ∷ ps) zero r s h = record { p = p; here = refl; role = refl; state = refl }
place_in (p ∷ ps) (suc k) r s h =
    let next : suc (k + 1) ≡ suc k + 1 = omega arith in
    let at = place_in ps k r s (omega (arith, h)) in
    record { p = at.p; here = at.here ∙ ap (λ n. at.p ∷ drop n (p ∷ ps)) next; role = at.role; state = at.state }

-- the same by what the machine tells of its ports
pub place_of : (ports : List Port) (roles : List (ℕ × Role)) (states : List (ℕ × PortState)) (k : ℕ) (r : ℕ × Role)
    (s : ℕ × PortState)
    → roles ≡ roles_of ports → states ≡ states_of ports → k < length roles
    → IsPlace ports k (get_or roles k r) (get_or states k s)
place_of ports roles states k r s e f h =
    subst (λ rs. IsPlace ports k (get_or rs k r) (get_or states k s)) (sym e)
    (subst (λ ss. IsPlace ports k (get_or (roles_of ports) k r) (get_or ss k s)) (sym f)
    (place_in ports k r s (subst (λ rs. k < length rs) e h)))

first-is : {X : Type 0} (test : X → Bool) (x : X) (xs : List X) → test x ≡ true → first test (x ∷ xs) ≡ Some x
first-is test x xs t = ap (λ b. cond b (Some x) (first test xs)) t

first-later : {X : Type 0} (test : X → Bool) (x : X) (xs : List X) → test x ≡ false
    → first test (x ∷ xs) ≡ first test xs
first-later test x xs t = ap (λ b. cond b (Some x) (first test xs)) t

-- the port at the place is the one that is sought
pub place_is : (ports : List Port) (port k : ℕ) (r : ℕ × Role) (s : ℕ × PortState) → IsPlace ports k r s
    → first (λ p. p.number == port) (drop k ports) ≡ port_of ports port → (r.0 == port) ≡ true
    → Computed r.1 s.1 ≡ computed_by (port_of ports port)
place_is ports port k r s at kept t =
    let test : Port → Bool = λ p. p.number == port in
    let number : test at.p ≡ true = subst (λ (v : ℕ × Role). (v.0 == port) ≡ true) at.role t in
    let found : port_of ports port ≡ Some at.p =
    sym kept ∙ ap (first test) at.here ∙ first-is test at.p (drop (k + 1) ports) number in
    ap (λ (v : ℕ × Role). Computed v.1 s.1) at.role ∙ ap (λ (v : ℕ × PortState). Computed at.p.role v.1) at.state
    ∙ sym (ap computed_by found)

-- the port at the place is not the one that is sought
pub place_passed : (ports : List Port) (port k : ℕ) (r : ℕ × Role) (s : ℕ × PortState) → IsPlace ports k r s
    → first (λ p. p.number == port) (drop k ports) ≡ port_of ports port → (r.0 == port) ≡ false
    → first (λ p. p.number == port) (drop (k + 1) ports) ≡ port_of ports port
place_passed ports port k r s at kept t =
    let test : Port → Bool = λ p. p.number == port in
    let number : test at.p ≡ false = subst (λ (v : ℕ × Role). (v.0 == port) ≡ false) at.role t in
    sym (first-later test at.p (drop (k + 1) ports) number) ∙ sym (ap (first test) at.here) ∙ kept

-- what holds for all ends holds for both ends of each link
pub both_ends : (P : End → Type 0) (links : List LinkPlan) (k : ℕ) (d : LinkPlan)
    → AllByRecursion P (flat_map ends_of links) → k < length links → P (get_or links k d).a × P (get_or links k d).b
both_ends P [] k d a h = absurd (omega (arith, h))
both_ends P (l ∷ ls) zero d a h = (a.0, a.1.0)
both_ends P (l ∷ ls) (suc k) d a h = both_ends P ls k d a.1.1 (omega (arith, h))
