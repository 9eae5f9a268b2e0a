-- The test whether a network has converged is right.
use Rattle.std.proofs.Common.{◌≡◌, List, [], ◌∷◌, Some, None, refl, sym, ap, ap₂, ◌∙◌, Bool, true, false, ◌&&◌, ◌||◌, not}
use Rattle.std.specs.declared.option.Option.{Option}
use Rattle.std.specs.List.{list_all, AllByRecursion}
use Rattle.std.proofs.lemmas.Bool.{and_parts}
use Rattle.pb_lan.specs.Shapes.{is_forwarding}
use Rattle.pb_lan.specs.declared.plan.Plan.{Plan}
use Rattle.pb_lan.specs.declared.plan.LinkPlan.{LinkPlan}
use Rattle.pb_rstp.specs.Ports.{Machine, is_root}
use Rattle.pb_rstp.specs.declared.port.Port.{Port}
use Rattle.pb_rstp.specs.Tree.{Place, place_at, IsConvergedBetween, IsConvergedLink, are_forwarding, is_converged_by}
use Rattle.pb_rstp.specs.Tree.{is_converged_between, are_converged}
use Rattle.pb_rstp.proofs.SettledTest.{placed_at, place_stands}

-- ports that pass the test are Forwarding if one is a Root port
forwarding : (p q : Port) → are_forwarding p q ≡ true → (is_root p.role || is_root q.role) ≡ true
    → (is_forwarding p.state ≡ true) × (is_forwarding q.state ≡ true)
forwarding p q e root =
    and_parts (is_forwarding p.state) (is_forwarding q.state)
    (sym (ap (λ r. not r || (is_forwarding p.state && is_forwarding q.state)) root) ∙ e)

-- ports that pass the test of a link have converged
converged_between : (p q : Port) → is_converged_by p.port_enabled q.port_enabled p q ≡ true → IsConvergedBetween p q
converged_between p q e =
    record {
      first_alone = λ up_p down_q. sym (by up_p down_q) ∙ e;
      second_alone = λ down_p up_q. sym (by down_p up_q) ∙ e;
      forwarding = λ up_p up_q. forwarding p q (sym (by up_p up_q) ∙ e);
    }
  where
    by : {u v : Bool} → p.port_enabled ≡ u → q.port_enabled ≡ v
        → is_converged_by p.port_enabled q.port_enabled p q ≡ is_converged_by u v p q
    by is_p is_q = ap₂ (λ u v. is_converged_by u v p q) is_p is_q

-- a link that passes the test has converged
converged_link : (machines : List Machine) (link : LinkPlan)
    → is_converged_between (place_at machines link.a) (place_at machines link.b) ≡ true → IsConvergedLink machines link
converged_link machines link e m n p q here there =
    converged_between p q
    (sym (ap₂ is_converged_between (placed_at machines link.a m p here) (placed_at machines link.b n q there)) ∙ e)

-- if the test of a network passes, each link has converged
pub converged_links : (plan : Plan) (machines : List Machine) → are_converged plan machines ≡ true
    → AllByRecursion (IsConvergedLink machines) plan.links
converged_links plan machines e = go plan.links e
  where
    go : (links : List LinkPlan)
        → list_all (λ link. is_converged_between (place_at machines link.a) (place_at machines link.b)) links ≡ true
        → AllByRecursion (IsConvergedLink machines) links
    go [] e = tt
    go (l ∷ ls) e =
        let h = and_parts (is_converged_between (place_at machines l.a) (place_at machines l.b))
        (list_all (λ link. is_converged_between (place_at machines link.a) (place_at machines link.b)) ls) e in
        (converged_link machines l h.0, go ls h.1)

-- ports that have converged pass the test
between_passes : (p q : Port) → IsConvergedBetween p q → is_converged_by p.port_enabled q.port_enabled p q ≡ true
between_passes p q h = by_enabled p.port_enabled q.port_enabled refl refl
  where
    by_root : (r : Bool) → (is_root p.role || is_root q.role) ≡ r → p.port_enabled ≡ true → q.port_enabled ≡ true
        → (not r || (is_forwarding p.state && is_forwarding q.state)) ≡ true
    by_root false er ep eq = refl
    by_root true er ep eq = ap₂ (λ s t. s && t) (h.forwarding ep eq er).0 (h.forwarding ep eq er).1

    by_enabled : (u v : Bool) → p.port_enabled ≡ u → q.port_enabled ≡ v → is_converged_by u v p q ≡ true
    by_enabled true true ep eq = by_root (is_root p.role || is_root q.role) refl ep eq
    by_enabled true false ep eq = h.first_alone ep eq
    by_enabled false true ep eq = h.second_alone ep eq
    by_enabled false false ep eq = refl

-- a link that has converged passes the test
link_passes : (machines : List Machine) (link : LinkPlan) → IsConvergedLink machines link
    → is_converged_between (place_at machines link.a) (place_at machines link.b) ≡ true
link_passes machines link converged = by_places (place_at machines link.a) (place_at machines link.b) refl refl
  where
    by_places : (a b : Option Place) → place_at machines link.a ≡ a → place_at machines link.b ≡ b
        → is_converged_between a b ≡ true
    by_places (Some a) (Some b) ea eb =
        between_passes a.port b.port
        (converged a.machine b.machine a.port b.port (place_stands machines link.a a ea) (place_stands machines link.b b eb))
    by_places _ _ ea eb = refl

-- if each link has converged, the test of the network passes
pub converged_pass : (plan : Plan) (machines : List Machine) → AllByRecursion (IsConvergedLink machines) plan.links
    → are_converged plan machines ≡ true
converged_pass plan machines converged = go plan.links converged
  where
    go : (links : List LinkPlan) → AllByRecursion (IsConvergedLink machines) links
        → list_all (λ link. is_converged_between (place_at machines link.a) (place_at machines link.b)) links ≡ true
    go [] h = refl
    go (l ∷ ls) h = ap₂ (λ a b. a && b) (link_passes machines l h.0) (go ls h.1)
