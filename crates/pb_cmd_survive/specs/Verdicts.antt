-- Whether a network is healthy with nothing down, and whether it survives failures.
use Rattle.std.specs.Prelude.{ℕ, Bool, true, false, List, Option, Some, None, length, nat_lt, ◌==◌, ◌&&◌, ◌||◌, not}
use Rattle.std.specs.List.{list_any, list_all, zip}
use Rattle.pb_converge.specs.declared.convergence.Convergence.{Convergence}
use Rattle.pb_converge.specs.declared.convergence.Convergence.TheVariants.{Given, Converged, NotConverged}
use Rattle.pb_cmd_survive.specs.declared.criteria.Criteria.{Criteria}
use Rattle.pb_cmd_survive.specs.declared.impact.Impact.{Impact}
use Rattle.pb_cmd_survive.specs.declared.sites.Site.{Site}
use Rattle.pb_cmd_survive.specs.declared.view.View.{View}

-- the bridges converged, or had nothing to decide
abbrev pub is_converged : Convergence → Bool
is_converged Given = true
is_converged (Converged ticks) = true
is_converged (NotConverged ticks) = false

-- no analysed service has a forwarding loop
abbrev pub are_forests : List View → Bool
are_forests views = list_all (λ v. v.is_forest) views

-- one of the ports is in another group than this one
abbrev pub is_apart : List Site → Site → Bool
is_apart sites s = list_any (λ t. not (s.group == t.group)) sites

-- two of the ports are in different groups
abbrev pub is_split : List Site → Bool
is_split sites = list_any (is_apart sites) sites

-- a service is healthy: it has no forwarding loop and two ports or more, all in one group
abbrev pub is_healthy_service : View → Bool
is_healthy_service v = v.is_forest && nat_lt 1 (length v.sites) && not (is_split v.sites)

-- the network is healthy: the bridges converge, and at least one service is analysed, and each is healthy
abbrev pub is_healthy : Impact → Bool
is_healthy base = is_converged base.convergence && nat_lt 0 (length base.views) && list_all is_healthy_service base.views

-- the port is the requested one, or none is requested
abbrev pub is_asked : Option ℕ → ℕ → Bool
is_asked None port = true
is_asked (Some asked) port = port == asked

-- neither port is at a failed bridge, or such ports count too
abbrev pub is_judged : Criteria → Site → Site → Bool
is_judged criteria s t = criteria.own || not (s.is_out || t.is_out)

-- two ports reached each other before, and can't any more; each is given as it was and as it is
abbrev pub is_disconnected : (Site × Site) → (Site × Site) → Bool
is_disconnected p q = p.0.group == q.0.group && not (p.1.group == q.1.group)

-- some requested port is disconnected from this one
abbrev pub is_lost : Criteria → List (Site × Site) → (Site × Site) → Bool
is_lost criteria sites q =
    list_any (λ p. is_asked criteria.from p.0.port && is_judged criteria p.1 q.1 && is_disconnected p q) sites

-- the failure disconnects the service
abbrev pub disconnects_view : Criteria → (View × View) → Bool
disconnects_view criteria v = list_any (is_lost criteria (zip v.0.sites v.1.sites)) (zip v.0.sites v.1.sites)

-- the failure disconnects some service
abbrev pub disconnects : Criteria → Impact → Impact → Bool
disconnects criteria base o = list_any (disconnects_view criteria) (zip base.views o.views)

-- the failure is harmless: the bridges converge, no service has a loop, and none is disconnected
abbrev pub is_harmless : Criteria → Impact → Impact → Bool
is_harmless criteria base o = is_converged o.convergence && are_forests o.views && not (disconnects criteria base o)

-- the report leaves the failure out: it is harmless, and not all failures are asked for
abbrev pub is_left_out : Criteria → Impact → Impact → Bool
is_left_out criteria base o = not criteria.all && is_harmless criteria base o
