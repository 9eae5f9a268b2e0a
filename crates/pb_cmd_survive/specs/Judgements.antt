-- Whether a network survives but for what is accepted.
use Rattle.std.specs.Prelude.{Bool, List, ◌&&◌, not}
use Rattle.std.specs.List.{list_any, list_all, zip}
use Rattle.pb_accept.specs.declared.acceptance.Acceptance.{Acceptance}
use Rattle.pb_lan.specs.declared.plan.Plan.{Plan}
use Rattle.pb_cmd_survive.specs.Acceptances.{is_accepted, is_stale}
use Rattle.pb_cmd_survive.specs.Verdicts.{is_converged, are_forests, is_healthy, disconnects_view, disconnects}
use Rattle.pb_cmd_survive.specs.declared.criteria.Criteria.{Criteria}
use Rattle.pb_cmd_survive.specs.declared.failure.Failure.{Failure}
use Rattle.pb_cmd_survive.specs.declared.impact.Impact.{Impact}
use Rattle.pb_cmd_survive.specs.declared.view.View.{View}

-- the failure disconnects the service, and that is not accepted
abbrev pub harms_view : Criteria → List Acceptance → Failure → (View × View) → Bool
harms_view criteria acceptances failure v = disconnects_view criteria v && not (is_accepted acceptances failure v.1.service)

-- the failure disconnects some service, and that is not accepted
abbrev pub harms : Criteria → List Acceptance → Impact → Impact → Bool
harms criteria acceptances base o = list_any (harms_view criteria acceptances o.failure) (zip base.views o.views)

-- the failure is tolerable: the bridges converge, no service has a loop, and each disconnection is accepted
abbrev pub is_tolerable : Criteria → List Acceptance → Impact → Impact → Bool
is_tolerable criteria acceptances base o = is_converged o.convergence && are_forests o.views && not (harms criteria acceptances base o)

-- the failure is accepted: it disconnects a service, and is tolerable
abbrev pub is_accepted_impact : Criteria → List Acceptance → Impact → Impact → Bool
is_accepted_impact criteria acceptances base o = disconnects criteria base o && is_tolerable criteria acceptances base o

-- the network survives: it is healthy with nothing down, and each failure is tolerable
abbrev pub survives : Criteria → List Acceptance → Impact → List Impact → Bool
survives criteria acceptances base impacts = is_healthy base && list_all (is_tolerable criteria acceptances base) impacts

-- no acceptance is stale, or stale ones are allowed
abbrev pub are_current : Plan → Criteria → Bool → List Acceptance → Impact → List Impact → Bool
are_current plan criteria strict acceptances base impacts =
    not (strict && list_any (is_stale plan criteria base impacts) acceptances)
