-- What acceptances say of failures, and which of them are stale.
use Rattle.std.specs.Prelude.{ℕ, Bool, true, false, List, Option, Some, None, length, is_some, ◌==◌, ◌&&◌, not}
use Rattle.std.specs.List.{list_any, zip}
use Rattle.pb_accept.specs.declared.acceptance.Acceptance.{Acceptance}
use Rattle.pb_accept.specs.declared.acceptance.NamedFailure.{NamedFailure}
use Rattle.pb_accept.specs.declared.acceptance.NamedFailure.TheVariants.{Link as AtLink, Bridge as AtBridge, Pair as AtPair}
use Rattle.pb_lan.specs.declared.plan.Plan.{Plan}
use Rattle.pb_cmd_survive.specs.Verdicts.{disconnects_view}
use Rattle.pb_cmd_survive.specs.declared.criteria.Criteria.{Criteria}
use Rattle.pb_cmd_survive.specs.declared.failure.Failure.{Failure}
use Rattle.pb_cmd_survive.specs.declared.failure.Failure.TheVariants.{Link, Pair, Bridge}
use Rattle.pb_cmd_survive.specs.declared.impact.Impact.{Impact}

-- the named failure is this one
abbrev pub is_named : NamedFailure → Failure → Bool
is_named (AtLink named) (Link number) = number == named
is_named (AtBridge named) (Bridge number) = number == named
is_named (AtPair one other) (Pair first second) = first == one && second == other
is_named named failure = false

-- the service is the named one, or none is named
abbrev pub covers : Option ℕ → ℕ → Bool
covers None service = true
covers (Some named) service = service == named

-- the acceptance accepts that the failure disconnects the service
abbrev pub accepts : Failure → ℕ → Acceptance → Bool
accepts failure service a = is_named a.failure failure && covers a.service service

-- one of the acceptances does
abbrev pub is_accepted : List Acceptance → Failure → ℕ → Bool
is_accepted acceptances failure service = list_any (accepts failure service) acceptances

-- the failure disconnects a service, and the acceptance accepts that
abbrev pub is_needed_for : Criteria → Impact → Acceptance → Impact → Bool
is_needed_for criteria base a o =
    list_any (λ v. disconnects_view criteria v && accepts o.failure v.1.service a) (zip base.views o.views)

-- one of the failures does
abbrev pub is_needed : Criteria → Impact → List Impact → Acceptance → Bool
is_needed criteria base impacts a = list_any (is_needed_for criteria base a) impacts

-- each service that is covered was analysed
abbrev pub are_analysed : Plan → Impact → Option ℕ → Bool
are_analysed plan base None = length base.views == length plan.services
are_analysed plan base (Some named) = list_any (λ v. v.service == named) base.views

-- all customer ports count
abbrev pub is_from_all : Criteria → Bool
is_from_all criteria = not (is_some criteria.from)

-- the acceptance was tried: its failure was, and its services were analysed from all customer ports
abbrev pub is_tried : Plan → Criteria → Impact → List Impact → Acceptance → Bool
is_tried plan criteria base impacts a =
    is_from_all criteria && are_analysed plan base a.service && list_any (λ o. is_named a.failure o.failure) impacts

-- the acceptance is stale: it was tried, and nothing that it accepts is disconnected any more
abbrev pub is_stale : Plan → Criteria → Impact → List Impact → Acceptance → Bool
is_stale plan criteria base impacts a = is_tried plan criteria base impacts a && not (is_needed criteria base impacts a)

-- it is neither needed nor tried
abbrev pub is_untried : Plan → Criteria → Impact → List Impact → Acceptance → Bool
is_untried plan criteria base impacts a =
    not (is_tried plan criteria base impacts a) && not (is_needed criteria base impacts a)
