-- Events that disable ports.
use Rattle.std.proofs.Common.{◌≡◌, inl, inr, ℕ, suc, ◌+◌, Bool, true, false, cond, Some, Ok, List, [], ◌∷◌, slice_get}
use Rattle.std.proofs.Common.{take, refl, sym, ap, ◌∙◌}
use Rattle.std.specs.List.{AllByRecursion}
use Rattle.pb_frame.proofs.Lists.{All-at, All-append, All-imply, All-placed, true-false}
use Rattle.pb_lan.proofs.PortsInPlans.{port_at-end}
use Rattle.pb_lan.specs.Events.{names_something}
use Rattle.pb_lan.specs.Plans.{IsSound}
use Rattle.pb_lan.specs.Ports.{is_provider}
use Rattle.pb_lan.specs.declared.event.Event.{Event}
use Rattle.pb_lan.specs.declared.plan.Plan.{Plan}
use Rattle.pb_lan.specs.declared.plan.LinkPlan.{LinkPlan}
use Rattle.pb_net.specs.Answers.{NetView, HaveRun, HasStopped}
use Rattle.pb_net.specs.declared.fault.NetFault.TheVariants.{NoSuch}
use Rattle.pb_converge.proofs.DriveLemmas.{answer-plan}
use Rattle.pb_cmd_survive.specs.Failures.{set_down, is_hit, downs_of, downs_from, downs}
use Rattle.pb_cmd_survive.specs.declared.failure.Failure.{Failure}

-- events leave the plan as it is
pub run-plan : (old new : NetView) (events : List Event) → HaveRun old events new → new.plan ≡ old.plan
run-plan old new [] e = ap (λ v. v.plan) e
run-plan old new (event ∷ events) (between, did, answer, rest) = run-plan between new events rest
    ∙ answer-plan old between event (Ok did) answer

-- both events of a link name a port of the plan
named_choice : (plan : Plan) (link : LinkPlan) (b : Bool) → (names_something plan (set_down link.a) ≡ true)
    × (names_something plan (set_down link.b) ≡ true)
    → AllByRecursion (λ e. names_something plan e ≡ true) (cond b (set_down link.a ∷ set_down link.b ∷ []) [])
named_choice plan link true h = (h.0, (h.1, tt))
named_choice plan link false h = tt

named_from : (plan : Plan) (failure : Failure) (n : ℕ) (links : List LinkPlan)
    → AllByRecursion (λ l. (names_something plan (set_down l.a) ≡ true)
    × (names_something plan (set_down l.b) ≡ true)) links
    → AllByRecursion (λ e. names_something plan e ≡ true) (downs_from failure n links)
named_from plan failure n [] a = tt
named_from plan failure n (link ∷ links) a =
    All-append (λ e. names_something plan e ≡ true) (downs_of failure n link) (downs_from failure (n + 1) links)
    (named_choice plan link (is_hit failure n link) a.0) (named_from plan failure (n + 1) links a.1)

downs_named : (plan : Plan) → IsSound plan → (failure : Failure)
    → AllByRecursion (λ e. names_something plan e ≡ true) (downs plan failure)
downs_named plan sound failure =
    named_from plan failure 1 plan.links
    (All-imply (λ l. (k : ℕ) × (slice_get plan.links k ≡ Some l))
    (λ l. (names_something plan (set_down l.a) ≡ true) × (names_something plan (set_down l.b) ≡ true))
    (λ l h. (
      ap is_provider (port_at-end plan sound (suc h.0) l l.a h.1 (inl refl)),
      ap is_provider
          (port_at-end plan sound (suc h.0) l l.b h.1 (inr refl)),
    ))
    plan.links (All-placed plan.links))

-- none of the events is refused because its port does not exist, so take_down meets no NoSuch
pub none_lacks : (plan : Plan) (failure : Failure) (old new : NetView) (count : ℕ) → IsSound plan → old.plan ≡ plan
    → HasStopped old (downs plan failure) count NoSuch new → ⊥
none_lacks plan failure old new count sound e s =
    let same : new.plan ≡ plan = run-plan old new (take count (downs plan failure)) s.before ∙ e in
    true-false (names_something plan s.event)
    (All-at (λ ev. names_something plan ev ≡ true) (downs plan failure) count s.event s.next
    (downs_named plan sound failure))
    (ap (λ p. names_something p s.event) (sym same) ∙ s.met.0)
