-- One step of a bridge that was handled under a shape: the states of its ports, and the service of the frame that it
-- carried.
use Rattle.std.proofs.Common.{◌≡◌, inl, inr, ℕ, Some, true, List, [], ◌∷◌, ◌++◌, sym, ◌∙◌, ap, subst, unwrap_or}
use Rattle.std.proofs.Common.{append-nil, append_assoc}
use Rattle.std.proofs.lemmas.Bool.{eqb-true}
use Rattle.std.specs.List.{flat_map}
use Rattle.pb_frame.proofs.Lists.{Some-injective, and-left}
use Rattle.pb_lan.proofs.Arrivals.{MayComeIn, for-bridges, tagged-vid}
use Rattle.pb_lan.proofs.Rulings.{IsLocal, carried-customer, carried-provider}
use Rattle.pb_lan.specs.BridgeLists.{ruling_by}
use Rattle.pb_lan.specs.Counts.{has_mark, is_of, IsHandled, HandledAfter}
use Rattle.pb_lan.specs.Numbering.{numbered}
use Rattle.pb_lan.specs.Plans.{IsSound}
use Rattle.pb_lan.specs.Ports.{Port, port_at, vid_at}
use Rattle.pb_lan.specs.Rules.{Rules}
use Rattle.pb_lan.specs.Shapes.{state_after, states_after, state_in, moved_of, state_by}
use Rattle.pb_lan.specs.BridgeLists.Ruling.{Carries}
use Rattle.pb_lan.specs.Ports.Port.{Customer, Provider, Unused}
use Rattle.pb_lan.specs.declared.plan.CustomerPlan.{CustomerPlan}
use Rattle.pb_lan.specs.declared.plan.Plan.{Plan}
use Rattle.pb_lan.specs.declared.record.Record.{Record}
use Rattle.pb_lan.specs.declared.shape.PortState.{PortState}
use Rattle.pb_lan.specs.declared.shape.PortState.TheVariants.{Discarding}
use Rattle.pb_lan.specs.declared.shape.Shape.{Shape}
use Rattle.pb_lan.specs.declared.step.Item.{Item}
use Rattle.pb_lan.specs.declared.step.Mark.{Mark}
use Rattle.pb_lan.specs.declared.step.Step.{Step}

-- an item of this mark has the mark's port
pub marked-port : (mark : Mark) (item : Item) (port number : ℕ)
    → item.mark ≡ Some (record { port = port; number = number }) → is_of mark item ≡ true → mark.port ≡ port
marked-port mark item port number h m = eqb-true mark.port port (and-left _ _ (subst (λ o. has_mark mark o ≡ true) h m))

-- each step of the list was handled under the shape
pub handled-at : (plan : Plan) (shape : Shape) (mark : Mark) (b : ℕ) (start earlier later : List Step) (step : Step)
    → HandledAfter plan shape mark b start (earlier ++ step ∷ later)
    → IsHandled plan shape mark b (start ++ earlier) step
handled-at plan shape mark b start [] later step h = subst (λ xs. IsHandled plan shape mark b xs step)
    (sym (append-nil start)) h.0
handled-at plan shape mark b start (s ∷ earlier) later step h =
    subst (λ xs. IsHandled plan shape mark b xs step) (append_assoc start (s ∷ []) earlier)
    (handled-at plan shape mark b (start ++ s ∷ []) earlier later step h.1)

-- a step that reports no changes changes no state
pub unmoved : (plan : Plan) (b : ℕ) (earlier : List Step) (step : Step) → moved_of step ≡ [] → (p : ℕ)
    → state_after plan b (earlier ++ step ∷ []) p ≡ state_after plan b earlier p
unmoved plan b earlier step h p = ap (λ ms. state_by plan.spanning (port_at plan b p) p (flat_map (λ m. m.states) ms))
    (same_moves earlier)
  where
    same_moves : (xs : List Step) → flat_map moved_of (xs ++ step ∷ []) ≡ flat_map moved_of xs
    same_moves [] = ap (λ ms. ms ++ []) h
    same_moves (x ∷ xs) = ap (λ ms. moved_of x ++ ms) (same_moves xs)

-- the shape has the state of each local port of a bridge that handled a step under it
pub state-of : (plan : Plan) (shape : Shape) (b : ℕ) (earlier : List Step) (p : ℕ)
    → numbered shape.states b ≡ Some (states_after plan b earlier) → IsLocal p
    → state_in shape b p ≡ state_after plan b earlier p
state-of plan shape b earlier p h local =
    ap (λ o. unwrap_or (numbered (unwrap_or o []) p) Discarding) h
    ∙ ap (λ o. unwrap_or o Discarding) (local (state_after plan b earlier))

-- a frame of the mark is carried in the service of the port at which it entered
pub carried-vid : (rules : Rules) (plan : Plan) (rec : Record) (entry : CustomerPlan) (mark : Mark) → IsSound plan
    → numbered plan.customers mark.port ≡ Some entry
    → (port : Port) (state : PortState) (item : Item) (v : ℕ) → MayComeIn plan rec port item
    → ruling_by rules plan port state item ≡ Carries v → is_of mark item ≡ true → vid_at plan entry ≡ v
carried-vid rules plan rec entry mark sound planned (Customer c) state item v known carried m =
    let p : mark.port ≡ known.0 = marked-port mark item known.0 known.2.0 known.2.1 m in
    let one : entry ≡ c = Some-injective (sym planned ∙ ap (numbered plan.customers) p ∙ known.1) in
    ap (vid_at plan) one ∙ (carried-customer plan c item v carried).1
carried-vid rules plan rec entry mark sound planned (Provider e) state item v (inl own) carried m =
    let r = carried-provider rules plan e state item v carried in
    let t = for-bridges item.wire own.1 in cc
carried-vid rules plan rec entry mark sound planned (Provider e) state item v (inr t) carried m =
    let r = carried-provider rules plan e state item v carried in
    let p : mark.port ≡ t.port = marked-port mark item t.port t.which t.mark m in
    let one : entry ≡ t.there = Some-injective (sym planned ∙ ap (numbered plan.customers) p ∙ t.planned) in
    ap (vid_at plan) one ∙ sym (tagged-vid plan rec sound item t) ∙ r.1
carried-vid rules plan rec entry mark sound planned Unused state item v known carried m = cc
