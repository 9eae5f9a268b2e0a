-- A group frame that was handled under a forest, is unhindered and has drained is chosen at each bridge for the next
-- port of each path.
use Rattle.std.proofs.Common.{◌≡◌, inl, inr, ℕ, Some, None, Option, Bool, true, false, cond, not, ◌&&◌, ◌||◌, ◌==◌}
use Rattle.std.proofs.Common.{List, [], ◌∷◌, ◌++◌, refl, sym, ◌∙◌, ap, subst, slice_get, take, append_assoc}
use Rattle.std.proofs.Common.{append-nil}
use Rattle.std.proofs.lemmas.Bool.{eqb-true}
use Rattle.std.specs.List.{AllByRecursion, list_any}
use Rattle.std.specs.Cmp.Derive.{both_true}
use Rattle.pb_frame.proofs.Lists.{eqb-refl, All-midst, All-unflat_map, list_any-midst, list_any-rest, list_any-filter}
use Rattle.pb_frame.proofs.Lists.{true-false}
use Rattle.pb_frame.proofs.TagLaws.{take-tagged, has_service_type-tagged}
use Rattle.pb_lan.proofs.Arrivals.{MayComeIn}
use Rattle.pb_lan.proofs.Cases.{refusing-is, heard, is_listening, is_reserving}
use Rattle.pb_lan.proofs.Handled.{unmoved, handled-at, carried-vid}
use Rattle.pb_lan.proofs.Priorities.{the-poll}
use Rattle.pb_lan.proofs.Rulings.{follows-relayed, carried-open, local-listed}
use Rattle.pb_lan.proofs.Ways.{received-walks, ComesIn, IsFollowed}
use Rattle.pb_frame.specs.Frames.{dst_of, is_group}
use Rattle.pb_frame.specs.Tags.{bare, untagged, has_priority_tag, has_service_type, vid_of}
use Rattle.pb_lan.specs.BridgeLists.{Ruling, ruling, ruling_by, ruling_in, first_case, customer_cases}
use Rattle.pb_lan.specs.BridgeLists.{customer_reasons, provider_cases, is_for_bridges, Fits, Follows, LawfulAfter}
use Rattle.pb_lan.specs.Choice.{flood, narrowed, found, chosen_ports}
use Rattle.pb_lan.specs.Counts.{has_mark, is_of, HandledAfter, IsUnhindered, IsDrained, hinders, is_on_tree}
use Rattle.pb_lan.specs.Laws.{is_choice, chose}
use Rattle.pb_lan.specs.Numbering.{numbered}
use Rattle.pb_lan.specs.Plans.{IsNumber}
use Rattle.pb_lan.specs.PortLists.{polled}
use Rattle.pb_lan.specs.Ports.{Port, port_at, vid_at, is_member, local_ports}
use Rattle.pb_lan.specs.Queues.{priority_in}
use Rattle.pb_lan.specs.Records.{steps_of, received, received_by}
use Rattle.pb_lan.specs.Rules.{Rules}
use Rattle.pb_lan.specs.Shapes.{state_after, states_after, state_by, is_forwarding, moved_part, changes_of}
use Rattle.pb_frame.specs.declared.learnt.Learnt.{Learnt}
use Rattle.pb_lan.specs.Ports.Port.{Customer, Provider, Unused}
use Rattle.pb_lan.specs.BridgeLists.Ruling.{Refuses, Listens, LearnsOnly, Carries, Closed}
use Rattle.pb_lan.specs.declared.plan.Plan.{Plan}
use Rattle.pb_lan.specs.declared.plan.End.{End}
use Rattle.pb_lan.specs.declared.plan.CustomerPlan.{CustomerPlan}
use Rattle.pb_lan.specs.declared.record.Record.{Record}
use Rattle.pb_lan.specs.declared.shape.PortState.{PortState}
use Rattle.pb_lan.specs.declared.shape.PortState.TheVariants.{Discarding, Learning, Forwarding}
use Rattle.pb_lan.specs.declared.shape.Rooted.{Rooted}
use Rattle.pb_lan.specs.declared.shape.Shape.{Shape}
use Rattle.pb_lan.specs.declared.step.Item.{Item}
use Rattle.pb_lan.specs.declared.step.Mark.{Mark}
use Rattle.pb_lan.specs.declared.step.Moved.{Moved}
use Rattle.pb_lan.specs.declared.step.Outcome.{Outcome}
use Rattle.pb_lan.specs.declared.step.Outcome.TheVariants.{Relayed, Filtered, Heard}
use Rattle.pb_frame.specs.declared.reason.Reason.{Reason}
use Rattle.pb_lan.specs.declared.step.Step.{Step}
use Rattle.pb_lan.specs.declared.step.Step.TheVariants.{Receive}

-- a step in the list received at this port an item that passes the test
pub record IsReceived (test : Item → Bool) (q : ℕ) (steps : List Step) : Type 0 where
  pub earlier : List Step
  pub later : List Step
  pub item : Item
  pub learnt : Option Learnt
  pub outcome : Outcome
  pub moved : Option Moved
  pub place : earlier ++ Receive q item learnt outcome moved ∷ later ≡ steps
  pub passes : test item ≡ true

-- if an item that passes the test was received at a port, some step received it
pub received-step : (test : Item → Bool) (q : ℕ) (before steps : List Step) → list_any test (received q steps) ≡ true
    → IsReceived test q (before ++ steps)
received-step test q before [] h = cc
received-step test q before (step ∷ steps) h =
    elim (list_any test (received_by q step)) as (λ b. list_any test (received_by q step) ≡ b → IsReceived test q
    (before ++ step ∷ steps)) [
      | true ↦ λ e. here step e
      | false ↦ λ e. subst (IsReceived test q) (append_assoc before (step ∷ []) steps)
          (received-step test q (before ++ step ∷ []) steps
          (list_any-rest test (received_by q step) (received q steps) e h))
    ] refl
  where
    or-false : (b : Bool) → (b || false) ≡ true → b ≡ true
    or-false true h = refl
    or-false false h = cc

    here : (s : Step) → list_any test (received_by q s) ≡ true → IsReceived test q (before ++ s ∷ steps)
    here (Receive at item learnt outcome moved) e =
        elim (at == q) as (λ b. (at == q) ≡ b → list_any test (cond b (item ∷ []) []) ≡ true → IsReceived test q
        (before ++ Receive at item learnt outcome moved ∷ steps)) [
          | true ↦ λ a k. record {
            earlier = before;
            later = steps;
            item = item;
            learnt = learnt;
            outcome = outcome;
            moved = moved;
            place = ap (λ x. before ++ Receive x item learnt outcome moved ∷ steps) (sym (eqb-true at q a));
            passes = or-false (test item) k;
          }
          | false ↦ λ a k. cc
        ] refl e
    here _ e = cc

-- each step of a lawful list may come after those before it
pub lawful-at : (rules : Rules) (plan : Plan) (b : ℕ) (start earlier later : List Step) (step : Step)
    → LawfulAfter rules plan b start (earlier ++ step ∷ later) → Fits rules plan b (start ++ earlier) step
lawful-at rules plan b start [] later step h = subst (λ xs. Fits rules plan b xs step) (sym (append-nil start)) h.0
lawful-at rules plan b start (s ∷ earlier) later step h =
    subst (λ xs. Fits rules plan b xs step) (append_assoc start (s ∷ []) earlier)
    (lawful-at rules plan b (start ++ s ∷ []) earlier later step h.1)

-- the ruling does not pass a BPDU to the bridge
abbrev IsNotHeard : Ruling → Type 0
IsNotHeard g = g ≡ Listens → ⊥

-- a refusal does not
refused-not-heard : (r : Reason) → IsNotHeard (Refuses r)
refused-not-heard r h = cc

-- relaying does not
carried-not-heard : (v : ℕ) → IsNotHeard (Carries v)
carried-not-heard v h = cc

-- no frame at a customer port is passed to the bridge as a BPDU
customer-not-heard : (plan : Plan) (c : CustomerPlan) (item : Item)
    → IsNotHeard (first_case (customer_cases item) (Carries (vid_at plan c)))
customer-not-heard plan c item =
    refusing-is IsNotHeard (customer_reasons item) (Carries (vid_at plan c)) refused-not-heard (carried-not-heard _)

-- no frame with a service tag is passed to the bridge as a BPDU
provider-not-heard : (rules : Rules) (plan : Plan) (e : End) (state : PortState) (item : Item)
    → has_service_type item.wire ≡ true
    → IsNotHeard (first_case (provider_cases rules plan e item) (ruling_in state (vid_of item.wire)))
provider-not-heard rules plan e state item tag h =
    let a = heard (provider_cases rules plan e item) (ruling_in state (vid_of item.wire)) (in_state state) h in
    clash (is_for_bridges item.wire) (has_service_type item.wire) (rules.is_readable item.wire)
    a.0 (a.1 is_reserving) tag
  where
    clash : (b t r : Bool) → ((b && r) || false) ≡ true → ((b && t) || false) ≡ false → t ≡ true → ⊥
    clash true true r h k e = cc
    clash true false r h k e = cc
    clash false t r h k e = cc

    in_state : (s : PortState) → is_listening (ruling_in s (vid_of item.wire)) ≡ false
    in_state Discarding = refl
    in_state Learning = refl
    in_state Forwarding = refl

-- a step with the outcome Heard had the ruling to read a BPDU
follows-heard : (rules : Rules) (plan : Plan) (b : ℕ) (earlier : List Step) (q : ℕ) (item : Item)
    (learnt : Option Learnt) (moved : Option Moved) (g : Ruling)
    → Follows rules plan b earlier q item learnt Heard moved g → g ≡ Listens
follows-heard rules plan b earlier q item learnt moved (Refuses r) h = let e = h.1 in cc
follows-heard rules plan b earlier q item learnt moved Listens h = refl
follows-heard rules plan b earlier q item learnt moved (LearnsOnly v) h = let e = h.1 in cc
follows-heard rules plan b earlier q item learnt moved (Carries v) (inl h) = let e = h.1 in cc
follows-heard rules plan b earlier q item learnt moved (Carries v) (inr h) = absurd h.1
follows-heard rules plan b earlier q item learnt moved Closed h = absurd h

-- the destination address is the same without the priority tag
take-bare : (x : List ℕ) → take 6 (bare x) ≡ take 6 x
take-bare x = elim (has_priority_tag x) as (λ b. take 6 (cond b (untagged x) x) ≡ take 6 x)
    [ true ↦ of_untagged x | false ↦ refl ]
  where
    of_untagged : (x : List ℕ) → take 6 (untagged x) ≡ take 6 x
    of_untagged [] = refl
    of_untagged (a ∷ []) = refl
    of_untagged (a ∷ b ∷ []) = refl
    of_untagged (a ∷ b ∷ c ∷ []) = refl
    of_untagged (a ∷ b ∷ c ∷ d ∷ []) = refl
    of_untagged (a ∷ b ∷ c ∷ d ∷ e ∷ []) = refl
    of_untagged (a ∷ b ∷ c ∷ d ∷ e ∷ f ∷ rest) = refl

-- a group frame is flooded to each other Forwarding port of the service
flooded : (plan : Plan) (b : ℕ) (steps : List Step) (q v r : ℕ) (wire : List ℕ)
    → is_forwarding (state_after plan b steps q) ≡ true → is_group (dst_of wire) ≡ true
    → IsNumber r 16 → (r == q) ≡ false → is_forwarding (state_after plan b steps r) ≡ true
    → is_member plan v (port_at plan b r) ≡ true
    → list_any (λ p. p == r) (chosen_ports plan b steps q v wire) ≡ true
flooded plan b steps q v r wire opened group number other forwarding member =
    let ports = flood plan b steps q v in
    let at = found plan b steps v (dst_of wire) in
    subst (λ f. list_any (λ p. p == r) (cond f (cond (is_group (dst_of wire)) ports (narrowed ports at)) []) ≡ true)
    (sym opened)
    (subst (λ g. list_any (λ p. p == r) (cond g ports (narrowed ports at)) ≡ true) (sym group)
    (list_any-filter (λ p. not (p == q) && (is_forwarding (state_after plan b steps p) && is_member plan v
    (port_at plan b p))) r local_ports
    (both_true (ap not other) (both_true forwarding member)) (local-listed r number)))

-- a group frame of this mark, handled under a forest, drained and unhindered
pub record IsGroupFrame (rules : Rules) (plan : Plan) (rec : Record) (shape : Shape) (entry : CustomerPlan)
    (rooted : Rooted) (mark : Mark) (arrived : Item) : Type 0 where
  pub followed : IsFollowed rules plan rec shape entry mark rooted
  pub drained : IsDrained plan rec mark
  pub free : IsUnhindered plan shape (vid_at plan entry) rec mark
  pub polled_there : slice_get (polled (steps_of rec.customers mark.port)) mark.number ≡ Some arrived
  pub group : is_group (dst_of arrived.wire) ≡ true

-- at each port at which it may be received it is a group frame and no BPDU
comes-as-group : (rules : Rules) (plan : Plan) (rec : Record) (mark : Mark) (arrived : Item)
    → slice_get (polled (steps_of rec.customers mark.port)) mark.number ≡ Some arrived
    → is_group (dst_of arrived.wire) ≡ true → (port : Port) (state : PortState) (item : Item)
    → MayComeIn plan rec port item → is_of mark item ≡ true
    → IsNotHeard (ruling_by rules plan port state item)
    × ((v : ℕ) → ruling_by rules plan port state item ≡ Carries v → is_group (dst_of item.wire) ≡ true)
comes-as-group rules plan rec mark arrived at group (Customer c) state item (k, known, e) m = (
  customer-not-heard plan c item,
  λ v h.
      let poll = the-poll rec mark item arrived item k e.0 e.1 m e.3 at in
      ap (λ i. is_group (dst_of i.wire)) poll.1 ∙ group,
)
comes-as-group rules plan rec mark arrived at group (Provider e) state item (inl own) m =
    let none : has_mark mark None ≡ true = subst (λ o. has_mark mark o ≡ true) own.0 m in cc
comes-as-group rules plan rec mark arrived at group (Provider e) state item (inr t) m = (
  provider-not-heard rules plan e state item
      (ap has_service_type t.octets ∙ has_service_type-tagged (bare t.arrived.wire)
      (priority_in (Customer t.there) t.arrived.wire) 0 (vid_at plan t.there) t.long),
  λ v h.
      let poll = the-poll rec mark item arrived t.arrived t.port t.which t.mark m t.polled_there at in
      ap is_group (ap (take 6) t.octets ∙ take-tagged (bare t.arrived.wire)
      (priority_in (Customer t.there) t.arrived.wire) 0 (vid_at plan t.there) t.long ∙ take-bare t.arrived.wire)
      ∙ ap (λ i. is_group (dst_of i.wire)) poll.1 ∙ group,
)
comes-as-group rules plan rec mark arrived at group Unused state item known m = (λ h. cc, λ v h. cc)

-- a port at which a frame is relayed is Forwarding
carried-forwarding : (rules : Rules) (plan : Plan) (b : ℕ) (earlier : List Step) (q : ℕ) (item : Item) (v : ℕ)
    → ruling rules plan b earlier q item ≡ Carries v → is_forwarding (state_after plan b earlier q) ≡ true
carried-forwarding rules plan b earlier q item v h = by (port_at plan b q) refl h
  where
    by : (port : Port) → port_at plan b q ≡ port
        → ruling_by rules plan port (state_after plan b earlier q) item ≡ Carries v
        → is_forwarding (state_after plan b earlier q) ≡ true
    by (Customer c) at h = ap (λ p. is_forwarding (state_by plan.spanning p q (changes_of earlier))) at
    by (Provider e) at h = (carried-open rules plan e (state_after plan b earlier q) item v h).0
    by Unused at h = cc

-- the step that received a group frame at a port of a bridge
module _ {rules : Rules} {plan : Plan} {rec : Record} {shape : Shape} {entry : CustomerPlan} {rooted : Rooted}
    {mark : Mark} {arrived : Item} (frame : IsGroupFrame rules plan rec shape entry rooted mark arrived) (b : ℕ)
    {q : ℕ} (here : IsReceived (is_of mark) q (steps_of rec.bridges b)) where
  -- the step, with another outcome
  abbrev step_with : Outcome → Step
  step_with outcome = Receive q here.item here.learnt outcome here.moved

  -- what the step may report, with another outcome
  abbrev Told : Outcome → Type 0
  Told outcome = Follows rules plan b here.earlier q here.item here.learnt outcome here.moved
      (ruling rules plan b here.earlier q here.item)

  -- the step may come after those before it
  here-told : Told here.outcome
  here-told = lawful-at rules plan b [] here.earlier here.later (step_with here.outcome)
      (subst (LawfulAfter rules plan b []) (sym here.place) (frame.followed.lawful.bridges b))

  -- the frame was handled under the shape
  here-handled : numbered shape.states b ≡ Some (states_after plan b here.earlier)
  here-handled = handled-at plan shape mark b [] here.earlier here.later (step_with here.outcome)
      (subst (HandledAfter plan shape mark b []) (sym here.place) (frame.followed.handled b)) here.passes

  -- the item may be received there
  here-known : MayComeIn plan rec (port_at plan b q) here.item
  here-known =
      let all = All-unflat_map (ComesIn plan rec shape (vid_at plan entry) entry mark b q) (received_by q)
      (steps_of rec.bridges b) (received-walks rules plan rec shape entry mark rooted frame.followed b q) in
      let one = All-midst
      (λ step. AllByRecursion (ComesIn plan rec shape (vid_at plan entry) entry mark b q) (received_by q step))
      here.earlier (step_with here.outcome) here.later
      (subst (AllByRecursion (λ step. AllByRecursion (ComesIn plan rec shape (vid_at plan entry) entry mark b q)
      (received_by q step))) (sym here.place) all) in
      (subst (λ t. AllByRecursion (ComesIn plan rec shape (vid_at plan entry) entry mark b q)
      (cond t (here.item ∷ []) [])) (eqb-refl q) one).0.0

  -- the item is for a group, and no BPDU
  here-group : IsNotHeard (ruling rules plan b here.earlier q here.item)
      × ((w : ℕ) → ruling rules plan b here.earlier q here.item ≡ Carries w → is_group (dst_of here.item.wire) ≡ true)
  here-group = comes-as-group rules plan rec mark arrived frame.polled_there frame.group (port_at plan b q)
      (state_after plan b here.earlier q) here.item here-known here.passes

  -- on the tree the frame is not filtered
  not-filtered : is_on_tree plan shape (vid_at plan entry) b q ≡ true → (reason : Reason)
      → here.outcome ≡ Filtered reason → ⊥
  not-filtered on_tree reason e = true-false (hinders plan shape (vid_at plan entry) mark b
      (step_with (Filtered reason))) (both_true here.passes on_tree)
      (subst (λ o. hinders plan shape (vid_at plan entry) mark b (step_with o) ≡ false) e
      (All-midst (λ step. hinders plan shape (vid_at plan entry) mark b step ≡ false) here.earlier
      (step_with here.outcome) here.later
      (subst (AllByRecursion (λ step. hinders plan shape (vid_at plan entry) mark b step ≡ false)) (sym here.place)
      (frame.free.bridges b))))

-- a group frame that is received on the tree is chosen for each other Forwarding port of the service
pub choose-on : (rules : Rules) (plan : Plan) (rec : Record) (shape : Shape) (entry : CustomerPlan) (rooted : Rooted)
    (mark : Mark) (arrived : Item) → IsGroupFrame rules plan rec shape entry rooted mark arrived
    → (b q r : ℕ) → IsReceived (is_of mark) q (steps_of rec.bridges b)
    → is_on_tree plan shape (vid_at plan entry) b q ≡ true
    → IsNumber r 16 → (r == q) ≡ false → is_member plan (vid_at plan entry) (port_at plan b r) ≡ true
    → ((earlier : List Step) → numbered shape.states b ≡ Some (states_after plan b earlier) → is_forwarding
    (state_after plan b earlier r) ≡ true)
    → chose rec mark b r ≡ true
choose-on rules plan rec shape entry rooted mark arrived frame b q r here on_tree number other member forwarding =
    by_outcome here.outcome refl (here-told frame b here)
  where
    by_outcome : (outcome : Outcome) → here.outcome ≡ outcome
        → Told frame b here here.outcome → chose rec mark b r ≡ true
    by_outcome (Filtered reason) e told =
        absurd (not-filtered frame b here on_tree reason e)
    by_outcome Heard e told =
        absurd ((here-group frame b here).0 (follows-heard rules plan b here.earlier q here.item here.learnt here.moved
        (ruling rules plan b here.earlier q here.item)
        (subst (Told frame b here) e told)))
    by_outcome (Relayed chosen refused) e told =
        let step = Receive q here.item here.learnt (Relayed chosen refused) here.moved in
        let f = follows-relayed rules plan b here.earlier q here.item here.learnt chosen refused here.moved
        (ruling rules plan b here.earlier q here.item)
        (subst (Told frame b here) e told) in
        let steps = here.earlier ++ step ∷ [] in
        let vid : vid_at plan entry ≡ f.0 = carried-vid rules plan rec entry mark frame.followed.sound
        frame.followed.planned (port_at plan b q) (state_after plan b here.earlier q) here.item f.0
        (here-known frame b here) f.1
        here.passes in
        let same_state : (p : ℕ) → state_after plan b steps p ≡ state_after plan b here.earlier p =
        unmoved plan b here.earlier step (ap moved_part f.3) in
        let contains : list_any (λ p. p == r) chosen ≡ true =
        subst (λ ports. list_any (λ p. p == r) ports ≡ true) (sym f.2)
        (flooded plan b steps q f.0 r here.item.wire
        (ap is_forwarding (same_state q) ∙ carried-forwarding rules plan b here.earlier q here.item f.0 f.1)
        ((here-group frame b here).1 f.0 f.1) number other
        (ap is_forwarding (same_state r) ∙ forwarding here.earlier
        (here-handled frame b here))
        (subst (λ w. is_member plan w (port_at plan b r) ≡ true) vid member)) in
        subst (λ xs. list_any (is_choice mark r) xs ≡ true)
        (subst (λ o. here.earlier ++ Receive q here.item here.learnt o here.moved ∷ here.later ≡ steps_of
        rec.bridges b) e here.place)
        (list_any-midst (is_choice mark r) here.earlier step here.later (both_true here.passes contains))
