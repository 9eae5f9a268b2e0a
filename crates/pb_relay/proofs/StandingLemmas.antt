-- The state of a bridge after one more step. All calls use these.
use Rattle.std.proofs.Common.{not, ◌≡◌, ℕ, zero, suc, slice_get, unwrap_or, ◌+◌, ◌-◌, ◌<◌, ◌≤◌, ◌≢◌, Bool, true}
use Rattle.std.proofs.Common.{false, cond, ◌&&◌, Some, None, List, [], ◌∷◌, ◌++◌, map, length, get_or, set, ◌==◌}
use Rattle.std.proofs.Common.{refl, sym, ap, ◌∙◌, subst, arith, append-nil, eq-eqb, add-zero, ◌||◌}
use Rattle.std.proofs.lemmas.Bool.{eqb-true}
use Rattle.std.proofs.lemmas.List.{length-set, get_or-set_same, get_or-set_other}
use Rattle.std.specs.List.{filter, flat_map, AllByRecursion, list_any}
use Rattle.std.specs.Option.{option_map}
use Rattle.pb_frame.proofs.StationLaws.{table_tells_what_stands}
use Rattle.pb_frame.specs.Stations.{Sighting, News, is_fresh, standing, after_all}
use Rattle.pb_frame.proofs.Lists.{first-found, All-at, and-right}
use Rattle.pb_fdb.proofs.LawLemmas.{live-dropped}
use Rattle.pb_lan.proofs.SentWasQueued.{waiting_from-append, without-All}
use Rattle.pb_frame.specs.Lists.{first}
use Rattle.pb_lan.specs.Plans.{IsSound, IsSoundBridge, IsSoundCustomer, IsSoundEnd}
use Rattle.pb_lan.specs.Ports.{port_at, is_customer_at, is_end_at, all_ends, customer_or_else, provider_or_unused}
use Rattle.pb_lan.specs.Ports.{is_used}
use Rattle.pb_lan.specs.Queues.{Waiting, waiting, queued_by, after_sending, next_out, highest, without, is_full}
use Rattle.pb_lan.specs.Queues.{after_replacing, without_replaced, own_class}
use Rattle.pb_lan.specs.Queues.{is_refused, capacity_of}
use Rattle.pb_lan.specs.Shapes.{moved_of, states_after}
use Rattle.pb_lan.specs.Choice.{now_after, news_of, ticked, sightings}
use Rattle.pb_lan.specs.BridgeLists.{Fits, Names, AreRefused, own_item, is_named_full}
use Rattle.pb_lan.specs.Rules.{Cause, Change, nothing, planned_change, change_by, change_of}
use Rattle.pb_lan.specs.declared.plan.Spanning.{Spanning}
use Rattle.pb_lan.specs.declared.plan.Spanning.TheVariants.{Fixed}
use Rattle.pb_lan.specs.declared.plan.Plan.{Plan}
use Rattle.pb_lan.specs.declared.plan.End.{End}
use Rattle.pb_lan.specs.declared.plan.CustomerPlan.{CustomerPlan}
use Rattle.pb_lan.specs.declared.shape.PortState.{PortState}
use Rattle.pb_lan.specs.declared.step.Item.{Item}
use Rattle.pb_lan.specs.declared.step.Moved.{Moved}
use Rattle.pb_lan.specs.declared.step.NoRoom.{NoRoom}
use Rattle.pb_lan.specs.declared.step.Step.{Step}
use Rattle.pb_lan.specs.declared.step.Step.TheVariants.{Transmit, Tick}
use Rattle.pb_relay.specs.Classes.{by_class, after_first, first_out, number_in, or_else}
use Rattle.pb_relay.specs.Copies.{AreCopied, with_copy}
use Rattle.pb_relay.specs.Moves.{own_at}
use Rattle.pb_relay.specs.Backlogs.{capacity_in}
use Rattle.pb_relay.specs.Standing.{IsStanding, IsClassed, AreClassed, AreWithin}
use Rattle.pb_relay.specs.declared.backlog.Capacity.{Capacity}
use Rattle.pb_relay.specs.Changes.{unmoved}
use Rattle.pb_relay.specs.Protocol.{spanning_tree}
use Rattle.pb_relay.proofs.CopyLemmas.{none_full}
use Rattle.pb_relay.proofs.GrowthLemmas.{Grows, stays, below_nine, within-without}
use Rattle.pb_relay.proofs.WaitingLemmas.{next_by_class, rest_by_class, number_by_class}
use Rattle.pb_relay.proofs.StepLemmas.{lawful_more, states_stay, now_more, news_stay}
use Rattle.pb_relay.proofs.ClassLemmas.{no_first}

-- the customer port at a local port is sound, and has that port
pub customer_there : (plan : Plan) (number port : ℕ) (c : CustomerPlan) → IsSound plan
    → Some c ≡ first (is_customer_at number port) plan.customers
    → IsSoundCustomer plan c × (c.port ≡ port)
customer_there plan number port c sound found =
    let there = first-found (IsSoundCustomer plan) (is_customer_at number port) plan.customers c (sym found)
    sound.customers in
    (there.0, eqb-true c.port port (and-right _ _ there.1))

pub end_there : (plan : Plan) (number port : ℕ) (e : End) → IsSound plan
    → Some e ≡ first (is_end_at number port) (all_ends plan)
    → IsSoundEnd plan e × (e.port ≡ port)
end_there plan number port e sound found =
    let there = first-found (IsSoundEnd plan) (is_end_at number port) (all_ends plan) e (sym found) sound.ends in
    (there.0, eqb-true e.port port (and-right _ _ there.1))

-- a port that the plan uses is 1 to 16
pub used_port : (plan : Plan) (b p : ℕ) → IsSound plan → is_used (port_at plan b p) ≡ true → (1 ≤ p) × (p ≤ 16)
used_port plan b p s u =
    elim (first (is_customer_at b p) plan.customers)
    as (λ o. first (is_customer_at b p) plan.customers ≡ o → is_used
    (customer_or_else o (provider_or_unused (first (is_end_at b p) (all_ends plan)))) ≡ true → (1 ≤ p) × (p ≤ 16)) [
      | Some c ↦ λ e v. let there = customer_there plan b p c s (sym e) in subst (λ (n : ℕ). (1 ≤ n) × (n ≤ 16))
          there.1 there.0.port
      | None ↦ λ e v. elim (first (is_end_at b p) (all_ends plan))
          as (λ o. first (is_end_at b p) (all_ends plan) ≡ o → is_used (provider_or_unused o) ≡ true → (1 ≤ p)
          × (p ≤ 16)) [
            | Some x ↦ λ e v. let there = end_there plan b p x s (sym e) in subst (λ (n : ℕ). (1 ≤ n) × (n ≤ 16))
                there.1 there.0.port
            | None ↦ λ e v. cc
          ] refl v
    ] refl u

-- the queues of a port hold what waits there, by class
pub kept_at : (plan : Plan) (b : ℕ) (steps : List Step) (states : List PortState) (queues : List (List (List Item)))
    (now : ℕ) (table : List Sighting) (p : ℕ)
    → IsStanding plan b steps states queues now table → (1 ≤ p) × (p ≤ 16)
    → get_or queues (p - 1) [] ≡ by_class (waiting plan b p steps)
kept_at plan b steps states queues now table p s l =
    let e : p - 1 + 1 ≡ p = omega arith in
    s.kept_queues (p - 1) (omega arith) ∙ ap (λ r. by_class (waiting plan b r steps)) e

-- what waits after an item was transmitted
pub waiting-sent : (plan : Plan) (b r p : ℕ) (steps : List Step) (item : Item)
    → waiting plan b r (steps ++ Transmit p item ∷ []) ≡ cond (p == r)
    (without (highest (waiting plan b r steps)) (waiting plan b r steps)) (waiting plan b r steps)
waiting-sent plan b r p steps item =
    waiting_from-append plan b r [] steps (Transmit p item)
    ∙ ap (λ ws. cond (p == r) (without (highest ws) ws) ws) (append-nil (waiting plan b r steps))

-- the bridge's state follows from its steps after an item was transmitted
pub after_transmit : (plan : Plan) (b : ℕ) (steps : List Step) (states : List PortState)
    (queues : List (List (List Item))) (now : ℕ) (table : List Sighting) (p : ℕ) (item : Item)
    → IsStanding plan b steps states queues now table → (1 ≤ p) × (p ≤ 16)
    → next_out (waiting plan b p steps) ≡ Some item
    → IsStanding plan b (steps ++ Transmit p item ∷ []) states
    (set queues (p - 1) (after_first (get_or queues (p - 1) []))) now table
after_transmit plan b steps states queues now table p item s l n = record {
  lawful = lawful_more spanning_tree plan b steps (Transmit p item) s.lawful n;
  kept_states = s.kept_states ∙ sym (states_stay plan b steps (Transmit p item) refl);
  count = length-set _ _ _ ∙ s.count;
  kept_queues = λ r h. at r h;
  within = λ r. fewer r;
  classes = λ r. subst AreClassed (sym (waiting-sent plan b r p steps item)) (keep r (p == r));
  clock = s.clock ∙ sym (now_more steps (Transmit p item) ∙ add-zero (now_after steps));
  stations = s.stations ∙ ap (λ ns. standing plan.ageing now ns)
      (sym (news_stay plan b steps (Transmit p item) refl refl));
}
  where
    keep : (r : ℕ) (t : Bool)
        → AreClassed (cond t (without (highest (waiting plan b r steps)) (waiting plan b r steps))
        (waiting plan b r steps))
    keep r true = without-All IsClassed (highest (waiting plan b r steps)) (waiting plan b r steps) (s.classes r)
    keep r false = s.classes r

    shorter : (r : ℕ) (t : Bool) → AreWithin plan.queues (capacity_of plan b)
        (cond t (without (highest (waiting plan b r steps)) (waiting plan b r steps)) (waiting plan b r steps))
    shorter r true = within-without plan.queues (capacity_of plan b) (highest (waiting plan b r steps))
        (waiting plan b r steps) (s.within r)
    shorter r false = s.within r

    fewer : (r : ℕ) → AreWithin plan.queues (capacity_of plan b) (waiting plan b r (steps ++ Transmit p item ∷ []))
    fewer r = subst (AreWithin plan.queues (capacity_of plan b)) (sym (waiting-sent plan b r p steps item))
        (shorter r (p == r))

    here : (r : ℕ) → r < 16 → p ≡ r + 1 → get_or (set queues (p - 1) (after_first (get_or queues (p - 1) []))) r []
        ≡ by_class (without (highest (waiting plan b (r + 1) steps)) (waiting plan b (r + 1) steps))
    here r h e =
        let d : p - 1 ≡ r = omega arith in
        let c = s.count in
        ap (λ i. get_or (set queues i (after_first (get_or queues i []))) r []) d
        ∙ get_or-set_same queues r (after_first (get_or queues r [])) [] (omega arith)
        ∙ ap after_first (s.kept_queues r h)
        ∙ sym (rest_by_class (waiting plan b (r + 1) steps)
        (below_nine (waiting plan b (r + 1) steps) (s.classes (r + 1))))

    other : (r : ℕ) → r < 16 → p ≢ r + 1 → get_or (set queues (p - 1) (after_first (get_or queues (p - 1) []))) r []
        ≡ by_class (waiting plan b (r + 1) steps)
    other r h e =
        let d : r ≢ p - 1 = omega (arith, l.0) in
        get_or-set_other queues (p - 1) r (after_first (get_or queues (p - 1) [])) [] d ∙ s.kept_queues r h

    at : (r : ℕ) → r < 16 → get_or (set queues (p - 1) (after_first (get_or queues (p - 1) []))) r [] ≡ by_class
        (waiting plan b (r + 1) (steps ++ Transmit p item ∷ []))
    at r h =
        elim (p == r + 1)
        as (λ t. (p == r + 1) ≡ t → get_or (set queues (p - 1) (after_first (get_or queues (p - 1) []))) r []
        ≡ by_class (cond t (without (highest (waiting plan b (r + 1) steps)) (waiting plan b (r + 1) steps))
        (waiting plan b (r + 1) steps))) [
          | true ↦ λ e. here r h (eqb-true p (r + 1) e)
          | false ↦ λ e. other r h (λ w. let t = eq-eqb p (r + 1) w in cc)
        ] refl
        ∙ ap by_class (sym (waiting-sent plan b (r + 1) p steps item))

-- a capacity is at most 4,096
pub capacity-small : (plan : Plan) (b : ℕ) → IsSound plan → capacity_of plan b ≤ 4096
capacity-small plan zero s = omega arith
capacity-small plan (suc b) s =
    elim (slice_get plan.bridges b)
    as (λ o. slice_get plan.bridges b ≡ o → unwrap_or (option_map (λ x. x.queue) o) 0 ≤ 4096)
    [ None ↦ λ e. omega arith | Some x ↦ λ e. (All-at IsSoundBridge plan.bridges b x e s.bridges).queue.1 ] refl

-- the first item of the queues leaves next
pub next_at : (plan : Plan) (b : ℕ) (steps : List Step) (states : List PortState) (queues : List (List (List Item)))
    (now : ℕ) (table : List Sighting) (p : ℕ)
    → IsStanding plan b steps states queues now table → (1 ≤ p) × (p ≤ 16) → first_out (get_or queues (p - 1) [])
    ≡ next_out (waiting plan b p steps)
next_at plan b steps states queues now table p s l =
    ap first_out (kept_at plan b steps states queues now table p s l)
    ∙ next_by_class (waiting plan b p steps) (below_nine (waiting plan b p steps) (s.classes p))

-- the queues of a port hold as many items as wait there
pub number_at : (plan : Plan) (b : ℕ) (steps : List Step) (states : List PortState) (queues : List (List (List Item)))
    (now : ℕ) (table : List Sighting) (p : ℕ)
    → IsStanding plan b steps states queues now table → (1 ≤ p) × (p ≤ 16) → number_in (get_or queues (p - 1) [])
    ≡ length (waiting plan b p steps)
number_at plan b steps states queues now table p s l =
    ap number_in (kept_at plan b steps states queues now table p s l)
    ∙ number_by_class (waiting plan b p steps) (below_nine (waiting plan b p steps) (s.classes p))

-- if no item leaves next, no item waits
pub none_waits : (qs : List (List Item)) → first_out qs ≡ None → number_in qs ≡ 0
none_waits [] e = refl
none_waits (q ∷ qs) e =
    elim (first_out qs) as (λ o. first_out qs ≡ o → or_else o (slice_get q 0) ≡ None → number_in (q ∷ qs) ≡ 0)
    [ None ↦ λ n h. let r = none_waits qs n in omega (arith, no_first q h) | Some x ↦ λ n h. cc ] refl e

-- the step of an item that is taken from the queues may come there, and the bridge's state follows from its steps
pub transmitted : (plan : Plan) (b : ℕ) (steps : List Step) (states : List PortState)
    (queues new : List (List (List Item))) (now : ℕ) (table : List Sighting) (p : ℕ)
    → IsStanding plan b steps states queues now table → (1 ≤ p) × (p ≤ 16) → new
    ≡ set queues (p - 1) (after_first (get_or queues (p - 1) []))
    → (item : Item) → Some item ≡ first_out (get_or queues (p - 1) [])
    → IsStanding plan b (steps ++ Transmit p item ∷ []) states new now table
transmitted plan b steps states queues new now table p s l e item n =
    subst (λ (qs : List (List (List Item))). IsStanding plan b (steps ++ Transmit p item ∷ []) states qs now table)
    (sym e)
    (after_transmit plan b steps states queues now table p item s l
    (sym (n ∙ next_at plan b steps states queues now table p s l)))

-- a property of all of the ports holds of one of them
among : (P : ℕ → Type 0) (ports : List ℕ) (r : ℕ) → list_any (λ p. p == r) ports ≡ true → AllByRecursion P ports → P r
among P [] r h a = cc
among P (p ∷ ports) r h a =
    elim (p == r) as (λ b. (p == r) ≡ b → (b || list_any (λ p. p == r) ports) ≡ true → P r)
    [ true ↦ λ e g. subst P (eqb-true p r e) a.0 | false ↦ λ e g. among P ports r g a.1 ] refl h

-- the queue of a port that gets a copy is not full
pub not_full : (full : ℕ → Bool) (chosen : List ℕ) (refused : List (ℕ × NoRoom)) (r : ℕ)
    → AreRefused full chosen refused
    → list_any (λ p. p == r) chosen ≡ true → is_refused refused r ≡ false → full r ≡ false
not_full full chosen refused r h c n = among (λ p. full p ≡ is_named_full refused p) chosen r c h.1
    ∙ none_full r refused n

pub and-true : (a c : Bool) → (a && not c) ≡ true → (a ≡ true) × (c ≡ false)
and-true true false h = (refl, refl)
and-true _ _ h = cc

-- the port is one of those chosen, and is not refused
abbrev pub gets_copy : List ℕ → List (ℕ × NoRoom) → ℕ → Bool
gets_copy chosen refused r = list_any (λ p. p == r) chosen && not (is_refused refused r)

abbrev pub copy_for : ℕ → (ℕ → Item) → List ℕ → List (ℕ × NoRoom) → ℕ → List Waiting
copy_for class item_at chosen refused r =
    cond (gets_copy chosen refused r) (record { class = class; item = item_at r } ∷ []) []

-- a port that gets an item has a place for it
pub has_place : (full : ℕ → Bool) (chosen : List ℕ) (refused : List (ℕ × NoRoom)) (r : ℕ)
    → AreRefused full chosen refused → gets_copy chosen refused r ≡ true → full r ≡ false
has_place full chosen refused r h g =
    let f = and-true (list_any (λ p. p == r) chosen) (is_refused refused r) g in
    not_full full chosen refused r h f.0 f.1

-- the bridge's state follows from its steps after a step that queues an item at some ports, each of which gets it or is
-- refused
pub after_step : (plan : Plan) (b : ℕ) (steps : List Step) (states new_states : List PortState)
    (queues new : List (List (List Item))) (now later : ℕ) (table newer : List Sighting) (step : Step)
    (capacity : Capacity) (class : ℕ) (item_at : ℕ → Item) (chosen : List ℕ) (refused : List (ℕ × NoRoom))
    → IsStanding plan b steps states queues now table → Fits spanning_tree plan b steps step
    → new_states ≡ states_after plan b (steps ++ step ∷ [])
    → AreCopied capacity class item_at queues chosen refused new → length new ≡ 16
    → ((r : ℕ) → Grows plan.queues (capacity_of plan b) class (item_at r) (gets_copy chosen refused r)
    (waiting plan b r steps) (waiting plan b r (steps ++ step ∷ [])))
    → later ≡ now + ticked step
    → filter (is_fresh plan.ageing later) newer ≡ standing plan.ageing later (news_of plan b (steps ++ step ∷ []))
    → IsStanding plan b (steps ++ step ∷ []) new_states new later newer
after_step plan b steps states new_states queues new now later table newer step capacity class item_at chosen refused s
    fits states_are copied count grows clock stations = record {
      lawful = lawful_more spanning_tree plan b steps step s.lawful fits;
      kept_states = states_are;
      count = count;
      kept_queues = λ r h. copied.copies r h
          ∙ ap (λ q. with_copy class item_at chosen refused (r + 1) q) (s.kept_queues r h) ∙ sym (grows (r + 1)).kept;
      classes = λ r. (grows r).classed;
      within = λ r. (grows r).within;
      clock = clock ∙ ap (λ n. n + ticked step) s.clock ∙ sym (now_more steps step);
      stations = stations;
    }

-- a step that queues nothing and reports no change leaves all but the learning table
pub after_still : (plan : Plan) (b : ℕ) (steps : List Step) (states : List PortState)
    (queues : List (List (List Item))) (now : ℕ) (table newer : List Sighting) (step : Step)
    → IsStanding plan b steps states queues now table → Fits spanning_tree plan b steps step
    → moved_of step ≡ [] → filter (is_fresh plan.ageing now) newer ≡ standing plan.ageing now
    (news_of plan b (steps ++ step ∷ []))
    → ticked step ≡ 0 → ((r : ℕ) → queued_by plan b r step ≡ [])
    → ((r : ℕ) (ws : List Waiting) → after_sending r step ws ≡ ws)
    → IsStanding plan b (steps ++ step ∷ []) states queues now newer
after_still plan b steps states queues now table newer step s f m n t q a =
    after_step plan b steps states states queues queues now now table newer step (capacity_in plan b) 0 (own_at []) []
    []
    s f (s.kept_states ∙ sym (states_stay plan b steps step m))
    (record { refusals = (refl, tt); copies = λ r h. refl }) s.count
    (λ r. stays plan.queues (capacity_of plan b) 0 (own_at [] r) (waiting plan b r steps)
    (waiting plan b r (steps ++ step ∷ []))
    (waiting_from-append plan b r [] steps step
    ∙ a r (after_replacing plan r step (waiting plan b r steps) ++ queued_by plan b r step)
    ∙ ap (λ ws. after_replacing plan r step (waiting plan b r steps) ++ ws) (q r)
    ∙ append-nil (after_replacing plan r step (waiting plan b r steps))
    ∙ ap (λ (ms : List Moved). cond (list_any (λ x. x.0 == r) (flat_map (λ z. z.queued) ms))
    (without_replaced plan.queues (waiting plan b r steps)) (waiting plan b r steps)) m)
    (s.classes r) (s.within r))
    (omega (arith, t)) n

-- a step that also reports no station leaves the learning table too
pub after_quiet : (plan : Plan) (b : ℕ) (steps : List Step) (states : List PortState)
    (queues : List (List (List Item))) (now : ℕ) (table : List Sighting) (step : Step)
    → IsStanding plan b steps states queues now table → Fits spanning_tree plan b steps step
    → moved_of step ≡ [] → sightings plan b (now_after steps) step ≡ [] → ticked step ≡ 0
    → ((r : ℕ) → queued_by plan b r step ≡ []) → ((r : ℕ) (ws : List Waiting) → after_sending r step ws ≡ ws)
    → IsStanding plan b (steps ++ step ∷ []) states queues now table
after_quiet plan b steps states queues now table step s f m n t q a =
    after_still plan b steps states queues now table table step s f m
    (s.stations ∙ ap (λ ns. standing plan.ageing now ns) (sym (news_stay plan b steps step n m))) t q a

-- the live stations one tick later
pub standing_later : (ageing now : ℕ) (news : List News)
    → filter (is_fresh ageing (now + 1)) (standing ageing now news) ≡ standing ageing (now + 1) news
standing_later ageing now news =
    ap (filter (is_fresh ageing (now + 1))) (sym (table_tells_what_stands ageing now news))
    ∙ live-dropped ageing now (now + 1) (after_all [] news) (omega arith)
    ∙ table_tells_what_stands ageing (now + 1) news

-- if the plan gives the states, a report of no change is right for a cause that changes nothing
pub fixed_names : (plan : Plan) (b : ℕ) (steps : List Step) (cause : Cause) → plan.spanning ≡ Fixed
    → planned_change plan b steps cause ≡ nothing
    → Names spanning_tree plan b steps cause unmoved
fixed_names plan b steps cause fixed none = record {
  states = ap (λ (ch : Change). ch.states) same;
  flushed = ap (λ (ch : Change). ch.flushed) same;
  queued = ap (λ (ss : List (ℕ × List ℕ)). map own_item (filter (λ s. not (is_refused [] s.0)) ss)) unsent;
  replaced = refl;
  dropped = subst (λ (ss : List (ℕ × List ℕ)). AreRefused (is_full plan b steps (own_class plan.queues))
      (map (λ s. s.0) ss) []) unsent (refl, tt);
  own = tt;
}
  where
    same : nothing ≡ change_of spanning_tree plan b steps cause
    same = sym none ∙ ap (λ (z : Spanning). change_by z spanning_tree plan b steps cause) (sym fixed)

    unsent : [] ≡ (change_of spanning_tree plan b steps cause).sent
    unsent = ap (λ (ch : Change). ch.sent) same

ticked-few : (step : Step) → ticked step ≤ 1
ticked-few (Tick now moved) = omega arith
ticked-few _ = omega arith

-- there are at most as many ticks as steps
pub now_few : (steps : List Step) → now_after steps ≤ length steps
now_few [] = omega arith
now_few (s ∷ steps) = omega (arith, ticked-few s, now_few steps)
