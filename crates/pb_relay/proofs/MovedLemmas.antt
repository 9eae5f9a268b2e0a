-- The state of a bridge after a step that reports the changes of its spanning tree.
use Rattle.std.proofs.Common.{◌≡◌, ◌≢◌, ℕ, ◌+◌, ◌-◌, ◌≤◌, None, Bool, true, false, cond, not, ◌&&◌, ◌||◌, List, [], ◌∷◌}
use Rattle.std.proofs.Common.{◌++◌, map, length, set, ◌==◌, refl, sym, ap, ◌∙◌, subst, arith, append-nil}
use Rattle.std.proofs.Common.{append_assoc, eq-eqb, ne_eqb}
use Rattle.std.proofs.lemmas.Bool.{eqb-true}
use Rattle.std.specs.List.{AllByRecursion, filter, flat_map, list_any}
use Rattle.pb_fdb.proofs.LawLemmas.{stands-more}
use Rattle.pb_fdb.specs.Tables.{Table, flushed}
use Rattle.pb_lan.proofs.StateLemmas.{changed-next}
use Rattle.pb_frame.specs.Stations.{Sighting, News, is_fresh, standing, after}
use Rattle.pb_frame.specs.Stations.News.{Flushed}
use Rattle.pb_lan.proofs.SentWasQueued.{waiting_from-append}
use Rattle.pb_lan.specs.BridgeLists.{Fits, own_item, AreRefused}
use Rattle.pb_lan.specs.Choice.{now_after, news_of, ticked, sightings, flushes}
use Rattle.pb_lan.specs.Ports.{Port, port_at, is_provider, local_ports}
use Rattle.pb_lan.specs.Ports.Port.{Provider}
use Rattle.pb_lan.specs.Queues.{Waiting, waiting, is_full, is_refused, relayed_by, own_by, own_class, bpdus_of}
use Rattle.pb_lan.specs.Queues.{after_sending, after_replacing, without_replaced, capacity_of}
use Rattle.pb_lan.specs.Shapes.{moved_of, changes_of, state_by}
use Rattle.pb_lan.specs.declared.plan.Plan.{Plan}
use Rattle.pb_lan.specs.declared.shape.PortState.{PortState}
use Rattle.pb_lan.specs.declared.step.Item.{Item}
use Rattle.pb_lan.specs.declared.step.Moved.{Moved}
use Rattle.pb_lan.specs.declared.step.NoRoom.{NoRoom}
use Rattle.pb_lan.specs.declared.step.Step.{Step}
use Rattle.pb_relay.specs.Backlogs.{capacity_in}
use Rattle.pb_relay.specs.Copies.{AreCopied, AreSeparate, item_with}
use Rattle.pb_relay.specs.declared.backlog.Capacity.{Capacity}
use Rattle.pb_relay.specs.Moves.{states_changed, all_flushed, own_at, places_of, own_queued, IsBridgePort}
use Rattle.pb_relay.specs.Protocol.{spanning_tree}
use Rattle.pb_relay.specs.Standing.{IsStanding}
use Rattle.pb_relay.proofs.CopyLemmas.{others-none}
use Rattle.pb_relay.proofs.GrowthLemmas.{Grows, own_queued_at}
use Rattle.pb_relay.proofs.StandingLemmas.{copy_for, gets_copy, has_place, after_step}
use Rattle.pb_relay.proofs.StepLemmas.{changes_more, news_more}
use Rattle.pb_relay.proofs.WaitingLemmas.{at_one}

-- States.

-- a change sets the state of its port
state-changed : (plan : Plan) (port : Port) (p : ℕ) (changes : List (ℕ × PortState)) (new : PortState)
    → is_provider port ≡ true
    → state_by plan.spanning port p (changes ++ (p, new) ∷ []) ≡ new
state-changed plan (Provider e) p changes new h =
    changed-next p _ changes (p, new) ∙ ap (λ t. cond t new (state_by plan.spanning (Provider e) p changes))
    (eq-eqb p p refl)
state-changed plan _ p changes new h = cc

-- a change leaves the states of other ports
state-left : (plan : Plan) (port : Port) (p q : ℕ) (changes : List (ℕ × PortState)) (new : PortState) → q ≢ p
    → state_by plan.spanning port q (changes ++ (p, new) ∷ []) ≡ state_by plan.spanning port q changes
state-left plan (Provider e) p q changes new n =
    changed-next q _ changes (p, new)
    ∙ ap (λ t. cond t new (state_by plan.spanning (Provider e) q changes)) (ne_eqb p q (λ s. n (sym s)))
state-left plan _ p q changes new n = refl

-- the states of the local ports after changes
abbrev states_by : Plan → ℕ → List (ℕ × PortState) → List PortState
states_by plan b changes = map (λ q. state_by plan.spanning (port_at plan b q) q changes) local_ports

state-set : (plan : Plan) (b : ℕ) (changes : List (ℕ × PortState)) (p : ℕ) (new : PortState) → IsBridgePort plan b p
    → set (states_by plan b changes) (p - 1) new ≡ states_by plan b (changes ++ (p, new) ∷ [])
state-set plan b changes p new h =
    let l0 : 1 ≤ p = h.1 in
    let l1 : p ≤ 16 = h.2 in
    let at : p ≡ 1 + (p - 1) = omega arith in
    sym (at_one (λ q. state_by plan.spanning (port_at plan b q) q changes)
    (λ q. state_by plan.spanning (port_at plan b q) q (changes ++ (p, new) ∷ [])) p
    (λ q n. state-left plan (port_at plan b q) p q changes new n) 16 1 (p - 1) at (omega arith)
    ∙ ap (set (states_by plan b changes) (p - 1)) (state-changed plan (port_at plan b p) p changes new h.0))

-- changes of ports to other bridges, applied in order
states-changed : (plan : Plan) (b : ℕ) (before changes : List (ℕ × PortState))
    → AllByRecursion (λ (c : ℕ × PortState). IsBridgePort plan b c.0) changes
    → states_changed (states_by plan b before) changes ≡ states_by plan b (before ++ changes)
states-changed plan b before [] h = ap (states_by plan b) (sym (append-nil before))
states-changed plan b before (c ∷ cs) h =
    ap (λ ss. states_changed ss cs) (state-set plan b before c.0 c.1 h.0)
    ∙ states-changed plan b (before ++ (c.0, c.1) ∷ []) cs h.1
    ∙ ap (states_by plan b) (append_assoc before ((c.0, c.1) ∷ []) cs)

-- Tables.

-- the live stations after ports are flushed
pub stations_flushed : (ageing now : ℕ) (news : List News) (table : Table) (ports : List ℕ)
    → filter (is_fresh ageing now) table.sightings ≡ standing ageing now news
    → filter (is_fresh ageing now) (all_flushed table ports).sightings ≡ standing ageing now
    (news ++ map (λ port. Flushed port) ports)
stations_flushed ageing now news table [] h = h ∙ ap (standing ageing now) (sym (append-nil news))
stations_flushed ageing now news table (p ∷ ps) h =
    stations_flushed ageing now (news ++ Flushed p ∷ []) (flushed table p) ps
    (stands-more ageing now table.sightings news (Flushed p) h)
    ∙ ap (standing ageing now) (append_assoc news (Flushed p ∷ []) (map (λ port. Flushed port) ps))

-- Queues.

-- an item of the bridge's own as it waits
abbrev in_class : ℕ → (ℕ × Item) → Waiting
in_class class q = record { class = class; item = q.1 }

-- the bridge's own items that wait at a port
abbrev own_waiting : ℕ → List (ℕ × NoRoom) → List (ℕ × List ℕ) → ℕ → List Waiting
own_waiting class dropped sends r = map (in_class class) (filter (λ q. q.0 == r) (own_queued dropped sends))

-- the bridge's own item at a port, if it was queued
abbrev own_there : ℕ → List (ℕ × NoRoom) → List (ℕ × List ℕ) → ℕ → List Waiting
own_there class dropped sends r = copy_for class (own_at sends) (places_of sends) dropped r

-- the frames that were queued, with or without the first one
abbrev kept_of : List (ℕ × NoRoom) → (ℕ × List ℕ) → List (ℕ × List ℕ) → Bool → List (ℕ × List ℕ)
kept_of dropped s ss k = cond k (s ∷ filter (λ z. not (is_refused dropped z.0)) ss)
    (filter (λ z. not (is_refused dropped z.0)) ss)

own-one : (class : ℕ) (dropped : List (ℕ × NoRoom)) (sends : List (ℕ × List ℕ)) (r : ℕ) → AreSeparate (places_of sends)
    → own_waiting class dropped sends r ≡ own_there class dropped sends r
own-one class dropped [] r a = refl
own-one class dropped (s ∷ ss) r a = by_tests (s.0 == r) (not (is_refused dropped s.0)) refl refl
    (own-one class dropped ss r a.2)
  where
    none : s.0 ≡ r → list_any (λ p. p == r) (places_of ss) ≡ false
    none e = subst (λ (n : ℕ). list_any (λ p. p == n) (places_of ss) ≡ false) e (others-none s.0 (places_of ss) a.1)

    by_tests : (t k : Bool) → (s.0 == r) ≡ t → not (is_refused dropped s.0) ≡ k
        → own_waiting class dropped ss r ≡ own_there class dropped ss r
        → own_waiting class dropped (s ∷ ss) r ≡ own_there class dropped (s ∷ ss) r
    by_tests true true et ek rest =
        ap (λ b. map (in_class class) (filter (λ q. q.0 == r) (map own_item (kept_of dropped s ss b)))) ek
        ∙ ap (λ b. map (in_class class) (cond b (own_item s ∷ filter (λ q. q.0 == r) (own_queued dropped ss))
        (filter (λ q. q.0 == r) (own_queued dropped ss)))) et
        ∙ ap (λ ws. in_class class (own_item s) ∷ ws)
        (rest ∙ ap (λ b. cond (b && not (is_refused dropped r)) (in_class class (r, own_at ss r) ∷ []) [])
        (none (eqb-true s.0 r et)))
        ∙ sym (ap (λ b. cond ((b || list_any (λ p. p == r) (places_of ss)) && not (is_refused dropped r))
        (in_class class (r, cond b (own_item s).1 (own_at ss r)) ∷ []) []) et
        ∙ ap (λ b. cond b (in_class class (own_item s) ∷ []) [])
        (ap (λ n. not (is_refused dropped n)) (sym (eqb-true s.0 r et)) ∙ ek))
    by_tests true false et ek rest =
        ap (λ b. map (in_class class) (filter (λ q. q.0 == r) (map own_item (kept_of dropped s ss b)))) ek
        ∙ rest ∙ ap (λ b. cond (b && not (is_refused dropped r)) (in_class class (r, own_at ss r) ∷ []) [])
        (none (eqb-true s.0 r et))
        ∙ sym (ap (λ b. cond ((b || list_any (λ p. p == r) (places_of ss)) && not (is_refused dropped r))
        (in_class class (r, cond b (own_item s).1 (own_at ss r)) ∷ []) []) et
        ∙ ap (λ b. cond b (in_class class (own_item s) ∷ []) [])
        (ap (λ n. not (is_refused dropped n)) (sym (eqb-true s.0 r et)) ∙ ek))
    by_tests false true et ek rest =
        ap (λ b. map (in_class class) (filter (λ q. q.0 == r) (map own_item (kept_of dropped s ss b)))) ek
        ∙ ap (λ b. map (in_class class) (cond b (own_item s ∷ filter (λ q. q.0 == r) (own_queued dropped ss))
        (filter (λ q. q.0 == r) (own_queued dropped ss)))) et
        ∙ rest
        ∙ sym (ap (λ b. cond ((b || list_any (λ p. p == r) (places_of ss)) && not (is_refused dropped r))
        (in_class class (r, cond b (own_item s).1 (own_at ss r)) ∷ []) []) et)
    by_tests false false et ek rest =
        ap (λ b. map (in_class class) (filter (λ q. q.0 == r) (map own_item (kept_of dropped s ss b)))) ek
        ∙ rest
        ∙ sym (ap (λ b. cond ((b || list_any (λ p. p == r) (places_of ss)) && not (is_refused dropped r))
        (in_class class (r, cond b (own_item s).1 (own_at ss r)) ∷ []) []) et)

-- the bridge's own item was queued at a port if and only if the port got its copy
own-any : (dropped : List (ℕ × NoRoom)) (sends : List (ℕ × List ℕ)) (r : ℕ)
    → list_any (λ q. q.0 == r) (own_queued dropped sends) ≡ gets_copy (places_of sends) dropped r
own-any dropped [] r = refl
own-any dropped (s ∷ ss) r = by_tests (s.0 == r) (is_refused dropped s.0) refl refl (own-any dropped ss r)
  where
    by_tests : (t k : Bool) → (s.0 == r) ≡ t → is_refused dropped s.0 ≡ k
        → list_any (λ q. q.0 == r) (own_queued dropped ss) ≡ gets_copy (places_of ss) dropped r
        → list_any (λ q. q.0 == r) (own_queued dropped (s ∷ ss)) ≡ gets_copy (places_of (s ∷ ss)) dropped r
    by_tests t true et ek rest =
        ap (λ b. list_any (λ q. q.0 == r) (map own_item (kept_of dropped s ss (not b)))) ek ∙ rest
        ∙ refused t (list_any (λ p. p == r) (places_of ss)) et
        ∙ ap (λ b. (b || list_any (λ p. p == r) (places_of ss)) && not (is_refused dropped r)) (sym et)
      where
        refused : (b c : Bool) → (s.0 == r) ≡ b
            → (c && not (is_refused dropped r)) ≡ ((b || c) && not (is_refused dropped r))
        refused false c e = refl
        refused true c e =
            let k : not (is_refused dropped r) ≡ false =
            ap (λ n. not (is_refused dropped n)) (sym (eqb-true s.0 r e)) ∙ ap not ek in
            ap (λ b. c && b) k ∙ and-no c ∙ sym k
          where
            and-no : (c : Bool) → (c && false) ≡ false
            and-no true = refl
            and-no false = refl
    by_tests true false et ek rest =
        ap (λ b. list_any (λ q. q.0 == r) (map own_item (kept_of dropped s ss (not b)))) ek
        ∙ ap (λ b. b || list_any (λ q. q.0 == r) (own_queued dropped ss)) et
        ∙ sym (ap (λ b. (b || list_any (λ p. p == r) (places_of ss)) && not (is_refused dropped r)) et
        ∙ ap not (ap (is_refused dropped) (sym (eqb-true s.0 r et)) ∙ ek))
    by_tests false false et ek rest =
        ap (λ b. list_any (λ q. q.0 == r) (map own_item (kept_of dropped s ss (not b)))) ek
        ∙ ap (λ b. b || list_any (λ q. q.0 == r) (own_queued dropped ss)) et ∙ rest
        ∙ ap (λ b. (b || list_any (λ p. p == r) (places_of ss)) && not (is_refused dropped r)) (sym et)

-- the bridge's own item has no mark
own-unmarked : (sends : List (ℕ × List ℕ)) (r : ℕ) → (own_at sends r).mark ≡ None
own-unmarked [] r = refl
own-unmarked (s ∷ ss) r =
    elim (s.0 == r) as (λ b. (cond b (item_with None 0 s.1) (own_at ss r)).mark ≡ None)
    [ true ↦ refl | false ↦ own-unmarked ss r ]

-- a step that only reports changes
pub record IsMove (plan : Plan) (b : ℕ) (steps : List Step) (step : Step) (m : Moved) (sends : List (ℕ × List ℕ)) :
    Type 0 where
  pub told : moved_of step ≡ m ∷ []
  pub unrelayed : (r : ℕ) → relayed_by plan b r step ≡ []
  pub unsent : (r : ℕ) (ws : List Waiting) → after_sending r step ws ≡ ws
  pub unseen : sightings plan b (now_after steps) step ≡ []
  pub queued : m.queued ≡ own_queued m.dropped sends
  pub refused : AreRefused (is_full plan b steps (own_class plan.queues)) (places_of sends) m.dropped
  pub separate : AreSeparate (places_of sends)
  pub bridges : AllByRecursion (λ (c : ℕ × PortState). IsBridgePort plan b c.0) m.states

-- the bridge's state follows from its steps after its spanning tree has changed something
pub after_moved : (plan : Plan) (b : ℕ) (steps : List Step) (states : List PortState)
    (queues new : List (List (List Item))) (now later : ℕ) (table : List Sighting) (newer : List Sighting)
    (step : Step) (m : Moved) (sends : List (ℕ × List ℕ)) (capacity : Capacity)
    → IsStanding plan b steps states queues now table → Fits spanning_tree plan b steps step
    → IsMove plan b steps step m sends
    → later ≡ now + ticked step
    → AreCopied capacity (own_class plan.queues) (own_at sends) queues (places_of sends) m.dropped new
    → length new ≡ 16
    → filter (is_fresh plan.ageing later) newer ≡ standing plan.ageing later
    (news_of plan b steps ++ map (λ port. Flushed port) m.flushed)
    → IsStanding plan b (steps ++ step ∷ []) (states_changed states m.states) new later newer
after_moved plan b steps states queues new now later table newer step m sends capacity s fits move clock copied count
    stations =
    after_step plan b steps states (states_changed states m.states) queues new now later table newer step capacity
    (own_class plan.queues) (own_at sends) (places_of sends) m.dropped s fits
    (ap (λ ss. states_changed ss m.states) s.kept_states
    ∙ states-changed plan b (changes_of steps) m.states move.bridges
    ∙ ap (states_by plan b) (ap (λ cs. changes_of steps ++ cs) (sym changes) ∙ sym (changes_more steps step)))
    copied count grows clock
    (stations ∙ ap (standing plan.ageing later)
    (sym (news_more plan b steps step ∙ ap (λ ns. news_of plan b steps ++ ns) news)))
  where
    changes : changes_of (step ∷ []) ≡ m.states
    changes = ap (λ ms. flat_map (λ (x : Moved). x.states) (ms ++ [])) move.told ∙ append-nil m.states

    news : sightings plan b (now_after steps) step ++ flushes step ≡ map (λ port. Flushed port) m.flushed
    news =
        ap (λ ns. ns ++ flushes step) move.unseen
        ∙ ap (λ ms. map (λ port. Flushed port) (flat_map (λ (x : Moved). x.flushed) ms)) move.told
        ∙ ap (λ ps. map (λ port. Flushed port) ps) (append-nil m.flushed)

    told : bpdus_of step ≡ own_queued m.dropped sends
    told = ap (λ ms. flat_map (λ (x : Moved). x.queued) ms) move.told ∙ append-nil m.queued ∙ move.queued

    own : (r : ℕ) → own_by plan r step ≡ own_there (own_class plan.queues) m.dropped sends r
    own r =
        ap (λ qs. map (in_class (own_class plan.queues)) (filter (λ q. q.0 == r) qs)) told
        ∙ own-one (own_class plan.queues) m.dropped sends r move.separate

    kept : (r : ℕ) → after_replacing plan r step (waiting plan b r steps)
        ≡ cond (gets_copy (places_of sends) m.dropped r) (without_replaced plan.queues (waiting plan b r steps))
        (waiting plan b r steps)
    kept r =
        ap (λ t. cond t (without_replaced plan.queues (waiting plan b r steps)) (waiting plan b r steps))
        (ap (list_any (λ q. q.0 == r)) told ∙ own-any m.dropped sends r)

    waits : (r : ℕ) → waiting plan b r (steps ++ step ∷ [])
        ≡ cond (gets_copy (places_of sends) m.dropped r) (without_replaced plan.queues (waiting plan b r steps))
        (waiting plan b r steps) ++ own_there (own_class plan.queues) m.dropped sends r
    waits r =
        let ws = after_replacing plan r step (waiting plan b r steps) in
        waiting_from-append plan b r [] steps step
        ∙ move.unsent r (ws ++ (relayed_by plan b r step ++ own_by plan r step))
        ∙ ap (λ zs. ws ++ (zs ++ own_by plan r step)) (move.unrelayed r)
        ∙ ap (λ zs. ws ++ zs) (own r) ∙ ap (λ zs. zs ++ own_there (own_class plan.queues) m.dropped sends r) (kept r)

    grows : (r : ℕ) → Grows plan.queues (capacity_of plan b) (own_class plan.queues) (own_at sends r)
        (gets_copy (places_of sends) m.dropped r) (waiting plan b r steps) (waiting plan b r (steps ++ step ∷ []))
    grows r =
        subst (Grows plan.queues (capacity_of plan b) (own_class plan.queues) (own_at sends r)
        (gets_copy (places_of sends) m.dropped r) (waiting plan b r steps)) (sym (waits r))
        (own_queued_at plan.queues (capacity_of plan b) (own_at sends r) (gets_copy (places_of sends) m.dropped r)
        (waiting plan b r steps) (own-unmarked sends r) (s.classes r) (s.within r)
        (has_place (is_full plan b steps (own_class plan.queues)) (places_of sends) m.dropped r move.refused))

-- the bridge's state follows from its steps after a change that sends nothing
pub after_unsent : (plan : Plan) (b : ℕ) (steps : List Step) (states : List PortState)
    (queues : List (List (List Item))) (now later : ℕ) (table newer : List Sighting) (step : Step)
    (changes : List (ℕ × PortState)) (ports : List ℕ)
    → IsStanding plan b steps states queues now table → Fits spanning_tree plan b steps step
    → moved_of step ≡ record { states = changes; flushed = ports; queued = []; replaced = []; dropped = [] } ∷ []
    → ((r : ℕ) → relayed_by plan b r step ≡ []) → ((r : ℕ) (ws : List Waiting) → after_sending r step ws ≡ ws)
    → sightings plan b (now_after steps) step ≡ []
    → AllByRecursion (λ (c : ℕ × PortState). IsBridgePort plan b c.0) changes → later ≡ now + ticked step
    → filter (is_fresh plan.ageing later) newer ≡ standing plan.ageing later
    (news_of plan b steps ++ map (λ port. Flushed port) ports)
    → IsStanding plan b (steps ++ step ∷ []) (states_changed states changes) queues later newer
after_unsent plan b steps states queues now later table newer step changes ports s fits told unrelayed unsent unseen
    bridges clock stations =
    after_moved plan b steps states queues queues now later table newer step
    (record { states = changes; flushed = ports; queued = []; replaced = []; dropped = [] }) [] (capacity_in plan b) s
    fits
    (record {
      told = told;
      unrelayed = unrelayed;
      unsent = unsent;
      unseen = unseen;
      queued = refl;
      refused = (refl, tt);
      separate = tt;
      bridges = bridges;
    })
    clock (record { refusals = (refl, tt); copies = λ r h. refl }) s.count stations

-- one more change of state
pub states_changed-more : (states : List PortState) (changes : List (ℕ × PortState)) (p : ℕ) (new : PortState)
    → states_changed states (changes ++ (p, new) ∷ []) ≡ set (states_changed states changes) (p - 1) new
states_changed-more states [] p new = refl
states_changed-more states (c ∷ cs) p new = states_changed-more (set states (c.0 - 1) c.1) cs p new

-- one more port is flushed
pub all_flushed-more : (table : Table) (ports : List ℕ) (p : ℕ)
    → all_flushed table (ports ++ p ∷ []) ≡ record (all_flushed table ports)
    { sightings = after (all_flushed table ports).sightings (Flushed p) }
all_flushed-more table [] p = refl
all_flushed-more table (q ∷ qs) p = all_flushed-more (record table { sightings = after table.sightings (Flushed q) })
    qs p
