-- Properties of items that spread from polled frames over bridges and links, by induction on hops. All laws use them.
use Rattle.std.proofs.Common.{◌≡◌, ◌⊎◌, inl, inr, ℕ, zero, suc, ◌+◌, ◌<◌, Some, Option, true, false, cond, not, ◌&&◌}
use Rattle.std.proofs.Common.{◌==◌, List, [], ◌∷◌, ◌++◌, refl, ◌∙◌, subst, arith, add-one, append_assoc}
use Rattle.std.proofs.lemmas.Bool.{eqb-true}
use Rattle.std.specs.List.{AllByRecursion, filter, flat_map, list_any}
use Rattle.pb_frame.specs.declared.learnt.Learnt.{Learnt}
use Rattle.pb_frame.proofs.Lists.{and-left, All-append, All-map, All-imply, All-filter, All-flat_map, All-front}
use Rattle.pb_frame.proofs.Lists.{All-back, All-every, eqb-refl}
use Rattle.pb_frame.proofs.Parts.{All-part}
use Rattle.pb_lan.proofs.PortsInPlans.{customer_at, end_at}
use Rattle.pb_lan.proofs.ReceivedWasSent.{IsEntry, into-All, link-part}
use Rattle.pb_lan.proofs.Rulings.{follows-own}
use Rattle.pb_lan.proofs.SentWasQueued.{AllWaiting, AllQueued, transmitted-All}
use Rattle.pb_lan.specs.BridgeLists.{ruling, Follows, Fits, LawfulAfter, IsOwn}
use Rattle.pb_lan.specs.Forests.{HasEnds}
use Rattle.pb_lan.specs.Numbering.{numbered}
use Rattle.pb_lan.specs.Ports.{Port, port_at}
use Rattle.pb_lan.specs.Queues.{Waiting, copy_of, copies, is_refused, class_of, priority_in, queued_by, relayed_by}
use Rattle.pb_lan.specs.Queues.{own_by, own_class}
use Rattle.pb_lan.specs.Records.{transmitted, IsLawfulRecord, steps_of, received, received_by}
use Rattle.pb_lan.specs.Rules.{Rules}
use Rattle.pb_lan.specs.Shapes.{moved_of}
use Rattle.pb_lan.specs.Ports.Port.{Customer, Provider, Unused}
use Rattle.pb_lan.specs.declared.plan.Plan.{Plan}
use Rattle.pb_lan.specs.declared.plan.End.{End}
use Rattle.pb_lan.specs.declared.plan.LinkPlan.{LinkPlan}
use Rattle.pb_lan.specs.declared.plan.CustomerPlan.{CustomerPlan}
use Rattle.pb_lan.specs.declared.record.Record.{Record}
use Rattle.pb_lan.specs.declared.step.Item.{Item}
use Rattle.pb_lan.specs.declared.step.Moved.{Moved}
use Rattle.pb_lan.specs.declared.step.NoRoom.{NoRoom}
use Rattle.pb_lan.specs.declared.step.Outcome.{Outcome}
use Rattle.pb_lan.specs.declared.step.Outcome.TheVariants.{Relayed}
use Rattle.pb_lan.specs.declared.step.Step.{Step}
use Rattle.pb_lan.specs.declared.step.Step.TheVariants.{Receive, Tick, Admin}

-- K is a property of the items received at a bridge's port and Q one of the items queued there, and each leads to the
-- next: entry to K, K to Q over a bridge, and Q to K over a link
pub record Spreads (rules : Rules) (plan : Plan) (rec : Record) (K Q : ℕ → ℕ → Item → Type 0) : Type 0 where
  pub enters : (k : ℕ) (c : CustomerPlan) → numbered plan.customers k ≡ Some c → (item : Item) → IsEntry rec k item
      → K c.bridge c.port item
  pub crosses : (k : ℕ) (link : LinkPlan) (near far : End) → numbered plan.links k ≡ Some link → HasEnds link near far
      → (item : Item) → Q near.bridge near.port item → K far.bridge far.port item
  pub unused : (b q : ℕ) → port_at plan b q ≡ Unused → (item : Item) → K b q item
  pub own : (b q : ℕ) (item : Item) → IsOwn plan b (q, item) → Q b q item
  pub relays : (b r : ℕ) (earlier later : List Step) (q : ℕ) (item : Item) (learnt : Option Learnt) (chosen : List ℕ)
      (refused : List (ℕ × NoRoom)) (moved : Option Moved)
      → earlier ++ Receive q item learnt (Relayed chosen refused) moved ∷ later ≡ steps_of rec.bridges b
      → Follows rules plan b earlier q item learnt (Relayed chosen refused) moved (ruling rules plan b earlier q item)
      → list_any (λ p. p == r) chosen ≡ true → K b q item
      → Q b r (copy_of plan (port_at plan b q) (port_at plan b r) item)

-- the property, for items with fewer hops
abbrev pub Below : ℕ → (Item → Type 0) → Item → Type 0
Below n P item = item.hops < n → P item

-- the property, for the item with fewer hops that a step receives
abbrev pub StepBelow : ℕ → (ℕ → ℕ → Item → Type 0) → ℕ → Step → Type 0
StepBelow n K b (Receive q item learnt outcome moved) = Below n (K b q) item
StepBelow n K b _ = Unit {0}

-- the items that a lawful step queues as the bridge's own are for other bridges
pub step-own : (rules : Rules) (plan : Plan) (b : ℕ) (earlier : List Step) (step : Step)
    → Fits rules plan b earlier step
    → AllByRecursion (λ m. AllByRecursion (IsOwn plan b) m.queued) (moved_of step)
step-own rules plan b earlier (Receive q item learnt outcome moved) fits = follows-own rules plan b earlier q item
    learnt outcome moved (ruling rules plan b earlier q item) fits
step-own rules plan b earlier (Tick now moved) fits = (fits.1.own, tt)
step-own rules plan b earlier (Admin port up moved) fits = (fits.1.own, tt)
step-own rules plan b earlier _ fits = tt

-- a property of all of a bridge's own items holds of those that a step queues at a port
pub own-All : (P : Waiting → Type 0) (plan : Plan) (b r : ℕ) (step : Step)
    → ((item : Item) → IsOwn plan b (r, item) → P (record { class = own_class plan.queues; item = item }))
    → AllByRecursion (λ m. AllByRecursion (IsOwn plan b) m.queued) (moved_of step)
    → AllByRecursion P (own_by plan r step)
own-All P plan b r step h own =
    let all = flat_map (λ m. m.queued) (moved_of step) in
    All-map P (λ q. record { class = own_class plan.queues; item = q.1 }) (filter (λ q. q.0 == r) all)
    (All-imply (λ q. IsOwn plan b q × ((q.0 == r) ≡ true))
    (λ q. P (record { class = own_class plan.queues; item = q.1 }))
    (λ q k. h q.1 (subst (λ x. IsOwn plan b (x, q.1)) (eqb-true q.0 r k.1) k.0)) (filter (λ q. q.0 == r) all)
    (All-filter (IsOwn plan b) (λ q. q.0 == r) all (All-flat_map (IsOwn plan b) (λ m. m.queued) (moved_of step) own)))

-- how K and Q spread over a bridge
module _ (rules : Rules) (plan : Plan) (rec : Record) (K Q : ℕ → ℕ → Item → Type 0)
    (s : Spreads rules plan rec K Q) where
  -- from a received item to its copy at a port
  copies-spread : (n b r : ℕ) (earlier later : List Step) (q : ℕ) (item : Item) (learnt : Option Learnt)
      (outcome : Outcome) (moved : Option Moved)
      → earlier ++ Receive q item learnt outcome moved ∷ later ≡ steps_of rec.bridges b
      → Follows rules plan b earlier q item learnt outcome moved (ruling rules plan b earlier q item)
      → Below n (K b q) item → AllWaiting (Below (n + 1) (Q b r)) (copies plan b q item outcome r)
  copies-spread n b r earlier later q item learnt (Relayed chosen refused) moved at follows known =
      elim (list_any (λ p. p == r) chosen && not (is_refused refused r))
      as (λ t. (list_any (λ p. p == r) chosen && not (is_refused refused r)) ≡ t
      → AllWaiting (Below (n + 1) (Q b r))
      (cond t (record {
        class = class_of (priority_in (port_at plan b q) item.wire);
        item = copy_of plan (port_at plan b q) (port_at plan b r) item;
      } ∷ []) [])) [
        | true ↦ λ e. (
          λ few. s.relays b r earlier later q item learnt chosen refused moved at follows (and-left _ _ e)
              (known (omega (arith, few))),
          tt,
        )
        | false ↦ λ e. tt
      ] refl
  copies-spread n b r earlier later q item learnt _ moved at follows known = tt

  -- from the item that a step receives to the one that it relays
  step-spread : (n b r : ℕ) (earlier later : List Step) (step : Step) → earlier ++ step ∷ later ≡ steps_of rec.bridges b
      → Fits rules plan b earlier step → StepBelow n K b step
      → AllWaiting (Below (n + 1) (Q b r)) (relayed_by plan b r step)
  step-spread n b r earlier later (Receive q item learnt outcome moved) at fits known =
      copies-spread n b r earlier later q item learnt outcome moved at fits known
  step-spread n b r earlier later _ at fits known = tt

  -- from the items that steps receive to those that they queue, including the bridge's own
  steps-spread : (n b r : ℕ) (earlier steps : List Step) → earlier ++ steps ≡ steps_of rec.bridges b
      → LawfulAfter rules plan b earlier steps
      → AllByRecursion (StepBelow n K b) steps → AllQueued (Below (n + 1) (Q b r)) plan b r steps
  steps-spread n b r earlier [] at lawful known = tt
  steps-spread n b r earlier (step ∷ steps) at lawful known = (
    All-append (λ w. Below (n + 1) (Q b r) w.item) (relayed_by plan b r step) (own_by plan r step)
        (step-spread n b r earlier steps step at lawful.0 known.0)
        (own-All (λ w. Below (n + 1) (Q b r) w.item) plan b r step (λ item o few. s.own b r item o)
        (step-own rules plan b earlier step lawful.0)),
    steps-spread n b r (earlier ++ step ∷ []) steps (append_assoc earlier (step ∷ []) steps ∙ at) lawful.1 known.1,
  )

-- a property of all items received at each port holds of each step that receives
received-steps : (n : ℕ) (K : ℕ → ℕ → Item → Type 0) (b : ℕ) (steps : List Step)
    → ((q : ℕ) → AllByRecursion (Below n (K b q)) (received q steps)) → AllByRecursion (StepBelow n K b) steps
received-steps n K b [] h = tt
received-steps n K b (step ∷ steps) h = (
  at_step step (λ q. All-front (Below n (K b q)) (received_by q step) (received q steps) (h q)),
  received-steps n K b steps (λ q. All-back (Below n (K b q)) (received_by q step) (received q steps) (h q)),
)
  where
    at_step : (step : Step) → ((q : ℕ) → AllByRecursion (Below n (K b q)) (received_by q step)) → StepBelow n K b step
    at_step (Receive q item learnt outcome moved) k =
        (subst (λ t. AllByRecursion (Below n (K b q)) (cond t (item ∷ []) [])) (eqb-refl q) (k q)).0
    at_step _ k = tt

-- the property of all queued items with fewer hops, at all bridges and ports
abbrev AllBelow : ℕ → (ℕ → ℕ → Item → Type 0) → Plan → Record → Type 0
AllBelow n Q plan rec = (b r : ℕ) → AllQueued (Below n (Q b r)) plan b r (steps_of rec.bridges b)

-- a property of all queued items gives each property that it implies
pub queued-imply : (P R : Item → Type 0) → ((item : Item) → P item → R item)
    → (plan : Plan) (b r : ℕ) (steps : List Step)
    → AllQueued P plan b r steps → AllQueued R plan b r steps
queued-imply P R h plan b r steps a =
    All-imply (λ step. AllWaiting P (queued_by plan b r step)) (λ step. AllWaiting R (queued_by plan b r step))
    (λ step ws. All-imply (λ w. P w.item) (λ w. R w.item) (λ w p. h w.item p) (queued_by plan b r step) ws) steps a

-- Q of all queued items with fewer hops gives K of all received ones
pub received-spread : (rules : Rules) (plan : Plan) (rec : Record) (K Q : ℕ → ℕ → Item → Type 0)
    → Spreads rules plan rec K Q → IsLawfulRecord rules plan rec
    → (n : ℕ) → AllBelow n Q plan rec → (b q : ℕ)
    → AllByRecursion (Below n (K b q)) (received q (steps_of rec.bridges b))
received-spread rules plan rec K Q s lawful n all b q =
    by_port (port_at plan b q) refl
  where
    moved_to : (x y : ℕ) → x ≡ b → y ≡ q → AllByRecursion (Below n (K x y)) (received y (steps_of rec.bridges x))
        → AllByRecursion (Below n (K b q)) (received q (steps_of rec.bridges b))
    moved_to x y e f a =
        subst (λ y. AllByRecursion (Below n (K b y)) (received y (steps_of rec.bridges b))) f
        (subst (λ x. AllByRecursion (Below n (K x y)) (received y (steps_of rec.bridges x))) e a)

    over_link : (k : ℕ) (link : LinkPlan) (near far : End) → numbered plan.links k ≡ Some link → HasEnds link near far
        → AllByRecursion (Below n (K far.bridge far.port)) (received far.port (steps_of rec.bridges far.bridge))
    over_link k link near far at ends =
        All-part (Below n (K far.bridge far.port)) (received far.port (steps_of rec.bridges far.bridge))
        (transmitted near.port (steps_of rec.bridges near.bridge))
        (link-part rec k link near far (lawful.links k link at) ends)
        (transmitted-All (Below n (K far.bridge far.port)) rules plan near.bridge near.port []
        (steps_of rec.bridges near.bridge) (lawful.bridges near.bridge) tt
        (queued-imply (Below n (Q near.bridge near.port)) (Below n (K far.bridge far.port))
        (λ item p. λ few. s.crosses k link near far at ends item (p few))
        plan near.bridge near.port (steps_of rec.bridges near.bridge) (all near.bridge near.port)))

    to_end : (k : ℕ) (link : LinkPlan) (e : End) → numbered plan.links k ≡ Some link → (link.a ≡ e) ⊎ (link.b ≡ e)
        → AllByRecursion (Below n (K e.bridge e.port)) (received e.port (steps_of rec.bridges e.bridge))
    to_end k link e at (inl h) = over_link k link link.b e at (inr (refl, h))
    to_end k link e at (inr h) = over_link k link link.a e at (inl (refl, h))

    by_port : (p : Port) → port_at plan b q ≡ p → AllByRecursion (Below n (K b q)) (received q (steps_of rec.bridges b))
    by_port (Customer c) h =
        let at = customer_at plan b q c h in
        moved_to c.bridge c.port at.2 at.3
        (All-imply (IsEntry rec at.0) (Below n (K c.bridge c.port)) (λ item e. λ few. s.enters at.0 c at.1 item e)
        (received c.port (steps_of rec.bridges c.bridge))
        (into-All rec at.0 c (lawful.ports at.0) (lawful.customers at.0 c at.1)))
    by_port (Provider e) h =
        let at = end_at plan b q e h in
        moved_to e.bridge e.port at.1 at.2 (to_end (suc at.0.0) at.0.1 e at.0.2 at.0.3)
    by_port Unused h = All-every (Below n (K b q)) (λ item. λ few. s.unused b q h item)
        (received q (steps_of rec.bridges b))

-- Q holds of all queued items with fewer hops, by induction on their number
pub all-below : (rules : Rules) (plan : Plan) (rec : Record) (K Q : ℕ → ℕ → Item → Type 0)
    → Spreads rules plan rec K Q → IsLawfulRecord rules plan rec → (n : ℕ) → AllBelow n Q plan rec
all-below rules plan rec K Q s lawful zero b r =
    All-every (λ step. AllWaiting (Below 0 (Q b r)) (queued_by plan b r step))
    (λ step. All-every (λ w. Below 0 (Q b r) w.item) (λ w. λ few. absurd (omega (arith, few)))
    (queued_by plan b r step)) (steps_of rec.bridges b)
all-below rules plan rec K Q s lawful (suc n) b r =
    subst (λ m. AllQueued (Below m (Q b r)) plan b r (steps_of rec.bridges b)) (add-one n)
    (steps-spread rules plan rec K Q s n b r [] (steps_of rec.bridges b) refl (lawful.bridges b)
    (received-steps n K b (steps_of rec.bridges b)
    (received-spread rules plan rec K Q s lawful n (all-below rules plan rec K Q s lawful n) b)))

-- a property of items with fewer hops, for each number of hops, holds of all
of_waiting : (P : Item → Type 0) (ws : List Waiting) → ((n : ℕ) → AllWaiting (Below n P) ws) → AllWaiting P ws
of_waiting P [] h = tt
of_waiting P (w ∷ ws) h = ((h (w.item.hops + 1)).0 (omega arith), of_waiting P ws (λ n. (h n).1))

-- Q holds of all queued items of a lawful record
pub queued-all : (rules : Rules) (plan : Plan) (rec : Record) (K Q : ℕ → ℕ → Item → Type 0)
    → Spreads rules plan rec K Q → IsLawfulRecord rules plan rec
    → (b r : ℕ) → AllQueued (Q b r) plan b r (steps_of rec.bridges b)
queued-all rules plan rec K Q s lawful b r = of_steps (steps_of rec.bridges b)
    (λ n. all-below rules plan rec K Q s lawful n b r)
  where
    of_steps : (steps : List Step) → ((n : ℕ) → AllQueued (Below n (Q b r)) plan b r steps)
        → AllQueued (Q b r) plan b r steps
    of_steps [] h = tt
    of_steps (step ∷ steps) h =
        (of_waiting (Q b r) (queued_by plan b r step) (λ n. (h n).0), of_steps steps (λ n. (h n).1))

-- K holds of all received items of a lawful record
pub received-all : (rules : Rules) (plan : Plan) (rec : Record) (K Q : ℕ → ℕ → Item → Type 0)
    → Spreads rules plan rec K Q → IsLawfulRecord rules plan rec
    → (b q : ℕ) → AllByRecursion (K b q) (received q (steps_of rec.bridges b))
received-all rules plan rec K Q s lawful b q = of_items (received q (steps_of rec.bridges b))
    (λ n. received-spread rules plan rec K Q s lawful n (all-below rules plan rec K Q s lawful n) b q)
  where
    of_items : (items : List Item) → ((n : ℕ) → AllByRecursion (Below n (K b q)) items) → AllByRecursion (K b q) items
    of_items [] h = tt
    of_items (item ∷ items) h = ((h (item.hops + 1)).0 (omega arith), of_items items (λ n. (h n).1))
