-- The customers' frames that bridges, lanes and customer ports add and remove.
use Rattle.std.proofs.Common.{◌≡◌, ℕ, suc, ◌+◌, Bool, true, false, cond, not, ◌&&◌, ◌==◌, List, [], ◌∷◌, ◌++◌, map}
use Rattle.std.proofs.Common.{drop, length, unwrap_or, refl, sym, ◌∙◌, ap, subst, arith}
use Rattle.std.proofs.lemmas.Bool.{eqb-true}
use Rattle.std.proofs.Math.Seq.{drop-append_seam}
use Rattle.std.specs.List.{AllByRecursion, count_by, filter, list_any}
use Rattle.pb_forest.proofs.Sums.{given, total, total-agree, total-none, total-plus, total-same, sum_by-total}
use Rattle.pb_forest.proofs.Sums.{total-numbered, total_at-swap, total_at-same, total-at, total_at}
use Rattle.pb_forest.proofs.UsedOnce.{used-once, used-total, used-at}
use Rattle.pb_history.specs.Draining.{is_marked, is_some_mark, gets_copy, gain, loss}
use Rattle.pb_frame.proofs.Counting.{count_by-append, count_by-cons, count-none}
use Rattle.pb_frame.proofs.Lists.{and-left, and-right, All-imply}
use Rattle.pb_frame.specs.Lists.{IsBeginning}
use Rattle.pb_lan.proofs.Carriage.{step-own, own-All}
use Rattle.pb_lan.proofs.QueueCounts.{count_waiting, count_queued}
use Rattle.pb_lan.proofs.Rulings.{chosen-there, IsChoice}
use Rattle.pb_lan.specs.BridgeLists.{Fits, Follows, LawfulAfter, IsLawfulBridge, ruling_by}
use Rattle.pb_lan.specs.Counts.{pending}
use Rattle.pb_lan.specs.LaneLists.{Taken, IsLaneStep, taken, all_taken, carried}
use Rattle.pb_lan.specs.Plans.{IsSound, is_same_port, used_ports}
use Rattle.pb_lan.specs.PortLists.{IsPortStep, polled, delivered}
use Rattle.pb_lan.specs.Ports.{port_at, is_member, local_ports}
use Rattle.pb_lan.specs.Ports.Port.{Unused}
use Rattle.pb_lan.specs.Queues.{Waiting, queued_by, relayed_by, own_by, copies, copy_of, class_of, priority_in}
use Rattle.pb_lan.specs.Queues.{is_refused}
use Rattle.pb_lan.specs.Records.{received, received_by, steps_of}
use Rattle.pb_lan.specs.Rules.{Rules}
use Rattle.pb_lan.specs.Shapes.{state_after}
use Rattle.pb_lan.specs.declared.plan.Plan.{Plan}
use Rattle.pb_lan.specs.declared.step.Item.{Item}
use Rattle.pb_lan.specs.declared.step.Outcome.{Outcome}
use Rattle.pb_lan.specs.declared.step.Outcome.TheVariants.{Relayed, Filtered, Heard}
use Rattle.pb_lan.specs.declared.step.Step.{Step}
use Rattle.pb_lan.specs.declared.step.Step.TheVariants.{Poll, Feed, Deliver, Receive, Transmit, Tick, Admin, Take}
use Rattle.pb_lan.specs.declared.step.Step.TheVariants.{Put}

-- the marked items that a step receives at a port
abbrev pub receives : ℕ → ℕ → Step → ℕ
receives b r step = count_by is_marked (received_by r step)

abbrev pub queues : Plan → ℕ → ℕ → Step → ℕ
queues plan b r step = count_waiting is_marked (queued_by plan b r step)

-- the count over all steps is the sum over the steps
pub received-total : (b r : ℕ) (steps : List Step) → count_by is_marked (received r steps) ≡ total (receives b r) steps
received-total b r [] = refl
received-total b r (s ∷ ss) = let a = count_by-append is_marked (received_by r s) (received r ss) in let x =
    received-total b r ss in omega (arith, a, x)

pub queued-total : (plan : Plan) (b r : ℕ) (steps : List Step)
    → count_queued is_marked plan b r steps ≡ total (queues plan b r) steps
queued-total plan b r [] = refl
queued-total plan b r (s ∷ ss) = ap (λ n. queues plan b r s + n) (queued-total plan b r ss)

-- a conjunction with a constant, as a number
and-true : (b : Bool) → given (b && true) 1 ≡ given b 1
and-true true = refl
and-true false = refl

and-false : (b : Bool) → given (b && false) 1 ≡ 0
and-false true = refl
and-false false = refl

-- the ports at which a step queues marked copies
abbrev gives : Step → ℕ → Bool
gives (Receive q item learnt outcome moved) r = is_marked item && gets_copy outcome r
gives _ r = false

-- the marked copies of a received item at a port
copies-one : (plan : Plan) (b r q : ℕ) (item : Item) (outcome : Outcome)
    → count_waiting is_marked (copies plan b q item outcome r) ≡ cond (is_marked item && gets_copy outcome r) 1 0
copies-one plan b r q item (Relayed chosen refused) = by (list_any (λ p. p == r) chosen && not (is_refused refused r))
  where
    w : Waiting
    w = record {
      class = class_of (priority_in (port_at plan b q) item.wire);
      item = copy_of plan (port_at plan b q) (port_at plan b r) item;
    }

    by : (x : Bool) → count_waiting is_marked (cond x (w ∷ []) []) ≡ cond (is_marked item && x) 1 0
    by true = let c = count_by-cons (λ u. is_marked u.item) w [] in let a = and-true (is_marked item) in omega
        (arith, c, a)
    by false = sym (and-false (is_marked item))
copies-one plan b r q item _ = sym (and-false (is_marked item))

relayed-is : (plan : Plan) (b r : ℕ) (step : Step)
    → count_waiting is_marked (relayed_by plan b r step) ≡ cond (gives step r) 1 0
relayed-is plan b r (Receive q item learnt outcome moved) = copies-one plan b r q item outcome
relayed-is plan b r _ = refl

-- the marked items that a step queues are copies, as a bridge's own items have no mark
queues-is : (rules : Rules) (plan : Plan) (b r : ℕ) (earlier : List Step) (step : Step)
    → Fits rules plan b earlier step → queues plan b r step ≡ cond (gives step r) 1 0
queues-is rules plan b r earlier step fits =
    let own = count-none (λ w. is_marked w.item) (own_by plan r step)
    (own-All (λ w. is_marked w.item ≡ false) plan b r step (λ item o. ap is_some_mark o.0)
    (step-own rules plan b earlier step fits)) in
    let a = count_by-append (λ w. is_marked w.item) (relayed_by plan b r step) (own_by plan r step) in
    let c = relayed-is plan b r step in
    omega (arith, own, a, c)

-- a port that is not used is never chosen
no-choice : (plan : Plan) (b : ℕ) (steps : List Step) (q v r : ℕ) → IsChoice plan b steps q v r
    → port_at plan b r ≡ Unused → ⊥
no-choice plan b steps q v r choice u = let m : is_member plan v Unused ≡ true =
    subst (λ port. is_member plan v port ≡ true) u choice.member in cc

-- copies go to used ports only
gives-used : (rules : Rules) (plan : Plan) (b r : ℕ) (earlier : List Step) (step : Step)
    → Fits rules plan b earlier step → gives step r ≡ true → port_at plan b r ≡ Unused → ⊥
gives-used rules plan b r earlier (Receive q item learnt (Relayed chosen refused) moved) fits h u =
    no-choice plan b _ q _ r (chosen-there rules plan b r earlier q item learnt chosen refused moved fits
    (and-left _ _ (and-right (is_marked item) _ h))) u
gives-used rules plan b r earlier (Receive q item learnt (Filtered reason) moved) fits h u = let f =
    and-right (is_marked item) _ h in cc
gives-used rules plan b r earlier (Receive q item learnt Heard moved) fits h u = let f =
    and-right (is_marked item) _ h in cc
gives-used rules plan b r earlier _ fits h u = cc

-- the copies at all local ports are what the step adds
gives-gain : (rules : Rules) (plan : Plan) (b : ℕ) (earlier : List Step) (step : Step)
    → Fits rules plan b earlier step → total (λ r. cond (gives step r) 1 0) local_ports ≡ gain step
gives-gain rules plan b earlier (Receive q item learnt outcome moved) fits =
    elim (is_marked item) as (λ m. total (λ r. cond (m && gets_copy outcome r) 1 0) local_ports ≡ cond m
    (count_by (gets_copy outcome) local_ports) 0)
    [ true ↦ sym (sum_by-total (λ r. cond (gets_copy outcome r) 1 0) local_ports) | false ↦ total-none local_ports ]
gives-gain rules plan b earlier (Transmit q item) fits = total-none local_ports
gives-gain rules plan b earlier (Tick now moved) fits = total-none local_ports
gives-gain rules plan b earlier (Admin q up moved) fits = total-none local_ports
gives-gain rules plan b earlier _ fits = absurd fits

-- a value at a bridge's number is a value at an equal number
at-same : (b k : ℕ) (f : ℕ → ℕ) → cond (b == k) (f k) 0 ≡ cond (b == k) (f b) 0
at-same b k f = elim (b == k) as (λ t. (b == k) ≡ t → cond t (f k) 0 ≡ cond t (f b) 0)
    [ true ↦ λ e. ap f (sym (eqb-true b k e)) | false ↦ λ e. refl ] refl

-- over the used ports of its bridge, the items that a step queues are what it adds
pub step-queues : (rules : Rules) (plan : Plan) → IsSound plan → (b : ℕ) (earlier : List Step) (step : Step)
    → Fits rules plan b earlier step
    → total (λ p. cond (b == p.0) (queues plan p.0 p.1 step) 0) (used_ports plan) ≡ gain step
step-queues rules plan sound b earlier step fits =
    total-agree (λ p. cond (b == p.0) (queues plan p.0 p.1 step) 0) (λ p. cond (b == p.0) (cond (gives step p.1) 1 0) 0)
    (λ p. at-same b p.0 (λ k. queues plan k p.1 step) ∙ ap (λ n. cond (b == p.0) n 0)
    (queues-is rules plan b p.1 earlier step fits)) (used_ports plan)
    ∙ used-total plan sound b (gives step) (λ q h. gives-used rules plan b q earlier step fits h)
    ∙ gives-gain rules plan b earlier step fits

-- the count of one item or none
one-item : (t : Bool) (item : Item) → count_by is_marked (cond t (item ∷ []) []) ≡ cond t (cond (is_marked item) 1 0) 0
one-item true item = let c = count_by-cons is_marked item [] in omega (arith, c)
one-item false item = refl

-- a sum of zeros
no-part : (ps : List (ℕ × ℕ)) (b : ℕ) → total (λ p. cond (b == p.0) 0 0) ps ≡ 0
no-part ps b = total-agree (λ p. cond (b == p.0) 0 0) (λ p. 0) (λ p. none (b == p.0)) ps ∙ total-none ps
  where
    none : (t : Bool) → given t 0 ≡ 0
    none true = refl
    none false = refl

-- over the used ports of its bridge, the items that a step receives are what it removes
pub step-receives : (rules : Rules) (plan : Plan) → IsSound plan → (b : ℕ) (earlier : List Step) (step : Step)
    → Fits rules plan b earlier step
    → total (λ p. cond (b == p.0) (receives p.0 p.1 step) 0) (used_ports plan) ≡ loss step
step-receives rules plan sound b earlier (Receive q item learnt outcome moved) fits =
    total-agree (λ p. cond (b == p.0) (receives p.0 p.1 (Receive q item learnt outcome moved)) 0)
    (λ p. cond (b == p.0) (cond (q == p.1) (cond (is_marked item) 1 0) 0) 0)
    (λ p. ap (λ n. cond (b == p.0) n 0) (one-item (q == p.1) item)) (used_ports plan)
    ∙ used-once plan sound b q (cond (is_marked item) 1 0)
    (λ u. subst (λ port. Follows rules plan b earlier q item learnt outcome moved
    (ruling_by rules plan port (state_after plan b earlier q) item)) u fits)
step-receives rules plan sound b earlier (Transmit q item) fits = no-part (used_ports plan) b
step-receives rules plan sound b earlier (Tick now moved) fits = no-part (used_ports plan) b
step-receives rules plan sound b earlier (Admin q up moved) fits = no-part (used_ports plan) b
step-receives rules plan sound b earlier _ fits = absurd fits

-- for each step of a bridge, the sum of the parts over the used ports is the whole
abbrev pub EachStep : Rules → Plan → (ℕ → ℕ → Step → ℕ) → (Step → ℕ) → Type 0
EachStep rules plan part whole =
    (b : ℕ) (earlier : List Step) (step : Step) → Fits rules plan b earlier step
    → total (λ p. cond (b == p.0) (part p.0 p.1 step) 0) (used_ports plan) ≡ whole step

-- the same for all steps of a bridge
steps-total : (rules : Rules) (plan : Plan) (part : ℕ → ℕ → Step → ℕ) (whole : Step → ℕ)
    → EachStep rules plan part whole
    → (b : ℕ) (earlier steps : List Step) → LawfulAfter rules plan b earlier steps
    → total (λ p. cond (b == p.0) (total (part p.0 p.1) steps) 0) (used_ports plan) ≡ total whole steps
steps-total rules plan part whole each b earlier [] lawful = no-part (used_ports plan) b
steps-total rules plan part whole each b earlier (step ∷ steps) lawful =
    let now = each b earlier step lawful.0 in
    let rest = steps-total rules plan part whole each b (earlier ++ step ∷ []) steps lawful.1 in
    let split = total-agree (λ p. cond (b == p.0) (part p.0 p.1 step + total (part p.0 p.1) steps) 0)
    (λ p. cond (b == p.0) (part p.0 p.1 step) 0 + cond (b == p.0) (total (part p.0 p.1) steps) 0)
    (λ p. both (b == p.0) (part p.0 p.1 step) (total (part p.0 p.1) steps)) (used_ports plan) in
    let plus = total-plus (λ p. cond (b == p.0) (part p.0 p.1 step) 0)
    (λ p. cond (b == p.0) (total (part p.0 p.1) steps) 0) (used_ports plan) in
    omega (arith, now, rest, split, plus)
  where
    both : (t : Bool) (m n : ℕ) → cond t (m + n) 0 ≡ cond t m 0 + cond t n 0
    both true m n = refl
    both false m n = refl

-- the same for all bridges
pub bridges-total : (rules : Rules) (plan : Plan) (part : ℕ → ℕ → Step → ℕ) (whole : Step → ℕ)
    → EachStep rules plan part whole
    → (lists : List (List Step)) → ((number : ℕ) → IsLawfulBridge rules plan number (steps_of lists number))
    → total (λ p. total (part p.0 p.1) (steps_of lists p.0)) (used_ports plan) ≡ total (total whole) lists
bridges-total rules plan part whole each lists lawful =
    total-agree (λ p. total (part p.0 p.1) (steps_of lists p.0))
    (λ p. total_at (λ n steps. cond (suc n == p.0) (total (part p.0 p.1) steps) 0) lists)
    (λ p. total-numbered (total (part p.0 p.1)) [] refl p.0 lists) (used_ports plan)
    ∙ total_at-swap (λ p n steps. cond (suc n == p.0) (total (part p.0 p.1) steps) 0) (used_ports plan) lists
    ∙ total_at-same (λ n steps. total (λ p. cond (suc n == p.0) (total (part p.0 p.1) steps) 0) (used_ports plan))
    (λ n. total whole) lists
    (λ n steps at.
    let e : steps_of lists (suc n) ≡ steps = ap (λ o. unwrap_or o []) at in
    steps-total rules plan part whole each (suc n) [] steps
    (subst (IsLawfulBridge rules plan (suc n)) e (lawful (suc n))))
    ∙ sym (total-at (total whole) lists)

-- no item is queued at a port that is not used
pub none-queued : (rules : Rules) (plan : Plan) (b r : ℕ) (earlier steps : List Step)
    → LawfulAfter rules plan b earlier steps
    → list_any (is_same_port (b, r)) (used_ports plan) ≡ false → total (queues plan b r) steps ≡ 0
none-queued rules plan b r earlier [] lawful none = refl
none-queued rules plan b r earlier (step ∷ steps) lawful none =
    let q = queues-is rules plan b r earlier step lawful.0 in
    let z : given (gives step r) 1 ≡ 0 =
    elim (gives step r) as (λ g. gives step r ≡ g → given g 1 ≡ 0) [
      | true ↦ λ e. let u = used-at plan b r (gives-used rules plan b r earlier step lawful.0 e) in cc
      | false ↦ λ e.
          refl
    ] refl in
    let rest = none-queued rules plan b r (earlier ++ step ∷ []) steps lawful.1 none in
    omega (arith, q, z, rest)

-- a lane adds no frames
pub lane-gain : (steps : List Step) → AllByRecursion IsLaneStep steps → total gain steps ≡ 0
lane-gain steps kinds = total-same gain (λ s. 0) steps (All-imply IsLaneStep (λ s. gain s ≡ 0) one steps kinds)
    ∙ total-none steps
  where
    one : (s : Step) → IsLaneStep s → gain s ≡ 0
    one (Take number item lost) k = refl
    one (Put item) k = refl
    one _ k = absurd k

-- a lane removes the frames that it loses
pub lane-loss : (steps : List Step) → AllByRecursion IsLaneStep steps
    → count_by is_marked (taken steps) ≡ count_by is_marked (carried steps) + total loss steps
lane-loss [] k = refl
lane-loss (Take number item lost ∷ steps) k =
    let r = lane-loss steps k.1 in
    let c = count_by-cons is_marked item (taken steps) in
    let f = filter (λ (t : Taken). not t.lost) (all_taken steps) in
    elim lost
    as (λ x. count_by is_marked (item ∷ taken steps) ≡ count_by is_marked
    (map (λ (t : Taken). t.item) (cond (not x) (record { number = number; item = item; lost = lost } ∷ f) f))
    + (cond (is_marked item && x) 1 0 + total loss steps)) [
      | true ↦ let a = and-true (is_marked item) in omega (arith, r, c, a)
      | false ↦ let a = and-false (is_marked item) in let d = count_by-cons is_marked item (carried steps) in omega
          (arith, r, c, a, d)
    ]
lane-loss (Put item ∷ steps) k = let r = lane-loss steps k.1 in omega (arith, r)
lane-loss (_ ∷ steps) k = absurd k.0

-- a customer port adds the frames that it polls
pub port-gain : (steps : List Step) → AllByRecursion IsPortStep steps
    → total gain steps ≡ count_by is_marked (polled steps)
port-gain [] k = refl
port-gain (Poll item ∷ steps) k = let r = port-gain steps k.1 in let c = count_by-cons is_marked item (polled steps)
    in omega (arith, r, c)
port-gain (Feed item ∷ steps) k = let r = port-gain steps k.1 in omega (arith, r)
port-gain (Deliver item gone ∷ steps) k = let r = port-gain steps k.1 in omega (arith, r)
port-gain (_ ∷ steps) k = absurd k.0

-- a customer port removes the frames that are delivered to it
pub port-loss : (steps : List Step) → AllByRecursion IsPortStep steps
    → total loss steps ≡ count_by is_marked (delivered steps)
port-loss [] k = refl
port-loss (Poll item ∷ steps) k = let r = port-loss steps k.1 in omega (arith, r)
port-loss (Feed item ∷ steps) k = let r = port-loss steps k.1 in omega (arith, r)
port-loss (Deliver item gone ∷ steps) k = let r = port-loss steps k.1 in let c = count_by-cons is_marked item
    (delivered steps) in omega (arith, r, c)
port-loss (_ ∷ steps) k = absurd k.0

-- the frames that were sent are received or pending
pub meets-count : (sent got : List Item) → IsBeginning got sent
    → count_by is_marked sent ≡ count_by is_marked got + count_by is_marked (pending sent got)
meets-count sent got (rest, e) =
    let left_over : pending sent got ≡ rest = ap (drop (length got)) (sym e) ∙ drop-append_seam got rest in
    let a = count_by-append is_marked got rest in
    let one : count_by is_marked (got ++ rest) ≡ count_by is_marked sent = ap (count_by is_marked) e in
    let two : count_by is_marked (pending sent got) ≡ count_by is_marked rest = ap (count_by is_marked) left_over in
    omega (arith, a, one, two)
