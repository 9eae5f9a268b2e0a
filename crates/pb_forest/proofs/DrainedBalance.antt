-- A record has drained exactly if as much was added as was removed, for `is_drained`.
use Rattle.std.proofs.Common.{◌≡◌, ℕ, suc, ◌+◌, ◌-◌, ◌*◌, ◌↔◌, List, [], ◌∷◌, map, slice_get, unwrap_or, refl, sym}
use Rattle.std.proofs.Common.{◌∙◌, ap, arith}
use Rattle.std.specs.List.{count_by, flat_map, sum_by}
use Rattle.std.specs.Option.{option_to_list}
use Rattle.pb_forest.proofs.Flows.{receives, queues, received-total, queued-total, step-queues, step-receives}
use Rattle.pb_forest.proofs.Flows.{bridges-total, lane-gain, lane-loss, port-gain, port-loss, meets-count}
use Rattle.pb_forest.proofs.Leftovers.{left_at, left_on, left_over, left_before, left_after, all_left, left-drained}
use Rattle.pb_forest.proofs.Leftovers.{drained-left}
use Rattle.pb_forest.proofs.Sums.{total, total-agree, total-append, total-map, total-plus, sum_by-total, total_at}
use Rattle.pb_forest.proofs.Sums.{total-at, total_at-same, total_at-plus, total_at-none, total-lists, total-pairs}
use Rattle.pb_forest.specs.Draining.{gains, losses, Balances}
use Rattle.pb_history.specs.Draining.{is_marked, is_some_mark, gain, loss}
use Rattle.pb_lan.proofs.QueueCounts.{balance}
use Rattle.pb_lan.specs.Counts.{IsDrained}
use Rattle.pb_lan.specs.LaneLists.{IsLawfulLane, taken, carried, put}
use Rattle.pb_lan.specs.Plans.{IsSound, used_ports}
use Rattle.pb_lan.specs.PortLists.{IsLawfulPort, polled, fed, delivered}
use Rattle.pb_lan.specs.Ports.{ends_of, all_ends}
use Rattle.pb_lan.specs.Records.{IsLawfulRecord, MeetsOver, MeetsCustomer, steps_of, received, transmitted, lane_ab}
use Rattle.pb_lan.specs.Records.{lane_ba}
use Rattle.pb_lan.specs.Rules.{Rules}
use Rattle.pb_lan.specs.declared.plan.Plan.{Plan}
use Rattle.pb_lan.specs.declared.plan.End.{End}
use Rattle.pb_lan.specs.declared.plan.LinkPlan.{LinkPlan}
use Rattle.pb_lan.specs.declared.plan.CustomerPlan.{CustomerPlan}
use Rattle.pb_lan.specs.declared.record.Record.{Record}
use Rattle.pb_lan.specs.declared.step.Mark.{Mark}
use Rattle.pb_lan.specs.declared.step.Step.{Step}

-- the customers' frames that a bridge sent at a port
abbrev sent_at : Record → (ℕ × ℕ) → ℕ
sent_at rec p = count_by is_marked (transmitted p.1 (steps_of rec.bridges p.0))

abbrev got_at : Record → (ℕ × ℕ) → ℕ
got_at rec p = count_by is_marked (received p.1 (steps_of rec.bridges p.0))

-- the frames sent over a lane are received, lost or remaining
lane-balance : (rec : Record) (lane : ℕ) (lost : List ℕ) (from to : End) → IsLawfulLane lost (steps_of rec.lanes lane)
    → MeetsOver rec lane from to
    → sent_at rec (from.bridge, from.port) ≡ got_at rec (to.bridge, to.port) + total loss (steps_of rec.lanes lane)
    + left_on rec lane from to
lane-balance rec lane lost from to lawful meets =
    let steps = steps_of rec.lanes lane in
    let a = meets-count (transmitted from.port (steps_of rec.bridges from.bridge)) (taken steps) meets.onto in
    let b = lane-loss steps lawful.kinds in
    let c = meets-count (carried steps) (put steps) (option_to_list lawful.held.0, lawful.held.1) in
    let d = meets-count (put steps) (received to.port (steps_of rec.bridges to.bridge)) meets.off in
    omega (arith, a, b, c, d)

-- the frames that a customer port polls are received or remaining
before-balance : (rec : Record) (n : ℕ) (c : CustomerPlan) → IsLawfulPort (suc n) (steps_of rec.customers (suc n))
    → MeetsCustomer rec (suc n) c
    → total gain (steps_of rec.customers (suc n)) ≡ got_at rec (c.bridge, c.port) + left_before rec n c
before-balance rec n c lawful meets =
    let steps = steps_of rec.customers (suc n) in
    let g = port-gain steps lawful.kinds in
    let a = meets-count (polled steps) (fed steps) (option_to_list lawful.held.0, lawful.held.1) in
    let b = meets-count (fed steps) (received c.port (steps_of rec.bridges c.bridge)) meets.into in
    omega (arith, g, a, b)

-- the frames sent to a customer port are delivered or remaining
after-balance : (rec : Record) (n : ℕ) (c : CustomerPlan) → IsLawfulPort (suc n) (steps_of rec.customers (suc n))
    → MeetsCustomer rec (suc n) c
    → sent_at rec (c.bridge, c.port) ≡ total loss (steps_of rec.customers (suc n)) + left_after rec n c
after-balance rec n c lawful meets =
    let steps = steps_of rec.customers (suc n) in
    let l = port-loss steps lawful.kinds in
    let a = meets-count (transmitted c.port (steps_of rec.bridges c.bridge)) (delivered steps) meets.out in
    omega (arith, l, a)

-- the sum over the ends of links, and over the used ports
ends-total : (f : End → ℕ) (links : List LinkPlan) → total f (flat_map ends_of links) ≡ total (λ l. f l.a + f l.b) links
ends-total f [] = refl
ends-total f (l ∷ links) = let r = ends-total f links in omega (arith, r)

used-split : (f : (ℕ × ℕ) → ℕ) (plan : Plan)
    → total f (used_ports plan) ≡ total_at (λ n (l : LinkPlan). f (l.a.bridge, l.a.port) + f (l.b.bridge, l.b.port))
    plan.links + total_at (λ n (c : CustomerPlan). f (c.bridge, c.port)) plan.customers
used-split f plan =
    let a = total-append f (map (λ (e : End). (e.bridge, e.port)) (all_ends plan))
    (map (λ (c : CustomerPlan). (c.bridge, c.port)) plan.customers) in
    let b = total-map f (λ (e : End). (e.bridge, e.port)) (all_ends plan)
    ∙ ends-total (λ e. f (e.bridge, e.port)) plan.links
    ∙ total-at (λ (l : LinkPlan). f (l.a.bridge, l.a.port) + f (l.b.bridge, l.b.port)) plan.links in
    let c = total-map f (λ (c : CustomerPlan). (c.bridge, c.port)) plan.customers
    ∙ total-at (λ (c : CustomerPlan). f (c.bridge, c.port)) plan.customers in
    omega (arith, a, b, c)

-- the sums of the program are sums from the right
sums-total : (f : Step → ℕ) (places : List (List Step))
    → sum_by (λ steps. sum_by f steps) places ≡ total (total f) places
sums-total f places = sum_by-total (λ steps. sum_by f steps) places ∙ total-agree (λ steps. sum_by f steps) (total f)
    (sum_by-total f) places

-- the lane from a to b of the link at an index
ab-at : (lanes : List (List Step)) (n : ℕ) → steps_of lanes (lane_ab (suc n)) ≡ unwrap_or (slice_get lanes (2 * n)) []
ab-at lanes n = let e : 2 * suc n - 1 ≡ suc (2 * n) = omega arith in ap (steps_of lanes) e

ba-at : (lanes : List (List Step)) (n : ℕ)
    → steps_of lanes (lane_ba (suc n)) ≡ unwrap_or (slice_get lanes (suc (2 * n))) []
ba-at lanes n = let e : 2 * suc n ≡ suc (suc (2 * n)) = omega arith in ap (steps_of lanes) e

-- the sum over both lanes of a link
abbrev of_lanes : (Step → ℕ) → Record → ℕ → LinkPlan → ℕ
of_lanes f rec n l = total f (unwrap_or (slice_get rec.lanes (2 * n)) []) + total f
    (unwrap_or (slice_get rec.lanes (suc (2 * n))) [])

-- the frames sent over all links are received, lost or remaining
links-balance : (rules : Rules) (plan : Plan) (rec : Record) → IsLawfulRecord rules plan rec
    → total_at (λ n (l : LinkPlan). sent_at rec (l.a.bridge, l.a.port) + sent_at rec (l.b.bridge, l.b.port)) plan.links
    ≡ total_at (λ n (l : LinkPlan). got_at rec (l.a.bridge, l.a.port) + got_at rec (l.b.bridge, l.b.port)) plan.links
    + total (total loss) rec.lanes + total_at (left_over rec) plan.links
links-balance rules plan rec lawful =
    let got : ℕ → LinkPlan → ℕ = λ n l. got_at rec (l.a.bridge, l.a.port) + got_at rec (l.b.bridge, l.b.port) in
    let e = total_at-same (λ n (l : LinkPlan). sent_at rec (l.a.bridge, l.a.port) + sent_at rec
    (l.b.bridge, l.b.port)) (λ n l. got n l + (of_lanes loss rec n l + left_over rec n l)) plan.links
    (λ n l at.
    let a = lane-balance rec (lane_ab (suc n)) l.lost_ab l.a l.b (lawful.links (suc n) l at).ab
    (lawful.links (suc n) l at).meets_ab in
    let b = lane-balance rec (lane_ba (suc n)) l.lost_ba l.b l.a (lawful.links (suc n) l at).ba
    (lawful.links (suc n) l at).meets_ba in
    let c = ap (total loss) (ab-at rec.lanes n) in
    let d = ap (total loss) (ba-at rec.lanes n) in
    omega (arith, a, b, c, d)) in
    let p = total_at-plus got (λ n l. of_lanes loss rec n l + left_over rec n l) plan.links in
    let q = total_at-plus (of_lanes loss rec) (left_over rec) plan.links in
    let r = total-pairs (total loss) rec.lanes plan.links lawful.lane_count in
    omega (arith, e, p, q, r)

-- lanes add no frames
lanes-gain : (rules : Rules) (plan : Plan) (rec : Record) → IsLawfulRecord rules plan rec
    → total (total gain) rec.lanes ≡ 0
lanes-gain rules plan rec lawful =
    total-pairs (total gain) rec.lanes plan.links lawful.lane_count
    ∙ total_at-same (of_lanes gain rec) (λ n l. 0) plan.links
    (λ n l at.
    let a = lane-gain (steps_of rec.lanes (lane_ab (suc n))) (lawful.links (suc n) l at).ab.kinds in
    let b = lane-gain (steps_of rec.lanes (lane_ba (suc n))) (lawful.links (suc n) l at).ba.kinds in
    let c = ap (total gain) (ab-at rec.lanes n) in
    let d = ap (total gain) (ba-at rec.lanes n) in
    omega (arith, a, b, c, d))
    ∙ total_at-none plan.links

-- the frames that all customer ports poll are received or remaining
before-total : (rules : Rules) (plan : Plan) (rec : Record) → IsLawfulRecord rules plan rec
    → total (total gain) rec.customers ≡ total_at (λ n (c : CustomerPlan). got_at rec (c.bridge, c.port))
    plan.customers + total_at (left_before rec) plan.customers
before-total rules plan rec lawful =
    let e = total-lists (total gain) rec.customers plan.customers lawful.customer_count in
    let s = total_at-same (λ n (c : CustomerPlan). total gain (unwrap_or (slice_get rec.customers n) []))
    (λ n c. got_at rec (c.bridge, c.port) + left_before rec n c) plan.customers
    (λ n c at. before-balance rec n c (lawful.ports (suc n)) (lawful.customers (suc n) c at)) in
    let p = total_at-plus (λ n (c : CustomerPlan). got_at rec (c.bridge, c.port)) (left_before rec) plan.customers in
    omega (arith, e, s, p)

-- the frames sent to all customer ports are delivered or remaining
after-total : (rules : Rules) (plan : Plan) (rec : Record) → IsLawfulRecord rules plan rec
    → total_at (λ n (c : CustomerPlan). sent_at rec (c.bridge, c.port)) plan.customers ≡ total (total loss)
    rec.customers + total_at (left_after rec) plan.customers
after-total rules plan rec lawful =
    let e = total-lists (total loss) rec.customers plan.customers lawful.customer_count in
    let s = total_at-same (λ n (c : CustomerPlan). sent_at rec (c.bridge, c.port))
    (λ n c. total loss (unwrap_or (slice_get rec.customers n) []) + left_after rec n c) plan.customers
    (λ n c at. after-balance rec n c (lawful.ports (suc n)) (lawful.customers (suc n) c at)) in
    let p = total_at-plus (λ n (c : CustomerPlan). total loss (unwrap_or (slice_get rec.customers n) []))
    (left_after rec) plan.customers in
    omega (arith, e, s, p)

-- the frames that bridges add were sent or wait
bridges-gain : (rules : Rules) (plan : Plan) → IsSound plan → (rec : Record) → IsLawfulRecord rules plan rec
    → total (total gain) rec.bridges ≡ total (sent_at rec) (used_ports plan) + total (left_at plan rec)
    (used_ports plan)
bridges-gain rules plan sound rec lawful =
    sym (bridges-total rules plan (queues plan) gain (step-queues rules plan sound) rec.bridges lawful.bridges)
    ∙ total-agree (λ p. total (queues plan p.0 p.1) (steps_of rec.bridges p.0))
    (λ p. sent_at rec p + left_at plan rec p)
    (λ p. sym (queued-total plan p.0 p.1 (steps_of rec.bridges p.0)) ∙ balance is_marked
    (λ item e. ap (λ m. is_some_mark m) e) rules plan p.0 p.1
    (steps_of rec.bridges p.0) (lawful.bridges p.0)) (used_ports plan)
    ∙ total-plus (sent_at rec) (left_at plan rec) (used_ports plan)

-- the frames that bridges remove were received
bridges-loss : (rules : Rules) (plan : Plan) → IsSound plan → (rec : Record) → IsLawfulRecord rules plan rec
    → total (total loss) rec.bridges ≡ total (got_at rec) (used_ports plan)
bridges-loss rules plan sound rec lawful =
    sym (bridges-total rules plan receives loss (step-receives rules plan sound) rec.bridges lawful.bridges)
    ∙ total-agree (λ p. total (receives p.0 p.1) (steps_of rec.bridges p.0)) (got_at rec)
    (λ p. sym (received-total p.0 p.1 (steps_of rec.bridges p.0))) (used_ports plan)

-- the frames that are added are removed or remaining
all-balance : (rules : Rules) (plan : Plan) → IsSound plan → (rec : Record) → IsLawfulRecord rules plan rec
    → gains rec.bridges + gains rec.lanes + gains rec.customers ≡ losses rec.bridges + losses rec.lanes + losses
    rec.customers + all_left plan rec
all-balance rules plan sound rec lawful =
    let gb = sums-total gain rec.bridges in
    let gl = sums-total gain rec.lanes in
    let gc = sums-total gain rec.customers in
    let lb = sums-total loss rec.bridges in
    let ll = sums-total loss rec.lanes in
    let lc = sums-total loss rec.customers in
    let a = bridges-gain rules plan sound rec lawful in
    let b = bridges-loss rules plan sound rec lawful in
    let c = used-split (sent_at rec) plan in
    let d = used-split (got_at rec) plan in
    let e = links-balance rules plan rec lawful in
    let f = lanes-gain rules plan rec lawful in
    let g = before-total rules plan rec lawful in
    let h = after-total rules plan rec lawful in
    omega (arith, gb, gl, gc, lb, ll, lc, a, b, c, d, e, f, g, h)

-- the balance decides whether a record has drained
pub tells-drained : (rules : Rules) (plan : Plan) → IsSound plan → (rec : Record) → IsLawfulRecord rules plan rec
    → Balances rec ↔ ((mark : Mark) → IsDrained plan rec mark)
tells-drained rules plan sound rec lawful =
    let all = all-balance rules plan sound rec lawful in (
      (λ e. left-drained rules plan rec lawful (omega (arith, all, e))),
      (λ d. let z = drained-left plan rec d in omega (arith, all, z)),
    )
