-- No marked items remain in a record exactly if each frame has drained.
use Rattle.std.proofs.Common.{◌≡◌, ℕ, zero, suc, ◌+◌, Some, None, Option, true, false, ◌&&◌, ◌==◌, List, [], ◌∷◌, map}
use Rattle.std.proofs.Common.{slice_get, refl, sym, ◌∙◌, ap, subst, arith}
use Rattle.std.proofs.lemmas.Bool.{eqb-true}
use Rattle.std.specs.Cmp.Derive.{both_true}
use Rattle.std.specs.List.{AllByRecursion, count_by, list_any}
use Rattle.pb_forest.proofs.Flows.{queued-total, none-queued}
use Rattle.pb_forest.proofs.Sums.{given, total, total-agree, total-zero, total-none, sum_by-total, total_at}
use Rattle.pb_forest.proofs.Sums.{total_at-same, total_at-none, total_at-zero}
use Rattle.pb_history.specs.Draining.{is_marked, is_some_mark}
use Rattle.pb_frame.proofs.Counting.{count-none, count_by-map}
use Rattle.pb_frame.proofs.Lists.{and-left, and-right, All-imply, list_any-found, eqb-refl}
use Rattle.pb_lan.proofs.QueueCounts.{count_waiting, balance}
use Rattle.pb_lan.specs.Counts.{has_mark, is_of, pending, HasNone, IsDrained, IsLaneDrained, IsPortDrained}
use Rattle.pb_lan.specs.LaneLists.{taken, carried, put}
use Rattle.pb_lan.specs.Numbering.{numbered}
use Rattle.pb_lan.specs.Plans.{is_same_port, used_ports}
use Rattle.pb_lan.specs.PortLists.{polled, fed, delivered}
use Rattle.pb_lan.specs.Queues.{Waiting, waiting}
use Rattle.pb_lan.specs.Records.{IsLawfulRecord, steps_of, received, transmitted, lane_ab, lane_ba}
use Rattle.pb_lan.specs.Rules.{Rules}
use Rattle.pb_lan.specs.declared.plan.Plan.{Plan}
use Rattle.pb_lan.specs.declared.plan.End.{End}
use Rattle.pb_lan.specs.declared.plan.LinkPlan.{LinkPlan}
use Rattle.pb_lan.specs.declared.plan.CustomerPlan.{CustomerPlan}
use Rattle.pb_lan.specs.declared.record.Record.{Record}
use Rattle.pb_lan.specs.declared.step.Item.{Item}
use Rattle.pb_lan.specs.declared.step.Mark.{Mark}

-- the marked items that were sent and not received
abbrev pub left_between : List Item → List Item → ℕ
left_between sent got = count_by is_marked (pending sent got)

-- the marked items that wait at a port
abbrev pub left_at : Plan → Record → (ℕ × ℕ) → ℕ
left_at plan rec p = count_waiting is_marked (waiting plan p.0 p.1 (steps_of rec.bridges p.0))

-- the marked items on their way over a lane
abbrev pub left_on : Record → ℕ → End → End → ℕ
left_on rec lane from to =
    left_between (transmitted from.port (steps_of rec.bridges from.bridge)) (taken (steps_of rec.lanes lane))
    + left_between (carried (steps_of rec.lanes lane)) (put (steps_of rec.lanes lane))
    + left_between (put (steps_of rec.lanes lane)) (received to.port (steps_of rec.bridges to.bridge))

-- the marked items on their way over both lanes of the link at an index
abbrev pub left_over : Record → ℕ → LinkPlan → ℕ
left_over rec n l = left_on rec (lane_ab (suc n)) l.a l.b + left_on rec (lane_ba (suc n)) l.b l.a

-- the marked items on their way from a customer to its bridge
abbrev pub left_before : Record → ℕ → CustomerPlan → ℕ
left_before rec n c =
    left_between (polled (steps_of rec.customers (suc n))) (fed (steps_of rec.customers (suc n)))
    + left_between (fed (steps_of rec.customers (suc n))) (received c.port (steps_of rec.bridges c.bridge))

abbrev pub left_after : Record → ℕ → CustomerPlan → ℕ
left_after rec n c = left_between (transmitted c.port (steps_of rec.bridges c.bridge))
    (delivered (steps_of rec.customers (suc n)))

-- all marked items that remain
abbrev pub all_left : Plan → Record → ℕ
all_left plan rec =
    total (left_at plan rec) (used_ports plan) + total_at (left_over rec) plan.links
    + total_at (left_before rec) plan.customers + total_at (left_after rec) plan.customers

-- if no item is marked, none has this mark
none-of : (mark : Mark) (items : List Item) → count_by is_marked items ≡ 0 → HasNone mark items
none-of mark items h =
    All-imply (λ item. given (is_marked item) 1 ≡ 0) (λ item. is_of mark item ≡ false) (λ item z. one item.mark z) items
    (total-zero (λ item. given (is_marked item) 1) items (sym (sum_by-total (λ item. given (is_marked item) 1) items)
    ∙ h))
  where
    one : (o : Option Mark) → given (is_some_mark o) 1 ≡ 0 → has_mark mark o ≡ false
    one None z = refl
    one (Some m) z = absurd (omega (arith, z))

-- if no item has any mark, none is marked
none-marked : (items : List Item) → ((mark : Mark) → HasNone mark items) → count_by is_marked items ≡ 0
none-marked items h = count-none is_marked items (each items h)
  where
    one : (o : Option Mark) → ((mark : Mark) → has_mark mark o ≡ false) → is_some_mark o ≡ false
    one None h = refl
    one (Some m) h = let f = h m in let t : (m.port == m.port && m.number == m.number) ≡ true =
        both_true (eqb-refl m.port) (eqb-refl m.number) in cc

    each : (items : List Item) → ((mark : Mark) → HasNone mark items)
        → AllByRecursion (λ item. is_marked item ≡ false) items
    each [] h = tt
    each (item ∷ items) h = (one item.mark (λ m. (h m).0), each items (λ m. (h m).1))

-- if nothing waits at the used ports, nothing waits at any port
none-waits : (rules : Rules) (plan : Plan) (rec : Record) → IsLawfulRecord rules plan rec
    → total (left_at plan rec) (used_ports plan) ≡ 0 → (b r : ℕ) → left_at plan rec (b, r) ≡ 0
none-waits rules plan rec lawful h b r =
    elim (list_any (is_same_port (b, r)) (used_ports plan)) as
    (λ t. list_any (is_same_port (b, r)) (used_ports plan) ≡ t → left_at plan rec (b, r) ≡ 0) [
      | true ↦ λ e.
          let found = list_any-found (λ p. left_at plan rec p ≡ 0) (is_same_port (b, r)) (used_ports plan) e
          (total-zero (left_at plan rec) (used_ports plan) h) in
          let i : b ≡ found.0.0 = eqb-true b found.0.0 (and-left _ _ found.2) in
          let j : r ≡ found.0.1 = eqb-true r found.0.1 (and-right (b == found.0.0) _ found.2) in
          subst (λ x. left_at plan rec (x, r) ≡ 0) (sym i)
          (subst (λ y. left_at plan rec (found.0.0, y) ≡ 0) (sym j) found.1)
      | false ↦ λ e.
          let n = none-queued rules plan b r [] (steps_of rec.bridges b) (lawful.bridges b) e in
          let q = queued-total plan b r (steps_of rec.bridges b) in
          let w = balance is_marked (λ item e. ap (λ m. is_some_mark m) e) rules plan b r (steps_of rec.bridges b)
          (lawful.bridges b) in
          omega (arith, n, q, w)
    ] refl

-- if nothing remains on a lane, it has drained
lane-drained : (rec : Record) (mark : Mark) (lane : ℕ) (from to : End) → left_on rec lane from to ≡ 0
    → IsLaneDrained rec mark lane from to
lane-drained rec mark lane from to h = record {
  onto = none-of mark _ (omega (arith, h));
  hand = none-of mark _ (omega (arith, h));
  off = none-of mark _ (omega (arith, h));
}

-- if nothing remains at a customer port, it has drained
port-drained : (rec : Record) (mark : Mark) (n : ℕ) (c : CustomerPlan) → left_before rec n c ≡ 0
    → left_after rec n c ≡ 0 → IsPortDrained rec mark (suc n) c
port-drained rec mark n c h g = record {
  hand = none-of mark _ (omega (arith, h));
  into = none-of mark _ (omega (arith, h));
  out = none-of mark _ g;
}

-- if nothing remains, each frame has drained
pub left-drained : (rules : Rules) (plan : Plan) (rec : Record) → IsLawfulRecord rules plan rec
    → all_left plan rec ≡ 0 → (mark : Mark) → IsDrained plan rec mark
left-drained rules plan rec lawful h mark = record {
  queues = λ b r.
      none-of mark (map (λ w. w.item) (waiting plan b r (steps_of rec.bridges b)))
      (count_by-map is_marked (λ (w : Waiting). w.item) (waiting plan b r (steps_of rec.bridges b)) ∙ none-waits rules
      plan rec lawful (omega (arith, h)) b r);
  lanes_ab = on_ab;
  lanes_ba = on_ba;
  ports = at_port;
}
  where
    on_links : total_at (left_over rec) plan.links ≡ 0
    on_links = omega (arith, h)

    before : total_at (left_before rec) plan.customers ≡ 0
    before = omega (arith, h)

    after : total_at (left_after rec) plan.customers ≡ 0
    after = omega (arith, h)

    on_ab : (number : ℕ) (link : LinkPlan) → numbered plan.links number ≡ Some link
        → IsLaneDrained rec mark (lane_ab number) link.a link.b
    on_ab zero link at = cc
    on_ab (suc n) link at = let z = total_at-zero (left_over rec) plan.links on_links n link at in lane-drained rec
        mark (lane_ab (suc n)) link.a link.b (omega (arith, z))

    on_ba : (number : ℕ) (link : LinkPlan) → numbered plan.links number ≡ Some link
        → IsLaneDrained rec mark (lane_ba number) link.b link.a
    on_ba zero link at = cc
    on_ba (suc n) link at = let z = total_at-zero (left_over rec) plan.links on_links n link at in lane-drained rec
        mark (lane_ba (suc n)) link.b link.a (omega (arith, z))

    at_port : (number : ℕ) (c : CustomerPlan) → numbered plan.customers number ≡ Some c
        → IsPortDrained rec mark number c
    at_port zero c at = cc
    at_port (suc n) c at = port-drained rec mark n c (total_at-zero (left_before rec) plan.customers before n c at)
        (total_at-zero (left_after rec) plan.customers after n c at)

-- if each frame has drained on a lane, nothing remains there
lane-empty : (rec : Record) (lane : ℕ) (from to : End) → ((mark : Mark) → IsLaneDrained rec mark lane from to)
    → left_on rec lane from to ≡ 0
lane-empty rec lane from to d =
    let a = none-marked (pending (transmitted from.port (steps_of rec.bridges from.bridge))
    (taken (steps_of rec.lanes lane))) (λ m. (d m).onto) in
    let b = none-marked (pending (carried (steps_of rec.lanes lane)) (put (steps_of rec.lanes lane)))
    (λ m. (d m).hand) in
    let c = none-marked (pending (put (steps_of rec.lanes lane)) (received to.port (steps_of rec.bridges to.bridge)))
    (λ m. (d m).off) in
    omega (arith, a, b, c)

-- if each frame has drained, nothing remains
pub drained-left : (plan : Plan) (rec : Record) → ((mark : Mark) → IsDrained plan rec mark) → all_left plan rec ≡ 0
drained-left plan rec d =
    let w = total-agree (left_at plan rec) (λ p. 0) wait (used_ports plan) ∙ total-none (used_ports plan) in
    let l = total_at-same (left_over rec) (λ n l. 0) plan.links on_link ∙ total_at-none plan.links in
    let b = total_at-same (left_before rec) (λ n c. 0) plan.customers before ∙ total_at-none plan.customers in
    let a = total_at-same (left_after rec) (λ n c. 0) plan.customers after ∙ total_at-none plan.customers in
    omega (arith, w, l, b, a)
  where
    wait : (p : ℕ × ℕ) → left_at plan rec p ≡ 0
    wait p =
        sym (count_by-map is_marked (λ (w : Waiting). w.item) (waiting plan p.0 p.1 (steps_of rec.bridges p.0)))
        ∙ none-marked (map (λ w. w.item) (waiting plan p.0 p.1 (steps_of rec.bridges p.0))) (λ m. (d m).queues p.0 p.1)

    on_link : (n : ℕ) (l : LinkPlan) → slice_get plan.links n ≡ Some l → left_over rec n l ≡ 0
    on_link n l at =
        let x = lane-empty rec (lane_ab (suc n)) l.a l.b (λ m. (d m).lanes_ab (suc n) l at) in
        let y = lane-empty rec (lane_ba (suc n)) l.b l.a (λ m. (d m).lanes_ba (suc n) l at) in
        omega (arith, x, y)

    before : (n : ℕ) (c : CustomerPlan) → slice_get plan.customers n ≡ Some c → left_before rec n c ≡ 0
    before n c at =
        let x = none-marked (pending (polled (steps_of rec.customers (suc n))) (fed (steps_of rec.customers (suc n))))
        (λ m. ((d m).ports (suc n) c at).hand) in
        let y = none-marked (pending (fed (steps_of rec.customers (suc n)))
        (received c.port (steps_of rec.bridges c.bridge))) (λ m. ((d m).ports (suc n) c at).into) in
        omega (arith, x, y)

    after : (n : ℕ) (c : CustomerPlan) → slice_get plan.customers n ≡ Some c → left_after rec n c ≡ 0
    after n c at = none-marked (pending (transmitted c.port (steps_of rec.bridges c.bridge))
        (delivered (steps_of rec.customers (suc n)))) (λ m. ((d m).ports (suc n) c at).out)
