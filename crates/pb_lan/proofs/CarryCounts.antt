-- Counts of a mark at one bridge: what is queued at a port is no more than what was carried, and that no more than what
-- was received. For the law that frames leave at most once.
use Rattle.std.proofs.Common.{◌≡◌, ℕ, ◌+◌, ◌≤◌, None, Option, Bool, true, false, cond, not, ◌&&◌, ◌==◌, List, [], ◌∷◌}
use Rattle.std.proofs.Common.{◌++◌, refl, sym, ap, subst, arith}
use Rattle.std.proofs.lemmas.Bool.{eqb-true}
use Rattle.std.specs.List.{AllByRecursion, count_by, list_any}
use Rattle.pb_frame.specs.declared.learnt.Learnt.{Learnt}
use Rattle.pb_frame.proofs.Counting.{one_if, count_by-append, count_by-cons, count-none}
use Rattle.pb_frame.proofs.Lists.{and-left, eqb-refl}
use Rattle.pb_lan.proofs.Carriage.{step-own, own-All}
use Rattle.pb_lan.proofs.QueueCounts.{count_waiting, count_queued}
use Rattle.pb_lan.specs.BridgeLists.{LawfulAfter, IsOwn}
use Rattle.pb_lan.specs.Counts.{has_mark, is_of}
use Rattle.pb_lan.specs.Ports.{port_at}
use Rattle.pb_lan.specs.Queues.{Waiting, relayed_by, own_by, copies, copy_of, is_refused, class_of, priority_in}
use Rattle.pb_lan.specs.Records.{received, received_by}
use Rattle.pb_lan.specs.Rules.{Rules}
use Rattle.pb_lan.specs.Shapes.{moved_of}
use Rattle.pb_lan.specs.declared.plan.Plan.{Plan}
use Rattle.pb_lan.specs.declared.step.Item.{Item}
use Rattle.pb_lan.specs.declared.step.Mark.{Mark}
use Rattle.pb_lan.specs.declared.step.Moved.{Moved}
use Rattle.pb_lan.specs.declared.step.Outcome.{Outcome}
use Rattle.pb_lan.specs.declared.step.Outcome.TheVariants.{Relayed}
use Rattle.pb_lan.specs.declared.step.Step.{Step}
use Rattle.pb_lan.specs.declared.step.Step.TheVariants.{Receive}

-- the item has the mark and this number of hops
abbrev pub is_after : Mark → ℕ → Item → Bool
is_after mark n item = is_of mark item && item.hops == n

-- the step received such an item, and chose this port for it
abbrev pub is_carry : Mark → ℕ → ℕ → Step → Bool
is_carry mark n r (Receive q item learnt (Relayed chosen refused) moved) = is_after mark n item && list_any
    (λ p. p == r) chosen
is_carry mark n r _ = false

-- adding one to both numbers keeps whether they are equal
pub suc-eqb : (m n : ℕ) → (m + 1 == n + 1) ≡ (m == n)
suc-eqb m n = elim (m == n) as (λ b. (m == n) ≡ b → (m + 1 == n + 1) ≡ b)
    [ true ↦ λ h. let e = eqb-true m n h in grind (arith, e) | false ↦ λ h. grind (arith, h) ] refl

-- the copies of a received item at a port count at most one, and none if the step did not carry it there
copies-count : (mark : Mark) (n : ℕ) (plan : Plan) (b r q : ℕ) (item : Item) (learnt : Option Learnt)
    (outcome : Outcome) (moved : Option Moved)
    → count_waiting (is_after mark (n + 1)) (copies plan b q item outcome r) ≤ cond
    (is_carry mark n r (Receive q item learnt outcome moved)) 1 0
copies-count mark n plan b r q item learnt (Relayed chosen refused) moved = by (list_any (λ p. p == r) chosen)
    (is_refused refused r)
  where
    w : Waiting
    w = record {
      class = class_of (priority_in (port_at plan b q) item.wire);
      item = copy_of plan (port_at plan b q) (port_at plan b r) item;
    }

    one : (x : Bool) → cond (x && (item.hops + 1 == n + 1)) 1 0 ≤ cond ((x && (item.hops == n)) && true) 1 0
    one true = let e : one_if (item.hops + 1 == n + 1) ≡ one_if (item.hops == n) =
        ap (λ b. cond b 1 0) (suc-eqb item.hops n) in last (item.hops == n) e
      where
        last : (b : Bool) → one_if (item.hops + 1 == n + 1) ≡ one_if b
            → cond (item.hops + 1 == n + 1) 1 0 ≤ cond (b && true) 1 0
        last true e = omega (arith, e)
        last false e = omega (arith, e)
    one false = omega arith

    by : (a c : Bool) → count_waiting (is_after mark (n + 1)) (cond (a && not c) (w ∷ []) []) ≤ cond
        (is_after mark n item && a) 1 0
    by true false = let h = one (is_of mark item) in let c = count_by-cons (λ u. is_after mark (n + 1) u.item) w []
        in omega (arith, h, c)
    by _ _ = omega arith
copies-count mark n plan b r q item learnt _ moved = omega arith

-- a bridge's own item, which has no mark, does not count
pub unmarked : (mark : Mark) (n : ℕ) (item : Item) → item.mark ≡ None → is_after mark n item ≡ false
unmarked mark n item h = subst (λ o. (has_mark mark o && item.hops == n) ≡ false) (sym h) refl

-- the bridge's own items that a step queues do not count
own-count : (mark : Mark) (n : ℕ) (plan : Plan) (b r : ℕ) (step : Step)
    → AllByRecursion (λ m. AllByRecursion (IsOwn plan b) m.queued) (moved_of step)
    → count_waiting (is_after mark n) (own_by plan r step) ≡ 0
own-count mark n plan b r step own =
    count-none (λ w. is_after mark n w.item) (own_by plan r step)
    (own-All (λ w. is_after mark n w.item ≡ false) plan b r step (λ item o. unmarked mark n item o.0) own)

-- the items that a step relays count at most one, and none if the step did not carry
relayed-count : (mark : Mark) (n : ℕ) (plan : Plan) (b r : ℕ) (step : Step)
    → count_waiting (is_after mark (n + 1)) (relayed_by plan b r step) ≤ cond (is_carry mark n r step) 1 0
relayed-count mark n plan b r (Receive q item learnt outcome moved) = copies-count mark n plan b r q item learnt
    outcome moved
relayed-count mark n plan b r _ = omega arith

-- the items of the mark with one more hop that steps queue are at most as many as the steps that carried it
pub carry-count : (mark : Mark) (n : ℕ) (rules : Rules) (plan : Plan) (b r : ℕ) (earlier steps : List Step)
    → LawfulAfter rules plan b earlier steps
    → count_queued (is_after mark (n + 1)) plan b r steps ≤ count_by (is_carry mark n r) steps
carry-count mark n rules plan b r earlier [] lawful = omega arith
carry-count mark n rules plan b r earlier (step ∷ steps) lawful =
    let a = count_by-append (λ w. is_after mark (n + 1) w.item) (relayed_by plan b r step) (own_by plan r step) in
    let o = own-count mark (n + 1) plan b r step (step-own rules plan b earlier step lawful.0) in
    let c = relayed-count mark n plan b r step in
    let d = count_by-cons (is_carry mark n r) step steps in
    let rest = carry-count mark n rules plan b r (earlier ++ step ∷ []) steps lawful.1 in
    omega (arith, a, o, c, d, rest)

-- the step received at this port, if it received
abbrev pub IsAt : ℕ → Step → Type 0
IsAt q (Receive at item learnt outcome moved) = at ≡ q
IsAt q _ = Unit {0}

-- a step that carried at this port received an item of the mark there
carry-received : (mark : Mark) (n r q : ℕ) (step : Step) → (is_carry mark n r step ≡ true → IsAt q step)
    → cond (is_carry mark n r step) 1 0 ≤ count_by (is_after mark n) (received_by q step)
carry-received mark n r q (Receive at item learnt (Relayed chosen refused) moved) h =
    elim (is_after mark n item && list_any (λ p. p == r) chosen)
    as (λ c. (is_after mark n item && list_any (λ p. p == r) chosen) ≡ c → cond c 1 0 ≤ count_by (is_after mark n)
    (cond (at == q) (item ∷ []) [])) [
      | true ↦ λ e.
          let same_port : (at == q) ≡ true = subst (λ x. (at == x) ≡ true) (h e) (eqb-refl at) in
          let c = count_by-cons (is_after mark n) item [] in
          let t : one_if (is_after mark n item) ≡ 1 = ap (λ b. cond b 1 0) (and-left _ _ e) in
          subst (λ b. 1 ≤ count_by (is_after mark n) (cond b (item ∷ []) [])) (sym same_port) (omega (arith, c, t))
      | false ↦ λ e. omega arith
    ] refl
carry-received mark n r q _ h = omega arith

-- if all steps that carried received at one port, they are at most as many as the items of the mark received there
pub carries-received : (mark : Mark) (n r q : ℕ) (steps : List Step)
    → AllByRecursion (λ step. is_carry mark n r step ≡ true → IsAt q step) steps
    → count_by (is_carry mark n r) steps ≤ count_by (is_after mark n) (received q steps)
carries-received mark n r q [] h = omega arith
carries-received mark n r q (step ∷ steps) h =
    let a = count_by-cons (is_carry mark n r) step steps in
    let c = count_by-append (is_after mark n) (received_by q step) (received q steps) in
    let one = carry-received mark n r q step h.0 in
    let rest = carries-received mark n r q steps h.1 in
    omega (arith, a, c, one, rest)
