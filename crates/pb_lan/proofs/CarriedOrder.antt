-- The order in which the steps of a bridge carry two marks, for the law that frames keep their order.
use Rattle.std.proofs.Common.{◌≡◌, ℕ, ◌+◌, ◌<◌, Some, None, Option, true, false, cond, ◌&&◌, ◌==◌, List, [], ◌∷◌}
use Rattle.std.proofs.Common.{◌++◌, refl, sym, ◌∙◌, subst, arith, not, Bool}
use Rattle.std.proofs.lemmas.Bool.{eqb-true}
use Rattle.std.specs.List.{AllByRecursion, list_any}
use Rattle.std.specs.Cmp.Derive.{both_true}
use Rattle.pb_frame.proofs.Lists.{and-left, and-right, eqb-refl, All-imply, All-append, or-left, true-false}
use Rattle.pb_frame.proofs.Orders.{InOrder}
use Rattle.pb_lan.proofs.Carriage.{step-own, own-All}
use Rattle.pb_lan.proofs.CarryCounts.{is_after, is_carry, IsAt, suc-eqb, unmarked}
use Rattle.pb_lan.proofs.QueuedOnce.{marked-later, CameIn, carried-at}
use Rattle.pb_lan.proofs.Ways.{IsFollowed}
use Rattle.pb_lan.specs.BridgeLists.{LawfulAfter, IsOwn}
use Rattle.pb_lan.specs.Counts.{has_mark, is_of}
use Rattle.pb_lan.specs.PortLists.{AreMarked}
use Rattle.pb_lan.specs.Ports.{port_at}
use Rattle.pb_lan.specs.Queues.{Waiting, priority_in, class_of, queued_by, relayed_by, own_by, copy_of, is_refused}
use Rattle.pb_lan.specs.Records.{steps_of, received_by}
use Rattle.pb_lan.specs.Rules.{Rules}
use Rattle.pb_lan.specs.Shapes.{moved_of}
use Rattle.pb_lan.specs.declared.plan.Plan.{Plan}
use Rattle.pb_lan.specs.declared.plan.CustomerPlan.{CustomerPlan}
use Rattle.pb_lan.specs.declared.record.Record.{Record}
use Rattle.pb_lan.specs.declared.shape.Shape.{Shape}
use Rattle.pb_lan.specs.declared.shape.Rooted.{Rooted}
use Rattle.pb_lan.specs.declared.step.Item.{Item}
use Rattle.pb_lan.specs.declared.step.Mark.{Mark}
use Rattle.pb_lan.specs.declared.step.Step.{Step}
use Rattle.pb_lan.specs.declared.step.Outcome.TheVariants.{Relayed}
use Rattle.pb_lan.specs.declared.step.Step.TheVariants.{Receive}

-- a customer port polls frames in the order of their numbers
pub polled-order : (one two : Mark) → one.number < two.number → (n port k : ℕ) (items : List Item)
    → AreMarked port k items → InOrder (is_after one n) (is_after two n) items
polled-order one two less n port k [] a = tt
polled-order one two less n port k (item ∷ items) a = (
  λ l.
      let named : (two.port == port && two.number == k) ≡ true = subst (λ o. has_mark two o ≡ true) a.0
      (and-left _ _ l) in
      let here : two.number ≡ k = eqb-true two.number k (and-right (two.port == port) _ named) in
      marked-later one n port (k + 1) items a.2 (omega (arith, less, here)),
  polled-order one two less n port (k + 1) items a.2,
)

-- what a step queues with one more hop it carried
pub queued-carried : (mark : Mark) (n : ℕ) (plan : Plan) (b r : ℕ) (step : Step)
    → AllByRecursion (λ m. AllByRecursion (IsOwn plan b) m.queued) (moved_of step)
    → AllByRecursion (λ w. is_after mark (n + 1) w.item ≡ true → is_carry mark n r step ≡ true)
    (queued_by plan b r step)
queued-carried mark n plan b r step own =
    All-append (λ w. is_after mark (n + 1) w.item ≡ true → is_carry mark n r step ≡ true) (relayed_by plan b r step)
    (own_by plan r step) (relayed step)
    (own-All (λ w. is_after mark (n + 1) w.item ≡ true → is_carry mark n r step ≡ true) plan b r step
    (λ item o m. absurd (true-false (is_after mark (n + 1) item) m (unmarked mark (n + 1) item o.0))) own)
  where
    relayed : (s : Step) → AllByRecursion (λ w. is_after mark (n + 1) w.item ≡ true → is_carry mark n r s ≡ true)
        (relayed_by plan b r s)
    relayed (Receive q item learnt (Relayed chosen refused) moved) =
        by (list_any (λ p. p == r) chosen) (is_refused refused r)
      where
        w : Waiting
        w = record {
          class = class_of (priority_in (port_at plan b q) item.wire);
          item = copy_of plan (port_at plan b q) (port_at plan b r) item;
        }

        by : (t u : Bool) → AllByRecursion
            (λ (w : Waiting). is_after mark (n + 1) w.item ≡ true → (is_after mark n item && t) ≡ true)
            (cond (t && not u) (w ∷ []) [])
        by true false = (
          λ m. both_true (both_true (and-left (is_of mark item) _ m)
              (sym (suc-eqb item.hops n) ∙ and-right (is_of mark item) _ m)) refl,
          tt,
        )
        by true true = tt
        by false u = tt
    relayed _ = tt

-- a step that carries an item to a port received it, at the given port
carry-at : (mark : Mark) (n r q : ℕ) (step : Step) → (is_carry mark n r step ≡ true → IsAt q step)
    → is_carry mark n r step ≡ true → list_any (is_after mark n) (received_by q step) ≡ true
carry-at mark n r q (Receive at item learnt (Relayed chosen refused) moved) h c =
    let same_port : (at == q) ≡ true = subst (λ x. (at == x) ≡ true) (h c) (eqb-refl at) in
    subst (λ b. list_any (is_after mark n) (cond b (item ∷ []) []) ≡ true) (sym same_port)
    (or-left (is_after mark n item) false (and-left (is_after mark n item) _ c))
carry-at mark n r q _ h c = cc

-- if a walk leads to a port of a bridge, the items that the bridge's steps carried they received there
pub carried-received : (rules : Rules) (plan : Plan) (rec : Record) (shape : Shape) (entry : CustomerPlan)
    (mark : Mark) (rooted : Rooted) → IsFollowed rules plan rec shape entry mark rooted → (n b r q : ℕ)
    → CameIn plan shape entry b q
    → AllByRecursion (λ step. is_carry mark n r step ≡ true → list_any (is_after mark n) (received_by q step) ≡ true)
    (steps_of rec.bridges b)
carried-received rules plan rec shape entry mark rooted followed n b r q came =
    All-imply (λ step. is_carry mark n r step ≡ true → IsAt q step)
    (λ step. is_carry mark n r step ≡ true → list_any (is_after mark n) (received_by q step) ≡ true)
    (carry-at mark n r q) (steps_of rec.bridges b)
    (carried-at rules plan rec shape entry mark rooted followed n b r q came)

-- no item has both marks
pub marks-apart : (one two : Mark) → one.number < two.number → (item : Item) → is_of one item ≡ true
    → is_of two item ≡ true → ⊥
marks-apart one two less item a b = by item.mark a b
  where
    by : (o : Option Mark) → has_mark one o ≡ true → has_mark two o ≡ true → ⊥
    by None a b = cc
    by (Some m) a b =
        let e : one.number ≡ m.number = eqb-true one.number m.number (and-right (one.port == m.port) _ a) in
        let f : two.number ≡ m.number = eqb-true two.number m.number (and-right (two.port == m.port) _ b) in
        absurd (omega (arith, less, e, f))

-- no step carries both marks
pub carries-apart : (one two : Mark) → one.number < two.number → (n r : ℕ) (step : Step) → is_carry one n r step ≡ true
    → is_carry two n r step ≡ true → ⊥
carries-apart one two less n r (Receive q item learnt (Relayed chosen refused) moved) a b =
    marks-apart one two less item (and-left (is_of one item) _ (and-left (is_after one n item) _ a))
    (and-left (is_of two item) _ (and-left (is_after two n item) _ b))
carries-apart one two less n r _ a b = cc

-- the items that lawful steps queue as the bridge's own are for other bridges
pub steps-own : (rules : Rules) (plan : Plan) (b : ℕ) (earlier steps : List Step)
    → LawfulAfter rules plan b earlier steps
    → AllByRecursion (λ step. AllByRecursion (λ m. AllByRecursion (IsOwn plan b) m.queued) (moved_of step)) steps
steps-own rules plan b earlier [] lawful = tt
steps-own rules plan b earlier (step ∷ steps) lawful =
    (step-own rules plan b earlier step lawful.0, steps-own rules plan b (earlier ++ step ∷ []) steps lawful.1)
