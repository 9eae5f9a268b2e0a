-- If a bridge cannot receive an item, another Forwarding port of it has a full queue.
use Rattle.std.proofs.Common.{◌≡◌, ◌⊎◌, inl, inr, ℕ, zero, suc, ◌+◌, ◌≤◌, Some, Bool, true, false}
use Rattle.std.proofs.Common.{List, [], ◌∷◌, refl, sym, ◌∙◌, ap, subst, cond, not, ◌==◌, length, arith}
use Rattle.std.proofs.Common.{unwrap_or}
use Rattle.std.proofs.lemmas.Bool.{leb-true}
use Rattle.std.specs.List.{AllByRecursion, list_any}
use Rattle.std.specs.Option.{option_map}
use Rattle.pb_frame.proofs.Lists.{All-imply, list_any-found}
use Rattle.pb_frame.specs.Frames.{dst_of, is_group}
use Rattle.pb_lan.proofs.Handled.{state-of}
use Rattle.pb_lan.proofs.Numbers.{numbered-All, numbered-exists}
use Rattle.pb_lan.proofs.Rulings.{IsChoice, chosen-choice, number-local}
use Rattle.pb_lan.proofs.Stillness.{numbered-from}
use Rattle.pb_lan.specs.BridgeLists.{Ruling, ruling}
use Rattle.pb_lan.specs.BridgeLists.Ruling.{Refuses, Listens, LearnsOnly, Carries, Closed}
use Rattle.pb_lan.specs.Choice.{chosen_ports, flood, found, narrowed}
use Rattle.pb_lan.specs.LastShapes.{last_shape}
use Rattle.pb_lan.specs.Numbering.{numbered}
use Rattle.pb_lan.specs.Plans.{IsNumber, IsSound, IsSoundBridge, IsSoundEnd}
use Rattle.pb_lan.specs.Ports.{port_at, is_used}
use Rattle.pb_lan.specs.Queues.{capacity_of}
use Rattle.pb_lan.specs.Records.{steps_of}
use Rattle.pb_lan.specs.Shapes.{is_forwarding, state_after, state_in, states_after}
use Rattle.pb_lan.specs.declared.plan.BridgePlan.{BridgePlan}
use Rattle.pb_lan.specs.declared.plan.End.{End}
use Rattle.pb_lan.specs.declared.plan.Plan.{Plan}
use Rattle.pb_lan.specs.declared.shape.PortState.{PortState}
use Rattle.pb_lan.specs.declared.record.Record.{Record}
use Rattle.pb_lan.specs.declared.step.Item.{Item}
use Rattle.pb_lan.specs.declared.step.Step.{Step}
use Rattle.pb_relay.specs.Protocol.{spanning_tree}
use Rattle.pb_relay.specs.Room.{copy_ports, is_filled, ports_under}
use Rattle.pb_standstill.proofs.UnusedPorts.{member_used}
use Rattle.pb_standstill.specs.Moves.{are_places_free, CanReceive}
use Rattle.pb_standstill.specs.Waits.{HasSome, queue_at}

-- a bridge relays from one Forwarding port to another, which the plan uses
pub record IsChosen (plan : Plan) (bridge : ℕ) (steps : List Step) (port exit : ℕ) : Type 0 where
  pub entry_open : is_forwarding (state_after plan bridge steps port) ≡ true
  pub exit_open : is_forwarding (state_after plan bridge steps exit) ≡ true
  pub apart : (exit == port) ≡ false
  pub used : is_used (port_at plan bridge exit) ≡ true

-- the ports that a bridge chooses are such
chosen_are : (plan : Plan) (bridge : ℕ) (steps : List Step) (port vid : ℕ) (wire : List ℕ)
    → AllByRecursion (IsChosen plan bridge steps port) (chosen_ports plan bridge steps port vid wire)
chosen_are plan bridge steps port vid wire = by (is_forwarding (state_after plan bridge steps port)) refl
  where
    by : (f : Bool) → is_forwarding (state_after plan bridge steps port) ≡ f
        → AllByRecursion (IsChosen plan bridge steps port) (chosen_ports plan bridge steps port vid wire)
    by true e =
        All-imply (IsChoice plan bridge steps port vid) (IsChosen plan bridge steps port)
        (λ q h. record {
          entry_open = e;
          exit_open = h.forwarding;
          apart = h.other;
          used = member_used plan vid (port_at plan bridge q) h.member;
        })
        (chosen_ports plan bridge steps port vid wire) (chosen-choice plan bridge steps port vid wire)
    by false e =
        subst (λ f. AllByRecursion (IsChosen plan bridge steps port)
        (cond f (cond (is_group (dst_of wire)) (flood plan bridge steps port vid)
        (narrowed (flood plan bridge steps port vid) (found plan bridge steps vid (dst_of wire)))) [])) (sym e) tt

-- and so are those to which it relays an item
copies_are : (plan : Plan) (bridge : ℕ) (steps : List Step) (port : ℕ) (item : Item)
    → AllByRecursion (IsChosen plan bridge steps port) (copy_ports plan bridge steps port item)
copies_are plan bridge steps port item = by (ruling spanning_tree plan bridge steps port item)
  where
    by : (r : Ruling) → AllByRecursion (IsChosen plan bridge steps port)
        (ports_under plan bridge steps port item.wire r)
    by (Refuses reason) = tt
    by Listens = tt
    by (LearnsOnly vid) = tt
    by (Carries vid) = chosen_are plan bridge steps port vid item.wire
    by Closed = tt

-- something waits at another Forwarding port of the bridge
pub record IsBlocked (plan : Plan) (rec : Record) (bridge port : ℕ) : Type 0 where
  pub exit : ℕ
  pub chosen : IsChosen plan bridge (steps_of rec.bridges bridge) port exit
  pub waits : HasSome (queue_at plan rec bridge exit)

-- each bridge of a sound plan has places in its queues
places : (plan : Plan) → IsSound plan → (bridge : ℕ) → IsNumber bridge (length plan.bridges)
    → 1 ≤ capacity_of plan bridge
places plan sound bridge n =
    let there = numbered-exists plan.bridges bridge n in
    let one : IsSoundBridge there.0 = numbered-All IsSoundBridge plan.bridges bridge there.0 there.1 sound.bridges in
    let is : capacity_of plan bridge ≡ there.0.queue = ap (λ o. unwrap_or (option_map (λ b. b.queue) o) 0) there.1 in
    subst (λ k. 1 ≤ k) (sym is) one.queue.0

-- if the first item of a ring cannot be received, something waits at another Forwarding port
pub receives : (plan : Plan) (rec : Record) → IsSound plan → (bridge port : ℕ) → IsNumber bridge (length plan.bridges)
    → (ring : List Item) → HasSome ring → CanReceive plan rec bridge port ring ⊎ IsBlocked plan rec bridge port
receives plan rec sound bridge port n [] some = absurd (omega (arith, some))
receives plan rec sound bridge port n (item ∷ later) some = by (are_places_free plan rec bridge port item) refl
  where
    blocked : list_any (is_filled plan bridge (steps_of rec.bridges bridge) (capacity_of plan bridge))
        (copy_ports plan bridge (steps_of rec.bridges bridge) port item) ≡ true
        → IsBlocked plan rec bridge port
    blocked h =
        let steps = steps_of rec.bridges bridge in
        let q = list_any-found (IsChosen plan bridge steps port)
        (is_filled plan bridge steps (capacity_of plan bridge)) (copy_ports plan bridge steps port item) h
        (copies_are plan bridge steps port item) in
        let full : capacity_of plan bridge ≤ length (queue_at plan rec bridge q.0) = leb-true _ _ q.2 in
        let most = places plan sound bridge n in
        record { exit = q.0; chosen = q.1; waits = omega (arith, full, most) }

    some_filled : (b : Bool) → not b ≡ false → b ≡ true
    some_filled true h = refl
    some_filled false h = cc

    by : (b : Bool) → are_places_free plan rec bridge port item ≡ b
        → CanReceive plan rec bridge port (item ∷ later) ⊎ IsBlocked plan rec bridge port
    by true e = inl (record { item = item; later = later; first = refl; room = e })
    by false e = inr (blocked (some_filled _ e))

-- the last shape has the state of each end of a link
pub last_state : (plan : Plan) (rec : Record) (e : End) → IsSoundEnd plan e
    → state_in (last_shape plan rec) e.bridge e.port ≡ state_after plan e.bridge (steps_of rec.bridges e.bridge) e.port
last_state plan rec e sound =
    let there = numbered-exists plan.bridges e.bridge sound.bridge in
    state-of plan (last_shape plan rec) e.bridge (steps_of rec.bridges e.bridge) e.port
    (at e.bridge there.0 there.1) (number-local e.port sound.port)
  where
    states : ℕ → List PortState
    states bridge = states_after plan bridge (steps_of rec.bridges bridge)

    at : (b : ℕ) (x : BridgePlan) → numbered plan.bridges b ≡ Some x
        → numbered (last_shape plan rec).states b ≡ Some (states b)
    at zero x h = cc
    at (suc i) x h =
        let s : 1 + i ≡ suc i = omega arith in
        numbered-from states 1 plan.bridges i x h ∙ ap (λ n. Some (states n)) s
