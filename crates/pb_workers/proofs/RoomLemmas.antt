-- A frame that is received while the ports to which it is relayed have room is refused by no full queue.
use Rattle.std.proofs.Common.{◌≡◌, ◌<◌, ◌==◌, ◌&&◌, ◌++◌, ℕ, Bool, true, false, not, nat_le, List, [], ◌∷◌}
use Rattle.std.proofs.Common.{Option, Some, None, inl, inr, length, map, slice_get, refl, sym, ap, ◌∙◌, subst, arith}
use Rattle.std.proofs.lemmas.Bool.{and_right, leb-false, not-true}
use Rattle.std.specs.List.{AllByRecursion, filter, list_any}
use Rattle.pb_fdb.proofs.EntryLemmas.{filter-shorter}
use Rattle.pb_frame.proofs.Lists.{All-both, All-imply, All-passed, All-placed, All-unmap, list_any-at, list_any-found}
use Rattle.pb_frame.proofs.Lists.{false-unless, true-false, eqb-refl}
use Rattle.pb_frame.specs.declared.learnt.Learnt.{Learnt}
use Rattle.pb_lan.proofs.Cases.{neither-left, neither-right}
use Rattle.pb_lan.specs.BridgeLists.{AreRefused, Fits, Follows, Ruling, ruling, is_full_word, is_named_full}
use Rattle.pb_lan.specs.BridgeLists.Ruling.{Refuses, Listens, LearnsOnly, Carries, Closed}
use Rattle.pb_lan.specs.Choice.{chosen_ports}
use Rattle.pb_lan.specs.Ports.{port_at}
use Rattle.pb_lan.specs.Queues.{Waiting, capacity_of, class_of, is_full, is_full_by, is_refused, priority_in, waiting}
use Rattle.pb_lan.specs.Rules.{Rules}
use Rattle.pb_lan.specs.declared.plan.Plan.{Plan}
use Rattle.pb_lan.specs.declared.plan.Queues.{Queues}
use Rattle.pb_lan.specs.declared.plan.Queues.TheVariants.{PerPort, PerClass}
use Rattle.pb_lan.specs.declared.step.Item.{Item}
use Rattle.pb_lan.specs.declared.step.Moved.{Moved}
use Rattle.pb_lan.specs.declared.step.NoRoom.{NoRoom}
use Rattle.pb_lan.specs.declared.step.Outcome.{Outcome}
use Rattle.pb_lan.specs.declared.step.Outcome.TheVariants.{Relayed, Filtered, Heard}
use Rattle.pb_lan.specs.declared.step.Step.{Step}
use Rattle.pb_lan.specs.declared.step.Step.TheVariants.{Receive}
use Rattle.pb_relay.specs.Protocol.{spanning_tree}
use Rattle.pb_relay.specs.Room.{has_room_for, is_filled, ports_under}
use Rattle.pb_relay.specs.Standing.{BridgeView, HasReceived}
use Rattle.pb_workers.proofs.ChosenBefore.{chosen_before}
use Rattle.pb_workers.proofs.ReceiveLemmas.{none_later}
use Rattle.pb_workers.specs.Lossless.{refuses_when_full}

below : (most n : ℕ) → nat_le most n ≡ false → n < most
below most n e = leb-false most n e

not_full : (most waiting : ℕ) → waiting < most → nat_le most waiting ≡ false
not_full most waiting room = grind arith

-- fewer items than the capacity leave room in each traffic class
room_in_class : (queues : Queues) (most class : ℕ) (ws : List Waiting) → nat_le most (length ws) ≡ false
    → is_full_by queues most class ws ≡ false
room_in_class PerPort most class ws room = room
room_in_class PerClass most class ws room =
    let few = filter-shorter (λ (w : Waiting). w.class == class) ws in
    let less = below most (length ws) room in
    and_right (not (class == 8)) _ (not_full most (length (filter (λ w. w.class == class) ws)) (omega arith))

none_pass : (test : ℕ → Bool) (ps : List ℕ) → list_any test ps ≡ false → AllByRecursion (λ p. test p ≡ false) ps
none_pass test [] none = tt
none_pass test (p ∷ ps) none = (neither-left _ _ none, none_pass test ps (neither-right _ _ none))

-- no chosen port is full for the class of the frame
chosen_have_room : (plan : Plan) (b q v class : ℕ) (earlier : List Step) (item : Item) (learnt : Option Learnt)
    (outcome : Outcome)
    → list_any (is_filled plan b earlier (capacity_of plan b)) (chosen_ports plan b earlier q v item.wire) ≡ false
    → AllByRecursion (λ p. is_full plan b earlier class p ≡ false)
    (chosen_ports plan b (earlier ++ Receive q item learnt outcome None ∷ []) q v item.wire)
chosen_have_room plan b q v class earlier item learnt outcome none =
    let chosen = chosen_ports plan b earlier q v item.wire in
    chosen_before (λ p. is_full plan b earlier class p ≡ false) plan b q v earlier item learnt outcome
    (All-imply (λ p. is_filled plan b earlier (capacity_of plan b) p ≡ false)
    (λ p. is_full plan b earlier class p ≡ false)
    (λ p few. room_in_class plan.queues (capacity_of plan b) class (waiting plan b p earlier) few) chosen
    (none_pass (is_filled plan b earlier (capacity_of plan b)) chosen none))

-- if no chosen port is full, no refusal names a full queue
none_named : (full : ℕ → Bool) (chosen : List ℕ) (refused : List (ℕ × NoRoom)) → AreRefused full chosen refused
    → AllByRecursion (λ p. full p ≡ false) chosen → list_any (λ r. is_full_word r.1) refused ≡ false
none_named full chosen refused are room =
    let unnamed : AllByRecursion (λ p. is_named_full refused p ≡ false) chosen =
    All-imply (λ p. (full p ≡ is_named_full refused p) × (full p ≡ false)) (λ p. is_named_full refused p ≡ false)
    (λ p h. sym h.0 ∙ h.1) chosen (All-both (λ p. full p ≡ is_named_full refused p) (λ p. full p ≡ false) chosen are.1 room)
    in
    let listed : AllByRecursion (λ p. is_named_full refused p ≡ false) (map (λ r. r.0) refused) =
    subst (λ ps. AllByRecursion (λ p. is_named_full refused p ≡ false) ps) (sym are.0)
    (All-passed (λ p. is_named_full refused p ≡ false) (is_refused refused) chosen unnamed) in
    let each = All-both (λ r. is_named_full refused r.0 ≡ false) (λ r. (k : ℕ) × (slice_get refused k ≡ Some r)) refused
    (All-unmap (λ p. is_named_full refused p ≡ false) (λ r. r.0) refused listed) (All-placed refused) in
    false-unless (list_any (λ r. is_full_word r.1) refused)
    (λ some.
    let found = list_any-found
    (λ r. (is_named_full refused r.0 ≡ false) × ((k : ℕ) × (slice_get refused k ≡ Some r)))
    (λ r. is_full_word r.1) refused some each in
    let r = found.0 in
    let here : (r.0 == r.0 && is_full_word r.1) ≡ true = ap (λ b. b && is_full_word r.1) (eqb-refl r.0) ∙ found.2 in
    true-false (is_named_full refused r.0)
    (list_any-at (λ s. s.0 == r.0 && is_full_word s.1) refused found.1.1.0 r found.1.1.1 here) found.1.0)

-- a step of receiving, with room at the ports to which the frame is relayed, refuses no copy because a queue is full
relayed_whole : (rules : Rules) (plan : Plan) (b q : ℕ) (earlier : List Step) (item : Item) (learnt : Option Learnt)
    (chosen : List ℕ) (refused : List (ℕ × NoRoom)) (moved : Option Moved) (g : Ruling)
    → list_any (is_filled plan b earlier (capacity_of plan b)) (ports_under plan b earlier q item.wire g) ≡ false
    → Follows rules plan b earlier q item learnt (Relayed chosen refused) moved g
    → list_any (λ r. is_full_word r.1) refused ≡ false
relayed_whole rules plan b q earlier item learnt chosen refused moved (Refuses r) room h = let e = h.1 in cc
relayed_whole rules plan b q earlier item learnt chosen refused moved Listens room (inl h) = let e = h.1 in cc
relayed_whole rules plan b q earlier item learnt chosen refused moved Listens room (inr h) = let e = h.1 in cc
relayed_whole rules plan b q earlier item learnt chosen refused moved (LearnsOnly v) room h = let e = h.1 in cc
relayed_whole rules plan b q earlier item learnt chosen refused moved (Carries v) room (inl h) = let e = h.1 in cc
relayed_whole rules plan b q earlier item learnt chosen refused moved (Carries v) room (inr h) =
    let class = class_of (priority_in (port_at plan b q) item.wire) in
    let ports : chosen ≡ chosen_ports plan b (earlier ++ Receive q item learnt (Relayed chosen refused) None ∷ []) q v
    item.wire =
    subst (λ (m : Option Moved). chosen
    ≡ chosen_ports plan b (earlier ++ Receive q item learnt (Relayed chosen refused) m ∷ []) q v item.wire) h.2 h.1.0 in
    none_named (is_full plan b earlier class) chosen refused h.1.1
    (subst (λ (ps : List ℕ). AllByRecursion (λ p. is_full plan b earlier class p ≡ false) ps) (sym ports)
    (chosen_have_room plan b q v class earlier item learnt (Relayed chosen refused) room))
relayed_whole rules plan b q earlier item learnt chosen refused moved Closed room h = absurd h

received_whole : (plan : Plan) (b q : ℕ) (earlier : List Step) (item : Item) (learnt : Option Learnt)
    (outcome : Outcome) (moved : Option Moved)
    → has_room_for plan b earlier (capacity_of plan b) q item ≡ true
    → Fits spanning_tree plan b earlier (Receive q item learnt outcome moved)
    → refuses_when_full (Receive q item learnt outcome moved) ≡ false
received_whole plan b q earlier item learnt (Relayed chosen refused) moved room fits =
    relayed_whole spanning_tree plan b q earlier item learnt chosen refused moved
    (ruling spanning_tree plan b earlier q item) (not-true _ room) fits
received_whole plan b q earlier item learnt (Filtered reason) moved room fits = refl
received_whole plan b q earlier item learnt Heard moved room fits = refl

-- a bridge with room at the ports to which it relays an item receives it, and still has refused none because of a full
-- queue
pub received_on : (old new : BridgeView) (port : ℕ) (item : Item) (outcome : Outcome)
    → HasReceived old port item outcome new
    → has_room_for old.plan old.number old.steps (capacity_of old.plan old.number) port item ≡ true
    → list_any refuses_when_full old.steps ≡ false → list_any refuses_when_full new.steps ≡ false
received_on old new port item outcome has room whole =
    none_later refuses_when_full old.steps new.steps (Receive port item has.0 outcome has.1) (ap (λ b. b.steps) has.2) whole
    (received_whole old.plan old.number port old.steps item has.0 outcome has.1 room has.3)
