-- A port that stops being the Root port is Discarding.
use Rattle.std.proofs.Common.{◌≡◌, ◌⊎◌, ℕ, ◌+◌, List, [], ◌∷◌, Some, None, refl, sym, ap, ap₂, ◌∙◌, subst, Bool, true}
use Rattle.std.proofs.Common.{false, is_some, ◌==◌, ◌&&◌, not, if◌then◌else◌, inl, inr}
use Rattle.std.specs.declared.option.Option.{Option}
use Rattle.std.specs.List.{list_any, AllByRecursion}
use Rattle.std.proofs.lemmas.Bool.{eqb-true, and_parts}
use Rattle.pb_lan.specs.declared.shape.PortState.TheVariants.{Forwarding}
use Rattle.pb_rstp.specs.Changes.{IsSamePort, AreMoving, HoldsOldRoots}
use Rattle.pb_rstp.specs.Laws.{IsInLine}
use Rattle.pb_rstp.specs.Machine.{settle}
use Rattle.pb_rstp.specs.Ports.{is_root, is_designated, is_discarding, id_of, fwd_delay_of}
use Rattle.pb_rstp.specs.Roles.{root_vector, came_from, other_role, HasRole, IsRootVector}
use Rattle.pb_rstp.specs.Vectors.{is_same_vector, port_id}
use Rattle.pb_rstp.specs.Settling.{befores, nows, each, with_role, with_roles, without_agreement, with_agreements}
use Rattle.pb_rstp.specs.Settling.{without_info, with_infos, held_back, forwarding_if_agreed, designated_state}
use Rattle.pb_rstp.specs.Settling.{state_by, with_state, synced, agreeing, with_agreement_at, with_proposal}
use Rattle.pb_rstp.specs.Settling.{is_proposed, is_root_agreeing, is_agreeing, with_tc_while, is_telling}
use Rattle.pb_rstp.specs.Settling.{after_sending, is_sending, with_sent, in_line, settled, with_topology}
use Rattle.pb_rstp.specs.Settling.{offer_by, is_updated, with_update}
use Rattle.pb_rstp.specs.declared.moving.Heard.{Heard}
use Rattle.pb_rstp.specs.declared.moving.Moving.{Moving}
use Rattle.pb_rstp.specs.declared.port.Port.{Port}
use Rattle.pb_rstp.specs.declared.role.Role.{Role}
use Rattle.pb_rstp.specs.declared.role.Role.TheVariants.{Disabled, Root, Designated}
use Rattle.pb_rstp.specs.declared.vector.Vector.{Vector}
use Rattle.pb_rstp.proofs.MovingLaws.{found_pair, moving_first, moving_before, moving_settled, moving_sent}
use Rattle.pb_rstp.proofs.RoleLaws.{roles-first}
use Rattle.pb_rstp.proofs.RootLaws.{root_vector-is}
use Rattle.pb_rstp.proofs.SettledLaws.{root_is}

-- a change that leads from one relation to another, for each port before and after, does so for all ports
pub moved-all : (P Q : Port → Port → Type 0) (f : Port → Port → Port)
    → ((was now : Port) → P was now → Q was (f was now)) → (ms : List Moving)
    → AllByRecursion (λ m. P m.was m.now) ms → AllByRecursion (λ m. Q m.was m.now) (each f ms)
moved-all P Q f keeps [] h = tt
moved-all P Q f keeps (m ∷ ms) h = (keeps m.was m.now h.0, moved-all P Q f keeps ms h.1)

-- if the port was the Root port, the root priority vector came from the port with this identifier
abbrev Came : ℕ → Port → Port → Type 0
Came id was now = is_root was.role ≡ true → (id == id_of now) ≡ true

-- that holds of a port whose role was right before the call
came_from_root : (id : ℕ) (root : Vector) (p q : Port) → IsSamePort p q → HasRole id root p p.role
    → Came root.receiving p q
came_from_root id root p q same has is =
    let P : Role → Type 0 = λ r. HasRole id root p r in
    let came : HasRole id root p Root = subst P (root_is p.role is) has in
    ap₂ (λ a b. root.receiving == port_id a b) same.priority same.number ∙ came.1

-- it holds of all ports of a bridge that was in line
came : (id : ℕ) (root : Vector) (all ps : List Port) (ms : List Moving) → AreMoving ps ms → IsRootVector id all root
    → AllByRecursion (λ p. (v : Vector) → IsRootVector id all v → HasRole id v p p.role) ps
    → AllByRecursion (λ m. Came root.receiving m.was m.now) ms
came id root all [] [] h is roles = tt
came id root all (p ∷ ps) (m ∷ ms) h is roles =
    let P : Port → Type 0 = λ q. Came root.receiving q m.now in (
      subst P (sym h.0.0) (came_from_root id root p m.now h.0.1 (roles.0 root is)),
      came id root all ps ms h.1 is
          roles.1,
    )
came id root all _ _ h is roles = absurd h

-- a port that was the Root port has no agreement, or is not Designated
abbrev IsFree : Port → Port → Type 0
IsFree was now = is_root was.role ≡ true → (now.agreed ≡ false) ⊎ (is_designated now.role ≡ false)

-- under the same root priority vector an enabled port that was the Root port is the Root port again
free_role : (id : ℕ) (root : Vector) (was now : Port) → Came root.receiving was now
    → IsFree was (with_role id root was now)
free_role id root was now came is = inr (by_enabled now.port_enabled)
  where
    by_enabled : (enabled : Bool) → is_designated
        (if enabled then (if came_from root now then Root else other_role id root now now.info) else Disabled) ≡ false
    by_enabled true = ap (λ b. is_designated (if b then Root else other_role id root now now.info)) (came is)
    by_enabled false = refl

-- equal vectors were received at the same port
same_receiving : (v w : Vector) → is_same_vector v w ≡ true → v.receiving ≡ w.receiving
same_receiving v w e =
    eqb-true v.receiving w.receiving
    (and_parts (v.root == w.root && v.cost == w.cost && v.bridge == w.bridge && v.port == w.port)
    (v.receiving == w.receiving) e).1

-- without agreements no port has one
all_free : (ms : List Moving) → AllByRecursion (λ m. IsFree m.was m.now) (each without_agreement ms)
all_free [] = tt
all_free (m ∷ ms) = (λ is. inl refl, all_free ms)

-- after stage 2 a port that was the Root port has no agreement, or is not Designated
free-second : (id : ℕ) (ps : List Port) (ms : List Moving) → AreMoving ps ms
    → AllByRecursion (λ p. (v : Vector) → IsRootVector id ps v → HasRole id v p p.role) ps
    → AllByRecursion (λ m. IsFree m.was m.now) (with_agreements id (with_roles id ms))
free-second id ps ms h roles =
    by_test (is_same_vector (root_vector id (befores all)) (root_vector id (nows all))) refl
  where
    all : List Moving
    all = with_roles id ms

    before : root_vector id (befores (with_roles id ms)) ≡ root_vector id ps
    before = ap (λ qs. root_vector id qs) (moving_before ps (with_roles id ms) (moving_first id ps ms h))

    now : root_vector id (nows (with_roles id ms)) ≡ root_vector id (nows ms)
    now = (roles-first id ms).0

    by_test : (b : Bool) → is_same_vector (root_vector id (befores (with_roles id ms)))
        (root_vector id (nows (with_roles id ms))) ≡ b
        → AllByRecursion (λ m. IsFree m.was m.now)
        (if b then with_roles id ms else each without_agreement (with_roles id ms))
    by_test true e =
        let same : (root_vector id ps).receiving ≡ (root_vector id (nows ms)).receiving =
        ap (λ (v : Vector). v.receiving) (sym before)
        ∙ same_receiving (root_vector id (befores (with_roles id ms))) (root_vector id (nows (with_roles id ms))) e
        ∙ ap (λ (v : Vector). v.receiving) now in
        let P : ℕ → Type 0 = λ n. AllByRecursion (λ m. Came n m.was m.now) ms in
        let root = root_vector id (nows ms) in
        moved-all (Came root.receiving) IsFree (with_role id root) (λ was q c. free_role id root was q c) ms
        (subst P same (came id (root_vector id ps) ps ps ms h (root_vector-is id ps) roles))
    by_test false e = all_free (with_roles id ms)

-- of two ports with that property, either choice has it
free-if : (b : Bool) (was q r : Port) → IsFree was q → IsFree was r → IsFree was (if b then q else r)
free-if true was q r hq hr = hq
free-if false was q r hq hr = hr

-- the same after stage 3
free-third : (ms : List Moving) → AllByRecursion (λ m. IsFree m.was m.now) ms
    → AllByRecursion (λ m. IsFree m.was m.now) (with_infos ms)
free-third ms h =
    moved-all IsFree IsFree without_info
    (λ was now f. free-if (is_designated now.role && is_some now.info) was (record now { info = None; new_info = true })
    now f f) ms h

-- a port that was the Root port and is not any more is Discarding
abbrev IsHeld : Port → Port → Type 0
IsHeld was now = is_root was.role ≡ true → is_root now.role ≡ false → is_discarding now.state ≡ true

-- after stage 4 that holds
held-state : (fwd_delay : ℕ) (was now : Port) → IsFree was now → IsHeld was (with_state fwd_delay was now)
held-state fwd_delay was now free is = by_role now.role refl
  where
    not_designated : (r : Role) → is_root r ≡ true → is_designated r ≡ false
    not_designated Root e = refl
    not_designated _ e = cc

    held : now.agreed ≡ false → is_discarding (designated_state fwd_delay was now).state ≡ true
    held agreed =
        ap (λ b. is_discarding (forwarding_if_agreed (if b then now else held_back fwd_delay now)).state)
        (not_designated was.role is)
        ∙ ap (λ b. is_discarding (if b then record (held_back fwd_delay now) { state = Forwarding }
        else held_back fwd_delay now).state) agreed

    by_role : (r : Role) → now.role ≡ r → is_root (state_by fwd_delay r was now).role ≡ false
        → is_discarding (state_by fwd_delay r was now).state ≡ true
    by_role Root e other = let yes = ap is_root e in cc
    by_role Designated e other = elim (free is) [
      | inl agreed ↦ held agreed
      | inr none ↦ let yes = ap is_designated e in cc
    ]
    by_role _ e other = refl

-- of two ports with that property, either choice has it
held-if : (b : Bool) (was q r : Port) → IsHeld was q → IsHeld was r → IsHeld was (if b then q else r)
held-if true was q r hq hr = hq
held-if false was q r hq hr = hr

-- the same for two lists of ports
held-or : (b : Bool) (ms ns : List Moving) → AllByRecursion (λ m. IsHeld m.was m.now) ms
    → AllByRecursion (λ m. IsHeld m.was m.now) ns
    → AllByRecursion (λ m. IsHeld m.was m.now) (if b then ms else ns)
held-or true ms ns hm hn = hm
held-or false ms ns hm hn = hn

-- the same after stage 5
held-fifth : (heard : Option Heard) (ms : List Moving) → AllByRecursion (λ m. IsHeld m.was m.now) ms
    → AllByRecursion (λ m. IsHeld m.was m.now) (with_proposal heard ms)
held-fifth None ms h = h
held-fifth (Some heard) ms h =
    held-or (is_proposed heard) (with_agreement_at heard.port ms) ms
    (moved-all IsHeld IsHeld (agreeing heard.port)
    (λ was now f. held-if (is_agreeing heard.port now) was (record now { agree = true; new_info = true }) now f f) _
    (held-or (list_any (is_root_agreeing heard.port) (nows ms)) (each (synced (fwd_delay_of (nows ms))) ms) ms
    (moved-all IsHeld IsHeld (synced (fwd_delay_of (nows ms)))
    (λ was now f. held-if (is_designated now.role && not now.agreed && not (is_discarding now.state)) was
    (held_back (fwd_delay_of (nows ms)) now) now (λ _ _. refl) f) ms h)
    h)) h

-- the same after all stages
held_settled : (prompt : Bool) (id : ℕ) (heard : Option Heard) (ps : List Port) (ms : List Moving) → AreMoving ps ms
    → AllByRecursion (λ p. (v : Vector) → IsRootVector id ps v → HasRole id v p p.role) ps
    → AllByRecursion (λ m. IsHeld m.was m.now) (with_sent (settled prompt id heard ms))
held_settled prompt id heard ps ms h roles =
    let infos = with_infos (with_agreements id (with_roles id ms)) in
    let third : AllByRecursion (λ m. IsFree m.was m.now) infos = free-third (with_agreements id (with_roles id ms))
    (free-second id ps ms h roles) in
    let fourth : AllByRecursion (λ m. IsHeld m.was m.now) (in_line id ms) =
    moved-all IsFree IsHeld (with_state (fwd_delay_of (nows infos)))
    (held-state (fwd_delay_of (nows infos))) infos third in
    let proposed = with_proposal heard (in_line id ms) in
    let fifth : AllByRecursion (λ m. IsHeld m.was m.now) proposed = held-fifth heard (in_line id ms) fourth in
    let reported = with_topology prompt heard proposed in
    let sixth : AllByRecursion (λ m. IsHeld m.was m.now) reported =
    moved-all IsHeld IsHeld (with_tc_while prompt heard proposed)
    (λ was now f. held-if (is_telling prompt heard proposed now) was (record now { tc_while = 3; new_info = true }) now f f)
    proposed fifth in
    let before = offer_by id (befores reported) in
    let after = offer_by id (nows reported) in
    let seventh : AllByRecursion (λ m. IsHeld m.was m.now) (settled prompt id heard ms) =
    held-or prompt (each (with_update id before after) reported) reported
    (moved-all IsHeld IsHeld (with_update id before after)
    (λ was now f. held-if (is_updated id before after was now) was (record now { new_info = true }) now f f)
    reported sixth) sixth in
    moved-all IsHeld IsHeld after_sending
    (λ was now f. held-if (is_sending now) was (record now { new_info = false; tx_count = now.tx_count + 1 }) now f f)
    (settled prompt id heard ms) seventh

-- after every call a port that was the Root port and is not any more is Discarding
pub settle_old_roots : (prompt : Bool) (id hello_when hello_when_now : ℕ) (heard : Option Heard) (ps : List Port)
    (ms : List Moving)
    → AreMoving ps ms
    → IsInLine (record { id = id; prompt = prompt; ports = ps; hello_when = hello_when })
    → HoldsOldRoots (record { id = id; prompt = prompt; ports = ps; hello_when = hello_when })
    (settle prompt id hello_when_now heard ms).machine
settle_old_roots prompt id hello_when hello_when_now heard ps ms h line number was is before after =
    found_pair IsHeld number ps (with_sent (settled prompt id heard ms))
    (moving_sent ps (settled prompt id heard ms) (moving_settled prompt id heard ps ms h))
    (held_settled prompt id heard ps ms h line.roles) was is before after
