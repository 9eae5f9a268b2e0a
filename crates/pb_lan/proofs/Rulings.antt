-- What a ruling to relay a frame says of the frame, its port and the ports to which it goes.
use Rattle.std.proofs.Common.{map, ◌≡◌, inl, inr, ℕ, ◌<◌, ◌≤◌, Some, None, Option, Bool, true, false, cond, not, ◌&&◌}
use Rattle.std.proofs.Common.{◌==◌, List, [], ◌∷◌, ◌++◌, refl, sym, subst, unwrap_or, arith, nat_lt, length, suc}
use Rattle.std.proofs.Common.{zero}
use Rattle.std.specs.List.{AllByRecursion, filter, list_any}
use Rattle.std.proofs.lemmas.Bool.{eqb-true, not-true, not-false}
use Rattle.std.specs.Option.{option_map}
use Rattle.pb_frame.proofs.Lists.{and-left, and-right, All-imply, All-filter, list_any-found}
use Rattle.pb_lan.proofs.Cases.{none-holds, neither-left, neither-right, is_malformed, is_not_member}
use Rattle.pb_lan.proofs.Numbers.{numbered-All}
use Rattle.pb_frame.specs.Frames.{dst_of, is_group}
use Rattle.pb_frame.specs.Tags.{vid_of}
use Rattle.pb_lan.specs.BridgeLists.{ruling, Ruling, first_case, customer_cases, provider_cases, is_for_bridges}
use Rattle.pb_lan.specs.BridgeLists.{ruling_in, Follows, IsOwn}
use Rattle.pb_lan.specs.Choice.{flood, narrowed, found, chosen_ports}
use Rattle.pb_lan.specs.Numbering.{numbered}
use Rattle.pb_lan.specs.Plans.{IsSound, IsNumber}
use Rattle.pb_lan.specs.Ports.{serves, port_at, local_ports, vid_at, is_member}
use Rattle.pb_lan.specs.Rules.{Rules}
use Rattle.pb_lan.specs.Shapes.{state_after, is_forwarding, moved_part}
use Rattle.pb_frame.specs.declared.learnt.Learnt.{Learnt}
use Rattle.pb_lan.specs.BridgeLists.Ruling.{Refuses, Listens, LearnsOnly, Carries, Closed}
use Rattle.pb_lan.specs.declared.plan.Plan.{Plan}
use Rattle.pb_lan.specs.declared.plan.End.{End}
use Rattle.pb_lan.specs.declared.plan.ServicePlan.{ServicePlan}
use Rattle.pb_lan.specs.declared.plan.CustomerPlan.{CustomerPlan}
use Rattle.pb_lan.specs.declared.shape.PortState.{PortState}
use Rattle.pb_lan.specs.declared.shape.PortState.TheVariants.{Forwarding}
use Rattle.pb_lan.specs.declared.step.Item.{Item}
use Rattle.pb_lan.specs.declared.step.Moved.{Moved}
use Rattle.pb_lan.specs.declared.step.NoRoom.{NoRoom}
use Rattle.pb_lan.specs.declared.step.Outcome.{Outcome}
use Rattle.pb_lan.specs.declared.step.Outcome.TheVariants.{Relayed}
use Rattle.pb_lan.specs.declared.step.Step.{Step}
use Rattle.pb_lan.specs.declared.step.Step.TheVariants.{Receive}

-- rulings to relay in two services are the same only if the services are
carries-injective : (a b : ℕ) → Carries a ≡ Carries b → a ≡ b
carries-injective a b h = cc

-- a frame that is relayed from a customer port has at least 14 octets, and goes in the port's service
pub carried-customer : (plan : Plan) (c : CustomerPlan) (item : Item) (v : ℕ)
    → first_case (customer_cases item) (Carries (vid_at plan c)) ≡ Carries v
    → (14 ≤ length item.wire) × (vid_at plan c ≡ v)
carried-customer plan c item v h =
    let a = none-holds (customer_cases item) (Carries (vid_at plan c)) (Carries v) refl refl h in
    (long (length item.wire) (neither-left _ _ (a.0 is_malformed)), carries-injective _ v a.1)
  where
    long : (n : ℕ) → nat_lt n 14 ≡ false → 14 ≤ n
    long n h = grind (arith, h)

-- a frame that is relayed from a provider port is not for bridges, and goes in its tag's service
pub carried-provider : (rules : Rules) (plan : Plan) (e : End) (state : PortState) (item : Item) (v : ℕ)
    → first_case (provider_cases rules plan e item) (ruling_in state (vid_of item.wire)) ≡ Carries v
    → (is_for_bridges item.wire ≡ false) × (vid_of item.wire ≡ v)
carried-provider rules plan e state item v h =
    let a = none-holds (provider_cases rules plan e item) (ruling_in state (vid_of item.wire)) (Carries v) refl refl h
    in
    (neither-left (is_for_bridges item.wire) _ (neither-right _ _ (a.0 is_malformed)), in_state state a.1)
  where
    in_state : (s : PortState) → ruling_in s (vid_of item.wire) ≡ Carries v → vid_of item.wire ≡ v
    in_state Forwarding h = carries-injective _ v h
    in_state _ h = cc

-- a step that reports no changes queues no BPDU
none-own : (plan : Plan) (b : ℕ) (moved : Option Moved) → moved ≡ None
    → AllByRecursion (λ m. AllByRecursion (IsOwn plan b) m.queued) (moved_part moved)
none-own plan b moved e = subst (λ o. AllByRecursion (λ m. AllByRecursion (IsOwn plan b) m.queued) (moved_part o))
    (sym e) tt

-- what a step of receiving queues as the bridge's own is for other bridges
pub follows-own : (rules : Rules) (plan : Plan) (b : ℕ) (earlier : List Step) (q : ℕ) (item : Item)
    (learnt : Option Learnt)
    (outcome : Outcome) (moved : Option Moved) (g : Ruling)
    → Follows rules plan b earlier q item learnt outcome moved g
    → AllByRecursion (λ m. AllByRecursion (IsOwn plan b) m.queued) (moved_part moved)
follows-own rules plan b earlier q item learnt outcome moved (Refuses r) h = none-own plan b moved h.2
follows-own rules plan b earlier q item learnt outcome moved Listens (inl h) = none-own plan b moved h.2
follows-own rules plan b earlier q item learnt outcome moved Listens (inr h) =
    subst (λ o. AllByRecursion (λ m. AllByRecursion (IsOwn plan b) m.queued) (moved_part o)) (sym h.2.1) (h.2.2.own, tt)
follows-own rules plan b earlier q item learnt outcome moved (LearnsOnly v) h = none-own plan b moved h.2
follows-own rules plan b earlier q item learnt outcome moved (Carries v) (inl h) = none-own plan b moved h.2
follows-own rules plan b earlier q item learnt outcome moved (Carries v) (inr h) = none-own plan b moved h.2
follows-own rules plan b earlier q item learnt outcome moved Closed h = absurd h

-- the VID of a customer port's service is below 4,096
pub vid_at-small : (plan : Plan) (c : CustomerPlan) → IsSound plan → vid_at plan c < 4096
vid_at-small plan c sound = by_service (numbered plan.services c.service) refl
  where
    by_service : (o : Option ServicePlan) → numbered plan.services c.service ≡ o
        → unwrap_or (option_map (λ s. s.vid) o) 0 < 4096
    by_service None e = omega arith
    by_service (Some s) e = let n = numbered-All (λ s. IsNumber s.vid 4094) plan.services c.service s e sound.vids
        in omega (arith, n.1)

-- a frame is relayed from a provider port only if the port is Forwarding and a member of the frame's service
pub carried-open : (rules : Rules) (plan : Plan) (e : End) (state : PortState) (item : Item) (v : ℕ)
    → first_case (provider_cases rules plan e item) (ruling_in state (vid_of item.wire)) ≡ Carries v
    → (is_forwarding state ≡ true) × (serves plan v e ≡ true)
carried-open rules plan e state item v h =
    let a = none-holds (provider_cases rules plan e item) (ruling_in state (vid_of item.wire)) (Carries v) refl refl h
    in
    let w = (carried-provider rules plan e state item v h).1 in (
      in_state state a.1,
      subst (λ n. serves plan n e ≡ true) w
          (not-false (serves plan (vid_of item.wire) e) (neither-left _ _ (a.0 is_not_member))),
    )
  where
    in_state : (s : PortState) → ruling_in s (vid_of item.wire) ≡ Carries v → is_forwarding s ≡ true
    in_state Forwarding h = refl
    in_state _ h = cc

-- a step of relaying was ruled to relay, changes no state, and has the ports that the definition gives after the step
pub follows-relayed : (rules : Rules) (plan : Plan) (b : ℕ) (earlier : List Step) (q : ℕ) (item : Item)
    (learnt : Option Learnt)
    (chosen : List ℕ) (refused : List (ℕ × NoRoom)) (moved : Option Moved) (g : Ruling)
    → Follows rules plan b earlier q item learnt (Relayed chosen refused) moved g
    → (v : ℕ) × (g ≡ Carries v)
    × (chosen ≡ chosen_ports plan b (earlier ++ Receive q item learnt (Relayed chosen refused) moved ∷ []) q v
    item.wire) × (moved ≡ None)
follows-relayed rules plan b earlier q item learnt chosen refused moved (Refuses r) h = let e = h.1 in cc
follows-relayed rules plan b earlier q item learnt chosen refused moved Listens (inl h) = let e = h.1 in cc
follows-relayed rules plan b earlier q item learnt chosen refused moved Listens (inr h) = let e = h.1 in cc
follows-relayed rules plan b earlier q item learnt chosen refused moved (LearnsOnly v) h = let e = h.1 in cc
follows-relayed rules plan b earlier q item learnt chosen refused moved (Carries v) (inl h) = let e = h.1 in cc
follows-relayed rules plan b earlier q item learnt chosen refused moved (Carries v) (inr h) = (v, refl, h.1.0, h.2)
follows-relayed rules plan b earlier q item learnt chosen refused moved Closed h = absurd h

-- the number is that of a local port: a list by local port has its entry
abbrev pub IsLocal : ℕ → Type 0
IsLocal p = (f : ℕ → PortState) → numbered (map f local_ports) p ≡ Some (f p)

-- all local ports are such numbers
pub all-local : AllByRecursion IsLocal local_ports
all-local = (
  λ f. refl,
  (
    λ f. refl,
    (
      λ f. refl,
      (
        λ f. refl,
        (
          λ f. refl,
          (
            λ f. refl,
            (
              λ f. refl,
              (
                λ f. refl,
                (
                  λ f. refl,
                  (
                    λ f. refl,
                    (
                      λ f. refl,
                      (λ f. refl, (λ f. refl, (λ f. refl, (λ f. refl, (λ f. refl, tt))))),
                    ),
                  ),
                ),
              ),
            ),
          ),
        ),
      ),
    ),
  ),
)

-- the numbers 1 to 16 are the local ports
pub local-listed : (n : ℕ) → IsNumber n 16 → list_any (λ p. p == n) local_ports ≡ true
local-listed zero h = absurd (omega (arith, h.0))
local-listed (suc (suc (suc (suc (suc (suc (suc (suc (suc (suc (suc (suc (suc (suc (suc (suc zero)))))))))))))))) h =
    refl
local-listed (suc (suc (suc (suc (suc (suc (suc (suc (suc (suc (suc (suc (suc (suc (suc (suc (suc n))))))))))))))))) h
    = absurd (omega (arith, h.1))
local-listed _ h = refl

-- each number 1 to 16 is that of a local port
pub number-local : (p : ℕ) → IsNumber p 16 → IsLocal p
number-local p h = let found = list_any-found IsLocal (λ x. x == p) local_ports (local-listed p h) all-local in subst
    IsLocal (eqb-true found.0 p found.2) found.1

-- the chosen port is another local port, Forwarding, and a member of the service
pub record IsChoice (plan : Plan) (b : ℕ) (steps : List Step) (q v p : ℕ) : Type 0 where
  pub other : (p == q) ≡ false
  pub forwarding : is_forwarding (state_after plan b steps p) ≡ true
  pub member : is_member plan v (port_at plan b p) ≡ true
  pub local : IsLocal p

-- each chosen port is such a port
pub chosen-choice : (plan : Plan) (b : ℕ) (steps : List Step) (q v : ℕ) (wire : List ℕ)
    → AllByRecursion (IsChoice plan b steps q v) (chosen_ports plan b steps q v wire)
chosen-choice plan b steps q v wire =
    let ports = flood plan b steps q v in
    let at = found plan b steps v (dst_of wire) in
    let test : ℕ → Bool = λ p. not (p == q) && (is_forwarding (state_after plan b steps p) && is_member plan v
    (port_at plan b p)) in
    let all : AllByRecursion (IsChoice plan b steps q v) ports =
    All-imply (λ p. IsLocal p × (test p ≡ true)) (IsChoice plan b steps q v)
    (λ p h. record {
      other = not-true (p == q) (and-left _ _ h.1);
      forwarding = and-left _ _ (and-right _ _ h.1);
      member = and-right _ _ (and-right _ _ h.1);
      local = h.0;
    })
    ports (All-filter IsLocal test local_ports all-local) in
    elim (is_forwarding (state_after plan b steps q)) as
    (λ f. AllByRecursion (IsChoice plan b steps q v)
    (cond f (cond (is_group (dst_of wire)) ports (narrowed ports at)) [])) [
      | true ↦ elim (is_group (dst_of wire)) as
          (λ g. AllByRecursion (IsChoice plan b steps q v) (cond g ports (narrowed ports at)))
          [ true ↦ all | false ↦ narrow at all ]
      | false ↦ tt
    ]
  where
    narrow : (o : Option ℕ) → AllByRecursion (IsChoice plan b steps q v) (flood plan b steps q v)
        → AllByRecursion (IsChoice plan b steps q v) (narrowed (flood plan b steps q v) o)
    narrow None a = a
    narrow (Some at) a =
        All-imply (λ p. IsChoice plan b steps q v p × ((p == at) ≡ true)) (IsChoice plan b steps q v) (λ p h. h.0)
        (filter (λ p. p == at) (flood plan b steps q v))
        (All-filter (IsChoice plan b steps q v) (λ p. p == at) (flood plan b steps q v) a)

-- each port to which a frame was relayed is such a port after the step
pub chosen-there : (rules : Rules) (plan : Plan) (b r : ℕ) (earlier : List Step) (q : ℕ) (item : Item)
    (learnt : Option Learnt)
    (chosen : List ℕ) (refused : List (ℕ × NoRoom)) (moved : Option Moved)
    → (follows : Follows rules plan b earlier q item learnt (Relayed chosen refused) moved
    (ruling rules plan b earlier q item))
    → list_any (λ p. p == r) chosen ≡ true
    → IsChoice plan b (earlier ++ Receive q item learnt (Relayed chosen refused) moved ∷ []) q
    (follows-relayed rules plan b earlier q item learnt chosen refused moved (ruling rules plan b earlier q item)
    follows).0 r
chosen-there rules plan b r earlier q item learnt chosen refused moved follows contains =
    let f = follows-relayed rules plan b earlier q item learnt chosen refused moved
    (ruling rules plan b earlier q item) follows in
    let steps = earlier ++ Receive q item learnt (Relayed chosen refused) moved ∷ [] in
    let all : AllByRecursion (IsChoice plan b steps q f.0) chosen =
    subst (AllByRecursion (IsChoice plan b steps q f.0)) (sym f.2) (chosen-choice plan b steps q f.0 item.wire) in
    let p = list_any-found (IsChoice plan b steps q f.0) (λ p. p == r) chosen contains all in
    subst (IsChoice plan b steps q f.0) (eqb-true p.0 r p.2) p.1
