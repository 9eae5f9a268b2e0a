-- What a bridge sends of a mark came by a walk from its entry that never turns back.
use Rattle.std.proofs.Common.{◌≡◌, inl, inr, ℕ, suc, ◌+◌, Some, true, false, ◌&&◌, ◌==◌, List, [], ◌∷◌, refl, sym}
use Rattle.std.proofs.Common.{◌∙◌, ap, subst, arith, length}
use Rattle.std.proofs.lemmas.Bool.{eqb-true, eq-eqb}
use Rattle.std.specs.Cmp.Derive.{both_true}
use Rattle.pb_frame.proofs.Lists.{Some-injective, true-false}
use Rattle.pb_lan.proofs.ForestEdges.{Edge, trees_of}
use Rattle.pb_lan.proofs.Handled.{state-of}
use Rattle.pb_lan.proofs.PortsInPlans.{end-of-near, end-of-far, both-ends, port_at-end, sound-end, IsEndOf, end-is-at}
use Rattle.pb_lan.proofs.Rulings.{IsLocal, IsChoice, carried-open, number-local}
use Rattle.pb_lan.proofs.UniqueWalks.{Walk, NotFirst}
use Rattle.pb_lan.specs.BridgeLists.{ruling, ruling_by}
use Rattle.pb_lan.specs.Forests.{HasEnds, Shows, Crosses}
use Rattle.pb_lan.specs.Laws.{chose}
use Rattle.pb_lan.specs.Numbering.{numbered}
use Rattle.pb_lan.specs.Plans.{IsSound, IsNumber}
use Rattle.pb_lan.specs.Ports.{Port, port_at, vid_at, is_member, is_end_at, serves}
use Rattle.pb_lan.specs.Queues.{copy_of}
use Rattle.pb_lan.specs.Rules.{Rules}
use Rattle.pb_lan.specs.Shapes.{state_after, states_after, state_in, is_forwarding, is_open, is_active}
use Rattle.pb_lan.specs.BridgeLists.Ruling.{Carries}
use Rattle.pb_lan.specs.Ports.Port.{Customer, Provider, Unused}
use Rattle.pb_lan.specs.declared.plan.CustomerPlan.{CustomerPlan}
use Rattle.pb_lan.specs.declared.plan.End.{End}
use Rattle.pb_lan.specs.declared.plan.LinkPlan.{LinkPlan}
use Rattle.pb_lan.specs.declared.plan.Plan.{Plan}
use Rattle.pb_lan.specs.declared.record.Record.{Record}
use Rattle.pb_lan.specs.declared.shape.Rooted.{Rooted}
use Rattle.pb_lan.specs.declared.shape.Shape.{Shape}
use Rattle.pb_lan.specs.declared.step.Item.{Item}
use Rattle.pb_lan.specs.declared.step.Mark.{Mark}
use Rattle.pb_lan.specs.declared.step.Step.{Step}

-- the port is not the one at which the walk reached the bridge
abbrev pub NotBack : Plan → CustomerPlan → ℕ → ℕ → List ℕ → Type 0
NotBack plan entry b r [] = r ≡ entry.port → ⊥
NotBack plan entry b r (k ∷ ks) = (link : LinkPlan) → numbered plan.links k ≡ Some link
    → (is_end_at b r link.a ≡ false) × (is_end_at b r link.b ≡ false)

-- the port is Forwarding in the shape, and a member of the service
abbrev pub IsExit : Plan → Shape → ℕ → ℕ → ℕ → Type 0
IsExit plan shape vid b r = (is_forwarding (state_in shape b r) ≡ true) × (is_member plan vid (port_at plan b r) ≡ true)

-- each bridge on the walk chose the next port for the mark, and the last bridge chose this port
abbrev pub ChosenBack : Plan → Shape → Record → Mark → ℕ → CustomerPlan → ℕ → ℕ → List ℕ → Type 0
ChosenBack plan shape rec mark vid entry b r [] = (entry.bridge ≡ b) × (chose rec mark b r ≡ true)
ChosenBack plan shape rec mark vid entry b r (k ∷ ks) =
    (chose rec mark b r ≡ true) × (near : End) × (far : End) × Crosses plan shape vid k near far × (far.bridge ≡ b)
    × ChosenBack plan shape rec mark vid entry near.bridge near.port ks

-- the item was queued at the port after a walk from the entry
pub record IsSent (plan : Plan) (shape : Shape) (rec : Record) (mark : Mark) (vid : ℕ) (entry : CustomerPlan)
    (b r : ℕ) (item : Item) : Type 0 where
  pub way : List ℕ
  pub walk : Walk (Edge plan shape vid) entry.bridge way b
  pub hops : item.hops ≡ length way + 1
  pub onward : NotBack plan entry b r way
  pub exit : IsExit plan shape vid b r
  pub chosen : ChosenBack plan shape rec mark vid entry b r way

-- the item was received over a link, from a port where it was queued after a walk
pub record IsCome (plan : Plan) (shape : Shape) (rec : Record) (mark : Mark) (vid : ℕ) (entry : CustomerPlan)
    (b q : ℕ) (item : Item) : Type 0 where
  pub number : ℕ
  pub link : LinkPlan
  pub near : End
  pub far : End
  pub numbered_so : numbered plan.links number ≡ Some link
  pub ends : HasEnds link near far
  pub bridge : far.bridge ≡ b
  pub port : far.port ≡ q
  pub sent : IsSent plan shape rec mark vid entry near.bridge near.port item

-- the item was received at its entry, or over a link
abbrev pub ComesBy : Plan → Shape → Record → Mark → ℕ → CustomerPlan → Port → ℕ → ℕ → Item → Type 0
ComesBy plan shape rec mark vid entry (Customer c) b q item = (b ≡ entry.bridge) × (q ≡ entry.port) × (item.hops ≡ 0)
ComesBy plan shape rec mark vid entry (Provider e) b q item = IsCome plan shape rec mark vid entry b q item
ComesBy plan shape rec mark vid entry Unused b q item = Unit {0}

-- a port with another number than an end's is not at that end
not-at : (b q r : ℕ) (e : End) → e.port ≡ q → (r == q) ≡ false → is_end_at b r e ≡ false
not-at b q r e h n = grind (arith, h, n)

-- a port of another bridge than an end's is not at that end
not-there : (b r : ℕ) (e : End) → (e.bridge ≡ b → ⊥) → is_end_at b r e ≡ false
not-there b r e n = elim (e.bridge == b) as (λ t. (e.bridge == b) ≡ t → (t && e.port == r) ≡ false)
    [ true ↦ λ h. absurd (n (eqb-true e.bridge b h)) | false ↦ λ h. refl ] refl

-- an edge joins two different bridges
edge-apart : (plan : Plan) (shape : Shape) (vid : ℕ) (rooted : Rooted) → Shows plan shape vid rooted → (k x : ℕ)
    → Edge plan shape vid k x x → ⊥
edge-apart plan shape vid rooted shows k x e =
    let t = trees_of plan shape vid rooted shows in
    elim (t.leads k x x e) [ inl h ↦ level x h.0 h.1 | inr h ↦ level x h.0 h.1 ]
  where
    level : (x : ℕ) → (trees_of plan shape vid rooted shows).up x ≡ Some k
        → (trees_of plan shape vid rooted shows).parent x ≡ x → ⊥
    level x u p =
        let t = trees_of plan shape vid rooted shows in
        let d = t.deeper k x u in
        let same_one : t.depth (t.parent x) ≡ t.depth x = ap t.depth p in
        omega (arith, d, same_one)

-- a link with two open ends is active
is-active : (plan : Plan) (shape : Shape) (vid : ℕ) (link : LinkPlan) (near far : End) → HasEnds link near far
    → is_open plan shape vid near ≡ true → is_open plan shape vid far ≡ true → is_active plan shape vid link ≡ true
is-active plan shape vid link near far ends p q =
    let b = both-ends (λ e. is_open plan shape vid e ≡ true) link near far ends p q in both_true b.0 b.1

-- the walk reached the bridge at this port
abbrev pub Origin : Plan → CustomerPlan → ℕ → ℕ → List ℕ → Type 0
Origin plan entry b q [] = (b ≡ entry.bridge) × (q ≡ entry.port)
Origin plan entry b q (k ∷ ks) =
    (link : LinkPlan) × (near : End) × (far : End) × (numbered plan.links k ≡ Some link) × HasEnds link near far
    × (far.bridge ≡ b) × (far.port ≡ q) × (near.bridge ≡ b → ⊥)

-- an end of a link is at one of the two ports of the link
not-elsewhere : (link : LinkPlan) (e : End) → IsEndOf link e
    → (is_end_at e.bridge e.port link.a ≡ false) × (is_end_at e.bridge e.port link.b ≡ false) → ⊥
not-elsewhere link e (inl h) n = true-false (is_end_at e.bridge e.port link.a)
    (subst (λ f. is_end_at e.bridge e.port f ≡ true) (sym h) (end-is-at e)) n.0
not-elsewhere link e (inr h) n = true-false (is_end_at e.bridge e.port link.b)
    (subst (λ f. is_end_at e.bridge e.port f ≡ true) (sym h) (end-is-at e)) n.1

-- the walk did not use the link over which it goes on
came-anew : {plan : Plan} {shape : Shape} {rec : Record} {mark : Mark} {vid : ℕ} {entry : CustomerPlan} {b q : ℕ}
    {item : Item} (come : IsCome plan shape rec mark vid entry b q item) → NotFirst come.number come.sent.way
came-anew {plan} {entry = entry} come = by come.sent.way come.sent.onward
  where
    by : (way : List ℕ) → NotBack plan entry come.near.bridge come.near.port way → NotFirst come.number way
    by [] n = tt
    by (l ∷ ls) n = λ h. not-elsewhere come.link come.near (end-of-near come.link come.near come.far come.ends)
        (n come.link (ap (numbered plan.links) (sym h) ∙ come.numbered_so))

-- the near end of the link by which the item was received is open
near-open : {plan : Plan} {shape : Shape} {rec : Record} {mark : Mark} {vid : ℕ} {entry : CustomerPlan} {b q : ℕ}
    {item : Item} → IsSound plan → (come : IsCome plan shape rec mark vid entry b q item)
    → is_open plan shape vid come.near ≡ true
near-open {plan} {vid = vid} sound come = both_true come.sent.exit.0 (subst (λ p. is_member plan vid p ≡ true)
    (port_at-end plan sound come.number come.link come.near come.numbered_so
    (end-of-near come.link come.near come.far come.ends)) come.sent.exit.1)

-- under a forest with this certificate a bridge carried an item of the mark from one port, and chose another port for
-- it
pub record IsCarriedOn (rules : Rules) (plan : Plan) (rec : Record) (shape : Shape) (entry : CustomerPlan)
    (mark : Mark) (rooted : Rooted) (b q r : ℕ) (item : Item) : Type 0 where
  pub sound : IsSound plan
  pub shows : Shows plan shape (vid_at plan entry) rooted
  pub earlier : List Step
  pub steps : List Step
  pub vid : ℕ
  pub vid_is : vid ≡ vid_at plan entry
  pub handled : numbered shape.states b ≡ Some (states_after plan b earlier)
  pub same_state : state_after plan b steps r ≡ state_after plan b earlier r
  pub choice : IsChoice plan b steps q vid r
  pub chosen : chose rec mark b r ≡ true
  pub carried : ruling rules plan b earlier q item ≡ Carries vid

-- the chosen port is Forwarding, and a member of the service
carried-exit : {rules : Rules} {plan : Plan} {rec : Record} {shape : Shape} {entry : CustomerPlan} {mark : Mark}
    {rooted : Rooted} {b q r : ℕ} {item : Item} → IsCarriedOn rules plan rec shape entry mark rooted b q r item
    → IsExit plan shape (vid_at plan entry) b r
carried-exit {plan = plan} {shape = shape} {b = b} {r = r} k = (
  ap is_forwarding (state-of plan shape b k.earlier r k.handled k.choice.local ∙ sym k.same_state)
      ∙ k.choice.forwarding,
  subst (λ v. is_member plan v (port_at plan b r) ≡ true) k.vid_is k.choice.member,
)

-- what is known of a carried item that was received over a link
module _ {rules : Rules} {plan : Plan} {rec : Record} {shape : Shape} {entry : CustomerPlan} {mark : Mark}
    {rooted : Rooted} {b q r : ℕ} {item : Item} (k : IsCarriedOn rules plan rec shape entry mark rooted b q r item)
    (come : IsCome plan shape rec mark (vid_at plan entry) entry b q item) where
  -- the far end of the link is open
  far-open : is_open plan shape (vid_at plan entry) come.far ≡ true
  far-open =
      let which : IsEndOf come.link come.far = end-of-far come.link come.near come.far come.ends in
      let there : port_at plan b q ≡ Provider come.far =
      subst (λ x. port_at plan x q ≡ Provider come.far) come.bridge
      (subst (λ y. port_at plan come.far.bridge y ≡ Provider come.far) come.port
      (port_at-end plan k.sound come.number come.link come.far come.numbered_so which)) in
      let opened = carried-open rules plan come.far (state_after plan b k.earlier q) item k.vid
      (subst (λ p. ruling_by rules plan p (state_after plan b k.earlier q) item ≡ Carries k.vid) there k.carried) in
      let local : IsLocal q = number-local q (subst (λ y. IsNumber y 16) come.port
      (sound-end plan k.sound come.number come.link come.far come.numbered_so which).port) in
      both_true
      (subst (λ y. is_forwarding (state_in shape come.far.bridge y) ≡ true) (sym come.port)
      (subst (λ x. is_forwarding (state_in shape x q) ≡ true) (sym come.bridge)
      (ap is_forwarding (state-of plan shape b k.earlier q k.handled local) ∙ opened.0)))
      (subst (λ n. serves plan n come.far ≡ true) k.vid_is opened.1)

  -- the item crossed an active link
  crossed : Crosses plan shape (vid_at plan entry) come.number come.near come.far
  crossed = record {
    link = come.link;
    numbered_so = come.numbered_so;
    active = is-active plan shape (vid_at plan entry) come.link come.near come.far come.ends
        (near-open k.sound come) far-open;
    ends = come.ends;
  }

  -- the link is an edge to this bridge
  crossed-edge : Edge plan shape (vid_at plan entry) come.number come.near.bridge b
  crossed-edge = (come.near, come.far, crossed, refl, come.bridge)

  -- the edge is from another bridge
  came-afar : come.near.bridge ≡ b → ⊥
  came-afar s = edge-apart plan shape (vid_at plan entry) rooted k.shows come.number b
      (subst (λ x. Edge plan shape (vid_at plan entry) come.number x b) s crossed-edge)

  -- the chosen port is at neither end of the link
  goes-elsewhere : (is_end_at b r come.link.a ≡ false) × (is_end_at b r come.link.b ≡ false)
  goes-elsewhere = both-ends (λ f. is_end_at b r f ≡ false) come.link come.near come.far come.ends
      (not-there b r come.near came-afar) (not-at b q r come.far come.port k.choice.other)

-- what is relayed goes on with the walk
pub relayed-on : {rules : Rules} {plan : Plan} {rec : Record} {shape : Shape} {entry : CustomerPlan} {mark : Mark}
    {rooted : Rooted} {b q r : ℕ} {item : Item} (k : IsCarriedOn rules plan rec shape entry mark rooted b q r item)
    (port : Port) → port_at plan b q ≡ port → ComesBy plan shape rec mark (vid_at plan entry) entry port b q item
    → (s : IsSent plan shape rec mark (vid_at plan entry) entry b r
    (copy_of plan (port_at plan b q) (port_at plan b r) item)) × Origin plan entry b q s.way
relayed-on {r = r} k (Customer c) at come = (
  record {
    way = [];
    walk = sym come.0;
    hops = ap (λ n. n + 1) come.2;
    onward = λ h. true-false _ (eq-eqb r _ (h ∙ sym come.1)) k.choice.other;
    exit = carried-exit k;
    chosen = (sym come.0, k.chosen);
  },
  (come.0, come.1),
)
relayed-on {plan = plan} {b = b} {r = r} k (Provider e) at come = (
  record {
    way = come.number ∷ come.sent.way;
    walk = (come.near.bridge, crossed-edge k come, came-anew come, come.sent.walk);
    hops = ap (λ n. n + 1) come.sent.hops ∙ longer (length come.sent.way);
    onward = λ link h. subst (λ l. (is_end_at b r l.a ≡ false) × (is_end_at b r l.b ≡ false))
        (Some-injective (sym come.numbered_so ∙ h)) (goes-elsewhere k come);
    exit = carried-exit k;
    chosen = (k.chosen, come.near, come.far, crossed k come, come.bridge, come.sent.chosen);
  },
  (come.link, come.near, come.far, come.numbered_so, come.ends, come.bridge, come.port, came-afar k come),
)
  where
    longer : (n : ℕ) → n + 1 + 1 ≡ suc n + 1
    longer n = omega arith
relayed-on {rules} {plan} {b = b} {q = q} {item = item} k Unused at come =
    let closed = subst (λ p. ruling_by rules plan p (state_after plan b k.earlier q) item ≡ Carries k.vid) at k.carried
    in cc
