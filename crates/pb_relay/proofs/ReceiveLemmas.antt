-- The steps of a frame that is relayed, and of one whose source alone is learnt.
use Rattle.std.proofs.Common.{inl, inr, ◌≡◌, ℕ, ◌+◌, ◌-◌, ◌<◌, ◌≤◌, true, cond, ◌==◌, Some, None, List, [], ◌∷◌, ◌++◌}
use Rattle.std.proofs.Common.{length, get_or, refl, sym, ap, ◌∙◌, subst, arith}
use Rattle.std.specs.List.{AllByRecursion, filter, list_any}
use Rattle.std.specs.Option.{option_map}
use Rattle.std.specs.declared.option.Option.{Option}
use Rattle.std.proofs.lemmas.Bool.{eqb-true}
use Rattle.pb_frame.proofs.Lists.{All-filter, list_any-found, and-left, and-right}
use Rattle.pb_frame.specs.Frames.{dst_of, src_of, is_group}
use Rattle.pb_frame.specs.Lists.{first}
use Rattle.pb_frame.specs.Stations.{Sighting, standing, is_sighted, where_in, IsLearnt}
use Rattle.pb_frame.specs.declared.learnt.Learnt.{Learnt}
use Rattle.pb_lan.specs.Ports.{port_at, local_ports}
use Rattle.pb_lan.specs.Queues.{is_full, class_of, priority_in, vid_in, copy_of}
use Rattle.pb_relay.specs.declared.backlog.Capacity.{Capacity}
use Rattle.pb_relay.specs.Protocol.{spanning_tree}
use Rattle.pb_lan.specs.Shapes.{state_after, changes_of, is_forwarding}
use Rattle.pb_lan.specs.Choice.{now_after, news_of, found}
use Rattle.pb_lan.specs.BridgeLists.{ruling, Ruling, Follows, Fits, AreRefused}
use Rattle.pb_lan.specs.BridgeLists.Ruling.{Carries, LearnsOnly}
use Rattle.pb_lan.specs.declared.plan.Plan.{Plan}
use Rattle.pb_lan.specs.declared.shape.PortState.{PortState}
use Rattle.pb_lan.specs.declared.step.Item.{Item}
use Rattle.pb_lan.specs.declared.step.NoRoom.{NoRoom}
use Rattle.pb_lan.specs.declared.step.Outcome.{Outcome}
use Rattle.pb_lan.specs.declared.step.Outcome.TheVariants.{Relayed, Filtered}
use Rattle.pb_frame.specs.declared.reason.Reason.TheVariants.{NotForwarding, Memory as WantOfMemory}
use Rattle.pb_lan.specs.declared.step.Step.{Step}
use Rattle.pb_lan.specs.declared.step.Step.TheVariants.{Receive}
use Rattle.pb_relay.specs.declared.load.Load.{Load}
use Rattle.pb_relay.specs.PortKinds.{LocalPort}
use Rattle.pb_relay.specs.PortKinds.LocalPort.{ToNobody}
use Rattle.pb_relay.specs.Copies.{AreCopied, AreSeparate, copy_at}
use Rattle.pb_relay.specs.Loads.{IsLoadedAt, is_choice, is_member_of}
use Rattle.pb_relay.specs.LocalPorts.{IsConfigured}
use Rattle.pb_relay.specs.Standing.{IsStanding}
use Rattle.pb_relay.specs.Tables.{HasLearnt, IsTableOf}
use Rattle.pb_relay.proofs.ChosenLemmas.{chosen_ports_are, all_up}
use Rattle.pb_relay.proofs.EntryLemmas.{IsAdmitted, carried, forwards, overheard}
use Rattle.pb_relay.proofs.FoundLemmas.{learns_is}
use Rattle.pb_relay.proofs.LoadLemmas.{kept_here, member_used, sent_is}
use Rattle.pb_relay.proofs.RelayLemmas.{after_relayed, newer_stands, refusals_are}
use Rattle.pb_fdb.specs.Tables.{Table, where_in as place_in, is_full as is_full_table, learnt_table, sighting_at}
use Rattle.pb_relay.specs.declared.bridge.Bridge.TheInside.{Inside}
use Rattle.pb_relay.proofs.Keeping.{Keeps}
use Rattle.pb_relay.proofs.TableLemmas.{has_learnt, table_learnt}
use Rattle.pb_relay.proofs.StandingLemmas.{after_still}
use Rattle.pb_relay.proofs.StepLemmas.{states_stay, state_stays, now_more}

-- the step of a frame whose source is learnt
abbrev learnt_step : ℕ → Item → Learnt → Outcome → Step
learnt_step port item learnt outcome = Receive port item (Some learnt) outcome None

-- the table learnt the source in the service of its port
told : (plan : Plan) (b now port : ℕ) (item : Item) (vid : ℕ) (table newer : List Sighting) (learnt : Learnt)
    → IsAdmitted plan (port_at plan b port) item vid
    → HasLearnt plan.ageing now vid port (src_of item.wire) table learnt newer
    → HasLearnt plan.ageing now (vid_in plan (port_at plan b port) item.wire) port (src_of item.wire) table learnt newer
told plan b now port item vid table newer learnt a h =
    subst (λ (v : ℕ). HasLearnt plan.ageing now v port (src_of item.wire) table learnt newer) (sym a.service) h

-- the port of the destination in the table after the source is learnt is the one after the step
found_after : (plan : Plan) (b : ℕ) (steps : List Step) (states : List PortState) (queues : List (List (List Item)))
    (now : ℕ) (table newer : List Sighting) (port : ℕ) (item : Item)
    (learnt : Learnt) (outcome : Outcome) (vid : ℕ) (mac : List ℕ)
    → 0 < plan.ageing → IsStanding plan b steps states queues now table
    → HasLearnt plan.ageing now (vid_in plan (port_at plan b port) item.wire) port (src_of item.wire) table learnt newer
    → where_in plan.ageing now vid mac newer ≡ found plan b (steps ++ learnt_step port item learnt outcome ∷ []) vid mac
found_after plan b steps states queues now table newer port item learnt outcome vid mac ageing s h =
    let more = steps ++ learnt_step port item learnt outcome ∷ [] in
    let zero : now_after steps + 0 ≡ now_after steps = omega arith in
    ap (λ t. option_map (λ x. x.port) (first (is_sighted vid mac) t))
    (newer_stands plan b steps states queues now table newer port item learnt outcome ageing s h)
    ∙ ap (λ n. option_map (λ x. x.port) (first (is_sighted vid mac) (standing plan.ageing n (news_of plan b more))))
    (s.clock ∙ sym (now_more steps (learnt_step port item learnt outcome) ∙ zero))

-- a step of relaying may come after the earlier ones
relayed_fits : (plan : Plan) (b : ℕ) (steps : List Step) (states : List PortState)
    (queues : List (List (List Item))) (now : ℕ) (table newer : List Sighting)
    (ports : List LocalPort) (capacity : Capacity) (limit port vid : ℕ) (item : Item) (learnt : Learnt) (at : Option ℕ)
    (chosen : List ℕ) (refused : List (ℕ × NoRoom))
    → IsConfigured plan b ports capacity limit → IsStanding plan b steps states queues now table → 0 < plan.ageing
    → ruling spanning_tree plan b steps port item ≡ Carries vid
    → HasLearnt plan.ageing now vid port (src_of item.wire) table learnt newer
    → at ≡ cond (is_group (dst_of item.wire)) None (where_in plan.ageing now vid (dst_of item.wire) newer)
    → chosen ≡ filter (is_choice ports states port vid at) local_ports
    → AreRefused (is_full plan b steps (class_of (priority_in (port_at plan b port) item.wire))) chosen refused
    → Fits spanning_tree plan b steps (learnt_step port item learnt (Relayed chosen refused))
relayed_fits plan b steps states queues now table newer ports capacity limit port vid item learnt at chosen refused k
    s ageing r h e c f =
    let step = learnt_step port item learnt (Relayed chosen refused) in
    let a = carried plan (port_at plan b port) (state_after plan b steps port) item vid r in
    let t = told plan b now port item vid table newer learnt a h in
    let stay : states ≡ _ = s.kept_states ∙ sym (states_stay plan b steps step refl) in
    let forwarding : is_forwarding (state_after plan b (steps ++ step ∷ []) port) ≡ true =
    ap is_forwarding (state_stays plan b steps step port refl)
    ∙ forwards plan (port_at plan b port) port (changes_of steps) item vid r in
    subst (λ (g : Ruling). Follows spanning_tree plan b steps port item (Some learnt) (Relayed chosen refused) None g)
    (sym r)
    (inr (
      (learnt, refl, learns_is plan b steps states queues now table port item.wire learnt s t.answer),
      (
        c ∙ chosen_ports_are plan b (steps ++ step ∷ []) ports states capacity limit port vid item.wire at k stay
            forwarding
            (e ∙ ap (λ o. cond (is_group (dst_of item.wire)) None o)
            (found_after plan b steps states queues now table newer port item learnt (Relayed chosen refused) vid
            (dst_of item.wire) ageing s t)),
        f,
      ),
      refl,
    ))

-- a chosen port is a member of the service
chosen_member : (ports : List LocalPort) (states : List PortState) (port vid : ℕ) (at : Option ℕ) (p : ℕ)
    → is_choice ports states port vid at p ≡ true
    → is_member_of (get_or ports (p - 1) ToNobody) vid ≡ true
chosen_member ports states port vid at p h = and-right _ _ (and-right _ _ (and-left _ _ h))

-- the number is that of a local port
abbrev IsPlace : ℕ → Type 0
IsPlace p = (1 ≤ p) × (p ≤ 16)

places : AllByRecursion IsPlace local_ports
places = all_up IsPlace 16 1 (λ j a c. (a, omega arith))

-- each chosen port gets the copy that the definition gives
copies_are : (plan : Plan) (b : ℕ) (ports : List LocalPort) (states : List PortState) (capacity : Capacity)
    (limit port vid : ℕ)
    (at : Option ℕ) (item : Item) (load : Load) (p : ℕ)
    → IsConfigured plan b ports capacity limit → IsLoadedAt plan b (port_at plan b port) item.wire load
    → list_any (λ q. q == p) (filter (is_choice ports states port vid at) local_ports) ≡ true
    → copy_at ports load item p ≡ copy_of plan (port_at plan b port) (port_at plan b p) item
copies_are plan b ports states capacity limit port vid at item load p k h c =
    let f = list_any-found (λ q. IsPlace q × (is_choice ports states port vid at q ≡ true)) (λ q. q == p)
    (filter (is_choice ports states port vid at) local_ports) c
    (All-filter IsPlace (is_choice ports states port vid at) local_ports places) in
    let known : IsPlace p × (is_choice ports states port vid at p ≡ true) =
    subst (λ (q : ℕ). IsPlace q × (is_choice ports states port vid at q ≡ true)) (eqb-true f.0 p f.2) f.1 in
    let member = chosen_member ports states port vid at p known.1 in
    ap (λ wire. record { mark = item.mark; hops = item.hops + 1; wire = wire })
    (sent_is plan (port_at plan b p) (get_or ports (p - 1) ToNobody) vid item.wire load
    (kept_here plan b ports capacity limit p k known.0) member
    ∙ h.wires p known.0.0 known.0.1 (member_used plan (port_at plan b p) (get_or ports (p - 1) ToNobody) vid
    (kept_here plan b ports capacity limit p k known.0) member))

-- the table was given a source, and reported what it did
pub learnt_there : (s : Inside) (vid port : ℕ) (mac source : List ℕ) (newer : Table) (learnt : Learnt) → Keeps s
    → mac ≡ source
    → IsLearnt (is_group mac) (place_in s.forwarding.table s.clock vid mac)
    (is_full_table s.forwarding.table s.clock) port learnt
    → newer ≡ learnt_table s.forwarding.table (sighting_at vid mac port s.clock) learnt
    → HasLearnt s.plan.ageing s.clock vid port source s.forwarding.table.sightings learnt newer.sightings
    × IsTableOf s.plan s.clock newer
learnt_there s vid port mac source newer learnt k same answer table = (
  subst (λ (m : List ℕ). HasLearnt s.plan.ageing s.clock vid port m s.forwarding.table.sightings learnt
      newer.sightings) same
      (has_learnt s.plan s.clock vid port mac s.forwarding.table newer learnt
      (omega (arith, k.0.sound.limits.ageing.0)) k.3 answer table),
  table_learnt s.plan s.clock s.forwarding.table newer (sighting_at vid mac port s.clock) learnt k.3 refl table,
)

-- the step of a relayed frame may come there, and the invariant holds after it
pub relayed : (s : Inside) (new : List (List (List Item))) (newer : List Sighting) (port vid : ℕ) (item : Item)
    (load : Load) (learnt : Learnt) (at : Option ℕ) (chosen : List ℕ) (refused : List (ℕ × NoRoom)) → Keeps s
    → ruling spanning_tree s.plan s.number s.steps.steps port item ≡ Carries vid
    → IsLoadedAt s.plan s.number (port_at s.plan s.number port) item.wire load
    → HasLearnt s.plan.ageing s.clock vid port (src_of item.wire) s.forwarding.table.sightings learnt newer
    → at ≡ cond (is_group (dst_of item.wire)) None (where_in s.plan.ageing s.clock vid (dst_of item.wire) newer)
    → chosen ≡ filter (is_choice s.ports s.forwarding.states port vid at) local_ports → AreSeparate chosen
    → AreCopied s.forwarding.backlog.capacity load.class (copy_at s.ports load item) s.forwarding.backlog.ports chosen
    refused new → length new ≡ 16
    → Fits spanning_tree s.plan s.number s.steps.steps (learnt_step port item learnt (Relayed chosen refused))
    × IsStanding s.plan s.number (s.steps.steps ++ learnt_step port item learnt (Relayed chosen refused) ∷ [])
    s.forwarding.states new s.clock newer
relayed s new newer port vid item load learnt at chosen refused k r q h e c z f n =
    let few = k.0.sound.limits.ageing.0 in
    let ageing : 0 < s.plan.ageing = omega arith in
    let old = s.forwarding in
    let full = refusals_are s.plan s.number s.steps.steps old.states old.backlog.ports s.clock old.table.sightings
    old.backlog.capacity load.class chosen refused k.1 k.0.most (let l = q.eight in omega (arith, l)) z f.refusals in
    let fits = relayed_fits s.plan s.number s.steps.steps old.states old.backlog.ports s.clock old.table.sightings newer
    s.ports old.backlog.capacity s.limit port vid item learnt at chosen refused k.0 k.1 ageing r h e c
    (subst (λ (n : ℕ). AreRefused (is_full s.plan s.number s.steps.steps n) chosen refused) q.class full) in
    let a = carried s.plan (port_at s.plan s.number port) (state_after s.plan s.number s.steps.steps port) item vid r
    in (
      fits,
      after_relayed s.plan s.number s.steps.steps old.states old.backlog.ports new s.clock old.table.sightings newer
          port item learnt chosen refused old.backlog.capacity load.class (copy_at s.ports load item) k.1 fits full f n
          q.class q.eight
          (λ p m. copies_are s.plan s.number s.ports old.states old.backlog.capacity s.limit port vid at item load p
          k.0 q (subst (λ (ps : List ℕ). list_any (λ q. q == p) ps ≡ true) c m))
          ageing (told s.plan s.number s.clock port item vid old.table.sightings newer learnt a h),
    )

-- the step of a frame that is filtered because an allocation failed may come there
pub given_up : (plan : Plan) (b : ℕ) (steps : List Step) (port : ℕ) (item : Item) (vid : ℕ)
    → ruling spanning_tree plan b steps port item ≡ Carries vid
    → Fits spanning_tree plan b steps (Receive port item None (Filtered WantOfMemory) None)
given_up plan b steps port item vid r =
    subst (λ (g : Ruling). Follows spanning_tree plan b steps port item None (Filtered WantOfMemory) None g) (sym r)
    (inl (refl, refl, refl))

-- the step of a frame whose source alone is learnt may come there, and the invariant holds after it
pub learnt_alone : (s : Inside) (newer : List Sighting) (port vid : ℕ) (item : Item) (learnt : Learnt) → Keeps s
    → ruling spanning_tree s.plan s.number s.steps.steps port item ≡ LearnsOnly vid
    → HasLearnt s.plan.ageing s.clock vid port (src_of item.wire) s.forwarding.table.sightings learnt newer
    → Fits spanning_tree s.plan s.number s.steps.steps (learnt_step port item learnt (Filtered NotForwarding))
    × IsStanding s.plan s.number (s.steps.steps ++ learnt_step port item learnt (Filtered NotForwarding) ∷ [])
    s.forwarding.states s.forwarding.backlog.ports s.clock newer
learnt_alone s newer port vid item learnt k r h =
    let few = k.0.sound.limits.ageing.0 in
    let ageing : 0 < s.plan.ageing = omega arith in
    let old = s.forwarding in
    let step = learnt_step port item learnt (Filtered NotForwarding) in
    let a = overheard s.plan (port_at s.plan s.number port) (state_after s.plan s.number s.steps.steps port) item vid r
    in
    let t = told s.plan s.number s.clock port item vid old.table.sightings newer learnt a h in
    let fits : Fits spanning_tree s.plan s.number s.steps.steps step =
    subst (λ (g : Ruling). Follows spanning_tree s.plan s.number s.steps.steps port item (Some learnt)
    (Filtered NotForwarding) None g) (sym r) (
      (
        learnt,
        refl,
        learns_is s.plan s.number s.steps.steps old.states old.backlog.ports s.clock old.table.sightings
            port item.wire learnt k.1 t.answer,
      ),
      refl,
      refl,
    ) in (
      fits,
      after_still s.plan s.number s.steps.steps old.states old.backlog.ports s.clock old.table.sightings newer step k.1
          fits refl
          (newer_stands s.plan s.number s.steps.steps old.states old.backlog.ports s.clock old.table.sightings newer
          port item learnt (Filtered NotForwarding) ageing k.1 t)
          refl (λ _. refl) (λ _ _. refl),
    )
