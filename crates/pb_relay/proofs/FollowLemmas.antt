-- A bridge that has applied the changes of its spanning tree.
use Rattle.std.proofs.Common.{true, false, not, cond, arith, inr, ◌≡◌, ◌<◌, ◌≤◌, ℕ, ◌+◌, Some, None, List, [], ◌∷◌}
use Rattle.std.proofs.Common.{◌++◌, map, refl, sym, ap, ◌∙◌}
use Rattle.std.proofs.Common.{subst}
use Rattle.std.specs.List.{AllByRecursion, filter}
use Rattle.std.specs.declared.option.Option.{Option}
use Rattle.std.specs.Option.{option_to_list}
use Rattle.pb_fdb.specs.Tables.{Table, flushed, expired}
use Rattle.pb_frame.specs.Stations.{is_fresh, standing}
use Rattle.pb_frame.specs.Stations.News.{Flushed}
use Rattle.pb_lan.specs.BridgeLists.{Ruling, ruling, Follows, Fits, Names, AreRefused, own_item, replaced_by}
use Rattle.pb_lan.specs.BridgeLists.Ruling.{Listens}
use Rattle.pb_lan.specs.Choice.{now_after, news_of, ticked, sightings}
use Rattle.pb_lan.specs.Queues.{Waiting, waiting, relayed_by, after_sending, is_full, is_refused, own_class}
use Rattle.pb_lan.specs.Queues.{replaced_in, capacity_of}
use Rattle.pb_lan.specs.declared.plan.Queues.{Queues}
use Rattle.pb_lan.specs.declared.plan.Queues.TheVariants.{PerPort, PerClass}
use Rattle.pb_lan.specs.declared.step.NoRoom.{NoRoom}
use Rattle.pb_lan.specs.Rules.{Cause}
use Rattle.pb_lan.specs.Rules.Cause.{Hears, Ticks}
use Rattle.pb_lan.specs.Shapes.{moved_of}
use Rattle.pb_lan.specs.declared.plan.Plan.{Plan}
use Rattle.pb_lan.specs.declared.shape.PortState.{PortState}
use Rattle.pb_lan.specs.declared.step.Item.{Item}
use Rattle.pb_lan.specs.declared.step.Moved.{Moved}
use Rattle.pb_lan.specs.declared.step.Outcome.TheVariants.{Heard}
use Rattle.pb_lan.specs.declared.step.Step.{Step}
use Rattle.pb_lan.specs.declared.step.Step.TheVariants.{Receive, Tick}
use Rattle.pb_rstp.specs.Ports.{Machine}
use Rattle.pb_rstp.specs.declared.change.Change.{Change}
use Rattle.pb_relay.specs.Bpdus.{frames_of}
use Rattle.pb_relay.specs.Following.{IsOfPorts, HasFollowed}
use Rattle.pb_relay.specs.Machines.{change_next, machine_next}
use Rattle.pb_relay.specs.Backlogs.{older_in}
use Rattle.pb_relay.specs.Copies.{AreCopied, AreSeparate}
use Rattle.pb_relay.specs.Moves.{all_flushed, own_at, own_queued, own_replaced, places_of, states_changed, IsBridgePort}
use Rattle.pb_relay.specs.declared.backlog.Capacity.{Capacity}
use Rattle.pb_relay.specs.declared.forwarding.Forwarding.{Forwarding}
use Rattle.pb_relay.specs.Protocol.{spanning_tree}
use Rattle.pb_relay.specs.Standing.{IsStanding, BridgeView}
use Rattle.pb_relay.specs.Tables.{IsTableOf}
use Rattle.pb_relay.proofs.CauseLemmas.{is_running, names_change, sends_apart, states_placed, states_within}
use Rattle.pb_relay.proofs.CauseLemmas.{spanning_moves}
use Rattle.pb_relay.proofs.MovedLemmas.{after_moved, stations_flushed}
use Rattle.pb_relay.proofs.RelayLemmas.{refusals_are}
use Rattle.pb_fdb.proofs.LawLemmas.{live-dropped}
use Rattle.pb_relay.proofs.GrowthLemmas.{older_is}
use Rattle.pb_relay.proofs.StandingLemmas.{kept_at, standing_later}
use Rattle.pb_relay.proofs.Keeping.{shown, Keeps, grown}
use Rattle.pb_relay.specs.declared.bridge.Bridge.TheInside.{Inside}
use Rattle.pb_history.specs.StepLists.{StepsView, with_step as steps_with}
use Rattle.pb_rstp.specs.Profile.{causes_of}
use Rattle.pb_relay.proofs.TableLemmas.{live_expired, table_expired}

-- a learning table stays the bridge's when ports are flushed
table_all_flushed : (plan : Plan) (now : ℕ) (old : Table) (ports : List ℕ) → IsTableOf plan now old
    → IsTableOf plan now (all_flushed old ports)
table_all_flushed plan now old [] t = t
table_all_flushed plan now old (p ∷ ps) t = table_all_flushed plan now (flushed old p) ps
    (record { limit = t.limit; ageing = t.ageing; in_time = t.in_time })

-- the copies of the BPDUs, in the class that the plan gives them
copied_so : (s : Inside) (change : Change) (moved : Moved) (table : Table) (new : Forwarding) → Keeps s
    → HasFollowed s.address.0 change (record s.forwarding { table = table }) moved new
    → AreCopied s.forwarding.backlog.capacity (own_class s.plan.queues) (own_at (frames_of s.address.0 change.send))
    s.forwarding.backlog.ports (places_of (frames_of s.address.0 change.send)) moved.dropped new.backlog.ports
copied_so s change moved table new k f =
    subst (λ (c : Capacity). AreCopied s.forwarding.backlog.capacity (own_class c.queues)
    (own_at (frames_of s.address.0 change.send)) s.forwarding.backlog.ports
    (places_of (frames_of s.address.0 change.send)) moved.dropped new.backlog.ports) k.0.most f.copied

-- a machine's change is of local ports
pub of_ports : (s : Inside) (cause : Cause) (change : Change) → Keeps s → change_next s.rstp cause ≡ Some change
    → IsOfPorts s.address.0 change
of_ports s cause change k some =
    let running = is_running s.plan s.number s.steps.steps s.rstp s.address.0 cause change k.4 some in
    let apart = sends_apart s.plan s.number s.steps.steps cause change s.address.0 running.1 in
    record {
      within = states_within s.plan s.number s.steps.steps cause change running.1;
      separate = apart.0;
      few = apart.1;
    }

-- a BPDU is dropped as full if and only if the queue of its port is full
unsent_are : (s : Inside) (cause : Cause) (change : Change) (moved : Moved) (table : Table) (new : Forwarding) → Keeps s
    → change_next s.rstp cause ≡ Some change
    → HasFollowed s.address.0 change (record s.forwarding { table = table }) moved new
    → AreRefused (is_full s.plan s.number s.steps.steps (own_class s.plan.queues))
    (places_of (frames_of s.address.0 change.send)) moved.dropped
unsent_are s cause change moved table new k some f =
    refusals_are s.plan s.number s.steps.steps s.forwarding.states s.forwarding.backlog.ports s.clock
    s.forwarding.table.sightings s.forwarding.backlog.capacity (own_class s.plan.queues)
    (places_of (frames_of s.address.0 change.send))
    moved.dropped k.1 k.0.most (nine s.plan.queues) (of_ports s cause change k some).separate
    (copied_so s change moved table new k f).refusals
  where
    nine : (queues : Queues) → own_class queues < 9
    nine PerPort = omega arith
    nine PerClass = omega arith

-- the ports of the BPDUs that were queued are 1 to 16
placed-own : (dropped : List (ℕ × NoRoom)) (sends : List (ℕ × List ℕ)) → AreSeparate (places_of sends)
    → AllByRecursion (λ (q : ℕ × Item). (1 ≤ q.0) × (q.0 ≤ 16)) (own_queued dropped sends)
placed-own dropped [] a = tt
placed-own dropped (s ∷ ss) a =
    elim (is_refused dropped s.0)
    as (λ b. AllByRecursion (λ (q : ℕ × Item). (1 ≤ q.0) × (q.0 ≤ 16)) (map own_item
    (cond (not b) (s ∷ filter (λ z. not (is_refused dropped z.0)) ss)
    (filter (λ z. not (is_refused dropped z.0)) ss))))
    [ true ↦ placed-own dropped ss a.2 | false ↦ (a.0, placed-own dropped ss a.2) ]

-- the replaced BPDUs are those that waited
replaced_are : (s : Inside) (queued : List (ℕ × Item)) → Keeps s
    → AllByRecursion (λ (q : ℕ × Item). (1 ≤ q.0) × (q.0 ≤ 16)) queued
    → own_replaced s.plan.queues s.forwarding.backlog.ports queued
    ≡ replaced_by s.plan s.number s.steps.steps queued
replaced_are s [] k a = refl
replaced_are s (q ∷ qs) k a =
    ap (λ zs. zs ++ own_replaced s.plan.queues s.forwarding.backlog.ports qs)
    (ap (λ z. map {B = ℕ × Item} (λ item. (q.0, item)) (option_to_list (older_in s.plan.queues z)))
    (kept_at s.plan s.number s.steps.steps s.forwarding.states s.forwarding.backlog.ports s.clock
    s.forwarding.table.sightings q.0 k.1 a.0)
    ∙ older_is s.plan.queues (capacity_of s.plan s.number) q.0 (waiting s.plan s.number q.0 s.steps.steps)
    (k.1.classes q.0) (k.1.within q.0))
    ∙ ap (λ zs. map {B = ℕ × Item} (λ w. (q.0, w.item))
    (replaced_in s.plan.queues (waiting s.plan s.number q.0 s.steps.steps)) ++ zs)
    (replaced_are s qs k a.1)

-- the step reports what the machine changes
pub followed_names : (s : Inside) (cause : Cause) (change : Change) (moved : Moved) (table : Table) (new : Forwarding)
    → Keeps s → change_next s.rstp cause ≡ Some change
    → HasFollowed s.address.0 change (record s.forwarding { table = table }) moved new
    → Names spanning_tree s.plan s.number s.steps.steps cause moved
followed_names s cause change moved table new k some f =
    let running = is_running s.plan s.number s.steps.steps s.rstp s.address.0 cause change k.4 some in
    names_change s.plan s.number s.steps.steps cause change moved (frames_of s.address.0 change.send) running.0
    running.1 (ap (λ a. frames_of a change.send) k.4.kept_address) f.told f.flushed f.queued
    (f.replaced ∙ ap (λ (c : Capacity). own_replaced c.queues s.forwarding.backlog.ports moved.queued) k.0.most
    ∙ replaced_are s moved.queued k
    (subst (AllByRecursion (λ (q : ℕ × Item). (1 ≤ q.0) × (q.0 ≤ 16))) (sym f.queued)
    (placed-own moved.dropped (frames_of s.address.0 change.send) (of_ports s cause change k some).separate)))
    (unsent_are s cause change moved table new k some f)

-- the bridge's state follows from its steps after it has applied a change
pub after_followed : {v : BridgeView} (s : Inside) (cause : Cause) (change : Change) (moved : Moved) (table : Table)
    (new : Forwarding) (later : ℕ) (rstp : Option Machine) (steps : StepsView) (step : Step)
    → Keeps s → shown s ≡ v → v.is_reserved ≡ true → change_next s.rstp cause ≡ Some change
    → HasFollowed s.address.0 change (record s.forwarding { table = table }) moved new
    → rstp ≡ machine_next s.rstp cause → steps ≡ steps_with s.steps step → causes_of step ≡ cause ∷ []
    → Fits spanning_tree s.plan s.number s.steps.steps step
    → moved_of step ≡ moved ∷ [] → ((r : ℕ) → relayed_by s.plan s.number r step ≡ [])
    → ((r : ℕ) (ws : List Waiting) → after_sending r step ws ≡ ws)
    → sightings s.plan s.number (now_after s.steps.steps) step ≡ [] → later ≡ s.clock + ticked step
    → IsTableOf s.plan later table
    → filter (is_fresh s.plan.ageing later) table.sightings ≡ standing s.plan.ageing later
    (news_of s.plan s.number s.steps.steps)
    → Keeps (record s { forwarding = new; clock = later; rstp = rstp; steps = steps })
after_followed s cause change moved table new later rstp steps step k view room some f machine grows causes fits told
    unrelayed unsent unseen clock of_plan stations =
    let running = is_running s.plan s.number s.steps.steps s.rstp s.address.0 cause change k.4 some in
    grown s new later rstp steps step k view room grows f.backlog_kept.capacity f.backlog_kept.is_kept
    (subst (λ (ss : List PortState). IsStanding s.plan s.number (s.steps.steps ++ step ∷ []) ss new.backlog.ports later
    new.table.sightings)
    (ap (states_changed s.forwarding.states) f.told ∙ sym f.set_states)
    (after_moved s.plan s.number s.steps.steps s.forwarding.states s.forwarding.backlog.ports new.backlog.ports s.clock
    later s.forwarding.table.sightings new.table.sightings step moved (frames_of s.address.0 change.send)
    s.forwarding.backlog.capacity k.1 fits
    (record {
      told = told;
      unrelayed = unrelayed;
      unsent = unsent;
      unseen = unseen;
      queued = f.queued;
      refused = unsent_are s cause change moved table new k some f;
      separate = (of_ports s cause change k some).separate;
      bridges = subst (λ (cs : List (ℕ × PortState)). AllByRecursion
          (λ (c : ℕ × PortState). IsBridgePort s.plan s.number c.0) cs) (sym f.told)
          (states_placed s.plan s.number s.steps.steps cause change running.1);
    })
    clock (copied_so s change moved table new k f) f.count
    (ap (λ (t : Table). filter (is_fresh s.plan.ageing later) t.sightings) f.flushed_table
    ∙ stations_flushed s.plan.ageing later (news_of s.plan s.number s.steps.steps) table change.flush stations
    ∙ ap (λ ps. standing s.plan.ageing later (news_of s.plan s.number s.steps.steps ++ map (λ port. Flushed port) ps))
    (sym f.flushed))))
    (subst (IsTableOf s.plan later) (sym f.flushed_table) (table_all_flushed s.plan later table change.flush of_plan))
    (spanning_moves s.plan s.number s.steps.steps s.rstp rstp s.address.0 step cause causes machine k.4)

-- the live entries of a table one tick later are those of the news one tick later
pub expired_later : (s : Inside) (new : Table) → Keeps s → new ≡ expired s.forwarding.table (s.clock + 1)
    → IsTableOf s.plan (s.clock + 1) new
    × (filter (is_fresh s.plan.ageing (s.clock + 1)) new.sightings ≡ standing s.plan.ageing (s.clock + 1)
    (news_of s.plan s.number s.steps.steps))
expired_later s new k e = (
  subst (IsTableOf s.plan (s.clock + 1)) (sym e) (table_expired s.plan s.clock s.forwarding.table k.3),
  ap (λ (t : Table). filter (is_fresh s.plan.ageing (s.clock + 1)) t.sightings) e
      ∙ live_expired s.plan s.clock s.forwarding.table k.3
      ∙ sym (live-dropped s.plan.ageing s.clock (s.clock + 1) s.forwarding.table.sightings (omega arith))
      ∙ ap (filter (is_fresh s.plan.ageing (s.clock + 1))) k.1.stations
      ∙ standing_later s.plan.ageing s.clock (news_of s.plan s.number s.steps.steps),
)

-- The steps.

pub heard_fits : (plan : Plan) (b : ℕ) (steps : List Step) (port : ℕ) (item : Item) (moved : Moved)
    → ruling spanning_tree plan b steps port item ≡ Listens
    → Names spanning_tree plan b steps (Hears port item.wire) moved
    → Fits spanning_tree plan b steps (Receive port item None Heard (Some moved))
heard_fits plan b steps port item moved r n =
    subst (λ (g : Ruling). Follows spanning_tree plan b steps port item None Heard (Some moved) g) (sym r)
    (inr (refl, refl, (moved, refl, n)))

pub ticked_fits : (plan : Plan) (b now : ℕ) (steps : List Step) (moved : Moved) → now ≡ now_after steps
    → Names spanning_tree plan b steps Ticks moved → Fits spanning_tree plan b steps (Tick (now + 1) moved)
ticked_fits plan b now steps moved e n = (ap (λ k. k + 1) e, n)
